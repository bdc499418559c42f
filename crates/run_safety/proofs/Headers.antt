-- A function of sound code can be loaded: what is required of its header. And how many words are loaded for it.
use Rattle.std.proofs.Common.{◌≡◌, ◌∙◌, ◌<◌, ◌≤◌, ◌+◌, ℕ, suc, Bool, true, false, not, List, [], ◌∷◌, length, Some, slice_get, option_map, refl, ap, nat_lt, ◌==◌, arith}
use Rattle.std.proofs.lemmas.Bool.Decides.{nat_tests}
use Rattle.std.proofs.lemmas.List.{length-append, length-map}
use Rattle.std.proofs.lemmas.Option.{slice_get-map}
use Rattle.fip_machine.specs.fip_language.SoundTable.{AreTypes, IsSoundTable}
use Rattle.fip_machine.specs.fip_language.Store.{Parts, NoParts, MoreParts, words_of}
use Rattle.fip_machine.specs.fip_language.Table.{Table}
use Rattle.fip_machine.specs.cell_code.fip_base.declared.plain.Param.{Param}
use Rattle.fip_machine.specs.cell_code.declared.code.Code.{Code}
use Rattle.fip_machine.specs.cell_code.declared.code.Function.{Function}
use Rattle.fip_machine.specs.cell_store.Cells as L
use Rattle.fip_machine.specs.cell_store.Made.{Loading}
use Rattle.separation.specs.code_rules.Breaks.{IsSound}
use Rattle.separation.specs.cell_code.Plain.{PlainCode, PlainFunction, plain, plain_function, function_at}
use Rattle.separation.specs.code_rules.Headers.{are_params, are_sizes, is_formed, is_size}
use Rattle.separation.specs.code_rules.Limits.{most_credits, most_fields, most_registers, most_results}
use Rattle.separation.specs.code_rules.Types.{is_type}
use Rattle.separation.proofs.Sound.{formed}
use Rattle.separation.proofs.separation_kinds.Basics.{both, refuted, below}
use Rattle.value_text.specs.Loaded.{types_of, AreSizes, AreCredits, AreZero, IsGiven, IsLoaded, cell_words}
use Rattle.value_text.specs.Standing.{StandAll}

pub record IsLoadable (tb : Table) (f : PlainFunction) : Type 0 where
  pub room : length f.params + length f.credits ≤ f.registers
  pub known : AreTypes tb (types_of f.params)
  pub credits : AreCredits f.credits

types_known : (tb : Table) (ps : List Param) → are_params tb ps ≡ true → AreTypes tb (types_of ps)
types_known tb [] e = tt
types_known tb (p ∷ ps) e =
    let a = both (is_type tb p.ty) (are_params tb ps) e in
    let b = below p.ty (suc (length tb)) a.0 in
    (omega (arith, b), types_known tb ps a.1)

sizes_known : (ks : List ℕ) → are_sizes ks ≡ true → AreSizes ks
sizes_known [] e = tt
sizes_known (k ∷ ks) e =
    let a = both (is_size k) (are_sizes ks) e in
    let b = both (nat_lt 0 k) (nat_lt k (suc most_fields)) a.0 in
    let low = below 0 k b.0 in
    let high = below k 17 b.1 in
    (low, omega (arith, high), sizes_known ks a.1)

loadable_by : (c : PlainCode) (f : PlainFunction) → is_formed c f ≡ true → IsLoadable c.types f
loadable_by c f e =
    let a = both (not (length f.instrs == 0)) _ e in
    let b = both (not (nat_lt f.registers (length f.params + length f.credits))) _ a.1 in
    let d = both (nat_lt f.registers (suc most_registers)) _ b.1 in
    let g = both (not (length f.results == 0)) _ d.1 in
    let h = both (nat_lt (length f.results) (suc most_results)) _ g.1 in
    let i = both (nat_lt (length f.credits) (suc most_credits)) _ h.1 in
    let j = both (are_params c.types f.params) _ i.1 in
    let k = both (are_sizes f.credits) _ j.1 in
    let few = below (length f.credits) 17 i.0 in
    record {
      room = not_less f.registers (length f.params + length f.credits) (refuted (nat_lt f.registers (length f.params + length f.credits)) b.0);
      known = types_known c.types f.params j.0;
      credits = record { few = omega (arith, few); sizes = sizes_known f.credits k.0 };
    }
  where
    not_less : (m n : ℕ) → nat_lt m n ≡ false → n ≤ m
    not_less m n e = grind (arith, nat_tests)

-- the function of a number, as the rules see it
pub there : (code : Code) (n : ℕ) (g : Function) → slice_get code.functions.items n ≡ Some g → function_at (plain code) n ≡ Some (plain_function g)
there code n g at = slice_get-map plain_function code.functions.items n ∙ ap (option_map plain_function) at

pub loadable : (code : Code) (n : ℕ) (g : Function) → IsSound (plain code) → slice_get code.functions.items n ≡ Some g → IsLoadable code.types (plain_function g)
loadable code n g sound at = loadable_by (plain code) (plain_function g) (formed (plain code) n (plain_function g) sound (there code n g at))

pub given : (tb : Table) (f : PlainFunction) (bytes : List ℕ) → IsSoundTable tb → IsLoadable tb f → length bytes ≤ 9223372036854775808 → IsGiven tb (types_of f.params) f.credits bytes
given tb f bytes sound h le = record { sound = sound; known = h.known; allowed = h.credits; short = le }

-- ---- the words are as many as the parameters and credits

stand_length : (tb : Table) (cs : L.Cells) (ts : List ℕ) (xs : Parts) → StandAll tb cs ts xs → length (words_of xs) ≡ length ts
stand_length tb cs [] NoParts h = refl
stand_length tb cs [] (MoreParts x xs) h = absurd h
stand_length tb cs (t ∷ ts) NoParts h = absurd h
stand_length tb cs (t ∷ ts) (MoreParts x xs) h = ap suc (stand_length tb cs ts xs h.1)

zero_length : (cs : L.Cells) (ps ks : List ℕ) → AreZero cs ps ks → length (cell_words ps) ≡ length ks
zero_length cs [] [] h = refl
zero_length cs [] (k ∷ ks) h = absurd h
zero_length cs (p ∷ ps) [] h = absurd h
zero_length cs (p ∷ ps) (k ∷ ks) h = ap suc (zero_length cs ps ks h.1)

pub words_fit : (tb : Table) (f : PlainFunction) (bytes ws : List ℕ) (old new : Loading) → IsLoadable tb f → IsLoaded tb (types_of f.params) f.credits bytes old new ws → length ws ≤ f.registers
words_fit tb f bytes ws old new h l =
    let a = ap length l.named in
    let b = length-append (words_of l.trees) (cell_words l.places) in
    let d = stand_length tb new.cells (types_of f.params) l.trees l.stand in
    let e = zero_length new.cells l.places f.credits l.zero in
    let g = length-map f.params (λ (p : Param). p.ty) in
    let room = h.room in
    omega (arith, a, b, d, e, g, room)
