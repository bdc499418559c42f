-- A sound code's function can be loaded: what is required of its header. And what a loader gives.
use Rattle.std.proofs.Common.{◌≡◌, ◌≢◌, ◌∙◌, ◌<◌, ◌≤◌, ◌+◌, ℕ, suc, Bool, true, false, not, List, [], ◌∷◌, length, Option, Some, None, slice_get, refl, ap, ap₂, subst, nat_lt, ◌==◌, arith}
use Rattle.std.proofs.lemmas.Bool.Decides.{nat_tests}
use Rattle.std.proofs.lemmas.List.{length-append, length-map}
use Rattle.fip_language.specs.Every.{Every}
use Rattle.fip_language.specs.SoundTable.{AreTypes, IsSoundTable}
use Rattle.fip_language.specs.Store.{Cell, Parts, NoParts, MoreParts, values_of, words_of}
use Rattle.fip_language.specs.Table.{Table, HaveTypes}
use Rattle.fip_language.specs.Character.{characters}
use Rattle.fip_language.specs.Values.{Values}
use Rattle.fip_language.specs.ValueText.{SpellsValues}
use Rattle.fip_base.specs.declared.plain.Param.{Param}
use Rattle.command_outcome.specs.declared.failure.Failure.TheVariants as F
use Rattle.cell_store.specs.Cells as L
use Rattle.cell_store.specs.Cells.{count_free}
use Rattle.cell_store.specs.Made.{Loading}
use Rattle.command_eval.specs.machine_correctness.machine_semantics.Cells.{IsSized, IsStore, one_if_some, one_if_true}
use Rattle.command_eval.proofs.machine_correctness.separation_kinds.Basics.{both, refuted, below}
use Rattle.fip_machine.specs.machine_cells.Small.{store_of}
use Rattle.code_verify.specs.cell_code.Plain.{PlainFunction, PlainCode}
use Rattle.command_eval.specs.machine_correctness.code_rules.Headers.{are_params, are_sizes, is_formed, is_size}
use Rattle.command_eval.specs.machine_correctness.code_rules.Limits.{most_credits, most_fields, most_registers, most_results}
use Rattle.command_eval.specs.machine_correctness.code_rules.Types.{is_type}
use Rattle.value_text.specs.FirstStore.{IsInOrder}
use Rattle.value_text.specs.Loaded.{types_of, AreSizes, AreCredits, AreZero, HasNoFree, IsGiven, IsLoaded, cell_words, needed}
use Rattle.value_text.specs.Standing.{StandAll}
use Rattle.value_text.proofs.Typed.{input_typed}
use Rattle.command_eval.proofs.machine_correctness.Texts.{same_cell}
use Rattle.command_run.specs.CodeRun.{words_for}
use Rattle.command_run.specs.Starting.{IsInNewStore, KeepsFromLoading}
use Rattle.command_run.proofs.Words.{needed_words}

-- ---- the header

pub record IsLoadable (tb : Table) (f : PlainFunction) : Type 0 where
  pub room : length f.params + length f.credits ≤ f.registers
  pub known : AreTypes tb (types_of f.params)
  pub credits : AreCredits f.credits

types_known : (tb : Table) (ps : List Param) → are_params tb ps ≡ true → AreTypes tb (types_of ps)
types_known tb [] e = tt
types_known tb (p ∷ ps) e =
    let a = both (is_type tb p.ty) (are_params tb ps) e in
    let b = below p.ty (suc (length tb)) a.0 in
    (omega (arith, b), types_known tb ps a.1)

sizes_known : (ks : List ℕ) → are_sizes ks ≡ true → AreSizes ks
sizes_known [] e = tt
sizes_known (k ∷ ks) e =
    let a = both (is_size k) (are_sizes ks) e in
    let b = both (nat_lt 0 k) (nat_lt k (suc most_fields)) a.0 in
    let low = below 0 k b.0 in
    let high = below k 17 b.1 in
    (low, omega (arith, high), sizes_known ks a.1)

pub loadable : (c : PlainCode) (f : PlainFunction) → is_formed c f ≡ true → IsLoadable c.types f
loadable c f e =
    let a = both (not (length f.instrs == 0)) _ e in
    let b = both (not (nat_lt f.registers (length f.params + length f.credits))) _ a.1 in
    let d = both (nat_lt f.registers (suc most_registers)) _ b.1 in
    let g = both (not (length f.results == 0)) _ d.1 in
    let h = both (nat_lt (length f.results) (suc most_results)) _ g.1 in
    let i = both (nat_lt (length f.credits) (suc most_credits)) _ h.1 in
    let j = both (are_params c.types f.params) _ i.1 in
    let k = both (are_sizes f.credits) _ j.1 in
    let few = below (length f.credits) 17 i.0 in
    record {
      room = not_less f.registers (length f.params + length f.credits) (refuted (nat_lt f.registers (length f.params + length f.credits)) b.0);
      known = types_known c.types f.params j.0;
      credits = record { few = omega (arith, few); sizes = sizes_known f.credits k.0 };
    }
  where
    not_less : (m n : ℕ) → nat_lt m n ≡ false → n ≤ m
    not_less m n e = grind (arith, nat_tests)

pub given : (tb : Table) (f : PlainFunction) (bytes : List ℕ) → IsSoundTable tb → IsLoadable tb f → length bytes ≤ 16777216 → IsGiven tb (types_of f.params) f.credits bytes
given tb f bytes sound h le = record { sound = sound; known = h.known; allowed = h.credits; short = omega (arith, le) }

-- ---- the words are as many as its parameters and credits

stand_length : (tb : Table) (cs : L.Cells) (ts : List ℕ) (xs : Parts) → StandAll tb cs ts xs → length (words_of xs) ≡ length ts
stand_length tb cs [] NoParts h = refl
stand_length tb cs [] (MoreParts x xs) h = absurd h
stand_length tb cs (t ∷ ts) NoParts h = absurd h
stand_length tb cs (t ∷ ts) (MoreParts x xs) h = ap suc (stand_length tb cs ts xs h.1)

zero_length : (cs : L.Cells) (ps ks : List ℕ) → AreZero cs ps ks → length (cell_words ps) ≡ length ks
zero_length cs [] [] h = refl
zero_length cs [] (k ∷ ks) h = absurd h
zero_length cs (p ∷ ps) [] h = absurd h
zero_length cs (p ∷ ps) (k ∷ ks) h = ap suc (zero_length cs ps ks h.1)

pub words_fit : (tb : Table) (f : PlainFunction) (bytes ws : List ℕ) (old new : Loading) → IsLoadable tb f → IsLoaded tb (types_of f.params) f.credits bytes old new ws → length ws ≤ f.registers
words_fit tb f bytes ws old new h l =
    let a = ap length l.named in
    let b = length-append (words_of l.trees) (cell_words l.places) in
    let d = stand_length tb new.cells (types_of f.params) l.trees l.stand in
    let e = zero_length new.cells l.places f.credits l.zero in
    let g = length-map f.params (λ (p : Param). p.ty) in
    let room = h.room in
    omega (arith, a, b, d, e, g, room)

-- ---- what a loader gives

every_sized : (cs : L.Cells) → ((p : ℕ) (c : Cell) → L.cell_at cs p ≡ Some c → (0 < L.size_of c) × (L.size_of c ≤ 16)) → Every IsSized cs
every_sized [] h = tt
every_sized (None ∷ os) h = (tt, every_sized os (λ p. h (suc p)))
every_sized (Some c ∷ os) h = (h 0 c refl, every_sized os (λ p. h (suc p)))

one_at_most : (o : Option Cell) (r : Option Bool) → (r ≡ Some true → o ≢ None) → one_if_true r ≤ one_if_some o
one_at_most o None h = omega arith
one_at_most o (Some false) h = omega arith
one_at_most None (Some true) h = absurd (h refl refl)
one_at_most (Some c) (Some true) h = omega arith

store_is : (l : Loading) → length l.released ≡ length l.cells → ((p : ℕ) (c : Cell) → L.cell_at l.cells p ≡ Some c → (0 < L.size_of c) × (L.size_of c ≤ 16)) → ((p : ℕ) → slice_get l.released p ≡ Some true → L.cell_at l.cells p ≢ None) → IsStore (store_of l.cells l.released)
store_is l flags sized cells = record {
  sized = every_sized l.cells sized;
  wide = flags;
  of_cells = λ p. subst (λ o. one_if_true (slice_get l.released p) ≤ one_if_some o) (same_cell l.cells p) (one_at_most (L.cell_at l.cells p) (slice_get l.released p) (cells p));
}

pub in_new_store : (tb : Table) (types credits bytes : List ℕ) (words : ℕ) (old new : Loading) (ws : List ℕ) → old.cells ≡ [] → old.released ≡ [] → old.left ≡ words → IsLoaded tb types credits bytes old new ws → (HasNoFree old → IsInOrder tb types credits bytes old new ws) → length new.released ≡ length new.cells → ((p : ℕ) (c : Cell) → L.cell_at new.cells p ≡ Some c → (0 < L.size_of c) × (L.size_of c ≤ 16)) → ((p : ℕ) → slice_get new.released p ≡ Some true → L.cell_at new.cells p ≢ None) → IsInNewStore tb types credits bytes words new ws
in_new_store tb types credits bytes words old new ws empty unreleased left loaded order flags sized cells = record {
  old = old;
  empty = empty;
  unreleased = unreleased;
  left = left;
  loaded = loaded;
  order = order (λ k. ap₂ (λ cs rs. count_free k cs rs) empty unreleased);
  store = store_is new flags sized cells;
}

pub typed : (tb : Table) (types bytes : List ℕ) (vs : Values) → SpellsValues tb types bytes vs → HaveTypes tb types vs
typed tb types bytes vs spelt = input_typed tb types (characters bytes) vs spelt

-- the words that it needed
pub fits : (tb : Table) (types credits bytes : List ℕ) (words : ℕ) (new : Loading) (ws : List ℕ) → IsSoundTable tb → AreSizes credits → (h : IsInNewStore tb types credits bytes words new ws) → words_for (values_of (h.loaded).trees) credits ≤ words
fits tb types credits bytes words new ws sound sizes h =
    let vs : Values = values_of (h.loaded).trees in
    let need = needed_words tb types h.old credits vs sound (typed tb types bytes vs (h.loaded).spelled) sizes h.empty h.unreleased in
    let left = (h.loaded).left in
    let all = h.left in
    omega (arith, need, left, all)

pub too_small : (tb : Table) (types credits bytes : List ℕ) (words : ℕ) (old l : Loading) (n given : ℕ) → IsGiven tb types credits bytes → old.cells ≡ [] → old.released ≡ [] → old.left ≡ words → (l ≡ old) × (given ≡ old.left) × (given < n) × (vs : Values) × SpellsValues tb types bytes vs × (n ≡ needed old credits vs) → KeepsFromLoading tb types credits bytes words (F.TooSmall n given)
too_small tb types credits bytes words old l n given is empty unreleased left (same, room, less, vs, spelt, need) =
    let words_need = needed_words tb types old credits vs is.sound (typed tb types bytes vs spelt) (is.allowed).sizes empty unreleased in
    (vs, spelt, need ∙ words_need, room ∙ left, omega (arith, room, left, less))
