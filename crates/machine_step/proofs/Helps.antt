-- Small facts of the rows' proofs.
use Rattle.std.proofs.Common.{◌≡◌, ◌≢◌, ℕ, zero, suc, ◌+◌, ◌/◌, ◌%◌, ◌<◌, ◌≤◌, ℤ, pos, negsuc, Bool, true, false, List, [], ◌∷◌, length, Option, Some, None, refl, sym, ap, subst, ◌∙◌, arith}
use Rattle.std.specs.Prelude.{slice_get, option_and_then, option_map, nat_eq, not, if◌then◌else◌}
use mir.Val.{bool_byte}
use Rattle.std.specs.Int.{w64, cast_signed, cast_unsigned}
use Rattle.std.proofs.lemmas.Bool.Decides.{nat_tests}
use Rattle.std.proofs.lemmas.Option.{none-some, same_Some, slice_get_within}
use Rattle.fip_language.specs.declared.TrapKind.{TrapKind}
use Rattle.fip_language.specs.Arithmetic.{Operated, Is, Fails}
use Rattle.fip_language.specs.Values.{Value}
use Rattle.fip_language.specs.Store.{Cell, int_word}
use Rattle.cell_code.specs.declared.code.Instr.{Instr}
use Rattle.cell_code.specs.declared.kind.Kind.{Kind}
use Rattle.cell_code.specs.Runnable.{AreBelow}
use Rattle.cell_store.specs.Cells.{Cells, cell_at, size_in}
use Rattle.cell_code.specs.Plain.{PlainCode}
use Rattle.machine_frames.specs.machine_semantics.Words.{scalar_word, int_of, is_place}
use Rattle.machine_frames.specs.machine_semantics.Cells.{Store, cell_in}
use Rattle.machine_frames.specs.machine_semantics.Rows.{constructor_if, constructor_of}
use Rattle.machine_frames.specs.machine_semantics.States.{State}
use Rattle.machine_frames.specs.machine_semantics.Steps.{act, first_words}
use Rattle.machine_frames.specs.Keeping.{Keeps, Clears}
use Rattle.machine_frames.specs.Words.{words_from, laid_at}
use Rattle.machine_frames.specs.View.{frame_at}
use Rattle.machine_frames.proofs.Laid.{words_long}
use Rattle.machine_frames.proofs.Viewed.{first_frame_is, rest_below}
use Rattle.machine_cells.proofs.Pendings.{same_cell}
use Rattle.machine_cells.specs.declared.arithmetic.Outcome.{Outcome}
use Rattle.machine_cells.specs.declared.arithmetic.Outcome.TheVariants as O
use Rattle.machine_cells.specs.Outcomes.{Reports, truth_word}
use Rattle.machine_step.specs.declared.rows.Stepped.{Stepped}
use Rattle.machine_step.specs.Coming.{Comes}

pub same_instr : (code : PlainCode) (ks : List Kind) (s : State) (r : Stepped) (t : State) (given : List ℕ) (x y : Instr) → x ≡ y → Comes s (act code ks s y) r t given → Comes s (act code ks s x) r t given
same_instr code ks s r t given x y e h = subst (λ z. Comes s (act code ks s z) r t given) (sym e) h

pub no_loop : (v : ℕ) → not (nat_eq v 0) ≡ false → v ≢ 0 → ⊥
no_loop zero once h = h refl
no_loop (suc v) once h = grind (arith, nat_tests)

pub byte_is : (b : Bool) → bool_byte b ≡ (if b then 1 else 0)
byte_is true = refl
byte_is false = refl

pub int_word_is : (i : ℤ) → int_word i ≡ cast_unsigned w64 i
int_word_is (pos n) = refl
int_word_is (negsuc n) = refl

pub signed_is : (w : ℕ) → cast_signed w64 w ≡ int_of w
signed_is w = refl

pub reports_int : (o : Operated) (r : Outcome) (w : ℕ) → Reports o r → r ≡ O.Int w → (u : Value) → o ≡ Is u → scalar_word u ≡ w
reports_int o r w t e u f = subst (λ q. Reports (Is u) q) e (subst (λ p. Reports p r) f t)

pub reports_int_not : (o : Operated) (r : Outcome) (w : ℕ) → Reports o r → r ≡ O.Int w → (k : TrapKind) → o ≡ Fails k → ⊥
reports_int_not o r w t e k f = subst (λ q. Reports (Fails k) q) e (subst (λ p. Reports p r) f t)

pub reports_flag : (o : Operated) (r : Outcome) (b : Bool) → Reports o r → r ≡ O.Flag b → (u : Value) → o ≡ Is u → scalar_word u ≡ truth_word b
reports_flag o r b t e u f = subst (λ q. Reports (Is u) q) e (subst (λ p. Reports p r) f t)

pub reports_flag_not : (o : Operated) (r : Outcome) (b : Bool) → Reports o r → r ≡ O.Flag b → (k : TrapKind) → o ≡ Fails k → ⊥
reports_flag_not o r b t e k f = subst (λ q. Reports (Fails k) q) e (subst (λ p. Reports p r) f t)

pub reports_trap : (o : Operated) (r : Outcome) (j : TrapKind) → Reports o r → r ≡ O.Trap j → (k : TrapKind) → o ≡ Fails k → j ≡ k
reports_trap o r j t e k f = subst (λ q. Reports (Fails k) q) e (subst (λ p. Reports p r) f t)

pub reports_trap_not : (o : Operated) (r : Outcome) (j : TrapKind) → Reports o r → r ≡ O.Trap j → (u : Value) → o ≡ Is u → ⊥
reports_trap_not o r j t e u f = subst (λ q. Reports (Is u) q) e (subst (λ p. Reports p r) f t)

pub same_place : (o : Option ℕ) (p q : ℕ) → o ≡ Some p → o ≡ Some q → p ≡ q
same_place o p q e f = same_Some p q (sym e ∙ f)

pub read_word : (cs : Cells) (p q i : ℕ) (u : Cell) (w x : ℕ) → p ≡ q → cell_in cs q ≡ Some u → slice_get u.fields i ≡ Some w → option_and_then (λ (c : Cell). slice_get c.fields i) (cell_at cs p) ≡ Some x → x ≡ w
read_word cs p q i u w x e at get read =
    let is : cell_at cs p ≡ Some u = ap (cell_at cs) e ∙ same_cell cs q ∙ at in
    same_Some x w (sym read ∙ ap (option_and_then (λ (c : Cell). slice_get c.fields i)) is ∙ get)

pub in_size : (cs : Cells) (q i : ℕ) (u : Cell) (w : ℕ) → cell_in cs q ≡ Some u → slice_get u.fields i ≡ Some w → i < size_in (cell_at cs q)
in_size cs q i u w at get = subst (λ o. i < size_in o) (sym (same_cell cs q ∙ at)) (slice_get_within u.fields i w get)

-- constructors

pub even_constructor : (s : Store) (w k z : ℕ) → w % 2 ≡ 0 → constructor_of s w ≡ Some z → z ≡ w / 2
even_constructor s w k z e is = by (is_place w) (let q : nat_eq (w % 2) 1 ≡ false = grind (arith, nat_tests) in q) is
  where
    by : (b : Bool) → b ≡ false → constructor_if s (w / 2) b ≡ Some z → z ≡ w / 2
    by true f is = absurd cc
    by false f is = sym (same_Some (w / 2) z is)

pub record OddConstructor (s : Store) (w z : ℕ) : Type 0 where
  pub cell : Cell
  pub at : cell_in s.cells (w / 2) ≡ Some cell
  pub tag : cell.tag ≡ z

pub odd_constructor : (s : Store) (w z : ℕ) → w % 2 ≢ 0 → constructor_of s w ≡ Some z → OddConstructor s w z
odd_constructor s w z n is = by (is_place w) (let q : nat_eq (w % 2) 1 ≡ true = (let m : w % 2 ≡ 1 = omega (arith, n) in grind (arith, nat_tests)) in q) is
  where
    found : (o : Option Cell) → cell_in s.cells (w / 2) ≡ o → option_map (λ (c : Cell). c.tag) o ≡ Some z → OddConstructor s w z
    found None a e = absurd (none-some z e)
    found (Some c) a e = record { cell = c; at = a; tag = same_Some c.tag z e }

    by : (b : Bool) → b ≡ true → constructor_if s (w / 2) b ≡ Some z → OddConstructor s w z
    by true f is = found (cell_in s.cells (w / 2)) refl is
    by false f is = absurd cc

-- frames

pub words_kept : (base n : ℕ) (ws us rs : List ℕ) → AreBelow n rs → Keeps (base + n) ws us → words_from base us rs ≡ words_from base ws rs
words_kept base n ws us [] below k = refl
words_kept base n ws us (r ∷ rs) below k =
    let one = k (base + r) (let l = below 0 0 (omega arith) in omega (arith, l)) in
    let more = words_kept base n ws us rs (rest_below n r rs below) k in
    λ i. one i ∷ more i

pub first_frame_of : (from base n : ℕ) (ws us xs ss : List ℕ) → us ≡ laid_at base ws (words_from from ws ss) → Clears (base + length ss) (base + n) us xs → length ss ≤ n → base + n ≤ length ws → frame_at base n xs ≡ first_words n (words_from from ws ss)
first_frame_of from base n ws us xs ss e c few room =
    let long = words_long from ws ss in
    first_frame_is base n ws us xs (words_from from ws ss) e (subst (λ k. Clears (base + k) (base + n) us xs) (sym long) c) (subst (λ k. k ≤ n) (sym long) few) room
