-- After an instruction the registers are alike by the kinds that are known there.
use Rattle.std.proofs.Common.{◌≡◌, inl, inr, ℕ, suc, true, List, length, Option, Some, None, refl, sym, ap, ◌∙◌, subst, true≢false, nat_lt}
use Rattle.std.specs.Prelude.{is_some}
use Rattle.run_loading.specs.cell_code.declared.code.Instr.{Instr}
use Rattle.run_loading.specs.cell_code.declared.code.Instr.TheVariants as I
use Rattle.run_loading.specs.cell_code.declared.kind.Kind.{Kind}
use Rattle.run_loading.specs.machine_semantics.Cells.{Store}
use Rattle.run_loading.specs.machine_semantics.Steps.{Kinds}
use Rattle.run_loading.specs.cell_code.Plain.{PlainFunction, PlainCode, function_at}
use Rattle.run_loading.specs.code_rules.Codes.{label_at}
use Rattle.run_loading.specs.code_rules.Kinds.{at}
use Rattle.run_loading.specs.code_rules.Ranges.{in_range, is_target}
use Rattle.run_loading.specs.code_rules.Leaves.{Jumps}
use Rattle.run_loading.specs.code_rules.Flow.{Comes, KnownAt, GoesTo}
use Rattle.run_loading.specs.code_rules.Breaks.{IsSound}
use Rattle.run_loading.proofs.separation_kinds.Basics.{both}
use Rattle.run_loading.proofs.separation_kinds.Fits.{fit_length}
use Rattle.run_loading.specs.separation.Codes.{AreKinds}
use Rattle.run_loading.proofs.separation.Sound.{fits_label}
use Rattle.task_semantics.specs.Projected.{Renaming}
use Rattle.task_semantics.proofs.AlikeWords.{AreAlike, fitted_alike}

jump_target : (c : PlainCode) (f : PlainFunction) (i j : ℕ) (ks : List Kind) (x : Instr) (left : List Kind) → in_range c f i x ≡ true → Jumps ks x j left → is_target f i j ≡ true
jump_target c f i j ks (I.Const d v) left e l = absurd l
jump_target c f i j ks (I.Atom d t k) left e l = absurd l
jump_target c f i j ks (I.Move d r) left e l = absurd l
jump_target c f i j ks (I.Arith d o x y line col) left e l = absurd l
jump_target c f i j ks (I.Test r k target) left e l = subst (λ t. is_target f i t ≡ true) (sym l.0) (both (nat_lt r f.registers) (is_target f i target) e).1
jump_target c f i j ks (I.TestInt r v target) left e l = subst (λ t. is_target f i t ≡ true) (sym l.0) (both (nat_lt r f.registers) (is_target f i target) e).1
jump_target c f i j ks (I.Peek d r n) left e l = absurd l
jump_target c f i j ks (I.Take r ds) left e l = absurd l
jump_target c f i j ks (I.Put d t k rs) left e l = absurd l
jump_target c f i j ks (I.Drop r) left e l = absurd l
jump_target c f i j ks (I.Free r) left e l = absurd l
jump_target c f i j ks (I.Call g rs ds) left e l = absurd l
jump_target c f i j ks (I.Tail g rs) left e l = absurd l
jump_target c f i j ks (I.Ret rs) left e l = absurd l
jump_target c f i j ks (I.Jump target) left e l = subst (λ t. is_target f i t ≡ true) (sym l.0) e

-- without a label it comes from the instruction before
comes_from : (c : PlainCode) (i j : ℕ) (f : PlainFunction) (left : List Kind) → label_at f.labels j ≡ None → GoesTo c f i j left → (j ≡ suc i) × Comes c f (suc i) left
comes_from c i j f left none g = elim g.goes as (λ v. (j ≡ suc i) × Comes c f (suc i) left) [
  | inl next ↦ (next.0, (g.kinds, g.instr, g.reached.known, g.reached.instr, g.asked, next.1))
  | inr jump ↦
      let a = both (in_range c f i g.instr) _ g.asked in
      let t = jump_target c f i j g.kinds g.instr left a.0 jump in
      let b = both (nat_lt i j) _ t in
      let label = (both (nat_lt j (length f.instrs)) (is_some (label_at f.labels j)) b.1).1 in
      absurd (true≢false (sym label ∙ ap is_some none))
]

pub arrive_alike : (f : Renaming) (c : PlainCode) (before waits : Kinds) (n i j : ℕ) (fn : PlainFunction) (own shared : Store) (left : List Kind) (ws vs : ℕ → ℕ) → IsSound c → AreKinds c before waits → function_at c n ≡ Some fn → GoesTo c fn i j left → AreAlike c.types f own shared (at left) ws vs → AreAlike c.types f own shared (at (before n j)) ws vs
arrive_alike f c before waits n i j fn own shared left ws vs sound kinds is g a = by (label_at fn.labels j) refl
  where
    by : (o : Option (List Kind)) → label_at fn.labels j ≡ o → AreAlike c.types f own shared (at (before n j)) ws vs
    by None e =
        let from = comes_from c i j fn left e g in
        let known : KnownAt c fn j left = rw e (subst (λ j. Comes c fn j left) (sym from.0) from.1) in
        subst (λ ks. AreAlike c.types f own shared (at ks) ws vs) (sym (kinds.known n j fn left is known)) a
    by (Some map) e =
        let known : KnownAt c fn j map = rw e refl in
        subst (λ ks. AreAlike c.types f own shared (at ks) ws vs) (sym (kinds.known n j fn map is known))
        (fitted_alike c.types f own shared map left ws vs (fits_label c n i j fn left map sound is g e) a)

-- as many registers are known there
pub arrive_wide : (c : PlainCode) (before waits : Kinds) (n i j : ℕ) (fn : PlainFunction) (left : List Kind) → IsSound c → AreKinds c before waits → function_at c n ≡ Some fn → GoesTo c fn i j left → length (before n j) ≡ length left
arrive_wide c before waits n i j fn left sound kinds is g = by (label_at fn.labels j) refl
  where
    by : (o : Option (List Kind)) → label_at fn.labels j ≡ o → length (before n j) ≡ length left
    by None e =
        let from = comes_from c i j fn left e g in
        let known : KnownAt c fn j left = rw e (subst (λ j. Comes c fn j left) (sym from.0) from.1) in
        ap (λ ks. length ks) (kinds.known n j fn left is known)
    by (Some map) e =
        let known : KnownAt c fn j map = rw e refl in
        ap (λ ks. length ks) (kinds.known n j fn map is known) ∙ fit_length map left (fits_label c n i j fn left map sound is g e)
