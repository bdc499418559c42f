-- After an instruction the registers show the same by the kinds that are known there.
use Rattle.std.proofs.Common.{◌≡◌, inl, inr, ℕ, suc, true, List, length, Option, Some, None, refl, sym, ap, ◌∙◌, subst, true≢false, nat_lt}
use Rattle.std.specs.Prelude.{is_some}
use Rattle.separation_bounds.specs.cell_code.declared.code.Instr.{Instr}
use Rattle.separation_bounds.specs.cell_code.declared.code.Instr.TheVariants as I
use Rattle.separation_bounds.specs.cell_code.declared.kind.Kind.{Kind}
use Rattle.tree_semantics.specs.machine_semantics.Cells.{Store}
use Rattle.tree_semantics.specs.machine_semantics.Steps.{Kinds}
use Rattle.tree_semantics.specs.Contents.{Contents}
use Rattle.separation_bounds.specs.cell_code.Plain.{PlainFunction, PlainCode, function_at}
use Rattle.separation_bounds.specs.code_rules.Codes.{label_at}
use Rattle.separation_bounds.specs.code_rules.Kinds.{at}
use Rattle.separation_bounds.specs.code_rules.Ranges.{in_range, is_target}
use Rattle.separation_bounds.specs.code_rules.Leaves.{Jumps}
use Rattle.separation_bounds.specs.code_rules.Flow.{Comes, KnownAt, GoesTo}
use Rattle.separation_bounds.specs.code_rules.Breaks.{IsSound}
use Rattle.separation_bounds.proofs.separation_kinds.Basics.{both}
use Rattle.separation_bounds.specs.separation.Codes.{AreKinds}
use Rattle.separation_bounds.proofs.separation.Sound.{fits_label}
use Rattle.tree_refinement.specs.Agreement.{AreShown}
use Rattle.tree_refinement.proofs.Values.{fitted_shown}

jump_target : (c : PlainCode) (f : PlainFunction) (i j : ℕ) (ks : List Kind) (x : Instr) (left : List Kind) → in_range c f i x ≡ true → Jumps ks x j left → is_target f i j ≡ true
jump_target c f i j ks (I.Const d v) left e l = absurd l
jump_target c f i j ks (I.Atom d t k) left e l = absurd l
jump_target c f i j ks (I.Move d r) left e l = absurd l
jump_target c f i j ks (I.Arith d o x y line col) left e l = absurd l
jump_target c f i j ks (I.Test r k target) left e l = subst (λ t. is_target f i t ≡ true) (sym l.0) (both (nat_lt r f.registers) (is_target f i target) e).1
jump_target c f i j ks (I.TestInt r v target) left e l = subst (λ t. is_target f i t ≡ true) (sym l.0) (both (nat_lt r f.registers) (is_target f i target) e).1
jump_target c f i j ks (I.Peek d r n) left e l = absurd l
jump_target c f i j ks (I.Take r ds) left e l = absurd l
jump_target c f i j ks (I.Put d t k rs) left e l = absurd l
jump_target c f i j ks (I.Drop r) left e l = absurd l
jump_target c f i j ks (I.Free r) left e l = absurd l
jump_target c f i j ks (I.Call g rs ds) left e l = absurd l
jump_target c f i j ks (I.Tail g rs) left e l = absurd l
jump_target c f i j ks (I.Ret rs) left e l = absurd l
jump_target c f i j ks (I.Jump target) left e l = subst (λ t. is_target f i t ≡ true) (sym l.0) e

-- without a label it comes from the instruction before
comes_from : (c : PlainCode) (i j : ℕ) (f : PlainFunction) (left : List Kind) → label_at f.labels j ≡ None → GoesTo c f i j left → (j ≡ suc i) × Comes c f (suc i) left
comes_from c i j f left none g = elim g.goes as (λ v. (j ≡ suc i) × Comes c f (suc i) left) [
  | inl next ↦ (next.0, (g.kinds, g.instr, g.reached.known, g.reached.instr, g.asked, next.1))
  | inr jump ↦
      let a = both (in_range c f i g.instr) _ g.asked in
      let t = jump_target c f i j g.kinds g.instr left a.0 jump in
      let b = both (nat_lt i j) _ t in
      let label = (both (nat_lt j (length f.instrs)) (is_some (label_at f.labels j)) b.1).1 in
      absurd (true≢false (sym label ∙ ap is_some none))
]

pub arrive_shown : (c : PlainCode) (before waits : Kinds) (n i j : ℕ) (f : PlainFunction) (s : Store) (left : List Kind) (ws : ℕ → ℕ) (cs : Contents) → IsSound c → AreKinds c before waits → function_at c n ≡ Some f → GoesTo c f i j left → AreShown c.types s (at left) ws cs → AreShown c.types s (at (before n j)) ws cs
arrive_shown c before waits n i j f s left ws cs sound kinds is g a = by (label_at f.labels j) refl
  where
    by : (o : Option (List Kind)) → label_at f.labels j ≡ o → AreShown c.types s (at (before n j)) ws cs
    by None e =
        let from = comes_from c i j f left e g in
        let known : KnownAt c f j left = rw e (subst (λ j. Comes c f j left) (sym from.0) from.1) in
        subst (λ ks. AreShown c.types s (at ks) ws cs) (sym (kinds.known n j f left is known)) a
    by (Some map) e =
        let known : KnownAt c f j map = rw e refl in
        subst (λ ks. AreShown c.types s (at ks) ws cs) (sym (kinds.known n j f map is known))
        (fitted_shown c.types s map left ws cs (fits_label c n i j f left map sound is g e) a)
