-- At the entry of a clause what is owned beside the scrutinee stays as it is.
use Rattle.std.proofs.Common.{◌≡◌, inl, inr, ℕ, ◌≤◌, ◌<◌, Bool, true, false, ◌∷◌, length, Option, Some, None, refl, sym, ap, ◌∙◌, subst, true≢false, arith}
use Rattle.separation.specs.fip_language.Every.{Among}
use Rattle.lowering_relation.specs.fip_trees.Tree.{Pattern, BinderPattern, LiteralPattern, ConstructorPattern}
use Rattle.derivation_making.specs.fip_rules.Shapes.{binders}
use Rattle.derivation_making.specs.type_check.Scope.{Scope, of_binder}
use Rattle.derivation_making.specs.ownership_calculus.Terms.{Item, Own, Credit}
use Rattle.separation.specs.code_rules.Kinds.{has}
use Rattle.separation.proofs.separation_kinds.Basics.{or_not}
use Rattle.lowering_relation.specs.Spots.{Spot, At, register, below}
use Rattle.lowering_relation.specs.Entering.{entering_root, root_of}
use Rattle.lowering_relation.specs.declared.held.Held.{Held}
use Rattle.lowering_relation.specs.declared.held.Held.TheVariants as H
use Rattle.lowering_relation.specs.Known.{Known}
use Rattle.lowering_relation.specs.Values.{Setting}
use Rattle.lowering_relation.specs.Describing.{Holding, held_at, is_tree}
use Rattle.lowering_relation.specs.Tests.{Choice}
use Rattle.lowering_relation.specs.Matches.{widened, wide_at, entered}
use Rattle.lowering_soundness.specs.Covering.{using}
use Rattle.lowering_soundness.specs.Ties.{owners, sized, own}
use Rattle.lowering_soundness.specs.Delivered.{Keeps}
use Rattle.lowering_soundness.specs.Placed.{InOrder}
use Rattle.lowering_soundness.proofs.Balance.{using_scalar, using_tree, using_lent, using_lent_of, using_nothing}
use Rattle.lowering_soundness.proofs.Owners.{owners_least}
use Rattle.lowering_soundness.proofs.Heirs.{has_among, not_among}
use Rattle.lowering_soundness.proofs.EntryHeld.{root_held, entry_all_other, entry_other, entering_root_at, held_wide}
use Rattle.lowering_soundness.proofs.EntryNames.{root_names, root_old, root_credits}
use Rattle.lowering_soundness.proofs.Keeping.{Stayed, stays_by, twice}
use Rattle.lowering_soundness.proofs.Stacks.{stack_more}

-- ---- registers that are no positions

pub root_read : (st : Setting) (root : Option ℕ) (q : Pattern) (s : Spot) (g : Holding) (z : ℕ) → (Among z (below s) → ⊥) → root_held st false root q s g z ≡ g z
root_read st root (BinderPattern b) s g z ne = refl
root_read st root (LiteralPattern i p) s g z ne = refl
root_read st root (ConstructorPattern t d n a p ps) (At r fs) g z ne = entry_all_other st false root ps fs z (g z) ne

pub root_taken : (st : Setting) (root : Option ℕ) (q : Pattern) (s : Spot) (g : Holding) (z : ℕ) → (Among z (register s ∷ below s) → ⊥) → using g (register s) z ≡ g z → root_held st true root q s g z ≡ g z
root_taken st root (BinderPattern b) s g z ne same = refl
root_taken st root (LiteralPattern i p) s g z ne same = refl
root_taken st root (ConstructorPattern t d n a p ps) (At r fs) g z ne same = entry_other st true root (ConstructorPattern t d n a p ps) (At r fs) z (using g r z) ne ∙ same

using_stayed : (g : Holding) (n : ℕ → ℕ) (r z : ℕ) → (z ≡ r → ⊥) → n r ≡ 0 → Stayed n z (widened (g z)) → using g r z ≡ g z
using_stayed g n r z ne none s = by (g z) refl s
  where
    by : (h : Held) → g z ≡ h → Stayed n z (widened h) → using g r z ≡ g z
    by H.Nothing e s = absurd s
    by (H.Scalar t) e s = using_scalar g r z t e ∙ sym e
    by (H.Owned t b) e s = using_tree g r z ne (ap is_tree e)
    by (H.Lent t None) e s = using_lent g r z t e ∙ sym e
    by (H.Lent t (Some q)) e s = using_lent_of g r z t q e (λ p. absurd (let a = ap n p in let y : ⊥ = omega (arith, a, none, s) in y)) ∙ sym e
    by (H.Credit m) e s = absurd s
    by (H.Bare t c) e s = absurd s

tree_needs : (n : ℕ → ℕ) (z : ℕ) (h : Held) → is_tree h ≡ true → Stayed n z (widened h) → 1 ≤ n z
tree_needs n z H.Nothing e s = absurd (true≢false (sym e))
tree_needs n z (H.Scalar t) e s = absurd (true≢false (sym e))
tree_needs n z (H.Owned t b) e s = s
tree_needs n z (H.Lent t root) e s = absurd (true≢false (sym e))
tree_needs n z (H.Credit m) e s = absurd (true≢false (sym e))
tree_needs n z (H.Bare t c) e s = absurd (true≢false (sym e))

module _ (st : Setting) (s : Scope) (X : Item → ℕ) (ch : Choice) (l : Known) (within : (z : ℕ) → Among z (register ch.root ∷ below ch.root) → z < length l.held) (idle : (z : ℕ) → Among z (below ch.root) → held_at l.held z ≡ H.Nothing) (spent : ch.takes ≡ true → (is_tree (held_at l.held (register ch.root)) ≡ true) × ((z : ℕ) → Among z (register ch.root ∷ below ch.root) → owners l.names (own X) z ≡ 0)) where
  g : Holding
  g = held_at l.held

  root : Option ℕ
  root = root_of (register ch.root) (held_at l.held (register ch.root))

  kept_by : (takes : Bool) → ch.takes ≡ takes → (q : Pattern) (z : ℕ) → (Among z (below ch.root) → ⊥) → Stayed (owners l.names (own X)) z (widened (held_at l.held z)) → root_held st takes (root_of (register ch.root) (held_at l.held (register ch.root))) q ch.root (held_at l.held) z ≡ held_at l.held z
  kept_by false e q z ne stayed = root_read st (root_of (register ch.root) (held_at l.held (register ch.root))) q ch.root (held_at l.held) z ne
  kept_by true e q z ne stayed =
      let sp = spent e in
      let apart : z ≡ register ch.root → ⊥ = λ y. absurd (let a = tree_needs (owners l.names (own X)) z (held_at l.held z) (ap (λ p. is_tree (held_at l.held p)) y ∙ sp.0) stayed in let b = sp.1 z (inl y) in let x : ⊥ = omega (arith, a, b) in x) in
      root_taken st (root_of (register ch.root) (held_at l.held (register ch.root))) q ch.root (held_at l.held) z (λ m. off apart m)
      (using_stayed (held_at l.held) (owners l.names (own X)) (register ch.root) z apart (sp.1 (register ch.root) (inl refl)) stayed)
    where
      off : (z ≡ register ch.root → ⊥) → Among z (register ch.root ∷ below ch.root) → ⊥
      off apart (inl y) = apart y
      off apart (inr m) = ne m

  kept_root : (q : Pattern) (m z : ℕ) → (Among z (below ch.root) → ⊥) → Stayed (owners l.names (own X)) z (widened (held_at l.held z)) → held_at (entering_root st ch.takes q ch.root (record l { next = m })).held z ≡ held_at l.held z
  kept_root q m z ne stayed = entering_root_at st ch.takes q ch.root (record l { next = m }) z within ∙ kept_by ch.takes refl q z ne stayed

  kept_entry : (q : Pattern) (m z : ℕ) → Stayed (owners l.names (own X)) z (widened (held_at l.held z)) → widened (held_at (entered st ch q l m).held z) ≡ widened (held_at l.held z)
  kept_entry q m z stayed =
      ap widened (held_wide (entering_root st ch.takes q ch.root (record l { next = m })).held z)
      ∙ (twice (held_at (entering_root st ch.takes q ch.root (record l { next = m })).held z)
      ∙ elim (or_not (has (below ch.root) z)) as (λ v. widened (held_at (entering_root st ch.takes q ch.root (record l { next = m })).held z) ≡ widened (held_at l.held z)) [
        | inl a ↦ absurd (subst (λ h. Stayed (owners l.names (own X)) z (widened h)) (idle z (has_among (below ch.root) z a)) stayed)
        | inr a ↦ ap widened (kept_root q m z (not_among (below ch.root) z a) stayed)
      ])

  -- a register that held nothing, and is no position
  pub entry_empty : (q : Pattern) (m z : ℕ) → (Among z (register ch.root ∷ below ch.root) → ⊥) → held_at l.held z ≡ H.Nothing → held_at (entered st ch q l m).held z ≡ H.Nothing
  entry_empty q m z ne empty =
      held_wide (entering_root st ch.takes q ch.root (record l { next = m })).held z
      ∙ ap widened (entering_root_at st ch.takes q ch.root (record l { next = m }) z within ∙ (by ch.takes ∙ empty))
    where
      by : (takes : Bool) → root_held st takes (root_of (register ch.root) (held_at l.held (register ch.root))) q ch.root (held_at l.held) z ≡ held_at l.held z
      by false = root_read st (root_of (register ch.root) (held_at l.held (register ch.root))) q ch.root (held_at l.held) z (λ a. ne (inr a))
      by true = root_taken st (root_of (register ch.root) (held_at l.held (register ch.root))) q ch.root (held_at l.held) z ne (using_nothing (held_at l.held) (register ch.root) z empty ∙ sym empty)

  pub entry_keeps : (q : Pattern) (m n : ℕ) → InOrder n (binders q) → ((x : ℕ) → 1 ≤ X (Own x) → x < n) → ((x u : ℕ) → of_binder s (Some x) ≡ Some (Some u) → x < n) → ((i : ℕ) → X (Credit i) ≤ sized i l.credits) → Keeps s X l (entered st ch q l m)
  entry_keeps q m n order low before sizes = record {
    stays = stays_by (wide_at (held_at l.held)) (wide_at (held_at (entered st ch q l m).held)) (owners l.names (own X)) (λ z stayed. kept_entry q m z stayed);
    same = λ x more. root_names st ch.takes x q ch.root (record l { next = m }) n order (low x more)
        (λ e z among named. absurd (let a = (spent e).1 z among in let b = owners_least l.names (own X) x z named in let y : ⊥ = omega (arith, a, b, more) in y));
    old = λ x u r o e. root_old st ch.takes x q ch.root (record l { next = m }) n r order (before x u o) e;
    stack = λ i. stack_more i (X (Credit i)) l.credits (entered st ch q l m).credits (root_credits st ch.takes q ch.root (record l { next = m })) (sizes i);
  }
