-- Names and credits at the entry of a clause: variables from before keep their registers, unless these become credits,
-- and credits from before stay the first ones.
use Rattle.std.proofs.Common.{◌≡◌, inl, inr, ℕ, zero, suc, ◌+◌, ◌<◌, Bool, true, false, ◌||◌, List, [], ◌∷◌, length, map, get_or, Option, Some, None, refl, sym, ap, ◌∙◌, subst, arith, if◌then◌else◌, ◌==◌}
use Rattle.separation.specs.fip_language.Every.{Among}
use Rattle.lowering_relation.specs.fip_trees.declared.program.Binder.{Binder}
use Rattle.lowering_relation.specs.fip_trees.Tree.{Pattern, BinderPattern, LiteralPattern, ConstructorPattern, Patterns, NoPatterns, MorePatterns, count_patterns}
use Rattle.derivation_making.specs.fip_rules.Shapes.{binders, binders_all}
use Rattle.separation.proofs.separation_kinds.Basics.{equal}
use Rattle.lowering_relation.specs.Spots.{Spot, At, Spots, NoSpots, MoreSpots, register, below, all_in}
use Rattle.lowering_relation.specs.Opening.{is_named}
use Rattle.lowering_relation.specs.Entering.{unnaming, variable_held, with_variable, with_cell, entering, entering_all, root_of, spent_if, entering_root}
use Rattle.lowering_relation.proofs.MatchLists.{in_tail, in_part}
use Rattle.lowering_relation.specs.declared.held.Held.TheVariants as H
use Rattle.lowering_relation.specs.declared.held.Credit.{Credit}
use Rattle.lowering_relation.specs.Known.{Known, joined, register_of, naming, holding}
use Rattle.lowering_relation.specs.Values.{Setting, is_scalar}
use Rattle.lowering_relation.specs.LoweredFunctions.{unless_in}
use Rattle.lowering_relation.specs.Credits.{of_size, LastGone}
use Rattle.lowering_soundness.specs.Placed.{InOrder}
use Rattle.lowering_soundness.proofs.Naming.{register_old}
use Rattle.lowering_soundness.proofs.Cleared.{unless_register, unnamed_old}
use Rattle.lowering_soundness.proofs.Openings.{order_both}
use Rattle.lowering_soundness.proofs.Stacks.{size_both, last_same, last_on}

-- ---- names

-- another register than that of a credit stays
unless_same : (r : ℕ) (names : List (Option ℕ)) (x : ℕ) → (register_of names (Some x) ≡ Some r → ⊥) → register_of (map (unless_in r) names) (Some x) ≡ register_of names (Some x)
unless_same r [] x ne = refl
unless_same r (None ∷ os) zero ne = refl
unless_same r (Some q ∷ os) zero ne = by (q == r) refl
  where
    by : (b : Bool) → (q == r) ≡ b → joined (Some (if b then None else Some q)) ≡ Some q
    by true e = absurd (ne (ap Some (equal q r e)))
    by false e = refl
unless_same r (o ∷ os) (suc x) ne = unless_same r os x ne

-- register x is none of these, where they become credits
abbrev pub Apart : Bool → List ℕ → List (Option ℕ) → ℕ → Type 0
Apart takes zs names x = takes ≡ true → (z : ℕ) → Among z zs → register_of names (Some x) ≡ Some z → ⊥

module _ (st : Setting) (takes : Bool) (root : Option ℕ) (x : ℕ) where
  variable_names : (b : Binder) (r : ℕ) (k : Known) → (b.number ≡ x → ⊥) → register_of (with_variable st takes root b r k).names (Some x) ≡ register_of k.names (Some x)
  variable_names b r k ne = by (takes || is_named b)
    where
      by : (y : Bool) → register_of (if y then holding (naming k b.number r) r (variable_held st takes root b.ty) else unnaming k b.number).names (Some x) ≡ register_of k.names (Some x)
      by true = register_old k.names b.number r x ne
      by false = unnamed_old k.names b.number x ne

  cell_names : (t d : ℕ) (ps : Patterns) (r : ℕ) (k : Known) → Apart takes (r ∷ []) k.names x → register_of (with_cell st takes t d ps r k).names (Some x) ≡ register_of k.names (Some x)
  cell_names t d ps r k apart = by takes refl ps
    where
      by_bare : (y : Bool) → register_of (if y then k else holding k r (H.Bare t d)).names (Some x) ≡ register_of k.names (Some x)
      by_bare true = refl
      by_bare false = refl

      by : (y : Bool) → takes ≡ y → (ps : Patterns) → register_of (with_cell st y t d ps r k).names (Some x) ≡ register_of k.names (Some x)
      by false e ps = refl
      by true e NoPatterns = by_bare (is_scalar st t)
      by true e (MorePatterns p ps) = unless_same r k.names x (λ n. apart e r (inl refl) n)

  pub cell_old : (t d : ℕ) (ps : Patterns) (r : ℕ) (k : Known) (q : ℕ) → register_of (with_cell st takes t d ps r k).names (Some x) ≡ Some q → register_of k.names (Some x) ≡ Some q
  cell_old t d ps r k q = by takes ps
    where
      by_bare : (y : Bool) → register_of (if y then k else holding k r (H.Bare t d)).names (Some x) ≡ Some q → register_of k.names (Some x) ≡ Some q
      by_bare true e = e
      by_bare false e = e

      by : (y : Bool) (ps : Patterns) → register_of (with_cell st y t d ps r k).names (Some x) ≡ Some q → register_of k.names (Some x) ≡ Some q
      by false ps e = e
      by true NoPatterns e = by_bare (is_scalar st t) e
      by true (MorePatterns p ps) e = unless_register r k.names x q e

  apart_on : (zs ys : List ℕ) (k l : Known) → ((z : ℕ) → Among z ys → Among z zs) → register_of l.names (Some x) ≡ register_of k.names (Some x) → Apart takes zs k.names x → Apart takes ys l.names x
  apart_on zs ys k l more same apart e z m n = apart e z (more z m) (sym same ∙ n)

  mutual
    pub entering_names : (q : Pattern) (s : Spot) (k : Known) (n : ℕ) → InOrder n (binders q) → x < n → Apart takes (register s ∷ below s) k.names x → register_of (entering st takes root q s k).names (Some x) ≡ register_of k.names (Some x)
    entering_names (BinderPattern b) (At r fs) k n order low apart = variable_names b r k (λ e. absurd (let z = order.0 in let y : ⊥ = omega (arith, e, z, low) in y))
    entering_names (LiteralPattern i a) (At r fs) k n order low apart = refl
    entering_names (ConstructorPattern t d c m a ps) (At r fs) k n order low apart =
        let cell = cell_names t c ps r k (apart_on (r ∷ all_in fs) (r ∷ []) k k (by r fs) refl apart) in
        all_names ps fs (with_cell st takes t c ps r k) n order low (apart_on (r ∷ all_in fs) (all_in fs) k (with_cell st takes t c ps r k) (λ z m. inr m) cell apart) ∙ cell
      where
        by : (r : ℕ) (fs : Spots) (z : ℕ) → Among z (r ∷ []) → Among z (r ∷ all_in fs)
        by r fs z (inl e) = inl e
        by r fs z (inr m) = absurd m

    all_names : (ps : Patterns) (ss : Spots) (k : Known) (n : ℕ) → InOrder n (binders_all ps) → x < n → Apart takes (all_in ss) k.names x → register_of (entering_all st takes root ps ss k).names (Some x) ≡ register_of k.names (Some x)
    all_names NoPatterns ss k n order low apart = refl
    all_names (MorePatterns p ps) NoSpots k n order low apart = refl
    all_names (MorePatterns p ps) (MoreSpots s ss) k n order low apart =
        let orders = order_both n (binders p) (binders_all ps) order in
        let first = entering_names p s k n orders.0 low (apart_on (all_in (MoreSpots s ss)) (register s ∷ below s) k k (λ z m. in_part z s ss m) refl apart) in
        all_names ps ss (entering st takes root p s k) (n + length (binders p)) orders.1 (omega (arith, low)) (apart_on (all_in (MoreSpots s ss)) (all_in ss) k (entering st takes root p s k) (λ z m. in_tail z s ss m) first apart) ∙ first

  mutual
    pub entering_old : (q : Pattern) (s : Spot) (k : Known) (n p : ℕ) → InOrder n (binders q) → x < n → register_of (entering st takes root q s k).names (Some x) ≡ Some p → register_of k.names (Some x) ≡ Some p
    entering_old (BinderPattern b) (At r fs) k n p order low h = sym (variable_names b r k (λ e. absurd (let z = order.0 in let y : ⊥ = omega (arith, e, z, low) in y))) ∙ h
    entering_old (LiteralPattern i a) (At r fs) k n p order low h = h
    entering_old (ConstructorPattern t d c m a ps) (At r fs) k n p order low h = cell_old t c ps r k p (all_old ps fs (with_cell st takes t c ps r k) n p order low h)

    all_old : (ps : Patterns) (ss : Spots) (k : Known) (n p : ℕ) → InOrder n (binders_all ps) → x < n → register_of (entering_all st takes root ps ss k).names (Some x) ≡ Some p → register_of k.names (Some x) ≡ Some p
    all_old NoPatterns ss k n p order low h = h
    all_old (MorePatterns q ps) NoSpots k n p order low h = h
    all_old (MorePatterns q ps) (MoreSpots s ss) k n p order low h =
        let orders = order_both n (binders q) (binders_all ps) order in
        entering_old q s k n p orders.0 low (all_old ps ss (entering st takes root q s k) (n + length (binders q)) p orders.1 (omega (arith, low)) h)

pub spent_names : (takes : Bool) (r : ℕ) (k : Known) → (spent_if takes r k).names ≡ k.names
spent_names true r k = refl
spent_names false r k = refl

-- from the scrutinee on
pub root_names : (st : Setting) (takes : Bool) (x : ℕ) (q : Pattern) (s : Spot) (k : Known) (n : ℕ) → InOrder n (binders q) → x < n → Apart takes (register s ∷ below s) k.names x → register_of (entering_root st takes q s k).names (Some x) ≡ register_of k.names (Some x)
root_names st takes x (BinderPattern b) (At r fs) k n order low apart = register_old k.names b.number r x (λ e. absurd (let z = order.0 in let y : ⊥ = omega (arith, e, z, low) in y))
root_names st takes x (LiteralPattern i a) (At r fs) k n order low apart = refl
root_names st takes x (ConstructorPattern t d c m a ps) (At r fs) k n order low apart =
    let same = spent_names takes r k in
    entering_names st takes (root_of r (get_or k.held r H.Nothing)) x (ConstructorPattern t d c m a ps) (At r fs) (spent_if takes r k) n order low (subst (λ ns. Apart takes (r ∷ all_in fs) ns x) (sym same) apart)
    ∙ ap (λ ns. register_of ns (Some x)) same

pub root_old : (st : Setting) (takes : Bool) (x : ℕ) (q : Pattern) (s : Spot) (k : Known) (n p : ℕ) → InOrder n (binders q) → x < n → register_of (entering_root st takes q s k).names (Some x) ≡ Some p → register_of k.names (Some x) ≡ Some p
root_old st takes x (BinderPattern b) (At r fs) k n p order low h = sym (register_old k.names b.number r x (λ e. absurd (let z = order.0 in let y : ⊥ = omega (arith, e, z, low) in y))) ∙ h
root_old st takes x (LiteralPattern i a) (At r fs) k n p order low h = h
root_old st takes x (ConstructorPattern t d c m a ps) (At r fs) k n p order low h =
    ap (λ ns. register_of ns (Some x)) (sym (spent_names takes r k))
    ∙ entering_old st takes (root_of r (get_or k.held r H.Nothing)) x (ConstructorPattern t d c m a ps) (At r fs) (spent_if takes r k) n p order low h

-- ---- credits

module _ (st : Setting) (takes : Bool) (root : Option ℕ) where
  variable_credits : (b : Binder) (r : ℕ) (k : Known) → (with_variable st takes root b r k).credits ≡ k.credits
  variable_credits b r k = by (takes || is_named b)
    where
      by : (y : Bool) → (if y then holding (naming k b.number r) r (variable_held st takes root b.ty) else unnaming k b.number).credits ≡ k.credits
      by true = refl
      by false = refl

  cell_credits : (y : Bool) (t d : ℕ) (ps : Patterns) (r : ℕ) (k : Known) → LastGone (with_cell st y t d ps r k).credits k.credits
  cell_credits false t d ps r k = last_same k.credits k.credits refl
  cell_credits true t d NoPatterns r k = by (is_scalar st t)
    where
      by : (z : Bool) → LastGone (if z then k else holding k r (H.Bare t d)).credits k.credits
      by true = last_same k.credits k.credits refl
      by false = last_same k.credits k.credits refl
  cell_credits true t d (MorePatterns p ps) r k = λ n. (of_size n new, size_both n k.credits new)
    where
      new : List Credit
      new = record { size = suc (count_patterns ps); register = r } ∷ []

  mutual
    entering_credits : (q : Pattern) (s : Spot) (k : Known) → LastGone (entering st takes root q s k).credits k.credits
    entering_credits (BinderPattern b) (At r fs) k = last_same (with_variable st takes root b r k).credits k.credits (sym (variable_credits b r k))
    entering_credits (LiteralPattern i a) (At r fs) k = last_same k.credits k.credits refl
    entering_credits (ConstructorPattern t d c m a ps) (At r fs) k =
        last_on (entering_all st takes root ps fs (with_cell st takes t c ps r k)).credits (with_cell st takes t c ps r k).credits k.credits (all_credits ps fs (with_cell st takes t c ps r k)) (cell_credits takes t c ps r k)

    all_credits : (ps : Patterns) (ss : Spots) (k : Known) → LastGone (entering_all st takes root ps ss k).credits k.credits
    all_credits NoPatterns ss k = last_same k.credits k.credits refl
    all_credits (MorePatterns p ps) NoSpots k = last_same k.credits k.credits refl
    all_credits (MorePatterns p ps) (MoreSpots s ss) k =
        last_on (entering_all st takes root ps ss (entering st takes root p s k)).credits (entering st takes root p s k).credits k.credits (all_credits ps ss (entering st takes root p s k)) (entering_credits p s k)

spent_credits : (takes : Bool) (r : ℕ) (k : Known) → (spent_if takes r k).credits ≡ k.credits
spent_credits true r k = refl
spent_credits false r k = refl

pub root_credits : (st : Setting) (takes : Bool) (q : Pattern) (s : Spot) (k : Known) → LastGone (entering_root st takes q s k).credits k.credits
root_credits st takes (BinderPattern b) (At r fs) k = last_same k.credits k.credits refl
root_credits st takes (LiteralPattern i a) (At r fs) k = last_same k.credits k.credits refl
root_credits st takes (ConstructorPattern t d c m a ps) (At r fs) k =
    subst (λ cs. LastGone (entering st takes (root_of r (get_or k.held r H.Nothing)) (ConstructorPattern t d c m a ps) (At r fs) (spent_if takes r k)).credits cs) (spent_credits takes r k)
    (entering_credits st takes (root_of r (get_or k.held r H.Nothing)) (ConstructorPattern t d c m a ps) (At r fs) (spent_if takes r k))

-- ---- registers that are used already

module _ (st : Setting) (takes : Bool) (root : Option ℕ) where
  variable_next : (b : Binder) (r : ℕ) (k : Known) → (with_variable st takes root b r k).next ≡ k.next
  variable_next b r k = by (takes || is_named b)
    where
      by : (y : Bool) → (if y then holding (naming k b.number r) r (variable_held st takes root b.ty) else unnaming k b.number).next ≡ k.next
      by true = refl
      by false = refl

  cell_next : (y : Bool) (t d : ℕ) (ps : Patterns) (r : ℕ) (k : Known) → (with_cell st y t d ps r k).next ≡ k.next
  cell_next false t d ps r k = refl
  cell_next true t d NoPatterns r k = by (is_scalar st t)
    where
      by : (z : Bool) → (if z then k else holding k r (H.Bare t d)).next ≡ k.next
      by true = refl
      by false = refl
  cell_next true t d (MorePatterns p ps) r k = refl

  mutual
    entering_next : (q : Pattern) (s : Spot) (k : Known) → (entering st takes root q s k).next ≡ k.next
    entering_next (BinderPattern b) (At r fs) k = variable_next b r k
    entering_next (LiteralPattern i a) (At r fs) k = refl
    entering_next (ConstructorPattern t d c m a ps) (At r fs) k = all_next ps fs (with_cell st takes t c ps r k) ∙ cell_next takes t c ps r k

    all_next : (ps : Patterns) (ss : Spots) (k : Known) → (entering_all st takes root ps ss k).next ≡ k.next
    all_next NoPatterns ss k = refl
    all_next (MorePatterns p ps) NoSpots k = refl
    all_next (MorePatterns p ps) (MoreSpots s ss) k = all_next ps ss (entering st takes root p s k) ∙ entering_next p s k

spent_next : (takes : Bool) (r : ℕ) (k : Known) → (spent_if takes r k).next ≡ k.next
spent_next true r k = refl
spent_next false r k = refl

pub root_next : (st : Setting) (takes : Bool) (q : Pattern) (s : Spot) (k : Known) → (entering_root st takes q s k).next ≡ k.next
root_next st takes (BinderPattern b) (At r fs) k = refl
root_next st takes (LiteralPattern i a) (At r fs) k = refl
root_next st takes (ConstructorPattern t d c m a ps) (At r fs) k =
    entering_next st takes (root_of r (get_or k.held r H.Nothing)) (ConstructorPattern t d c m a ps) (At r fs) (spent_if takes r k) ∙ spent_next takes r k
