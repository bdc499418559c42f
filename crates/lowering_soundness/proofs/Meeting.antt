-- Where clauses meet: what is known there goes with the variables, and is what is known at the end of each; what one of
-- them still owns all do.
use Rattle.std.proofs.Common.{◌≡◌, ◌⊎◌, inl, inr, ℕ, zero, suc, ◌+◌, ◌-◌, ◌<◌, ◌≤◌, Bool, true, false, List, [], ◌∷◌, length, Option, Some, None, refl, sym, ap, ◌∙◌, subst, subst₂, true≢false, arith, ◌==◌, ◌&&◌, if◌then◌else◌}
use Rattle.std.proofs.lemmas.Option.{none-some}
use Rattle.separation.specs.fip_language.Table.{Table}
use Rattle.separation.specs.fip_language.Every.{Among}
use Rattle.lowering_relation.specs.fip_trees.Tree.{Expression}
use Rattle.derivation_making.specs.type_check.Scope.{Scope}
use Rattle.derivation_making.specs.ownership_calculus.Terms.{Item, Own, Credit}
use Rattle.derivation_making.specs.ownership_calculus.Rules.{Fits}
use Rattle.derivation_making.proofs.ownership_calculus.Fit.{fits_le}
use Rattle.separation.specs.code_rules.Types.{is_scalar_type}
use Rattle.separation.specs.code_rules.Fitting.{fits}
use Rattle.separation.proofs.separation_kinds.Basics.{chosen, refused, or_not, equal, equal_is, less_or_not}
use Rattle.lowering_relation.specs.declared.held.Held.{Held}
use Rattle.lowering_relation.specs.declared.held.Held.TheVariants as H
use Rattle.lowering_relation.specs.declared.held.Credit as D
use Rattle.lowering_relation.specs.Known.{Known, register_of}
use Rattle.lowering_relation.specs.Values.{Setting}
use Rattle.lowering_relation.specs.Describing.{Holding, held_at, kind_of, is_tree, is_spare}
use Rattle.lowering_relation.specs.Matches.{widened, wide, wide_at, BuiltRight}
use Rattle.lowering_relation.specs.Credits.{of_size}
use Rattle.lowering_relation.specs.Joins.{Met, holds_credit, still_held}
use Rattle.lowering_relation.specs.Uses.{need}
use Rattle.lowering_relation.specs.Leftover.{IsUnused}
use Rattle.lowering_soundness.specs.Giving.{is_owned_of, is_credit_of}
use Rattle.lowering_soundness.specs.Ties.{one_if, owners, sized, counted, own, AllHold, owed, Balanced, Ties}
use Rattle.lowering_soundness.specs.Delivered.{Keeps}
use Rattle.lowering_soundness.proofs.Covering.{covers_spare}
use Rattle.lowering_soundness.proofs.Giving.{owned_tree}
use Rattle.lowering_soundness.proofs.EntryFits.{wide_fits}
use Rattle.lowering_soundness.proofs.Cleared.{Kept, wide_tree}
use Rattle.lowering_soundness.proofs.Keeping.{Plain, stayed_same, owners_kept, stays_by, ties_kept}
use Rattle.lowering_soundness.proofs.Stacks.{counted_same, stack_whole}
use Rattle.lowering_soundness.proofs.Cells.{credit_is}
pub use Rattle.lowering_soundness.proofs.Leftovers.{one_tree as one_positive}

-- ---- what a register holds

wide_spare : (h : Held) → is_spare (widened h) ≡ is_spare h
wide_spare H.Nothing = refl
wide_spare (H.Scalar t) = refl
wide_spare (H.Owned t b) = refl
wide_spare (H.Lent t root) = refl
wide_spare (H.Credit n) = refl
wide_spare (H.Bare t c) = refl

spare_no_tree : (h : Held) → is_spare h ≡ true → is_tree h ≡ false
spare_no_tree H.Nothing e = refl
spare_no_tree (H.Scalar t) e = refl
spare_no_tree (H.Owned t b) e = absurd (true≢false (sym e))
spare_no_tree (H.Lent t root) e = refl
spare_no_tree (H.Credit n) e = refl
spare_no_tree (H.Bare t c) e = refl

spare_no_credit : (n : ℕ) (h : Held) → is_spare h ≡ true → is_credit_of n h ≡ false
spare_no_credit n H.Nothing e = refl
spare_no_credit n (H.Scalar t) e = refl
spare_no_credit n (H.Owned t b) e = refl
spare_no_credit n (H.Lent t root) e = refl
spare_no_credit n (H.Credit m) e = absurd (true≢false (sym e))
spare_no_credit n (H.Bare t c) e = refl

tree_not_spare : (h : Held) → is_tree h ≡ true → is_spare h ≡ true → ⊥
tree_not_spare h e s = true≢false (sym e ∙ spare_no_tree h s)

-- what is owned as a tree of a type, where it isn't known which constructor it has
owned_plain : (t : ℕ) (h : Held) → is_owned_of t h ≡ true → widened h ≡ h → h ≡ H.Owned t None
owned_plain t H.Nothing e p = absurd (true≢false (sym e))
owned_plain t (H.Scalar u) e p = absurd (true≢false (sym e))
owned_plain t (H.Owned u b) e p = sym p ∙ ap (λ u. H.Owned u None) (equal u t e)
owned_plain t (H.Lent u root) e p = absurd (true≢false (sym e))
owned_plain t (H.Credit n) e p = absurd (true≢false (sym e))
owned_plain t (H.Bare u c) e p = absurd (true≢false (sym e))

one_true : (b d : Bool) → one_if b ≡ one_if d → b ≡ true → d ≡ true
one_true true true e t = refl
one_true true false e t = absurd (let z : ⊥ = omega (arith, e) in z)
one_true false d e t = absurd (true≢false (sym t))

-- where each credit's register holds one still, all credits are left
all_still : (hs : List Held) (cs : List D.Credit) → ((n r : ℕ) → 1 ≤ counted n r cs → holds_credit (held_at hs r) ≡ true) → still_held hs cs ≡ cs
all_still hs [] h = refl
all_still hs (c ∷ cs) h =
    ap (λ b. if b then c ∷ still_held hs cs else still_held hs cs) (h c.size c.register here) ∙ ap (λ ds. c ∷ ds) (all_still hs cs (λ n r more. h n r (omega (arith, more))))
  where
    here : 1 ≤ counted c.size c.register (c ∷ cs)
    here = let one : one_if ((c.size == c.size) && (c.register == c.register)) ≡ 1 = ap (λ b. one_if (b && (c.register == c.register))) (equal_is c.size c.size refl) ∙ ap one_if (equal_is c.register c.register refl) in omega (arith, one)

-- where a register owns what is owed, it is one of those that are given
owed_one : (w : Table) (g : Holding) (ds ts : List ℕ) (r : ℕ) → AllHold w g ds ts → 1 ≤ owed w ds ts r → (t : ℕ) × (is_owned_of t (g r) ≡ true) × ((h : Holding) → AllHold w h ds ts → is_owned_of t (h r) ≡ true)
owed_one w g [] ts r hold more = absurd (let z : ⊥ = omega (arith, more) in z)
owed_one w g (d ∷ ds) [] r hold more = absurd hold
owed_one w g (d ∷ ds) (t ∷ ts) r hold more = elim (less_or_not 0 (owed w ds ts r)) as (λ z. (v : ℕ) × (is_owned_of v (g r) ≡ true) × ((h : Holding) → AllHold w h (d ∷ ds) (t ∷ ts) → is_owned_of v (h r) ≡ true)) [
  | inl rest ↦ (let x = owed_one w g ds ts r hold.1 (omega (arith, rest)) in (x.0, x.1, λ h all. x.2 h all.1))
  | inr none ↦ elim (or_not (is_scalar_type w t)) as (λ z. (v : ℕ) × (is_owned_of v (g r) ≡ true) × ((h : Holding) → AllHold w h (d ∷ ds) (t ∷ ts) → is_owned_of v (h r) ≡ true)) [
    | inl sc ↦ absurd (let z = chosen (is_scalar_type w t) 0 (one_if (d == r)) sc in let y : ⊥ = omega (arith, z, none, more) in y)
    | inr tree ↦ elim (or_not (d == r)) as (λ z. (v : ℕ) × (is_owned_of v (g r) ≡ true) × ((h : Holding) → AllHold w h (d ∷ ds) (t ∷ ts) → is_owned_of v (h r) ≡ true)) [
      | inl same ↦ (t, ap (λ q. is_owned_of t (g q)) (sym (equal d r same)) ∙ hold.0.owned tree, λ h all. ap (λ q. is_owned_of t (h q)) (sym (equal d r same)) ∙ all.0.owned tree)
      | inr other ↦ absurd (let z = refused (is_scalar_type w t) 0 (one_if (d == r)) tree in let a = ap one_if other in let y : ⊥ = omega (arith, z, a, none, more) in y)
    ]
  ]
]

-- the same of what is given
given_one : (w : Table) (g : Holding) (ds ts : List ℕ) (r : ℕ) → AllHold w g ds ts → Among r ds → is_tree (g r) ≡ true → (t : ℕ) × (is_owned_of t (g r) ≡ true) × ((h : Holding) → AllHold w h ds ts → is_owned_of t (h r) ≡ true)
given_one w g [] ts r hold a tree = absurd a
given_one w g (d ∷ ds) [] r hold a tree = absurd hold
given_one w g (d ∷ ds) (t ∷ ts) r hold (inr a) tree = let x = given_one w g ds ts r hold.1 a tree in (x.0, x.1, λ h all. x.2 h all.1)
given_one w g (d ∷ ds) (t ∷ ts) r hold (inl same) tree = elim (or_not (is_scalar_type w t)) as (λ z. (v : ℕ) × (is_owned_of v (g r) ≡ true) × ((h : Holding) → AllHold w h (d ∷ ds) (t ∷ ts) → is_owned_of v (h r) ≡ true)) [
  | inl scalar ↦ absurd (true≢false (sym tree ∙ ap is_tree (ap g same ∙ hold.0.scalar scalar)))
  | inr some ↦ (t, ap (λ q. is_owned_of t (g q)) same ∙ hold.0.owned some, λ h all. ap (λ q. is_owned_of t (h q)) same ∙ all.0.owned some)
]

-- ---- what clauses leave

-- both hold the same, or nothing that is owned and no credit
abbrev pub LeaveTheSame : Holding → Holding → Type 0
LeaveTheSame g h = (r : ℕ) → (g r ≡ h r) ⊎ ((is_spare (g r) ≡ true) × (is_spare (h r) ≡ true))

-- it holds the same, or nothing where nothing was owned
abbrev pub Spares : Known → Known → Type 0
Spares k l = (r : ℕ) → (held_at l.held r ≡ held_at k.held r) ⊎ ((is_spare (held_at k.held r) ≡ true) × (held_at l.held r ≡ H.Nothing))

pub spares_on : (k m l : Known) → Spares k m → Spares m l → Spares k l
spares_on k m l x y r = by (x r) (y r)
  where
    by : (held_at m.held r ≡ held_at k.held r) ⊎ ((is_spare (held_at k.held r) ≡ true) × (held_at m.held r ≡ H.Nothing)) → (held_at l.held r ≡ held_at m.held r) ⊎ ((is_spare (held_at m.held r) ≡ true) × (held_at l.held r ≡ H.Nothing)) → (held_at l.held r ≡ held_at k.held r) ⊎ ((is_spare (held_at k.held r) ≡ true) × (held_at l.held r ≡ H.Nothing))
    by (inl a) (inl b) = inl (b ∙ a)
    by (inl a) (inr b) = inr (ap is_spare (sym a) ∙ b.0, b.1)
    by (inr a) (inl b) = inr (a.0, b ∙ a.1)
    by (inr a) (inr b) = inr (a.0, b.1)

pub spares_same : (k : Known) → Spares k k
spares_same k r = inl refl

-- kinds where a clause ends fit what is known where it meets the others
pub spares_fit : (w : Table) (left l : Known) → ((r : ℕ) → BuiltRight w (held_at left.held r)) → Spares (wide left) l → (r : ℕ) → fits (kind_of w (held_at l.held r)) (kind_of w (held_at left.held r)) ≡ true
spares_fit w left l built x r = by (x r)
  where
    was : held_at (wide left).held r ≡ widened (held_at left.held r)
    was = Rattle.lowering_soundness.proofs.EntryHeld.held_wide left.held r

    by : (held_at l.held r ≡ held_at (wide left).held r) ⊎ ((is_spare (held_at (wide left).held r) ≡ true) × (held_at l.held r ≡ H.Nothing)) → fits (kind_of w (held_at l.held r)) (kind_of w (held_at left.held r)) ≡ true
    by (inl e) = ap (λ h. fits (kind_of w h) (kind_of w (held_at left.held r))) (e ∙ was) ∙ wide_fits w (held_at left.held r) (built r)
    by (inr e) =
        ap (λ h. fits (kind_of w h) (kind_of w (held_at left.held r))) e.1
        ∙ covers_spare w (held_at left.held r) (kind_of w (held_at left.held r)) (sym (ap is_spare was ∙ wide_spare (held_at left.held r)) ∙ e.0) refl

-- What a clause of match o leaves in fbip, where k was known at its start: what it gives, the trees that it doesn't use
-- up, and the credits beyond those that it needs.
pub record LeftBy (st : Setting) (o : Expression) (k : Known) (ds : List ℕ) (l : Known) : Type 0 where
  pub trees : (r : ℕ) → is_tree (held_at l.held r) ≡ true → Among r ds ⊎ ((is_tree (held_at k.held r) ≡ true) × IsUnused st k o r)
  pub stays : (r : ℕ) → is_tree (held_at k.held r) ≡ true → IsUnused st k o r → held_at l.held r ≡ widened (held_at k.held r)
  pub credits : (n : ℕ) → 0 < n → of_size n l.credits ≡ Rattle.std.proofs.Common.take (length (of_size n k.credits) - need st n o) (of_size n k.credits)
  pub none : of_size 0 l.credits ≡ []

-- what is so at the end of a clause of a match that begins where k is known, and where clauses meet
pub record Arrived (st : Setting) (o : Expression) (fip : Bool) (w : Table) (s : Scope) (B : ℕ → Bool) (K : ℕ → Item → ℕ) (X : Item → ℕ) (k : Known) (low : ℕ) (ds ts : List ℕ) (l : Known) : Type 0 where
  pub by : fip ≡ false → LeftBy st o k ds l
  pub ties : Ties fip w s B K X (λ q. owed w ds ts q + 0) l
  pub hold : AllHold w (held_at l.held) ds ts
  pub keeps : Keeps s X k l
  pub plain : Plain l
  pub bare : (r t d : ℕ) → held_at l.held r ≡ H.Bare t d → ⊥
  pub grows : k.next ≤ l.next
  pub width : length l.held ≡ length k.held
  pub names : length l.names ≡ length k.names
  pub empty : (r : ℕ) → suc r ≤ low → held_at k.held r ≡ H.Nothing → (Among r ds → ⊥) → held_at l.held r ≡ H.Nothing

-- two of them meet
pub record Joined (st : Setting) (o : Expression) (fip : Bool) (w : Table) (s : Scope) (B : ℕ → Bool) (K : ℕ → Item → ℕ) (X : Item → ℕ) (k : Known) (low : ℕ) (ds ts : List ℕ) (j l m : Known) : Type 0 where
  pub arrived : Arrived st o fip w s B K X k low ds ts m
  pub first : Spares j m
  pub second : Spares l m

module _ (st : Setting) (o : Expression) (fip : Bool) (w : Table) (s : Scope) (B : ℕ → Bool) (K : ℕ → Item → ℕ) (T X : Item → ℕ) (a : ℕ → ℕ) (k : Known) (low : ℕ) (ds ts : List ℕ) (start : Ties fip w s B K T a k) (less : (i : Item) → X i ≤ T i) (kept : Kept K X) where
  abbrev Here : Known → Type 0
  Here l = Arrived st o fip w s B K X k low ds ts l

  -- what is owned where the match begins
  was_tree : (r : ℕ) → 1 ≤ owners k.names (own X) r → is_tree (held_at k.held r) ≡ true
  was_tree r more =
      let le = fits_le fip (one_if (is_tree (held_at k.held r))) (owners k.names (own T) r + a r) (start.trees r) in
      let fewer = Rattle.lowering_soundness.proofs.Owners.owners_less k.names (own T) (own X) r (λ x. less (Own x)) in
      one_positive (is_tree (held_at k.held r)) (owners k.names (own X) r) (omega (arith, le, fewer)) more

  kept_held : (l : Known) (r : ℕ) → Here l → 1 ≤ owners k.names (own X) r → held_at l.held r ≡ widened (held_at k.held r)
  kept_held l r x more = sym (x.plain r) ∙ x.keeps.stays.tree r more (wide_tree (held_at k.held r) ∙ was_tree r more)

  -- as often as X is owned, and what is owed
  owns : (l : Known) (r : ℕ) → Here l → Fits fip (one_if (is_tree (held_at l.held r))) (owners k.names (own X) r + owed w ds ts r)
  owns l r x =
      let same = owners_kept k.names l.names (own X) r x.keeps.same in
      subst (Fits fip (one_if (is_tree (held_at l.held r)))) (omega (arith, same)) (x.ties.trees r)

  module _ (whole : fip ≡ true) (j l : Known) (x : Here j) (y : Here l) where
    exact : (m : Known) → Here m → (r : ℕ) → one_if (is_tree (held_at m.held r)) ≡ owners k.names (own X) r + owed w ds ts r
    exact m z r = subst (λ b. Fits b (one_if (is_tree (held_at m.held r))) (owners k.names (own X) r + owed w ds ts r)) whole (owns m r z)

    exact_size : (m : Known) → Here m → (n : ℕ) → sized n m.credits ≡ X (Credit n)
    exact_size m z n = subst (λ b. Fits b (sized n m.credits) (X (Credit n))) whole (z.ties.sizes n)

    same_tree : (r : ℕ) → is_tree (held_at j.held r) ≡ true → held_at j.held r ≡ held_at l.held r
    same_tree r tree = elim (less_or_not 0 (owners k.names (own X) r)) as (λ v. held_at j.held r ≡ held_at l.held r) [
      | inl more ↦ kept_held j r x (omega (arith, more)) ∙ sym (kept_held l r y (omega (arith, more)))
      | inr none ↦
          (let count = exact j x r in
          let one = ap one_if tree in
          let o = owed_one w (held_at j.held) ds ts r x.hold (omega (arith, count, one, none)) in
          owned_plain o.0 (held_at j.held r) o.1 (x.plain r) ∙ sym (owned_plain o.0 (held_at l.held r) (o.2 (held_at l.held) y.hold) (y.plain r)))
    ]

    same_credit : (r n : ℕ) → held_at j.held r ≡ H.Credit n → held_at j.held r ≡ held_at l.held r
    same_credit r n e =
        let credit : is_credit_of n (held_at j.held r) ≡ true = ap (is_credit_of n) e ∙ equal_is n n refl in
        let stack : of_size n j.credits ≡ of_size n l.credits = stack_whole n (X (Credit n)) j.credits l.credits (exact_size j x n) (exact_size l y n) (x.keeps.stack n ∙ sym (y.keeps.stack n)) in
        let counts = sym (x.ties.credits n r) ∙ (counted_same n r j.credits l.credits stack ∙ y.ties.credits n r) in
        e ∙ sym (credit_is n (held_at l.held r) (one_true (is_credit_of n (held_at j.held r)) (is_credit_of n (held_at l.held r)) counts credit))

    pub same_owned : (r : ℕ) → (held_at j.held r ≡ held_at l.held r) ⊎ (is_spare (held_at j.held r) ≡ true)
    same_owned r = by (held_at j.held r) refl
      where
        by : (h : Held) → held_at j.held r ≡ h → (held_at j.held r ≡ held_at l.held r) ⊎ (is_spare (held_at j.held r) ≡ true)
        by H.Nothing e = inr (ap is_spare e)
        by (H.Scalar t) e = inr (ap is_spare e)
        by (H.Owned t b) e = inl (same_tree r (ap is_tree e))
        by (H.Lent t root) e = inr (ap is_spare e)
        by (H.Credit n) e = inl (same_credit r n e)
        by (H.Bare t d) e = absurd (x.bare r t d e)

  -- in fbip they leave what the match doesn't use
  module _ (weak : fip ≡ false) (j l : Known) (x : Here j) (y : Here l) where
    left_tree : (r : ℕ) → is_tree (held_at j.held r) ≡ true → held_at j.held r ≡ held_at l.held r
    left_tree r tree = elim ((x.by weak).trees r tree) as (λ v. held_at j.held r ≡ held_at l.held r) [
      | inl given ↦
          (let o = given_one w (held_at j.held) ds ts r x.hold given tree in
          owned_plain o.0 (held_at j.held r) o.1 (x.plain r) ∙ sym (owned_plain o.0 (held_at l.held r) (o.2 (held_at l.held) y.hold) (y.plain r)))
      | inr unused ↦ (x.by weak).stays r unused.0 unused.1 ∙ sym ((y.by weak).stays r unused.0 unused.1)
    ]

    left_stack : (n : ℕ) → of_size n j.credits ≡ of_size n l.credits
    left_stack zero = (x.by weak).none ∙ sym (y.by weak).none
    left_stack (suc n) = (x.by weak).credits (suc n) (omega arith) ∙ sym ((y.by weak).credits (suc n) (omega arith))

    left_credit : (r n : ℕ) → held_at j.held r ≡ H.Credit n → held_at j.held r ≡ held_at l.held r
    left_credit r n e =
        let credit : is_credit_of n (held_at j.held r) ≡ true = ap (is_credit_of n) e ∙ equal_is n n refl in
        let counts = sym (x.ties.credits n r) ∙ (counted_same n r j.credits l.credits (left_stack n) ∙ y.ties.credits n r) in
        e ∙ sym (credit_is n (held_at l.held r) (one_true (is_credit_of n (held_at j.held r)) (is_credit_of n (held_at l.held r)) counts credit))

    pub left_owned : (r : ℕ) → (held_at j.held r ≡ held_at l.held r) ⊎ (is_spare (held_at j.held r) ≡ true)
    left_owned r = by (held_at j.held r) refl
      where
        by : (h : Held) → held_at j.held r ≡ h → (held_at j.held r ≡ held_at l.held r) ⊎ (is_spare (held_at j.held r) ≡ true)
        by H.Nothing e = inr (ap is_spare e)
        by (H.Scalar t) e = inr (ap is_spare e)
        by (H.Owned t b) e = inl (left_tree r (ap is_tree e))
        by (H.Lent t root) e = inr (ap is_spare e)
        by (H.Credit n) e = inl (left_credit r n e)
        by (H.Bare t d) e = absurd (x.bare r t d e)

  -- both leave the same
  leave_same : (j l : Known) → Here j → Here l → LeaveTheSame (held_at j.held) (held_at l.held)
  leave_same j l x y r = by fip refl
    where
      both : (held_at j.held r ≡ held_at l.held r) ⊎ (is_spare (held_at j.held r) ≡ true) → (held_at l.held r ≡ held_at j.held r) ⊎ (is_spare (held_at l.held r) ≡ true) → (held_at j.held r ≡ held_at l.held r) ⊎ ((is_spare (held_at j.held r) ≡ true) × (is_spare (held_at l.held r) ≡ true))
      both (inl p) q = inl p
      both (inr p) (inl q) = inl (sym q)
      both (inr p) (inr q) = inr (p, q)

      by : (b : Bool) → fip ≡ b → (held_at j.held r ≡ held_at l.held r) ⊎ ((is_spare (held_at j.held r) ≡ true) × (is_spare (held_at l.held r) ≡ true))
      by true e = both (same_owned e j l x y r) (same_owned e l j y x r)
      by false e = both (left_owned e j l x y r) (left_owned e l j y x r)

  pub joined : (j l m : Known) → Here j → Here l → Met j l m → Joined st o fip w s B K X k low ds ts j l m
  joined j l m x y met = record {
    arrived = record {
      by = by;
      ties = ties;
      hold = hold ds ts x.hold y.hold;
      keeps = keeps;
      plain = plain;
      bare = bare;
      grows = (let a = x.grows in let b = met.next in omega (arith, a, b));
      width = met.width ∙ x.width;
      names = met.many ∙ x.names;
      empty = λ r lo e ne. elim (first r) as (λ v. held_at m.held r ≡ H.Nothing) [
        | inl p ↦ p ∙ x.empty r lo e ne
        | inr p ↦ p.1
      ];
    };
    first = first;
    second = second;
  }
    where
      same : LeaveTheSame (held_at j.held) (held_at l.held)
      same = leave_same j l x y

      -- what one of them holds as a credit both do
      no_credit : (h : Held) (n : ℕ) → h ≡ H.Credit n → is_spare h ≡ true → ⊥
      no_credit h n e spare = true≢false (sym spare ∙ ap is_spare e)

      first : Spares j m
      first r = elim (met.held r) as (λ v. (held_at m.held r ≡ held_at j.held r) ⊎ ((is_spare (held_at j.held r) ≡ true) × (held_at m.held r ≡ H.Nothing))) [
        | inl p ↦ inl p.1
        | inr p ↦ elim p as (λ v. (held_at m.held r ≡ held_at j.held r) ⊎ ((is_spare (held_at j.held r) ≡ true) × (held_at m.held r ≡ H.Nothing))) [
          | inl p ↦ elim (same r) as (λ v. (held_at m.held r ≡ held_at j.held r) ⊎ ((is_spare (held_at j.held r) ≡ true) × (held_at m.held r ≡ H.Nothing))) [
            | inl q ↦ absurd (p.0 q)
            | inr q ↦ inr (q.0, p.1)
          ]
          | inr p ↦ inl p.2
        ]
      ]

      second : Spares l m
      second r = elim (met.held r) as (λ v. (held_at m.held r ≡ held_at l.held r) ⊎ ((is_spare (held_at l.held r) ≡ true) × (held_at m.held r ≡ H.Nothing))) [
        | inl p ↦ inl (p.1 ∙ p.0)
        | inr p ↦ elim p as (λ v. (held_at m.held r ≡ held_at l.held r) ⊎ ((is_spare (held_at l.held r) ≡ true) × (held_at m.held r ≡ H.Nothing))) [
          | inl p ↦ elim (same r) as (λ v. (held_at m.held r ≡ held_at l.held r) ⊎ ((is_spare (held_at l.held r) ≡ true) × (held_at m.held r ≡ H.Nothing))) [
            | inl q ↦ absurd (p.0 q)
            | inr q ↦ inr (q.1, p.1)
          ]
          | inr p ↦ elim (same r) as (λ v. (held_at m.held r ≡ held_at l.held r) ⊎ ((is_spare (held_at l.held r) ≡ true) × (held_at m.held r ≡ H.Nothing))) [
            | inl q ↦ inl (p.2 ∙ q)
            | inr q ↦ absurd (no_credit (held_at j.held r) p.0 p.1 q.0)
          ]
        ]
      ]

      by_credit : (n r : ℕ) → is_credit_of n (held_at j.held r) ≡ is_credit_of n (held_at m.held r)
      by_credit n r = elim (first r) as (λ v. is_credit_of n (held_at j.held r) ≡ is_credit_of n (held_at m.held r)) [
        | inl p ↦ ap (is_credit_of n) (sym p)
        | inr p ↦ spare_no_credit n (held_at j.held r) p.0 ∙ sym (ap (is_credit_of n) p.1)
      ]

      -- no credit is lost
      credits : m.credits ≡ j.credits
      credits = met.credits ∙ all_still m.held j.credits (λ n r more.
          let count = x.ties.credits n r in
          let held = sym (by_credit n r) ∙ one_positive (is_credit_of n (held_at j.held r)) (counted n r j.credits) (omega (arith, count)) more in
          ap holds_credit (credit_is n (held_at m.held r) held))

      -- what both hold is known
      agreed : (r : ℕ) → held_at j.held r ≡ held_at l.held r → held_at m.held r ≡ held_at j.held r
      agreed r e = elim (met.held r) as (λ v. held_at m.held r ≡ held_at j.held r) [
        | inl p ↦ p.1
        | inr p ↦ elim p as (λ v. held_at m.held r ≡ held_at j.held r) [
          | inl p ↦ absurd (p.0 e)
          | inr p ↦ p.2
        ]
      ]

      plain : Plain m
      plain r = elim (first r) as (λ v. widened (held_at m.held r) ≡ held_at m.held r) [
        | inl p ↦ ap widened p ∙ (x.plain r ∙ sym p)
        | inr p ↦ ap widened p.1 ∙ sym p.1
      ]

      bare : (r t d : ℕ) → held_at m.held r ≡ H.Bare t d → ⊥
      bare r t d e = elim (first r) as (λ v. ⊥) [
        | inl p ↦ x.bare r t d (sym p ∙ e)
        | inr p ↦ other (sym p.1 ∙ e)
      ]
        where
          other : H.Nothing ≡ H.Bare t d → ⊥
          other z = absurd (cc)

      tree_stays : (r : ℕ) → is_tree (held_at j.held r) ≡ true → held_at m.held r ≡ held_at j.held r
      tree_stays r tree = elim (first r) as (λ v. held_at m.held r ≡ held_at j.held r) [
        | inl p ↦ p
        | inr p ↦ absurd (tree_not_spare (held_at j.held r) tree p.0)
      ]

      tree_first : (r : ℕ) → is_tree (held_at m.held r) ≡ true → is_tree (held_at j.held r) ≡ true
      tree_first r tree = elim (first r) as (λ v. is_tree (held_at j.held r) ≡ true) [
        | inl p ↦ sym (ap is_tree p) ∙ tree
        | inr p ↦ absurd (true≢false (sym tree ∙ ap is_tree p.1))
      ]

      by : fip ≡ false → LeftBy st o k ds m
      by weak =
          let z = x.by weak in
          record {
            trees = λ r tree. z.trees r (tree_first r tree);
            stays = λ r tree unused. (let same = z.stays r tree unused in tree_stays r (ap is_tree same ∙ (wide_tree (held_at k.held r) ∙ tree)) ∙ same);
            credits = λ n some. ap (of_size n) credits ∙ z.credits n some;
            none = ap (of_size 0) credits ∙ z.none;
          }

      hold : (qs us : List ℕ) → AllHold w (held_at j.held) qs us → AllHold w (held_at l.held) qs us → AllHold w (held_at m.held) qs us
      hold [] [] p q = tt
      hold [] (u ∷ us) p q = absurd p
      hold (r ∷ qs) [] p q = absurd p
      hold (r ∷ qs) (u ∷ us) p q = (
        record {
          scalar = λ e. agreed r (p.0.scalar e ∙ sym (q.0.scalar e)) ∙ p.0.scalar e;
          owned = λ e. ap (is_owned_of u) (tree_stays r (owned_tree u (held_at j.held r) (p.0.owned e))) ∙ p.0.owned e;
        },
        hold qs us p.1 q.1,
      )

      keeps : Keeps s X k m
      keeps = record {
        stays = stays_by (wide_at (held_at k.held)) (wide_at (held_at m.held)) (owners k.names (own X)) (λ r z.
            let p = stayed_same (wide_at (held_at k.held)) (wide_at (held_at j.held)) (owners k.names (own X)) r x.keeps.stays z in
            let q = stayed_same (wide_at (held_at k.held)) (wide_at (held_at l.held)) (owners k.names (own X)) r y.keeps.stays z in
            ap widened (agreed r (sym (x.plain r) ∙ (p ∙ (sym q ∙ y.plain r)))) ∙ p);
        same = λ z more. elim (met.names z) as (λ v. register_of m.names (Some z) ≡ register_of k.names (Some z)) [
          | inl p ↦ p.1 ∙ x.keeps.same z more
          | inr p ↦ absurd (p.0 (x.keeps.same z more ∙ sym (y.keeps.same z more)))
        ];
        old = λ z u r o e. elim (met.names z) as (λ v. register_of k.names (Some z) ≡ Some r) [
          | inl p ↦ x.keeps.old z u r o (sym p.1 ∙ e)
          | inr p ↦ absurd (none-some r (sym p.1 ∙ e))
        ];
        stack = λ n. ap (λ cs. Rattle.std.proofs.Common.take (X (Credit n)) (of_size n cs)) credits ∙ x.keeps.stack n;
      }

      spare_tree : (h : Held) → is_spare h ≡ true → is_tree H.Nothing ≡ is_tree h
      spare_tree h e = sym (spare_no_tree h e)

      trees : Balanced fip (held_at m.held) (λ q. owners m.names (own X) q + (owed w ds ts q + 0))
      trees r =
          let n = owners_kept k.names m.names (own X) r keeps.same in
          let o = owners_kept k.names j.names (own X) r x.keeps.same in
          let tree : is_tree (held_at m.held r) ≡ is_tree (held_at j.held r) = elim (first r) as (λ v. is_tree (held_at m.held r) ≡ is_tree (held_at j.held r)) [
            | inl p ↦ ap is_tree p
            | inr p ↦ ap is_tree p.1 ∙ spare_tree (held_at j.held r) p.0
          ] in
          subst₂ (λ b i. Fits fip (one_if b) i) (sym tree) (let z : owners j.names (own X) r + (owed w ds ts r + 0) ≡ owners m.names (own X) r + (owed w ds ts r + 0) = omega (arith, n, o) in z) (x.ties.trees r)

      nothing_lent : (t : ℕ) (root : Option ℕ) → H.Nothing ≡ H.Lent t root → ⊥
      nothing_lent t root z = absurd (cc)

      ties : Ties fip w s B K X (λ q. owed w ds ts q + 0) m
      ties =
          ties_kept fip w s B K T X a (λ q. owed w ds ts q + 0) k m start (λ z. less (Own z)) kept keeps plain trees
          (λ r t q e. elim (first r) as (λ v. is_tree (held_at m.held q) ≡ true) [
            | inl p ↦ (let tree = x.ties.rooted r t q (sym p ∙ e) in ap is_tree (tree_stays q tree) ∙ tree)
            | inr p ↦ absurd (nothing_lent t (Some q) (sym p.1 ∙ e))
          ])
          (λ r t d e. absurd (bare r t d e))
          (λ n. subst (λ cs. Fits fip (sized n cs) (X (Credit n))) (sym credits) (x.ties.sizes n))
          (λ n r. ap (counted n r) credits ∙ (x.ties.credits n r ∙ ap one_if (by_credit n r)))
          (λ r low. elim (first r) as (λ v. held_at m.held r ≡ H.Nothing) [
            | inl p ↦ p ∙ x.ties.fresh r (let z = met.next in omega (arith, z, low))
            | inr p ↦ p.1
          ])
          (λ z r e. elim (met.names z) as (λ v. suc r ≤ m.next) [
            | inl p ↦ (let low = x.ties.named z r (sym p.1 ∙ e) in let n = met.next in omega (arith, low, n))
            | inr p ↦ absurd (none-some r (sym p.1 ∙ e))
          ])
