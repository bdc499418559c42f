-- A relation in which only so many violations can occur: one of them is the least, or there is none in it.
-- Whether one is in it isn't a test, so this is said with two nots.
use Rattle.std.proofs.Common.{◌≡◌, ◌⊎◌, inl, inr, Bool, true, false, List, [], ◌∷◌, ◌++◌, refl, sym, ap, subst}
use Rattle.source_report.specs.fip_trees.declared.least.Violation.{Violation}
use Rattle.source_report.specs.fip_trees.Least.{In, comes_before, rank, IsLeast, IsLeastOf, after}
use Rattle.source_report.proofs.cell_lower.fip_trees.Leasts.{never_smaller, smaller_both, in_left, in_right, none_of, least_of}
use Rattle.std.specs.Prelude.{Option, Some, None}
pub use Rattle.source_report.proofs.separation_bounds.Solving.{Can}

pub either : (A : Type 0) → Can (A ⊎ (A → ⊥))
either A none = none (inr (λ a. none (inl a)))

-- a list has the violations of all of which a relation speaks
abbrev pub FewBy : {A : Type 0} → (A → Violation) → (A → Type 0) → Type 0
FewBy {A = A} said V = (vs : List Violation) × ((a : A) → V a → In (said a) vs)

abbrev pub itself : Violation → Violation
itself v = v

abbrev pub Few : (Violation → Type 0) → Type 0
Few V = FewBy itself V

pub few_both : {A : Type 0} (said : A → Violation) (V W : A → Type 0) → FewBy said V → FewBy said W → FewBy said (λ a. V a ⊎ W a)
few_both said V W (vs, h) (ws, k) = (vs ++ ws, λ a e. elim e as (λ _. In (said a) (vs ++ ws)) [ inl x ↦ in_left (said a) vs ws (h a x) | inr y ↦ in_right (said a) vs ws (k a y) ])

pub few_of : {A : Type 0} (said : A → Violation) (V W : A → Type 0) → ((a : A) → V a → W a) → FewBy said W → FewBy said V
few_of said V W f (ws, k) = (ws, λ a h. k a (f a h))

pub few_none : {A : Type 0} (said : A → Violation) → FewBy said (λ a. ⊥)
few_none said = ([], λ a h. h)

pub few_one : {A : Type 0} (said : A → Violation) (b : A) → FewBy said (λ a. a ≡ b)
few_one said b = (said b ∷ [], λ a e. inl (ap said e))

-- the least, or none
abbrev pub IsLeastOrNone : (Violation → Type 0) → Type 0
IsLeastOrNone V = ((v : Violation) × IsLeastOf V v) ⊎ ((v : Violation) → V v → ⊥)

pub list_least : (vs : List Violation) → ((v : Violation) × IsLeast vs v) ⊎ (vs ≡ [])
list_least vs = by (after None vs) refl
  where
    by : (o : Option Violation) → after None vs ≡ o → ((v : Violation) × IsLeast vs v) ⊎ (vs ≡ [])
    by None e = inr (none_of vs e)
    by (Some v) e = inl (v, least_of vs v e)

module _ (V : Violation → Type 0) where
  -- none of these that is in it comes before this one
  record IsLeastAmong (vs : List Violation) (v : Violation) : Type 0 where
    has : V v
    least : (w : Violation) → In w vs → V w → comes_before w v ≡ false

  abbrev Found : List Violation → Type 0
  Found vs = ((v : Violation) × IsLeastAmong vs v) ⊎ ((w : Violation) → In w vs → V w → ⊥)

  before_both : (u x v : Violation) → comes_before x v ≡ true → comes_before u v ≡ false → comes_before u x ≡ false
  before_both u x v e f = by (comes_before u x) refl
    where
      by : (b : Bool) → comes_before u x ≡ b → comes_before u x ≡ false
      by false g = g
      by true g = let h = smaller_both (rank u) (rank x) (rank v) g e in absurd (cc)

  not_before_itself : (x : Violation) → comes_before x x ≡ false
  not_before_itself x = never_smaller (rank x)

  one_more : (x : Violation) (vs : List Violation) → V x ⊎ (V x → ⊥) → Found vs → Found (x ∷ vs)
  one_more x vs (inr not_here) (inr never) = inr (λ w i h. elim i as (λ _. ⊥) [ inl e ↦ not_here (subst V e h) | inr j ↦ never w j h ])
  one_more x vs (inr not_here) (inl (v, l)) = inl (
    v,
    record {
      has = l.has;
      least = λ w i h. elim i as (λ _. comes_before w v ≡ false) [ inl e ↦ absurd (not_here (subst V e h)) | inr j ↦ l.least w j h ];
    },
  )
  one_more x vs (inl here) (inr never) = inl (
    x,
    record {
      has = here;
      least = λ w i h. elim i as (λ _. comes_before w x ≡ false) [ inl e ↦ subst (λ y. comes_before y x ≡ false) (sym e) (not_before_itself x) | inr j ↦ absurd (never w j h) ];
    },
  )
  one_more x vs (inl here) (inl (v, l)) = by (comes_before x v) refl
    where
      by : (b : Bool) → comes_before x v ≡ b → Found (x ∷ vs)
      by true f = inl (
        x,
        record {
          has = here;
          least = λ w i h. elim i as (λ _. comes_before w x ≡ false) [ inl e ↦ subst (λ y. comes_before y x ≡ false) (sym e) (not_before_itself x) | inr j ↦ before_both w x v f (l.least w j h) ];
        },
      )
      by false f = inl (
        v,
        record {
          has = l.has;
          least = λ w i h. elim i as (λ _. comes_before w v ≡ false) [ inl e ↦ subst (λ y. comes_before y v ≡ false) (sym e) f | inr j ↦ l.least w j h ];
        },
      )

  found : (vs : List Violation) → Can (Found vs)
  found [] none = none (inr (λ w i h. i))
  found (x ∷ vs) none = found vs (λ f. either (V x) (λ e. none (one_more x vs e f)))

  pub least_or_none : Few V → Can (IsLeastOrNone V)
  least_or_none few none = found few.0 (λ f. none (by f))
    where
      by : Found few.0 → IsLeastOrNone V
      by (inl (v, l)) = inl (v, record { violated = l.has; least = λ w h. l.least w (few.1 w h) h })
      by (inr never) = inr (λ v h. never v (few.1 v h) h)
