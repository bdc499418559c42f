-- The type at an instruction, among those at the Drops of a function, which are in order.
use Rattle.std.proofs.Common.{◌≡◌, ◌↔◌, ◌⊎◌, inl, inr, ℕ, ◌+◌, ◌<◌, ◌≤◌, List, length, Option, Some, None, slice_get, sym, ap, ◌∙◌, subst, arith}
use Rattle.std.proofs.lemmas.Bool.{cases_order}
use Rattle.std.proofs.lemmas.Option.{same_Some, none-some, slice_get_within}
use Rattle.call_groups.specs.CallGraph.{In}
use Rattle.code_verify.specs.declared.walk.DropType.{DropType}
use Rattle.code_verify.specs.Steps.{drops_at}
use Rattle.code_verify.specs.Finding.{AreInOrder}

pub type_found : (ds : List DropType) (p i : ℕ) (d : DropType) → AreInOrder ds → slice_get ds p ≡ Some d → d.at ≡ i → (t : ℕ) → (Some d.ty ≡ Some t ↔ In (drops_at i t) ds)
type_found ds p i d o e s t = (there, back)
  where
    there : Some d.ty ≡ Some t → In (drops_at i t) ds
    there h = (p, subst (λ k. slice_get ds p ≡ Some (drops_at k t)) s (subst (λ k. slice_get ds p ≡ Some (drops_at d.at k)) (same_Some d.ty t h) e))

    back : In (drops_at i t) ds → Some d.ty ≡ Some t
    back m = at (cases_order p m.0)
      where
        at : (p ≡ m.0) ⊎ ((p < m.0) ⊎ (m.0 < p)) → Some d.ty ≡ Some t
        at (inl h) = ap (λ (q : Option DropType). type_of q) (sym e ∙ (ap (slice_get ds) h ∙ m.1))
          where
            type_of : Option DropType → Option ℕ
            type_of None = None
            type_of (Some q) = Some q.ty
        at (inr (inl h)) = (let l = o p m.0 d (drops_at i t) h e m.1 in absurd (omega (arith, l, s)))
        at (inr (inr h)) = (let l = o m.0 p (drops_at i t) d h m.1 e in absurd (omega (arith, l, s)))

pub type_other : (ds : List DropType) (p i : ℕ) (d : DropType) → AreInOrder ds → ((j : ℕ) (q : DropType) → j < p → slice_get ds j ≡ Some q → q.at < i) → ((j : ℕ) (q : DropType) → p ≤ j → slice_get ds j ≡ Some q → i ≤ q.at) → slice_get ds p ≡ Some d → (d.at ≡ i → ⊥) → (t : ℕ) → (◌≡◌ {A = Option ℕ} None (Some t) ↔ In (drops_at i t) ds)
type_other ds p i d o before following e never t = (λ h. absurd (none-some t h), λ m. absurd (at m (cases_order p m.0)))
  where
    at : (m : In (drops_at i t) ds) → (p ≡ m.0) ⊎ ((p < m.0) ⊎ (m.0 < p)) → ⊥
    at m (inl h) = never (ap (λ (q : DropType). q.at) (same_Some d (drops_at i t) (sym e ∙ (ap (slice_get ds) h ∙ m.1))))
    at m (inr (inl h)) = (let l = o p m.0 d (drops_at i t) h e m.1 in let k = following p d (omega arith) e in omega (arith, l, k))
    at m (inr (inr h)) = (let l = before m.0 (drops_at i t) h m.1 in omega (arith, l))

pub type_past : (ds : List DropType) (p i : ℕ) → ((j : ℕ) (q : DropType) → j < p → slice_get ds j ≡ Some q → q.at < i) → length ds ≤ p → (t : ℕ) → (◌≡◌ {A = Option ℕ} None (Some t) ↔ In (drops_at i t) ds)
type_past ds p i before l t = (λ h. absurd (none-some t h), λ m. absurd (at m))
  where
    at : In (drops_at i t) ds → ⊥
    at m = (let w = slice_get_within ds m.0 (drops_at i t) m.1 in let k = before m.0 (drops_at i t) (omega (arith, w, l)) m.1 in omega (arith, k))

-- halves of a list in order
pub before_middle : (ds : List DropType) (i p k : ℕ) (d : DropType) → AreInOrder ds → slice_get ds p ≡ Some d → d.at < i → k ≡ p + 1 → (j : ℕ) (q : DropType) → j < k → slice_get ds j ≡ Some q → q.at < i
before_middle ds i p k d o e l s j q h f = at (cases_order j p)
  where
    at : (j ≡ p) ⊎ ((j < p) ⊎ (p < j)) → q.at < i
    at (inl g) = (let r = ap (λ (v : DropType). v.at) (same_Some q d (sym f ∙ (ap (slice_get ds) g ∙ e))) in omega (arith, r, l))
    at (inr (inl g)) = (let r = o j p q d g f e in omega (arith, r, l))
    at (inr (inr g)) = absurd (omega (arith, g, h, s))

pub after_middle : (ds : List DropType) (i p : ℕ) (d : DropType) → AreInOrder ds → slice_get ds p ≡ Some d → i ≤ d.at → (j : ℕ) (q : DropType) → p ≤ j → slice_get ds j ≡ Some q → i ≤ q.at
after_middle ds i p d o e l j q h f = at (cases_order p j)
  where
    at : (p ≡ j) ⊎ ((p < j) ⊎ (j < p)) → i ≤ q.at
    at (inl g) = (let r = ap (λ (v : DropType). v.at) (same_Some q d (sym f ∙ (ap (slice_get ds) (sym g) ∙ e))) in omega (arith, r, l))
    at (inr (inl g)) = (let r = o p j d q g e f in omega (arith, r, l))
    at (inr (inr g)) = absurd (omega (arith, g, h))
