-- The heirs that are kept for listed registers, by place.
use Rattle.std.proofs.Common.{◌≡◌, ℕ, zero, suc, ◌<◌, ◌≤◌, ◌⊎◌, inl, inr, List, [], ◌∷◌, length, take, set, get_or, refl, sym, ap, ◌∙◌, arith}
use Rattle.std.specs.Prelude.{Bool, true, Option, None}
use Rattle.std.proofs.lemmas.Bool.Decides.{eqb_tells}
use Rattle.code_rules.specs.Kinds.{has}
use Rattle.kind_domain.specs.Leading.{AreLents}
use Rattle.kind_domain.specs.Leading.{kept_at}

pub kept_get : (os : List (Option ℕ)) (q : ℕ) (d : Option ℕ) → q < length os → kept_at os q ≡ get_or os q d
kept_get [] q d h = absurd (omega arith)
kept_get (o ∷ os) zero d h = refl
kept_get (o ∷ os) (suc q) d h = kept_get os q d (omega arith)

pub kept_past : (os : List (Option ℕ)) (q : ℕ) → length os ≤ q → kept_at os q ≡ None
kept_past [] q h = refl
kept_past (o ∷ os) zero h = absurd (omega arith)
kept_past (o ∷ os) (suc q) h = kept_past os q (omega arith)

pub kept_other : (os : List (Option ℕ)) (x q : ℕ) (o : Option ℕ) → (x ≡ q → ⊥) → kept_at (set os x o) q ≡ kept_at os q
kept_other [] x q o h = refl
kept_other (y ∷ os) zero zero o h = absurd (h refl)
kept_other (y ∷ os) zero (suc q) o h = refl
kept_other (y ∷ os) (suc x) zero o h = refl
kept_other (y ∷ os) (suc x) (suc q) o h = kept_other os x q o (λ e. h (ap suc e))

pub kept_here : (os : List (Option ℕ)) (x : ℕ) (o : Option ℕ) → x < length os → kept_at (set os x o) x ≡ o
kept_here [] x o h = absurd (omega arith)
kept_here (y ∷ os) zero o h = refl
kept_here (y ∷ os) (suc x) o h = kept_here os x o (omega arith)

pub kept_own : (os : List (Option ℕ)) (x : ℕ) (o : Option ℕ) →
    (kept_at (set os x o) x ≡ o) ⊎ (kept_at (set os x o) x ≡ kept_at os x)
kept_own [] x o = inr refl
kept_own (y ∷ os) zero o = inl refl
kept_own (y ∷ os) (suc x) o = kept_own os x o

pub kept_long : (os : List (Option ℕ)) (x : ℕ) (o : Option ℕ) → length (set os x o) ≡ length os
kept_long [] x o = refl
kept_long (y ∷ os) zero o = refl
kept_long (y ∷ os) (suc x) o = ap suc (kept_long os x o)

-- An heir is kept for a register that is listed.
pub lents_reach : (items : List ℕ) (top : ℕ) (listed : List Bool) (os : List (Option ℕ)) (r : ℕ) (o : Option ℕ) →
    AreLents items top listed os → has (take top items) r ≡ true → AreLents items top listed (set os r o)
lents_reach items top listed os r o h e = record {
  reached_long = kept_long os r o ∙ h.reached_long;
  long = h.long;
  many = h.many;
  lists = h.lists;
  marks = h.marks;
  only = λ q d g. elim (eqb_tells r q) [
    | inl i ↦ ap (has (take top items)) (sym i.1) ∙ e
    | inr i ↦ h.only q d (sym (kept_other os r q o i.1) ∙ g)
  ];
}
