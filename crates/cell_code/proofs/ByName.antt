-- Functions by name, read one after another.
use Rattle.std.proofs.Common.{◌≡◌, ℕ, ◌+◌, ◌<◌, ◌⊎◌, List, get_or, length, arith, ◌∙◌, Option, Some, None, ap, subst, inl, inr}
use Rattle.std.specs.Prelude.{IfNone}
use Rattle.std.proofs.lemmas.Option.{slice_get_within, get_or_from_slice_get}
use Rattle.std.proofs.lemmas.Bool.{cases_lt}
use Rattle.cell_code.specs.Naming.{IsNamed}
use Rattle.cell_code.specs.declared.code.Function.{Function}
use Rattle.fip_base.proofs.fip_language.Facts.{below_next}

pub IsNamed_within : (fs : List Function) (name : List ℕ) (n : ℕ) → IsNamed fs name n → n < length fs
IsNamed_within fs name n (f, e, h) = slice_get_within fs n f e

-- the function that was read at i has this name
IsNamed_read : (fs : List Function) (name : List ℕ) (i : ℕ) (f : Function) → f ≡ get_or fs i f → IsNamed fs name i → f.name ≡ name
IsNamed_read fs name i f e (g, h, n) = ap (λ (r : Function). r.name) (e ∙ get_or_from_slice_get fs i g f h) ∙ n

-- one more function that hasn't this name
pub IsNamed_none_more : (fs : List Function) (name : List ℕ) (i : ℕ) (f : Function) → f ≡ get_or fs i f → (f.name ≡ name → ⊥) → ((d : ℕ) → d < i → IsNamed fs name d → ⊥) → (d : ℕ) → d < i + 1 → IsNamed fs name d → ⊥
IsNamed_none_more fs name i f e other before d h is =
    elim (below_next i d h) [ inl l ↦ before d l is | inr q ↦ other (IsNamed_read fs name i f e (subst (λ k. IsNamed fs name k) q is)) ]

-- what holds where there is no number
pub none_so : (o : Option ℕ) (P Q : Type 0) → (P → Q) → IfNone o P → IfNone o Q
none_so None P Q so h = so h
none_so (Some n) P Q so h = h
