-- Reads of the table of types.
use Rattle.std.proofs.Common.{◌≡◌, ◌≢◌, ℕ, zero, suc, ◌+◌, ◌<◌, ◌≤◌, ◌-◌, ◌⊎◌, List, [], ◌∷◌, length, get_or, refl, arith, sym, ◌∙◌, ap, subst, inl, inr}
use Rattle.std.proofs.lemmas.Option.{slice_get_within, get_or_from_slice_get}
use Rattle.std.proofs.lemmas.Bool.{cases_lt}
use Rattle.fip_language.specs.Table.{Shape, Table, all_bare, constructors, is_scalar, shapes}
use Rattle.fip_base.specs.TableView.{fields_at, IsNamed}
use Rattle.fip_language.proofs.Facts.{below_next}

pub shapes_read : (tb : Table) (t : ℕ) (d : List Shape) → t < length tb → shapes tb t ≡ get_or tb t d
shapes_read [] t d h = absurd (omega (arith, h))
shapes_read (row ∷ rows) zero d h = refl
shapes_read (row ∷ rows) (suc t) d h = shapes_read rows t d (omega (arith, h))

pub scalar_read : (tb : Table) (t : ℕ) (d : List Shape) → t < length tb → all_bare (get_or tb t d) ≡ is_scalar tb (t + 1)
scalar_read tb t d h = ap all_bare (sym (shapes_read tb t d h)) ∙ ap (is_scalar tb) next
  where
    next : suc t ≡ t + 1
    next = omega arith

pub ruleset reading = (scalar_read)

less_one : (t : ℕ) → suc t - 1 ≡ t
less_one t = omega arith

pub constructors_read : (tb : Table) (t : ℕ) (d : List Shape) → t ≢ 0 → t ≤ length tb → constructors tb t ≡ get_or tb (t - 1) d
constructors_read tb zero d n h = absurd (n refl)
constructors_read tb (suc t) d n h = shapes_read tb t d (omega (arith, h)) ∙ ap (λ u. get_or tb u d) (sym (less_one t))

pub fields_at_read : (ss : List Shape) (c : ℕ) (d : Shape) → c < length ss → fields_at ss c ≡ (get_or ss c d).fields
fields_at_read [] c d h = absurd (omega (arith, h))
fields_at_read (s ∷ ss) zero d h = refl
fields_at_read (s ∷ ss) (suc c) d h = fields_at_read ss c d (omega (arith, h))

pub IsNamed_within : (ss : List Shape) (name : List ℕ) (c : ℕ) → IsNamed ss name c → c < length ss
IsNamed_within ss name c (s, e, n) = slice_get_within ss c s e

-- the constructor that was read at i has this name
pub IsNamed_read : (ss : List Shape) (name : List ℕ) (i : ℕ) (s : Shape) → s ≡ get_or ss i s → IsNamed ss name i → s.name ≡ name
IsNamed_read ss name i s e (t, f, n) = ap (λ r. r.name) (e ∙ get_or_from_slice_get ss i t s f) ∙ n

-- one more constructor that hasn't this name
pub IsNamed_none_more : (ss : List Shape) (name : List ℕ) (i : ℕ) (s : Shape) → s ≡ get_or ss i s → (s.name ≡ name → ⊥) → ((d : ℕ) → d < i → IsNamed ss name d → ⊥) → (d : ℕ) → d < i + 1 → IsNamed ss name d → ⊥
IsNamed_none_more ss name i s e other before d h is =
    elim (below_next i d h) [ inl l ↦ before d l is | inr q ↦ other (IsNamed_read ss name i s e (subst (λ k. IsNamed ss name k) q is)) ]
