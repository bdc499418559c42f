-- A flag for each type of a table.
use Rattle.std.proofs.Common.{◌≡◌, ℕ, zero, suc, ◌<◌, ◌≤◌, ◌⊎◌, inl, inr, List, [], ◌∷◌, ◌++◌, length, get_or, Bool, true, refl, sym, ap, ◌∙◌, arith}
use Rattle.fip_base.specs.fip_language.Table.{Table, shapes, is_scalar, all_bare}
use Rattle.fip_base.proofs.fip_language.Facts.{less_or_not as within}

-- what the list has is right
abbrev pub Flags : Table → List Bool → Type 0
Flags tb xs = (t : ℕ) → t < length xs → get_or xs t true ≡ is_scalar tb t

at_end : (xs : List Bool) (b : Bool) (t : ℕ) → t < length (xs ++ b ∷ []) → ((t < length xs) × (get_or (xs ++ b ∷ []) t true ≡ get_or xs t true)) ⊎ ((t ≡ length xs) × (get_or (xs ++ b ∷ []) t true ≡ b))
at_end [] b zero h = inr (refl, refl)
at_end [] b (suc t) h = absurd (omega arith)
at_end (x ∷ xs) b zero h = inl (omega arith, refl)
at_end (x ∷ xs) b (suc t) h = elim (at_end xs b t (omega arith)) [ inl g ↦ inl (let k = g.0 in omega arith, g.1) | inr g ↦ inr (ap suc g.0, g.1) ]

pub flags_push : (tb : Table) (xs : List Bool) (b : Bool) → Flags tb xs → b ≡ is_scalar tb (length xs) → Flags tb (xs ++ b ∷ [])
flags_push tb xs b f e t h = elim (at_end xs b t h) as (λ r. get_or (xs ++ b ∷ []) t true ≡ is_scalar tb t) [
  | inl g ↦ g.1 ∙ f t g.0
  | inr g ↦ g.1 ∙ e ∙ ap (is_scalar tb) (sym g.0)
]

none_there : (tb : Table) (t : ℕ) → length tb ≤ t → shapes tb t ≡ []
none_there [] t h = refl
none_there (r ∷ rs) zero h = absurd (omega arith)
none_there (r ∷ rs) (suc t) h = none_there rs t (omega arith)

past : (xs : List Bool) (t : ℕ) → length xs ≤ t → get_or xs t true ≡ true
past [] t h = refl
past (x ∷ xs) zero h = absurd (omega arith)
past (x ∷ xs) (suc t) h = past xs t (omega arith)

past_scalar : (tb : Table) (t : ℕ) → length tb < t → is_scalar tb t ≡ true
past_scalar tb zero h = absurd (omega arith)
past_scalar tb (suc t) h = ap all_bare (none_there tb t (omega arith))

-- and with all types in it, so is what it has for any number
pub flags_all : (tb : Table) (xs : List Bool) → Flags tb xs → length tb < length xs → (t : ℕ) → get_or xs t true ≡ is_scalar tb t
flags_all tb xs f h t = elim (within t (length xs)) as (λ r. get_or xs t true ≡ is_scalar tb t) [
  | inl g ↦ f t g
  | inr g ↦ past xs t g ∙ sym (past_scalar tb t (omega arith))
]
