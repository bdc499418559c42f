-- It serves the proofs on lowered code: what is known after a credit, or a constructor that was matched, is taken, what
-- is known at both of two places, and what a verifier is reported of the registers.
use Rattle.std.specs.Prelude.{◌≡◌, ◌⊎◌, ℕ, List, [], ◌∷◌, ◌++◌, Option, Some, None, map, slice_get, slice_set}
use Rattle.cell_code.specs.fip_language.Table.{Table}
use Rattle.cell_code.specs.declared.kind.Kind.{Kind}
use Rattle.lowering_relation.specs.declared.held.Held.{Held}
use Rattle.lowering_relation.specs.declared.held.Held.TheVariants as H
use Rattle.lowering_relation.specs.declared.held.Credit.{Credit}
use Rattle.lowering_relation.specs.Known.{Known, joined, holding, IsTaken}
use Rattle.lowering_relation.specs.Credits.{of_size}
use Rattle.lowering_relation.specs.Describing.{held_at, kind_of}
use Rattle.lowering_relation.specs.Matches.{widened}
use Rattle.lower_frame.specs.Credits.{Accounted}

abbrev pub HasSize : ℕ → Option Credit → Type 0
HasSize n None = ⊥
HasSize n (Some c) = c.size ≡ n

-- a credit of size n, in register r, the last of its size
pub record Takes (k : Known) (n r : ℕ) (l : Known) : Type 0 where
  pub rest : List Credit
  pub taken : IsTaken k.credits n r rest
  pub last : Accounted k → of_size n k.credits ≡ of_size n rest ++ r ∷ []
  pub known : l ≡ record k { held = slice_set k.held r H.Nothing; credits = rest }

-- a constructor without fields, in register r
pub record TakesBare (k : Known) (t c r : ℕ) (l : Known) : Type 0 where
  pub there : slice_get k.held r ≡ Some (H.Bare t c)
  pub known : l ≡ holding k r H.Nothing

-- what is known at both of two places

-- it is x where y is the same, and else it is nothing
abbrev pub IsBoth : {A : Type 0} → A → A → A → A → Type 0
IsBoth nothing x y both = ((x ≡ y) × (both ≡ x)) ⊎ ((x ≡ y → ⊥) × (both ≡ nothing))

-- of each register
pub record HeldByBoth (hs gs both : List Held) : Type 0 where
  pub by : (r : ℕ) → IsBoth H.Nothing (held_at hs r) (held_at gs r) (held_at both r)

-- of the register of each variable
pub record NamedByBoth (ns ms both : List (Option ℕ)) : Type 0 where
  pub by : (x : ℕ) → IsBoth None (joined (slice_get ns x)) (joined (slice_get ms x)) (joined (slice_get both x))

-- the kind of a register that holds this, where its tree may have each constructor of its type
abbrev pub kind_reported : Table → Held → Kind
kind_reported w h = kind_of w (widened h)

abbrev pub kinds_reported : Table → List Held → List Kind
kinds_reported w hs = map (kind_reported w) hs
