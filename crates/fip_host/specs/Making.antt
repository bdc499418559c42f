-- Making cells of a store.
use Rattle.std.specs.Prelude.{◌≡◌, ℕ, ◌+◌, ◌*◌, List, [], ◌∷◌, ◌++◌, ◌⊎◌, replicate}
use Rattle.fip_machine.specs.cell_store.Made.{Loading, IsRetaken, IsAppended}

-- A cell was made, in the place of a released one of its size or after all others, and this is its word.
pub record IsMade (old new : Loading) (tag : ℕ) (fields : List ℕ) (word : ℕ) : Type 0 where
  pub place : ℕ
  pub is : word ≡ 2 * place + 1
  pub made : IsRetaken old new place (record { tag = tag; fields = fields })
      ⊎ IsAppended old new place (record { tag = tag; fields = fields })

-- Cells with constructor and fields 0 were made, one after another, of these sizes, and these are their words.
abbrev pub AreMade : List ℕ → List ℕ → Loading → Loading → Type 0
AreMade [] [] old new = new ≡ old
AreMade [] (w ∷ ws) old new = ⊥
AreMade (k ∷ ks) [] old new = ⊥
AreMade (k ∷ ks) (w ∷ ws) old new = (next : Loading) × IsMade old next 0 (replicate k 0) w × AreMade ks ws next new

-- Words of such cells stand after the old words.
pub record HasMade (sizes old new : List ℕ) (first last : Loading) : Type 0 where
  pub more : List ℕ
  pub is : new ≡ old ++ more
  pub made : AreMade sizes more first last
