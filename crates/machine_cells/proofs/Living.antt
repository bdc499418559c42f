-- A cell that is released is live no more.
use Rattle.std.proofs.Common.{◌≡◌, ◌≢◌, ℕ, zero, suc, ◌+◌, Bool, true, false, List, [], ◌∷◌, Option, Some, None, refl, arith, slice_get, slice_set}
use Rattle.std.proofs.lemmas.Option.{none-some, same_Some}
use Rattle.fip_language.specs.Store.{Cell}
use Rattle.cell_store.specs.Cells.{Cells, cell_at, size_in, size_of}
use Rattle.std.specs.Prelude.{option_map}
use Rattle.machine_cells.specs.Live.{number_live}

pub one_less : (cs : Cells) (rs : List Bool) (p : ℕ) → cell_at cs p ≢ None → slice_get rs p ≡ Some false → number_live cs (slice_set rs p true) + 1 ≡ number_live cs rs
one_less [] rs p h r = absurd (h refl)
one_less (o ∷ cs) [] p h r = absurd (none-some false r)
one_less (None ∷ cs) (b ∷ rs) zero h r = absurd (h refl)
one_less (Some c ∷ cs) (true ∷ rs) zero h r = absurd cc
one_less (Some c ∷ cs) (false ∷ rs) zero h r = omega arith
one_less (None ∷ cs) (b ∷ rs) (suc p) h r = one_less cs rs p h r
one_less (Some c ∷ cs) (true ∷ rs) (suc p) h r = one_less cs rs p h r
one_less (Some c ∷ cs) (false ∷ rs) (suc p) h r = let l = one_less cs rs p h r in omega (arith, l)

-- the size that was read, as a bound of the fields
pub size_read : (o : Option Cell) (k : ℕ) → option_map size_of o ≡ Some k → size_in o ≡ k
size_read None k e = absurd (none-some k e)
size_read (Some c) k e = same_Some (size_of c) k e
