-- What a loader holds is a store of a run.
use Rattle.std.proofs.Common.{◌≡◌, ◌≢◌, ◌<◌, ◌≤◌, ℕ, zero, suc, Bool, true, false, List, [], ◌∷◌, length, Option, Some, None, slice_get, refl, subst, arith}
use Rattle.fip_machine.specs.fip_language.Every.{Every}
use Rattle.fip_machine.specs.fip_language.Store.{Cell}
use Rattle.fip_machine.specs.cell_store.Cells as L
use Rattle.fip_machine.specs.cell_store.Made.{Loading}
use Rattle.fip_machine.specs.machine_cells.Small.{store_of}
use Rattle.separation.specs.machine_semantics.Cells.{IsSized, IsStore, cell_in, one_if_some, one_if_true}

pub same_cell : (cs : List (Option Cell)) (p : ℕ) → L.cell_at cs p ≡ cell_in cs p
same_cell [] p = refl
same_cell (o ∷ os) zero = refl
same_cell (o ∷ os) (suc p) = same_cell os p

every_sized : (cs : L.Cells) → ((p : ℕ) (c : Cell) → L.cell_at cs p ≡ Some c → (0 < L.size_of c) × (L.size_of c ≤ 16)) → Every IsSized cs
every_sized [] h = tt
every_sized (None ∷ os) h = (tt, every_sized os (λ p. h (suc p)))
every_sized (Some c ∷ os) h = (h 0 c refl, every_sized os (λ p. h (suc p)))

one_at_most : (o : Option Cell) (r : Option Bool) → (r ≡ Some true → o ≢ None) → one_if_true r ≤ one_if_some o
one_at_most o None h = omega arith
one_at_most o (Some false) h = omega arith
one_at_most None (Some true) h = absurd (h refl refl)
one_at_most (Some c) (Some true) h = omega arith

pub store_is : (l : Loading) → length l.released ≡ length l.cells → ((p : ℕ) (c : Cell) → L.cell_at l.cells p ≡ Some c → (0 < L.size_of c) × (L.size_of c ≤ 16)) → ((p : ℕ) → slice_get l.released p ≡ Some true → L.cell_at l.cells p ≢ None) → IsStore (store_of l.cells l.released)
store_is l flags sized cells = record {
  sized = every_sized l.cells sized;
  wide = flags;
  of_cells = λ p. subst (λ o. one_if_true (slice_get l.released p) ≤ one_if_some o) (same_cell l.cells p) (one_at_most (L.cell_at l.cells p) (slice_get l.released p) (cells p));
}
