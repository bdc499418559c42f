-- A change of the cells of a run, as a store is reported of it: a write of Cons(2, Nil) into cell 0 is Overwritten 0 1
-- (2 ∷ 0 ∷ []), and the release of cell 0 is Released 0.
use Rattle.machine_semantics.specs.Cells.{Change, Write, Release}
use Rattle.cell_store.specs.Reported.{Reported, Overwritten, Released}

abbrev pub as_reported : Change → Reported
as_reported (Write place tag fields) = Overwritten place tag fields
as_reported (Release place) = Released place
