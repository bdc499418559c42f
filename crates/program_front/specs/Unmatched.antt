-- What a report of the phases before those on ownership says beside its rule: the types and the matches of the source
-- aren't right.
--
-- `data ints { Nil; Cons(int, ints) }` with `fip fun drop(x: ints): int { 0 }` breaks E52 alone: its types and matches
-- are right, so none of these phases reports it.
use Rattle.std.specs.Prelude.{ℕ, List}
use Rattle.fip_base.specs.declared.refusal.PhaseError.{PhaseError}
use Rattle.fip_base.specs.declared.refusal.PhaseError.TheVariants.{Refused, NoMemory}
use Rattle.fip_trees.specs.Tree.{Program}
use Rattle.source_report.specs.Report.{IsMatched}

abbrev pub IsUnmatched : List ℕ → PhaseError → Type 0
IsUnmatched source (Refused r) = (p : Program) → IsMatched source p → ⊥
IsUnmatched source NoMemory = Unit {0}
