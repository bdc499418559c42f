-- A let without what is after it: its bound expression and its binders.
use Rattle.std.specs.Prelude.{ℕ, List, ◌++◌, Option}
use Rattle.fip_trees.specs.declared.least.Violation.{Violation}
use Rattle.fip_trees.specs.Tree.{Expression}
use Rattle.fip_trees.specs.TreeView.{BoundPart}
use Rattle.type_check.specs.Binders.{all_annotated, annotations, entries}
use Rattle.type_check.specs.Scope.{Scope}
use Rattle.type_check.specs.World.{World}
use Rattle.type_check.specs.Faults.{found, fill, faults, binders_faults}

abbrev pub found_bound : World → Scope → BoundPart → List (Option ℕ)
found_bound w s b = found w s (all_annotated b.binders) (annotations b.binders) b.bound

abbrev pub fill_bound : World → Scope → BoundPart → Expression
fill_bound w s b = fill w s (all_annotated b.binders) (annotations b.binders) b.bound

abbrev pub entries_bound : World → Scope → BoundPart → Scope
entries_bound w s b = entries b.binders (found_bound w s b)

abbrev pub bound_faults : World → ℕ → Scope → BoundPart → List Violation
bound_faults w i s b =
    faults w i s (all_annotated b.binders) (annotations b.binders) b.bound ++
    binders_faults i (all_annotated b.binders) b.binders (found_bound w s b)
