use Rattle.std.proofs.Common.{◌≡◌, ◌++◌, drop}
use Rattle.match_cover.specs.FoundView.{found_binders}
use Rattle.match_cover.proofs.shapes.lent.Given as goal

abbrev pub invariant-loop-binder : goal.invariant-loop-binder
invariant-loop-binder l = found_binders l.lent.items ++ drop l.binder-index l.binders ≡ l.binders
