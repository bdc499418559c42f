use Rattle.std.proofs.Common.{◌≡◌, ◌++◌, drop, map}
use Rattle.static_params.specs.FlatProgram.{flat_constructor}
use Rattle.static_params.specs.FlatView.{AreNumbers, numbers_at}
use Rattle.reached_instances.specs.closed_types.SharedTrees.{AreWithin, Grows, trees, trees_at}
use Rattle.reached_instances.specs.closed_types.DeclaredView.{constructor}
use Rattle.static_params.proofs.table.data_type.Given as goal

abbrev pub invariant-loop-constructor : goal.invariant-loop-constructor
invariant-loop-constructor l = record {
  grows : AreNumbers l.initial.shared l.numbers → AreWithin l.initial.shared.branches l.given → Grows l.initial.shared.branches l.shared.branches;
  fits : AreNumbers l.initial.shared l.numbers → AreWithin l.initial.shared.branches l.given → l.shared.fits ≡ l.initial.shared.fits;
  row : AreNumbers l.initial.shared l.numbers → AreWithin l.initial.shared.branches l.given → l.constructors.items ++ map (flat_constructor (numbers_at (trees l.initial.shared.branches) l.numbers) (trees_at (trees l.initial.shared.branches) l.given)) (map constructor (drop l.constructor-index l.constructor-items)) ≡ map (flat_constructor (numbers_at (trees l.initial.shared.branches) l.numbers) (trees_at (trees l.initial.shared.branches) l.given)) (map constructor l.constructor-items);
}
