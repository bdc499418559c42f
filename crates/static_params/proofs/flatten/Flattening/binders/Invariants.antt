use Rattle.std.proofs.Common.{◌≡◌, ◌++◌, map, drop}
use Rattle.fip_base.specs.CoreView as V
use Rattle.static_params.specs.FlatView.{IsMaking, Stays, making, binder_in}
use Rattle.static_params.proofs.flatten.Flattening.binders.Given as goal

abbrev pub invariant-loop-binder : goal.invariant-loop-binder
invariant-loop-binder l = record {
  stays : IsMaking l.initial.self → Stays l.initial.self l.self;
  row : IsMaking l.initial.self → l.binders.items ++ map (binder_in (making l.initial.self)) (map V.binder (drop l.binder-index l.list)) ≡ map (binder_in (making l.initial.self)) (map V.binder l.list);
}
