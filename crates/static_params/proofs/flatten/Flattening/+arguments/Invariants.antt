use Rattle.std.proofs.Common.{◌≡◌, ◌++◌, map, drop}
use Rattle.fip_base.specs.CoreView as V
use Rattle.fip_trees.specs.TreeView as W
use Rattle.static_params.specs.FlatProgram.{flat_argument}
use Rattle.reached_instances.specs.SourceView.{source}
use Rattle.static_params.proofs.flatten.Flattening.+arguments.Given as goal

abbrev pub invariant-arguments-loop-argument : goal.invariant-arguments-loop-argument
invariant-arguments-loop-argument l = map W.argument l.arguments.items ++ map (flat_argument (source l.self.source.now)) (map V.argument (drop l.argument-index l.list)) ≡ map (flat_argument (source l.self.source.now)) (map V.argument l.list)
