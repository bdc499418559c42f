use Rattle.std.proofs.Common.{map, ap, sym, ◌∙◌}
use Rattle.fip_base.specs.CoreView as V
use Rattle.fip_trees.specs.TreeView as W
use Rattle.static_params.specs.FlatProgram.{flat_argument}
use Rattle.reached_instances.specs.SourceView.{source}
use Rattle.static_params.proofs.Made.{argument_row, row_done}
use Rattle.static_params.proofs.flatten.Flattening.+arguments.Goals as goal

pub arguments-returns : goal.arguments-returns
arguments-returns t c =
    let s = source c.args.self.now.source.now in
    ap W.arguments_of (row_done W.argument (flat_argument s) V.argument c.loop-argument.arguments.items c.args.list.now c.loop-argument.argument-index (map (flat_argument s) (map V.argument c.args.list.now)) c.loop-argument-test.false c.loop-argument.invariant)
    ∙ sym (argument_row s (map V.argument c.args.list.now))
