use Rattle.std.proofs.Common.{◌∙◌, List, map, ap}
use Rattle.fip_trees.specs.TreeView.{counts_row}
use Rattle.fip_trees.specs.declared.decls.DeclaredConstructor.{DeclaredConstructor}
use Rattle.static_params.specs.FlatProgram.{count_tys, field_counts}
use Rattle.reached_instances.specs.closed_types.Source.{Constructor}
use Rattle.reached_instances.specs.closed_types.DeclaredView.{constructor, declared}
use Rattle.static_params.proofs.Made.{row_goes}
use Rattle.static_params.proofs.specialised.field_counts_of.Goals as goal

pub loop-declared-preserved : goal.loop-declared-preserved
loop-declared-preserved c =
    row_goes counts_row field_counts declared c.loop-declared.counts.items c.push.new.self.items c.args.types.now c.loop-declared.declared-index c.declared-item.result c.in_ok-row.row (map field_counts (map declared c.args.types.now)) c.loop-declared-test.true c.declared-item.is c.in_ok-push.ensures.items
    (c.in_ok-row.ensures ∙ ap (λ (l : List DeclaredConstructor). map (λ (k : Constructor). count_tys k.fields) (map constructor l)) c.deref.ensures.value) c.loop-declared.invariant
