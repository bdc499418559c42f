use Rattle.std.proofs.Common.{◌∙◌, ap, map}
use Rattle.fip_base.specs.CoreView.{data_type}
use Rattle.fip_trees.specs.Least.{after}
use Rattle.data_types.specs.Answers.{value_faults}
use Rattle.data_types.proofs.declared.check_values.Goals as goal

pub returns : goal.returns
returns c = (c.in_ok-valued.valued.items, c.in_ok-valued.ensures, c.in_ok-note_unvalued.ensures ∙ ap (λ bs. after c.args.least.now (value_faults 1 bs (map data_type c.args.declared.now))) c.deref.ensures.value)
