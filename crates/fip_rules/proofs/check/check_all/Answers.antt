use Rattle.std.proofs.Common.{None, ap, ◌∙◌, map}
use Rattle.fip_trees.specs.Least.{after}
use Rattle.fip_trees.specs.TreeView.{program, instances}
use Rattle.fip_rules.specs.Marks.{reported}
use Rattle.fip_rules.specs.Noted.{all_notes}
use Rattle.fip_rules.specs.Views.{flag}
use Rattle.fip_rules.proofs.Whole.{same_notes}
use Rattle.fip_rules.proofs.check.check_all.Goals as goal

pub returns : goal.returns
returns c =
    c.in_ok-least.ensures
    ∙ ap (λ ds. after None (map reported (all_notes (flag c.in_ok-scalars.scalars) (instances ds) 0 (instances ds)))) c.deref.ensures.value
    ∙ ap (λ vs. after None (map reported vs)) (same_notes (program c.args.program.now) (flag c.in_ok-scalars.scalars) c.in_ok-scalars.ensures.exact)
