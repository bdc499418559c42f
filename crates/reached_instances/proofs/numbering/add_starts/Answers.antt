use Rattle.std.proofs.Common.{◌∙◌, ap, nat_eq}
use Rattle.closed_types.specs.Numbering.{with_all}
use Rattle.reached_instances.proofs.numbering.add_starts.Goals as goal

pub returns-clause-started : goal.returns-clause-started
returns-clause-started g c = λ r. (c.in_ok-starts.starts.items, c.in_ok-starts.ensures.started r, c.in_ok-add_all.ensures.added ∙ ap (with_all nat_eq c.args.places.now) c.deref.ensures.value)
