use Rattle.std.proofs.Common.{◌∙◌, ap, nat_eq}
use Rattle.closed_types.specs.Numbering.{with_all}
use Rattle.reached_instances.proofs.numbering.add_next.Goals as goal

pub returns-clause-visited : goal.returns-clause-visited
returns-clause-visited g c = λ r. (c.in_ok-next.next.items, c.in_ok-next.ensures.visited r, c.in_ok-add_all.ensures.added ∙ ap (with_all nat_eq c.args.places.now) c.deref.ensures.value)
