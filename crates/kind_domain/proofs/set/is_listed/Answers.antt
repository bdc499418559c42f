use Rattle.std.proofs.Common.{◌∙◌}
use Rattle.std.proofs.lemmas.List.Sorted.{searched}
use Rattle.kind_domain.proofs.Sets.{rise_order, found_is}
use Rattle.kind_domain.proofs.set.is_listed.Goals as goal

pub returns : goal.returns
returns c = record {
  is = λ h. c.is_ok.ensures.value ∙ found_is c.args.numbers.now c.args.number c.binary_search.result
      (searched c.args.numbers.now c.args.number c.binary_search.result c.binary_search.ensures.position
      (rise_order 0 c.args.numbers.now h));
}
