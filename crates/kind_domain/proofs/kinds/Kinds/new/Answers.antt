use Rattle.std.proofs.Common.{length, sym, ◌∙◌}
use Rattle.kind_domain.specs.Owners.{number_at}
use Rattle.kind_domain.proofs.Naming.{all_same, same_names}
use Rattle.kind_domain.specs.Views.{kinds_of}
use Rattle.kind_domain.proofs.kinds.Kinds.new.Goals as goal

pub invariant_of-result : goal.invariant_of-result
invariant_of-result c =
    same_names (length c.args.items.items) c.in_ok-numbers.field-0.items c.in_ok-numbers-2.field-0.items c.in_ok-numbers.ensures.same
    c.in_ok-numbers-2.ensures.same
    (c.in_ok-numbers.ensures.long ∙ sym c.requires.many) (c.in_ok-numbers-2.ensures.long ∙ sym c.requires.many)

pub returns : goal.returns
returns c = record {
  is = all_same (number_at c.in_ok-numbers.field-0.items) c.in_ok-numbers.ensures.same (kinds_of c.args.items.items);
}
