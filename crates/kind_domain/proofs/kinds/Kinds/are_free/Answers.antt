use Rattle.std.proofs.Common.{ap, ◌∙◌}
use Rattle.code_rules.specs.Kinds.{are_free}
use Rattle.kind_domain.specs.Owners.{number_at}
use Rattle.kind_domain.specs.Views.{kinds_of}
use Rattle.kind_domain.proofs.Naming.{all_free}
use Rattle.kind_domain.proofs.kinds.Kinds.are_free.Goals as goal

pub returns : goal.returns
returns c = record {
  is = c.all_free.ensures.is ∙ ap (λ xs. are_free (kinds_of xs)) c.deref.ensures.value
      ∙ all_free (number_at c.self.inside.owners.items) (kinds_of c.self.inside.items.items)
      ∙ ap are_free c.self.view_is;
}
