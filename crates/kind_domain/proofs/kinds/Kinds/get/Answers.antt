use Rattle.std.proofs.Common.{ap, ◌∙◌, subst, get_or, length, ◌<◌}
use Rattle.code_rules.specs.Kinds.{at}
use Rattle.kind_domain.specs.Owners.{number_at, rooted}
use Rattle.kind_domain.specs.Views.{kind_of}
use Rattle.kind_domain.proofs.Naming.{named_get}
use Rattle.kind_domain.proofs.kinds.Kinds.get.Goals as goal

pub returns-in-Some : goal.returns-in-Some
returns-in-Some c = record {
  is = named_get (number_at c.self.inside.owners.items) c.self.inside.items.items c.args.register c.in-Some.known.now
      c.in-Some.known.now (kind_of c.renamed.result)
      (subst (λ xs. c.args.register < length xs) c.deref.ensures.value c.in-Some.ensures.lookup.3.0)
      (c.in-Some.ensures.lookup.1 ∙ ap (λ xs. get_or xs c.args.register c.in-Some.known.now) c.deref.ensures.value)
      (c.renamed.ensures.is ∙ ap (λ os. rooted (number_at os) (kind_of c.in-Some.known.now)) c.deref-in-Some.ensures.value)
      ∙ ap (λ ks. at ks c.args.register) c.self.view_is;
}
