use Rattle.std.proofs.Common.{ap, ◌∙◌, length, refl, set}
use Rattle.kind_domain.specs.Owners.{number_at, rooted}
use Rattle.kind_domain.specs.Views.{kind_of}
use Rattle.kind_domain.proofs.Naming.{names_set, named_set}
use Rattle.kind_domain.proofs.kinds.Kinds.set.Goals as goal

pub invariant_of-self : goal.invariant_of-self
invariant_of-self c =
    names_set (length c.self.inside.items.items) c.self.inside.owners.items c.self.inside.names.items
    c.self.inside.items.items c.args.register c.renamed.result c.self.invariant refl

pub returns-then-place-len : goal.returns-then-place-len
returns-then-place-len c = record {
  is = named_set (length c.self.inside.items.items) c.self.inside.owners.items c.self.inside.names.items c.self.inside.items.items c.args.register
      c.renamed.result (kind_of c.args.known) c.self.invariant
      (c.renamed.ensures.is ∙ ap (λ os. rooted (number_at os) (kind_of c.args.known)) c.deref.ensures.value)
      ∙ ap (λ ks. set ks c.args.register (kind_of c.args.known)) c.self.view_is;
}
