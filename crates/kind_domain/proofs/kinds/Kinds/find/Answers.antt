use Rattle.std.proofs.Common.{ap, ◌∙◌, ◌∷◌, ◌+◌, ◌≡◌, subst, drop, get_or, length, ◌<◌}
use Rattle.kind_domain.specs.Owners.{number_at, rooted}
use Rattle.kind_domain.specs.Views.{kind_of}
use Rattle.kind_domain.proofs.Naming.{named_drop}
use Rattle.kind_domain.proofs.kinds.Kinds.find.Goals as goal

pub returns-in-Some-clause-some : goal.returns-in-Some-clause-some
returns-in-Some-clause-some c =
    subst (λ ks. drop c.args.place ks ≡ kind_of c.renamed.result ∷ drop (c.args.place + 1) ks) c.self.view_is
    (named_drop (number_at c.self.inside.owners.items) c.self.inside.items.items c.args.place c.in-Some.known.now
    c.in-Some.known.now (kind_of c.renamed.result)
    (subst (λ xs. c.args.place < length xs) c.deref.ensures.value c.in-Some.ensures.lookup.3.0)
    (c.in-Some.ensures.lookup.1 ∙ ap (λ xs. get_or xs c.args.place c.in-Some.known.now) c.deref.ensures.value)
    (c.renamed.ensures.is ∙ ap (λ os. rooted (number_at os) (kind_of c.in-Some.known.now)) c.deref-in-Some.ensures.value))
