use Rattle.std.proofs.Common.{rules, sym, ap, ◌∙◌, ◌<◌, subst, length, get_or}
use Rattle.code_rules.specs.Kinds.{has}
use Rattle.kind_domain.specs.Leading.{Linked}
use Rattle.kind_domain.specs.Views.{row_of}
use Rattle.kind_domain.proofs.LinkLists.{list_get, list_past}
use Rattle.kind_domain.proofs.links.Links.of.Goals as goal

pub returns-in-None : goal.returns-in-None
returns-in-None c = record {
  all = λ q l. sym (ap (λ xs. has xs q) (list_past c.self.inside.lists.items c.args.register (search rules)))
      ∙ subst (λ s. Linked s c.args.register q) (sym c.self.view_is) l c.if-self.false;
}

pub returns-in-Some : goal.returns-in-Some
returns-in-Some c =
    let e = c.deref.ensures.value in
    record {
      all = λ q l. ap (λ xs. has xs q) (c.as_slice.ensures.value
          ∙ ap row_of (c.in-Some.ensures.lookup.1 ∙ ap (λ xs. get_or xs c.args.register c.in-Some.list.now) e)
          ∙ sym (list_get c.self.inside.lists.items c.args.register c.in-Some.list.now
          (subst (λ xs. c.args.register < length xs) e c.in-Some.ensures.lookup.3.0)))
          ∙ subst (λ s. Linked s c.args.register q) (sym c.self.view_is) l c.if-self.false;
    }
