use Rattle.std.proofs.Common.{rules, ap, subst, length, ◌∙◌, ◌<◌, get_or}
use Rattle.fip_trees.specs.NeedsView.{needs_of}
use Rattle.fip_trees.proofs.NeedsLists.{held_some, held_none}
use Rattle.fip_trees.proofs.needs.Needs.of.Goals as goal

pub returns-in-Some : goal.returns-in-Some
returns-in-Some c =
    let e = c.deref.ensures.value in
    record {
      held = c.as_slice.ensures.value
          ∙ held_some c.self.inside.instances.items c.args.instance c.in-Some.needs.now (subst (λ xs. c.args.instance < length xs) e c.in-Some.ensures.lookup.3.0) (c.in-Some.ensures.lookup.1 ∙ ap (λ xs. get_or xs c.args.instance c.in-Some.needs.now) e)
          ∙ ap (λ q. needs_of q c.args.instance) c.self.view_is;
    }

pub returns-in-None : goal.returns-in-None
returns-in-None c = record { held = held_none c.self.inside.instances.items c.args.instance (search rules) ∙ ap (λ q. needs_of q c.args.instance) c.self.view_is }
