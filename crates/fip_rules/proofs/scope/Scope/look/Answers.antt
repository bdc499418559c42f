use Rattle.std.proofs.Common.{arith, sym, ap, ◌∙◌}
use Rattle.fip_rules.specs.Stands.{find}
use Rattle.fip_rules.proofs.Scopes.{last_inside, find_some, find_none}
use Rattle.fip_rules.proofs.scope.Scope.look.Goals as goal

pub index-requires : goal.index-requires
index-requires c =
    let l = last_inside c.self.inside.entries.items c.self.inside.numbers c.args.number c.in-Some.place c.self.invariant c.in-Some.ensures.place in
    let ok = c.self.inside.entries.ok.0 in
    omega (arith, l, ok)

pub returns-in-Some : goal.returns-in-Some
returns-in-Some c = record { found = find_some c.self.inside.entries.items c.self.inside.numbers c.args.number c.in-Some.place c.index.result.now c.self.invariant c.in-Some.ensures.place c.index.ensures ∙ ap (λ es. find es c.args.number) c.self.view_is }

pub returns-in-None : goal.returns-in-None
returns-in-None c = record { found = find_none c.self.inside.entries.items c.self.inside.numbers c.args.number c.self.invariant (sym c.in-None.ensures.place) ∙ ap (λ es. find es c.args.number) c.self.view_is }
