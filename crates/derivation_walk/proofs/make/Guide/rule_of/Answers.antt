use Rattle.std.proofs.Common.{rules, ◌≡◌, length, false}
use Rattle.std.specs.Prelude.{◌==◌}
use Rattle.derivation_walk.specs.Guides.{guided}
use Rattle.derivation_walk.proofs.WalkSteps.{some_rule}
use Rattle.derivation_walk.proofs.make.Guide.rule_of.Goals as goal

pub returns-else-is_empty : goal.returns-else-is_empty
returns-else-is_empty c =
    let e : false ≡ (length c.in-Constructor.arguments.items == 0) = search rules in
    some_rule (guided c.args.self.now) c.args.argument.now c.in-Constructor.ty c.in-Constructor.data c.in-Constructor.number c.in-Constructor.name c.in-Constructor.place c.in-Constructor.arguments c.in-Constructor.is e
