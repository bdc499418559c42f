use Rattle.std.proofs.Common.{◌≡◌, arith}
use Rattle.std.proofs.lemmas.Bool.Decides.{nat_tests}
use Rattle.fip_trees.specs.TreeView.{program}
use Rattle.fip_rules.specs.World.{world}
use Rattle.derivation_check.specs.ScopeView.{frames, scope_of}
use Rattle.derivation_check.proofs.Passing.{plain_constructor}
use Rattle.derivation_check.proofs.values.Walk.is_plain.Goals as goal

pub returns-in-Constructor-clause-complete : goal.returns-in-Constructor-clause-complete
returns-in-Constructor-clause-complete c h =
    let e = plain_constructor c.args.argument.now c.in-Constructor.ty c.in-Constructor.data c.in-Constructor.number c.in-Constructor.name c.in-Constructor.place c.in-Constructor.arguments (world (program c.args.self.now.program.now) c.args.self.now.kind) (scope_of (frames c.args.scope.now)).variables c.in-Constructor.is h in
    let k = c.in-Constructor.arguments.ok.0 in
    let l = c.len.ensures in
    let z : c.len.result ≡ 0 = omega arith in grind (arith, nat_tests)
