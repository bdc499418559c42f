use Rattle.std.proofs.Common.{rules}
use Rattle.fip_rules.specs.Views.{world_of}
use Rattle.fip_rules.proofs.Views.{lend_literal, lend_scalar, lend_fault}
use Rattle.fip_rules.proofs.walk.lend.Goals as goal

pub returns-then-is_scalar : goal.returns-then-is_scalar
returns-then-is_scalar c = lend_scalar c.args.state.now (world_of c.args.world.now) c.args.argument.now _ _ _ _ _ _ c.in-Constructor.is (search rules)

pub returns-in-Literal : goal.returns-in-Literal
returns-in-Literal c = lend_literal c.args.state.now (world_of c.args.world.now) c.args.argument.now _ _ c.in-Literal.is

pub returns-in_ok-own_all-in-Constructor : goal.returns-in_ok-own_all-in-Constructor
returns-in_ok-own_all-in-Constructor c = lend_fault c.args.state.now c.fault.new.self c.own_all.new.state (world_of c.args.world.now) c.args.argument.now _ _ _ _ _ _ c.in-Constructor.is (search rules) (search rules) (search rules)
