use Rattle.std.proofs.Common.{subst}
use Rattle.fip_trees.specs.TreeView.{arguments}
use Rattle.lower_parts.specs.Writing.{setting, target_of, Gives}
use Rattle.lower_parts.proofs.Blocks.{gives_values}
use Rattle.std.proofs.Common.{not}
use Rattle.lower_parts.specs.Laying.{GivesLaid}
use Rattle.lower_parts.proofs.Parted.{gives_values_laid}
use Rattle.cell_lower.proofs.lowerer.Lowerer.give_all.Goals as goal

pub returns-clause-gives : goal.returns-clause-gives
returns-clause-gives c = gives_values (setting c.args.self.now.context.now) c.args.self.now.frame c.values.new.self.frame c.give.new.self.frame c.args.self.now.buffer c.values.new.self.buffer c.give.new.self.buffer (arguments c.args.arguments.now) c.in_ok-registers.registers.items (target_of c.args.target) c.in_ok-registers.ensures.computes (subst (λ x. Gives c.values.new.self.frame c.values.new.self.buffer x (target_of c.args.target) c.give.new.self.frame c.give.new.self.buffer) c.as_slice.ensures.value c.in_ok-give.ensures.gives)

pub returns-clause-laid : goal.returns-clause-laid
returns-clause-laid c = gives_values_laid (setting c.args.self.now.context.now) (not c.args.self.now.gives_up) c.args.self.now.frame c.values.new.self.frame c.give.new.self.frame c.args.self.now.buffer c.values.new.self.buffer c.give.new.self.buffer (arguments c.args.arguments.now) c.in_ok-registers.registers.items (target_of c.args.target) c.in_ok-registers.ensures.computes (subst (λ x. Gives c.values.new.self.frame c.values.new.self.buffer x (target_of c.args.target) c.give.new.self.frame c.give.new.self.buffer) c.as_slice.ensures.value c.in_ok-give.ensures.gives)
    (subst (λ x. GivesLaid (not c.args.self.now.gives_up) c.values.new.self.frame c.values.new.self.buffer x (target_of c.args.target) c.give.new.self.frame c.give.new.self.buffer) c.as_slice.ensures.value
    (subst (λ b. GivesLaid (not b) c.values.new.self.frame c.values.new.self.buffer c.as_slice.result.now (target_of c.args.target) c.give.new.self.frame c.give.new.self.buffer) c.in_ok-registers.ensures.gives_up c.in_ok-give.ensures.laid))
