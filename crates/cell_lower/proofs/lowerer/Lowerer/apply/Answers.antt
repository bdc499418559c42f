use Rattle.std.proofs.Common.{subst}
use Rattle.std.specs.Borrow.{Bor}
use Rattle.lower_parts.specs.declared.context.Context.{Context}
use Rattle.lower_parts.specs.Writing.{setting, target_of, CallsAt}
use Rattle.fip_trees.specs.TreeView.{arguments}
use Rattle.lower_parts.proofs.Blocks.{applies_to}
use Rattle.std.proofs.Common.{not}
use Rattle.lower_parts.specs.Laying.{CallsLaid}
use Rattle.lower_parts.proofs.Parted.{applies_laid}
use Rattle.cell_lower.proofs.lowerer.Lowerer.apply.Goals as goal

pub returns-clause-applies : goal.returns-clause-applies
returns-clause-applies c = applies_to (setting c.args.self.now.context.now) c.args.self.now.frame c.values.new.self.frame c.call.new.self.frame c.args.self.now.buffer c.values.new.self.buffer c.call.new.self.buffer c.args.callee (arguments c.args.arguments.now) c.in_ok-registers.registers.items (target_of c.args.target) c.in_ok-registers.ensures.computes (subst (λ (x : Bor Context). CallsAt (setting x.now) c.values.new.self.frame c.values.new.self.buffer c.args.callee c.in_ok-registers.registers.items (target_of c.args.target) c.call.new.self.frame c.call.new.self.buffer) c.in_ok-registers.ensures.context c.in_ok-call.ensures.calls)

pub returns-clause-laid : goal.returns-clause-laid
returns-clause-laid c = applies_laid (setting c.args.self.now.context.now) (not c.args.self.now.gives_up) c.args.self.now.frame c.values.new.self.frame c.call.new.self.frame c.args.self.now.buffer c.values.new.self.buffer c.call.new.self.buffer c.args.callee (arguments c.args.arguments.now) c.in_ok-registers.registers.items (target_of c.args.target) c.in_ok-registers.ensures.computes (subst (λ (x : Bor Context). CallsAt (setting x.now) c.values.new.self.frame c.values.new.self.buffer c.args.callee c.in_ok-registers.registers.items (target_of c.args.target) c.call.new.self.frame c.call.new.self.buffer) c.in_ok-registers.ensures.context c.in_ok-call.ensures.calls)
    (subst (λ (x : Bor Context). CallsLaid (setting x.now) (not c.args.self.now.gives_up) c.values.new.self.frame c.values.new.self.buffer c.args.callee c.in_ok-registers.registers.items (target_of c.args.target) c.call.new.self.frame c.call.new.self.buffer) c.in_ok-registers.ensures.context
    (subst (λ b. CallsLaid (setting c.values.new.self.context.now) (not b) c.values.new.self.frame c.values.new.self.buffer c.args.callee c.in_ok-registers.registers.items (target_of c.args.target) c.call.new.self.frame c.call.new.self.buffer) c.in_ok-registers.ensures.gives_up c.in_ok-call.ensures.laid))
