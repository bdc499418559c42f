use Rattle.fip_trees.specs.TreeView.{argument}
use Rattle.lower_parts.specs.Writing.{setting, target_of}
use Rattle.lower_parts.proofs.Blocks.{writes_give}
use Rattle.std.proofs.Common.{subst, not, [], ◌∷◌}
use Rattle.lower_parts.specs.Laying.{GivesLaid}
use Rattle.lower_parts.proofs.Parted.{gives_one_laid}
use Rattle.cell_lower.proofs.lowerer.Lowerer.give_one.Goals as goal

pub returns-clause-writes : goal.returns-clause-writes
returns-clause-writes c = writes_give (setting c.args.self.now.context.now) c.args.self.now.frame c.value.new.self.frame c.give.new.self.frame c.args.self.now.buffer c.value.new.self.buffer c.give.new.self.buffer (argument c.args.argument.now) c.in_ok-register.register (target_of c.args.target) c.in_ok-register.ensures.computes c.in_ok-give.ensures.gives

pub returns-clause-laid : goal.returns-clause-laid
returns-clause-laid c = gives_one_laid (setting c.args.self.now.context.now) (not c.args.self.now.gives_up) c.args.self.now.frame c.value.new.self.frame c.give.new.self.frame c.args.self.now.buffer c.value.new.self.buffer c.give.new.self.buffer (argument c.args.argument.now) c.in_ok-register.register (target_of c.args.target) c.in_ok-register.ensures.computes c.in_ok-give.ensures.gives
    (subst (λ b. GivesLaid (not b) c.value.new.self.frame c.value.new.self.buffer (c.in_ok-register.register ∷ []) (target_of c.args.target) c.give.new.self.frame c.give.new.self.buffer) c.in_ok-register.ensures.gives_up c.in_ok-give.ensures.laid)
