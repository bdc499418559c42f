use Rattle.std.proofs.Common.{subst}
use Rattle.std.specs.Borrow.{Bor}
use Rattle.lower_parts.specs.declared.context.Context.{Context}
use Rattle.lower_parts.specs.Writing.{setting, target_of, Computes}
use Rattle.fip_trees.specs.TreeView.{argument}
use Rattle.lower_parts.proofs.Blocks.{writes_operation}
use Rattle.std.proofs.Common.{not, ◌∙◌}
use Rattle.lower_parts.specs.Laying.{OperatesLaid}
use Rattle.lower_parts.proofs.Parted.{applied_laid}
use Rattle.cell_lower.proofs.lowerer.Lowerer.operate.Goals as goal

pub returns-clause-writes : goal.returns-clause-writes
returns-clause-writes c =
    writes_operation (setting c.args.self.now.context.now) c.args.self.now.frame c.value.new.self.frame c.value-2.new.self.frame c.operation.new.self.frame c.args.self.now.buffer c.value.new.self.buffer c.value-2.new.self.buffer c.operation.new.self.buffer c.args.applied.operator c.args.applied.place (argument c.args.left.now) (argument c.args.right.now) c.in_ok-first.first c.in_ok-second.second (target_of c.args.target) c.in_ok-first.ensures.computes
    (subst (λ (x : Bor Context). Computes (setting x.now) c.value.new.self.frame c.value.new.self.buffer (argument c.args.right.now) c.in_ok-second.second c.value-2.new.self.frame c.value-2.new.self.buffer) c.in_ok-first.ensures.context c.in_ok-second.ensures.computes)
    c.in_ok-operation.ensures.operates

pub returns-clause-laid : goal.returns-clause-laid
returns-clause-laid c =
    applied_laid (setting c.args.self.now.context.now) (not c.args.self.now.gives_up) c.args.self.now.frame c.value.new.self.frame c.value-2.new.self.frame c.operation.new.self.frame c.args.self.now.buffer c.value.new.self.buffer c.value-2.new.self.buffer c.operation.new.self.buffer c.args.applied.operator c.args.applied.place (argument c.args.left.now) (argument c.args.right.now) c.in_ok-first.first c.in_ok-second.second (target_of c.args.target) c.in_ok-first.ensures.computes
    (subst (λ (x : Bor Context). Computes (setting x.now) c.value.new.self.frame c.value.new.self.buffer (argument c.args.right.now) c.in_ok-second.second c.value-2.new.self.frame c.value-2.new.self.buffer) c.in_ok-first.ensures.context c.in_ok-second.ensures.computes)
    c.in_ok-operation.ensures.operates
    (subst (λ b. OperatesLaid (not b) c.value-2.new.self.frame c.value-2.new.self.buffer c.args.applied.operator c.args.applied.place c.in_ok-first.first c.in_ok-second.second (target_of c.args.target) c.operation.new.self.frame c.operation.new.self.buffer) (c.in_ok-second.ensures.gives_up ∙ c.in_ok-first.ensures.gives_up) c.in_ok-operation.ensures.laid)
