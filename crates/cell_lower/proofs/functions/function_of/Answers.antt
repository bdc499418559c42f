use Rattle.std.proofs.Common.{rules, refl, ap, ◌∙◌}
use Rattle.fip_trees.specs.NeedsView.{needs_of}
use Rattle.fip_trees.specs.TreeView.{instance_of}
use Rattle.lower_parts.specs.Writing.{setting}
use Rattle.cell_lower.proofs.Parts.{code_from}
use Rattle.cell_lower.proofs.Smalls.{small_of}
use Rattle.cell_lower.proofs.Standing.{fip_of, laid_of}
use Rattle.cell_lower.proofs.functions.function_of.Goals as goal

pub returns-clause-code : goal.returns-clause-code
returns-clause-code c = code_from (setting c.args.context.now) (setting c.in_ok-lowerer.lowerer.context.now) c.args.registers (instance_of c.args.instance.now) c.in_ok-lowerer.lowerer.frame c.block.new.self.frame c.in_ok-lowerer.lowerer.buffer c.block.new.self.buffer _ (ap setting c.in_ok-lowerer.ensures.context) c.in_ok-lowerer.ensures.known c.in_ok-lowerer.ensures.empty c.in_ok-block.ensures.writes c.in_ok-instrs.ensures.instrs

pub returns-clause-small : goal.returns-clause-small
returns-clause-small c = small_of (setting c.args.context.now) (setting c.in_ok-lowerer.lowerer.context.now) c.args.registers (instance_of c.args.instance.now) c.in_ok-lowerer.lowerer.frame c.block.new.self.frame c.in_ok-lowerer.lowerer.buffer c.block.new.self.buffer _ _ _ (ap setting c.in_ok-lowerer.ensures.context) c.in_ok-lowerer.ensures.known c.in_ok-lowerer.ensures.empty c.in_ok-block.ensures.writes c.in_ok-instrs.ensures.instrs c.in_ok-instrs.ensures.few refl refl

pub returns-clause-spelt : goal.returns-clause-spelt
returns-clause-spelt c = record { instrs = c.in_ok-instrs.ensures.spelt.0; labels = c.in_ok-instrs.ensures.spelt.1 }

pub returns-clause-laid : goal.returns-clause-laid
returns-clause-laid c = laid_of (setting c.args.context.now) (setting c.in_ok-lowerer.lowerer.context.now) c.in_ok-lowerer.lowerer.gives_up c.args.registers (needs_of c.args.needs.now c.args.number) c.in_ok-lowerer.lowerer.walk.needs.now (instance_of c.args.instance.now) c.in_ok-lowerer.lowerer.frame c.block.new.self.frame c.in_ok-lowerer.lowerer.buffer c.block.new.self.buffer _ (ap setting c.in_ok-lowerer.ensures.context) (c.in_ok-lowerer.ensures.walk ∙ c.of.ensures.held) c.in_ok-lowerer.ensures.known c.in_ok-lowerer.ensures.empty c.in_ok-lowerer.ensures.room
    (fip_of c.args.instance.now.kind c.in_ok-lowerer.lowerer.gives_up c.in_ok-lowerer.ensures.gives_up) c.in_ok-block.ensures.laid c.in_ok-instrs.ensures.instrs c.in_ok-instrs.ensures.maps c.in_ok-instrs.ensures.have c.in_ok-instrs.ensures.opens (search rules)
