use Rattle.std.proofs.Common.{ap, ◌∙◌, length}
use Rattle.fip_trees.specs.TreeView.{patterns}
use Rattle.lower_parts.specs.lowering_relation.Spots as S
use Rattle.cell_code.specs.declared.code.Instr.TheVariants as I
use Rattle.lower_parts.specs.lowering_relation.Written.{added}
use Rattle.lower_parts.specs.lowering_relation.Opening.{as_many}
use Rattle.lower_parts.specs.lower_frame.Positions.{spot_of, spots_of}
use Rattle.lower_parts.proofs.Folding.{taken_cell, nonempty, register_is, fields_are}
use Rattle.cell_lower.proofs.lowerer.Lowerer.take_cell.Goals as goal

pub returns-clause-takes : goal.returns-clause-takes
returns-clause-takes c = taken_cell (S.register (spot_of c.args.spot.now)) c.args.patterns.now (S.fields (spot_of c.args.spot.now)) c.args.self.now.buffer c.add.new.self c.in_ok-registers_of.field-0 (nonempty (length c.args.patterns.now) c.is_empty.result c.is_empty.ensures c.if-is_empty.false) (c.in_ok-registers_of.ensures.registers ∙ ap (λ x. as_many (patterns c.args.patterns.now) (spots_of x)) c.as_slice.ensures.value ∙ ap (as_many (patterns c.args.patterns.now)) (fields_are c.args.spot.now)) (c.in_ok-add.ensures.added ∙ ap (λ x. added c.args.self.now.buffer (I.Take x c.in_ok-registers_of.field-0)) (register_is c.args.spot.now))
