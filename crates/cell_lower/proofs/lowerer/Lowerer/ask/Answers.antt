use Rattle.std.proofs.Common.{sym, ◌∙◌}
use Rattle.match_knowledge.specs.View.{row, known}
use Rattle.lower_parts.specs.lower_frame.Positions.{spot_of}
use Rattle.lower_parts.specs.Scenes.{reading_of, side_of, sides_of}
use Rattle.lower_parts.proofs.Choosing.{asks_last, asks_test, sides_pushed, tests_longer}
use Rattle.cell_lower.proofs.lowerer.Lowerer.ask.Goals as goal

pub returns-then-is_last-clause-asks : goal.returns-then-is_last-clause-asks
returns-then-is_last-clause-asks c = asks_last c.args.self.now.context.now.program.now.types c.args.choice.now (row c.args.row.now) c.args.self.now.buffer (known c.args.known.now) (known c.in_ok-yes.yes) c.args.read.now.items (sides_of c.args.sides.now.items) (sym c.is_last.ensures ∙ c.if-is_last.true) c.in_ok-yes.ensures

pub returns-clause-asks : goal.returns-clause-asks
returns-clause-asks c = asks_test c.args.self.now.context.now.program.now.types c.args.choice.now (row c.args.row.now) c.args.self.now.buffer c.test.new.self.buffer (known c.args.known.now) (known c.in_ok-yes.yes) c.args.read.now.items c.test.new.read.items (sides_of c.args.sides.now.items) (sides_of c.push.new.self.items) (side_of c.in_ok-failed.failed) (sym c.is_last.ensures ∙ c.if-is_last.false) c.in_ok-failed.ensures.tests (sides_pushed c.args.sides.now.items c.push.new.self.items c.in_ok-failed.failed c.in_ok-push.ensures.items) c.in_ok-yes.ensures

pub returns-clause-grows : goal.returns-clause-grows
returns-clause-grows c = tests_longer (row c.args.row.now) (known c.args.known.now) (spot_of c.args.choice.now.root) (reading_of c.args.self.now.buffer c.args.read.now.items) c.test.new.self.buffer c.test.new.read.items (side_of c.in_ok-failed.failed) c.in_ok-failed.ensures.tests
