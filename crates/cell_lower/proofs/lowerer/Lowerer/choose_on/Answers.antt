use Rattle.std.proofs.Common.{sym, subst}
use Rattle.match_knowledge.specs.View.{rows}
use Rattle.lower_parts.specs.Chosen.{ChoosesLaid}
use Rattle.lower_parts.specs.Scenes.{sides_of, ChoosesIf, NotFirst}
use Rattle.lower_parts.specs.Testing.{AreMissed}
use Rattle.lower_parts.specs.Writing.{setting}
use Rattle.lower_parts.proofs.Sided.{none_laid}
use Rattle.lower_parts.proofs.Choosing.{chooses_none, sides_pushed}
use Rattle.cell_lower.proofs.lowerer.Lowerer.choose_on.Goals as goal

pub returns-then-is_written-clause-turn : goal.returns-then-is_written-clause-turn
returns-then-is_written-clause-turn c = chooses_none c.args.self.now.context.now.program.now.types c.args.choice.now c.args.clause c.args.self.now.buffer (sides_of c.args.sides.now.items) (subst (λ x. NotFirst (sides_of x)) c.as_slice.ensures.value (c.is_written.ensures.begun c.if-is_written.true))

pub returns-clause-turn : goal.returns-clause-turn
returns-clause-turn c = subst (λ x. ChoosesIf c.args.self.now.context.now.program.now.types c.args.choice.now c.args.clause c.args.self.now.buffer x c.choose_from.new.self.buffer (sides_of c.choose_from.new.sides.items) c.in_ok-last-in-Some.last) (sym (sides_pushed c.pop.new.self.items c.args.sides.now.items c.in-Some.next c.in-Some.ensures.items)) c.in_ok-last-in-Some.ensures.turn

pub returns-then-is_written-clause-laid : goal.returns-then-is_written-clause-laid
returns-then-is_written-clause-laid c = none_laid (setting c.args.self.now.context.now) c.args.self.now.frame.held c.args.choice.now c.args.clause c.args.self.now.buffer (sides_of c.args.sides.now.items) (subst (λ x. NotFirst (sides_of x)) c.as_slice.ensures.value (c.is_written.ensures.begun c.if-is_written.true))
    (subst (λ x. AreMissed (rows c.args.choice.now.rows.items) c.args.clause (sides_of x)) c.as_slice.ensures.value (c.is_written.ensures.missed c.if-is_written.true))

pub returns-clause-laid : goal.returns-clause-laid
returns-clause-laid c = subst (λ x. ChoosesLaid (setting c.args.self.now.context.now) c.args.self.now.frame.held c.args.choice.now c.args.clause c.args.self.now.buffer x c.choose_from.new.self.buffer (sides_of c.choose_from.new.sides.items) c.in_ok-last-in-Some.last) (sym (sides_pushed c.pop.new.self.items c.args.sides.now.items c.in-Some.next c.in-Some.ensures.items)) c.in_ok-last-in-Some.ensures.laid
