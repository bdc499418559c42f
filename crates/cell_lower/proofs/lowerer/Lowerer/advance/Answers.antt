use Rattle.std.proofs.Common.{subst, arith}
use Rattle.match_knowledge.specs.View.{rows, known}
use Rattle.lower_parts.specs.Scenes.{sides_of, reading_of, IsFirstOf}
use Rattle.lower_parts.proofs.Choosing.{advances_asks, advances_chosen, chosen_at, chosen_there, asks_fewer, settles_longer}
use Rattle.cell_lower.proofs.lowerer.Lowerer.advance.Goals as goal

pub returns-in_ok-settle-in-Chosen-clause-advances : goal.returns-in_ok-settle-in-Chosen-clause-advances
returns-in_ok-settle-in-Chosen-clause-advances c = advances_chosen c.args.self.now.context.now.program.now.types c.args.choice.now c.args.self.now.buffer c.settle.new.self.buffer (known c.args.known.now) c.args.read.now.items c.settle.new.read.items (sides_of c.args.sides.now.items) c.in-Chosen.clause (subst (IsFirstOf (rows c.args.choice.now.rows.items) (known c.args.known.now)) c.in-Chosen.is c.in_ok-clause.ensures.first) c.in_ok-settle-in-Chosen.ensures.settles

pub returns-in_ok-ask-in-Asks-clause-advances : goal.returns-in_ok-ask-in-Asks-clause-advances
returns-in_ok-ask-in-Asks-clause-advances c = advances_asks c.args.self.now.context.now.program.now.types c.args.choice.now c.args.self.now.buffer c.ask.new.self.buffer (known c.args.known.now) (known c.ask.new.known) c.args.read.now.items c.ask.new.read.items (sides_of c.args.sides.now.items) (sides_of c.ask.new.sides.items) c.in-Asks.row (subst (IsFirstOf (rows c.args.choice.now.rows.items) (known c.args.known.now)) c.in-Asks.is c.in_ok-clause.ensures.first) c.in_ok-ask-in-Asks.ensures.asks

pub settle-requires : goal.settle-requires
settle-requires c = record { there = let a = chosen_there c.args.choice.now.rows.items (known c.args.known.now) c.in-Chosen.clause (subst (IsFirstOf (rows c.args.choice.now.rows.items) (known c.args.known.now)) c.in-Chosen.is c.in_ok-clause.ensures.first) in let b = c.requires.whole.patterns in omega (arith, a, b) }

pub ask-requires : goal.ask-requires
ask-requires c = record { asks = (subst (IsFirstOf (rows c.args.choice.now.rows.items) (known c.args.known.now)) c.in-Asks.is c.in_ok-clause.ensures.first).2 }

pub returns-in_ok-settle-in-Chosen-clause-there : goal.returns-in_ok-settle-in-Chosen-clause-there
returns-in_ok-settle-in-Chosen-clause-there c i e = chosen_at c.args.choice.now.rows.items (known c.args.known.now) c.in-Chosen.clause i e (subst (IsFirstOf (rows c.args.choice.now.rows.items) (known c.args.known.now)) c.in-Chosen.is c.in_ok-clause.ensures.first)

pub returns-in_ok-settle-in-Chosen-clause-grows : goal.returns-in_ok-settle-in-Chosen-clause-grows
returns-in_ok-settle-in-Chosen-clause-grows c = settles_longer c.args.choice.now c.in-Chosen.clause (reading_of c.args.self.now.buffer c.args.read.now.items) (reading_of c.settle.new.self.buffer c.settle.new.read.items) c.in_ok-settle-in-Chosen.ensures.settles

pub returns-in_ok-ask-in-Asks-clause-fewer : goal.returns-in_ok-ask-in-Asks-clause-fewer
returns-in_ok-ask-in-Asks-clause-fewer c e = asks_fewer c.args.choice.now.rows.items (known c.args.known.now) (known c.ask.new.known) c.in-Asks.row (subst (IsFirstOf (rows c.args.choice.now.rows.items) (known c.args.known.now)) c.in-Asks.is c.in_ok-clause.ensures.first) c.in_ok-ask-in-Asks.ensures.knows
