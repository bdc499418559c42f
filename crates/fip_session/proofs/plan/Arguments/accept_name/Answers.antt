use Rattle.std.proofs.Common.{sym}
use Rattle.fip_session.proofs.Planning.{never_found}
use Rattle.fip_session.proofs.plan.Arguments.accept_name.Goals as goal

pub returns-in-None-clause-refuses : goal.returns-in-None-clause-refuses
returns-in-None-clause-refuses c = λ le ls finds e v t.
    never_found c.args.book.now.table.now c.args.book.now.held ls finds c.args.param c.args.name.now c.args.self.now (sym c.in-None.ensures.held) v t

pub returns-in-Some-clause-takes : goal.returns-in-Some-clause-takes
returns-in-Some-clause-takes c = λ le ls finds. c.accept_held.ensures.takes le ls finds (sym c.in-Some.ensures.held)

pub returns-in-Some-clause-refuses : goal.returns-in-Some-clause-refuses
returns-in-Some-clause-refuses c = λ le ls finds. c.accept_held.ensures.refuses le ls finds (sym c.in-Some.ensures.held)
