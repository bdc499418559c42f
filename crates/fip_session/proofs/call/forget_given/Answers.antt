use Rattle.fip_session.proofs.Forgetting.{forget_one, forget_none}
use Rattle.fip_session.proofs.call.forget_given.Goals as goal

pub returns-then-given-clause-forgets : goal.returns-then-given-clause-forgets
returns-then-given-clause-forgets c = λ ls finds. forget_one c.args.book.now.held c.forget.new.self.held ls c.args.given.now c.if-given.true finds c.forget.ensures.forgets

pub returns-else-given-clause-forgets : goal.returns-else-given-clause-forgets
returns-else-given-clause-forgets c = λ ls finds. forget_none c.args.book.now.held ls c.args.given.now c.if-given.false finds
