use Rattle.fip_session.proofs.Changing.{changed_at}
use Rattle.fip_session.proofs.book.Book.forget.Goals as goal

pub returns-clause-forgets : goal.returns-clause-forgets
returns-clause-forgets c = λ other. changed_at c.args.name.now c.args.self.now.held c.remove.new.self _ c.remove.ensures.updates other
