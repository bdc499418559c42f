use Rattle.std.proofs.Common.{◌∙◌, Some, ap}
use Rattle.std.specs.Map.{update}
use Rattle.std.specs.Str.{bytes_eq}
use Rattle.fip_session.specs.Named.{found}
use Rattle.fip_session.proofs.Changing.{changed_at}
use Rattle.fip_session.proofs.book.Book.hold.Goals as goal

pub returns-clause-holds : goal.returns-clause-holds
returns-clause-holds c = λ other.
    changed_at c.in_ok-name.name.items c.args.self.now.held c.insert.new.self _ c.in_ok-insert.ensures.updates other
    ∙ ap (λ z. update bytes_eq (found c.args.self.now.held) z (Some c.args.held) other) c.in_ok-name.ensures.items
