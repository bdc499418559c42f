use Rattle.std.proofs.Common.{◌≡◌, ap, Ok}
use Rattle.fip_session.proofs.Saying.{line_replied}
use Rattle.fip_session.proofs.session.Session.line.Goals as goal

pub returns : goal.returns
returns c = record {
  replies = λ o s h one short.
      line_replied o s c.args.bytes.now c.in_ok-text.text.items c.answer.new.book c.in_ok-store.store c.in_ok-store.reply c.in_ok-text.ensures.text
      (c.in_ok-store.ensures.answers o s h one short c.in_ok-read.ensures.read (λ e. c.in_ok-read.ensures.none (ap Ok e)));
}
