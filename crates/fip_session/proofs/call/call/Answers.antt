use Rattle.std.proofs.Common.{◌≡◌, ◌∷◌, sym, ap, subst}
use Rattle.session_lines.specs.session_semantics.Talk.{CallReplies}
use Rattle.fip_session.specs.Refused.{IsPlanned, Refuses}
use Rattle.fip_session.specs.Said.{said}
use Rattle.fip_session.proofs.Calling.{entry_some}
use Rattle.fip_session.proofs.Holding.{book_of}
use Rattle.fip_session.proofs.call.call.Goals as goal

pub returns-in-Ok : goal.returns-in-Ok
returns-in-Ok c = record {
  answers = λ o s h one short name names gs spelt is.
      let b = c.args.book.now in
      let line = c.args.line.now in
      let planned = c.in-Ok.ensures.planned o s h.opened.lodged (book_of o (record { book = b; store = c.args.store }) s h) h.opened.said one gs is.given in
      c.call_planned.ensures.answers o s h one name names gs (record {
        short = short;
        spelt = spelt;
        is = is;
        planned = subst (λ ns. IsPlanned o s b ns line.entry.now gs c.in-Ok.plan) is.named planned;
      });
}

pub returns-in-Err-Reply : goal.returns-in-Err-Reply
returns-in-Err-Reply c = record {
  answers = λ o s h one short name names gs spelt is.
      let b = c.args.book.now in
      let line = c.args.line.now in
      let r = c.in-Err-Reply.reply in
      let no = c.in-Err-Reply.ensures.refused o s h.opened.lodged (book_of o (record { book = b; store = c.args.store }) s h) h.opened.said one gs is.given (entry_some c.args.bytes.now name names line.entry.now gs spelt) in
      let no' : Refuses o s (name ∷ names) line.entry.now gs c.in-Err-Reply.field-0 = subst (λ ns. Refuses o s ns line.entry.now gs c.in-Err-Reply.field-0) is.named no in
      (s, subst (Refuses o s (name ∷ names) line.entry.now gs) c.in-Err-Reply.field-0-is no', h);
}
