use Rattle.std.proofs.Common.{◌≡◌, ◌∙◌, Some, IfSome, refl, sym, ap, subst}
use Rattle.session_lines.specs.Said.{Says}
use Rattle.session_lines.specs.session_semantics.Talk.{BadLine}
use Rattle.fip_session.proofs.Saying.{shows_line, gives_line, calls_line, show_answered, call_line_answered, if_ok}
use Rattle.fip_session.proofs.session.answer.Goals as goal

pub returns-in-None : goal.returns-in-None
returns-in-None c = record {
  answers = λ o s h one short says none. (s, BadLine (none c.in-None.is), h);
}

pub returns-in_ok-reply-in-Some-Show : goal.returns-in_ok-reply-in-Some-Show
returns-in_ok-reply-in-Some-Show c = record {
  answers = λ o s h one short says none.
      let bytes = c.args.bytes.now in
      let n = c.in-Some-Show.name in
      let spelt = shows_line bytes n (subst (Says bytes) c.in-Some-Show.field-0-is (subst (λ m. IfSome m (Says bytes)) c.in-Some-Show.is says)) in
      show_answered o s c.args.book.now c.args.store h bytes n.now c.in_ok-reply-in-Some-Show.reply spelt c.in_ok-reply-in-Some-Show.ensures.none c.in_ok-reply-in-Some-Show.ensures.shown;
}

pub returns-in-Some-Give : goal.returns-in-Some-Give
returns-in-Some-Give c = record {
  answers = λ o s h one short says none.
      let bytes = c.args.bytes.now in
      let n = c.in-Some-Give.name in
      let spelt = gives_line bytes n (subst (Says bytes) c.in-Some-Give.field-0-is (subst (λ m. IfSome m (Says bytes)) c.in-Some-Give.is says)) in
      c.give.ensures.gives o s h bytes spelt;
}

pub returns-in-Some-Call : goal.returns-in-Some-Call
returns-in-Some-Call c = record {
  answers = λ o s h one short says none.
      let bytes = c.args.bytes.now in
      let line = c.in-Some-Call.line in
      let k = calls_line bytes line (subst (Says bytes) c.in-Some-Call.field-0-is (subst (λ m. IfSome m (Says bytes)) c.in-Some-Call.is says)) in
      if_ok _ _ c.call.result (λ r a. call_line_answered o s bytes c.call.new.book r.0 r.1 k.name k.names line.entry.now k.given k.spelt a) (c.call.ensures.answers o s h one short k.name k.names k.given k.spelt k.is);
}
