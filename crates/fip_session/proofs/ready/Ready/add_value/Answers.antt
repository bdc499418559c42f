use Rattle.std.proofs.Common.{◌≡◌}
use Rattle.fip_session.proofs.Planning.{placed}
use Rattle.fip_session.proofs.Readying.{value_put}
use Rattle.fip_session.proofs.ready.Ready.add_value.Goals as goal

pub returns : goal.returns
returns c = record {
  put = λ can ls before w v text is.
      let tb = c.args.book.now.table.now in
      let bytes = c.args.bytes.now in
      let r = c.args.self.now in
      value_put tb ls before c.args.param c.args.loader c.in-Ok.next r (record { words = c.push.new.self; values = c.push-2.new.self; credits = r.credits }) bytes c.args.span.start c.args.span.end w v c.in-Ok.word can text is
      (c.in-Ok.ensures.makes (placed tb c.args.param.ty bytes can c.args.span.start c.args.span.end w text))
      c.in_ok-push.ensures.items c.in_ok-push-2.ensures.items;
}
