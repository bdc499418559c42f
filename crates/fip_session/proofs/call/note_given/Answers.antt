use Rattle.std.proofs.Common.{[], arith}
use Rattle.std.proofs.lemmas.Result.{IfOk-weaker}
use Rattle.fip_session.proofs.Noting.{used_first}
use Rattle.fip_session.proofs.call.note_given.Goals as goal

pub returns-then-given : goal.returns-then-given
returns-then-given c = record {
  noted = λ small ls finds stand.
      IfOk-weaker c.note_name.result _ _ (λ whole k is q. (let a = k is q in let b = used_first ls c.args.given.now [] q c.if-given.true in omega (arith, a, b))) (c.note_name.ensures.noted small ls finds stand);
}
