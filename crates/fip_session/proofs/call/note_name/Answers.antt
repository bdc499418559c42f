use Rattle.std.proofs.Common.{◌≡◌, ◌∙◌, sym, arith}
use Rattle.std.proofs.lemmas.Result.{IfOk-weaker}
use Rattle.fip_session.proofs.GivingUp.{added_more}
use Rattle.fip_session.proofs.Noting.{held_tree}
use Rattle.fip_session.proofs.call.note_name.Goals as goal

pub returns-in-Some : goal.returns-in-Some
returns-in-Some c = record {
  noted = λ small ls finds stand.
      let t = held_tree c.args.book.now.table.now c.args.cells.now.cells c.args.book.now.held ls c.args.name.now c.in-Some.held finds stand (sym c.find.ensures.held ∙ c.in-Some.is) in
      IfOk-weaker c.add.result _ _ (λ whole k is q. (let a = added_more c.args.trees.now.list.items c.add.new.self.list.items t.tree q (k is) in let u = t.are q in omega (arith, a, u))) (c.add.ensures.all (omega (arith, small)) t.tree t.stands t.word);
}
