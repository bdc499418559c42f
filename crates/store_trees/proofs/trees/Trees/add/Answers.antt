use Rattle.std.proofs.Common.{◌≡◌, ◌∙◌, ◌+◌, ◌<◌, true, false, length, sym, subst}
use Rattle.std.proofs.lemmas.Result.{IfOk-weaker}
use Rattle.fip_base.specs.fip_language.Store.{places}
use Rattle.store_trees.specs.Added.{Adds}
use Rattle.store_trees.specs.Walked.{AddsAll, cells_ahead}
use Rattle.store_trees.proofs.Walking.{one, one_ahead, all_added}
use Rattle.store_trees.proofs.trees.Trees.add.Goals as goal

pub returns-clause-all : goal.returns-clause-all
returns-clause-all g c = λ small x h q.
    let tb = c.args.table.now in
    let cs = g.C.Cells.cells c.args.cells.now in
    let ty = c.args.ty in
    let list = c.args.self.now.list.items in
    let longer = c.add_below.new.self.list.items in
    let o = one tb cs ty x h in
    let ahead = one_ahead tb cs ty x c.in-Some.root list c.push.new.self.items c.len-start.result o (sym (c.in-Some.ensures small tb x h q)) (c.len-start.ensures ∙ c.args.self.now.list.ok.0) c.in_ok-push.ensures.items in
    IfOk-weaker c.add_below.result (λ whole. whole ≡ true → AddsAll list longer o.list) (λ whole. whole ≡ true → Adds list longer x) (λ whole k e. all_added tb cs ty x list longer o (k e)) (c.add_below.ensures.all small list o.list ahead)

pub returns-clause-many : goal.returns-clause-many
returns-clause-many g c = λ small x h q.
    let tb = c.args.table.now in
    let cs = g.C.Cells.cells c.args.cells.now in
    let ty = c.args.ty in
    let list = c.args.self.now.list.items in
    let o = one tb cs ty x h in
    let start = c.len-start.ensures ∙ c.args.self.now.list.ok.0 in
    let ahead = one_ahead tb cs ty x c.in-Some.root list c.push.new.self.items c.len-start.result o (sym (c.in-Some.ensures small tb x h q)) start c.in_ok-push.ensures.items in
    IfOk-weaker c.add_below.result (λ whole. whole ≡ false → c.args.most < c.len-start.result + cells_ahead o.list) (λ whole. whole ≡ false → c.args.most < length list + length (places x)) (λ whole k e. subst (λ n. c.args.most < length list + n) o.size (subst (λ n. c.args.most < n + cells_ahead o.list) start (k e))) (c.add_below.ensures.many small list o.list ahead)
