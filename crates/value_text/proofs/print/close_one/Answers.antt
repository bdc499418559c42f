use Rattle.std.proofs.Common.{sym, ap, ◌∙◌, ◌≡◌, ◌-◌, ◌∷◌, suc, take, arith}
use Rattle.value_text.specs.declared.print.Row.{Row}
use Rattle.value_text.specs.Printing.{Task, closes, last_first}
use Rattle.value_text.proofs.Printing.{set_first, top_first, first_task}
use Rattle.value_text.proofs.print.close_one.Goals as goal

pub returns-then-following-eq0-clause-tasks : goal.returns-then-following-eq0-clause-tasks
returns-then-following-eq0-clause-tasks c =
    ap last_first c.truncate.ensures.items ∙ ap (λ n. closes n (last_first (take c.args.top c.args.rows.now.items))) (sym c.if-following-eq0.true)

pub returns-else-following-eq0-clause-tasks : goal.returns-else-following-eq0-clause-tasks
returns-else-following-eq0-clause-tasks c =
    let rows = c.args.rows.now.items in
    let ts = last_first (take c.args.top rows) in
    let row = c.index_mut.result.now in
    let next : Row = record row { following = c.args.following - 1 } in
    let some = c.if-following-eq0.false in
    let e : suc (c.args.following - 1) ≡ c.args.following = omega (arith, some) in
    let none = first_task _ _ _ _ (sym (top_first rows c.args.top row c.requires.top c.index_mut.ensures.value) ∙ c.requires.tasks) in
    set_first rows c.args.top next c.requires.top ∙ ap (λ (t : Task). t ∷ closes (c.args.following - 1) ts) none ∙ ap (λ n. closes n ts) e
