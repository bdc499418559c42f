use Rattle.std.proofs.Common.{sym, ap, ◌∙◌, ◌≡◌, ◌-◌, suc, length, take, arith}
use Rattle.value_text.specs.Printing.{closes, last_first}
use Rattle.value_text.proofs.Printing.{closed_row, some_rows}
use Rattle.value_text.proofs.print.waiting.Goals as goal

pub returns-in-Some : goal.returns-in-Some
returns-in-Some c =
    let rows = c.args.rows.now.items in
    let row = c.index-row.result.now in
    let top = c.len-top.result - 1 in
    let left : suc top ≡ length rows = let a = some_rows _ c.is_empty.result c.is_empty.ensures c.if-is_empty.false in let b = c.len-top.ensures in omega (arith, a, b) in
    (left, closed_row rows top row left c.index-row.ensures c.in-Some.ensures.0 ∙ ap (λ n. closes n (last_first (take top rows))) (sym c.in-Some.ensures.1))
