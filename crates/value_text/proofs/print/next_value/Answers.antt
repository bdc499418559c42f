use Rattle.std.proofs.Common.{◌≡◌, suc, ◌-◌, Option, length, subst, arith}
use Rattle.std.specs.Prelude.{ℕ}
use Rattle.value_text.specs.Printing.{last_first, then_tasks, Printing}
use Rattle.value_text.proofs.Printing.{top_first, some_rows}
use Rattle.value_text.proofs.print.next_value.Goals as goal

pub print_row-requires-clause-top : goal.print_row-requires-clause-top
print_row-requires-clause-top g c =
    let a = some_rows _ c.is_empty.result c.is_empty.ensures c.if-is_empty.false in
    let b = c.len-top.ensures in
    omega (arith, a, b)

pub print_row-requires-clause-tasks : goal.print_row-requires-clause-tasks
print_row-requires-clause-tasks g c =
    let rows = c.waiting.rows.items in
    let top = c.len-top.result - 1 in
    let left : suc top ≡ length rows = let a = some_rows _ c.is_empty.result c.is_empty.ensures c.if-is_empty.false in let b = c.len-top.ensures in omega (arith, a, b) in
    top_first rows top c.index-row.result.now left c.index-row.ensures

pub returns-in-Some-clause-prints : goal.returns-in-Some-clause-prints
returns-in-Some-clause-prints g c = λ tb whole p.
    let cs = g.C.Cells.cells c.args.cells.now in
    subst (λ (o : Option (ℕ × ℕ)). Printing tb cs (then_tasks o (last_first c.print_row.new.rows.items)) c.print_row.new.out.items whole) c.in-Some.is
    (c.in_ok-next.ensures.prints tb whole (c.waiting.invariant.prints tb whole p))

pub waiting-preserved : goal.waiting-preserved
waiting-preserved g c =
    let cs = g.C.Cells.cells c.args.cells.now in
    record {
      prints = λ tb whole p. subst (λ (o : Option (ℕ × ℕ)). Printing tb cs (then_tasks o (last_first c.print_row.new.rows.items)) c.print_row.new.out.items whole) c.in-None.is
          (c.in_ok-next.ensures.prints tb whole (c.waiting.invariant.prints tb whole p));
      steps = let d = c.in_ok-next.ensures.fewer in let e = c.waiting.invariant.steps in let f = c.in_ok-next.ensures.grows in omega (arith, d, e, f);
    }
