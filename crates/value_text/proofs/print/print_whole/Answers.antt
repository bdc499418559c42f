use Rattle.std.proofs.Common.{ℕ, Option, arith}
use Rattle.value_text.specs.Printing.{last_first, then_tasks}
use Rattle.value_text.proofs.Printing.{odd_cell}
use Rattle.value_text.proofs.Printed.{bare_prints, cell_result}
use Rattle.value_text.proofs.print.print_whole.Goals as goal

pub returns-then-word-eq0-clause-prints : goal.returns-then-word-eq0-clause-prints
returns-then-word-eq0-clause-prints g c = λ few. bare_prints c.args.table.now (g.C.Cells.cells c.args.cells.now) c.args.ty c.args.word (last_first c.args.rows.now.items) c.args.out.now.items c.print_bare.new.out.items (let z = c.if-ty-eq0.false in omega (arith, z)) c.if-word-eq0.true c.in_ok-print_bare.ensures.text

pub returns-then-word-clause-prints : goal.returns-then-word-clause-prints
returns-then-word-clause-prints g c = λ few x h w rest pr.
    let n = odd_cell c.args.table.now (g.C.Cells.cells c.args.cells.now) c.args.ty c.args.word x (let z = c.if-ty-eq0.false in omega (arith, z)) c.if-word-eq0.false h w in
    let big = c.if-word.true in
    absurd (omega (arith, few, n.4, big))

pub returns-then-begins-clause-prints : goal.returns-then-begins-clause-prints
returns-then-begins-clause-prints g c = cell_result c.args.table.now (g.C.Cells.cells c.args.cells.now) c.args.ty c.args.word (last_first c.args.rows.now.items) (λ (next : Option (ℕ × ℕ)). then_tasks next (last_first c.print_cell.new.rows.items)) c.args.out.now.items c.print_cell.new.out.items c.print_cell.result (let z = c.if-ty-eq0.false in omega (arith, z)) c.if-word-eq0.false c.print_cell.ensures.prints
