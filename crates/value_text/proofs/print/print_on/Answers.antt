use Rattle.std.proofs.Common.{ℕ, ◌∷◌, Option, subst}
use Rattle.value_text.specs.Printing.{Whole, last_first, then_tasks, Printing}
use Rattle.value_text.proofs.Printing.{printing_whole}
use Rattle.value_text.proofs.Printed.{next_result}
use Rattle.value_text.proofs.print.print_on.Goals as goal

pub returns-in-Some-clause-prints : goal.returns-in-Some-clause-prints
returns-in-Some-clause-prints g c = λ few whole p.
    let tb = c.args.table.now in
    let cs = g.C.Cells.cells c.args.cells.now in
    let out' = c.print_whole.new.out.items in
    subst (λ (o : Option (ℕ × ℕ)). Printing tb cs (then_tasks o (last_first c.print_whole.new.rows.items)) out' whole) c.in-Some.is
    (printing_whole tb cs c.args.ty c.args.word (last_first c.args.rows.now.items) (then_tasks c.in_ok-next.field-0 (last_first c.print_whole.new.rows.items)) c.args.out.now.items out' whole p (c.in_ok-next.ensures.prints few))

pub returns-in-None-clause-prints : goal.returns-in-None-clause-prints
returns-in-None-clause-prints g c =
    let tb = c.args.table.now in
    let cs = g.C.Cells.cells c.args.cells.now in
    let mid = c.print_whole.new.out.items in
    next_result tb cs (Whole c.args.ty c.args.word ∷ last_first c.args.rows.now.items) (last_first c.print_whole.new.rows.items) (λ (next : Option (ℕ × ℕ)). then_tasks next (last_first c.next_value.new.rows.items)) c.args.out.now.items mid c.next_value.new.out.items c.next_value.result
    (λ few whole p. subst (λ (o : Option (ℕ × ℕ)). Printing tb cs (then_tasks o (last_first c.print_whole.new.rows.items)) mid whole) c.in-None.is
    (printing_whole tb cs c.args.ty c.args.word (last_first c.args.rows.now.items) (then_tasks c.in_ok-next.field-0 (last_first c.print_whole.new.rows.items)) c.args.out.now.items mid whole p (c.in_ok-next.ensures.prints few)))
    c.next_value.ensures.prints
