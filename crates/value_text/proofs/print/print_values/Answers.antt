use Rattle.std.proofs.Common.{arith, refl, sym, ap, ◌∙◌, subst, ◌≡◌, ℕ, [], ◌++◌, List, Option}
use Rattle.fip_language.specs.Store.{value_of}
use Rattle.fip_language.specs.PrintedText.{printed}
use Rattle.value_text.specs.Printing.{Task, last_first, then_tasks, Prints, Printing}
use Rattle.value_text.proofs.Printing.{last_empty, none_left, printing_ends}
use Rattle.value_text.proofs.print.print_values.Goals as goal

pub printing-init : goal.printing-init
printing-init g c =
    let tb = c.args.table.now in
    let cs = g.C.Cells.cells c.args.cells.now in
    let e : last_first c.new-rows.result.items ≡ [] = ap last_first c.new-rows.ensures.items ∙ last_empty in
    λ few x h w.
    let text = printed tb c.args.ty (value_of x) [] in
    (text, (x, h, w, [], refl, subst (λ (ts : List Task). Prints tb cs ts []) (sym e) refl), refl)

pub printing-preserved : goal.printing-preserved
printing-preserved g c =
    let tb = c.args.table.now in
    let cs = g.C.Cells.cells c.args.cells.now in
    λ few x h w.
    let whole = c.args.out.items ++ printed tb c.args.ty (value_of x) [] in
    subst (λ (o : Option (ℕ × ℕ)). Printing tb cs (then_tasks o (last_first c.print_on.new.rows.items)) c.print_on.new.out.items whole) c.in-Some.is (c.in_ok-next.ensures.prints few whole (c.printing.invariant few x h w))

pub returns-in-None : goal.returns-in-None
returns-in-None g c =
    let tb = c.args.table.now in
    let cs = g.C.Cells.cells c.args.cells.now in
    λ few x h w.
    let whole = c.args.out.items ++ printed tb c.args.ty (value_of x) [] in
    printing_ends tb cs (last_first c.print_on.new.rows.items) c.print_on.new.out.items whole (none_left c.print_on.new.rows.items (let z = c.in_ok-next.ensures.last c.in-None.is in omega (arith, z)))
    (subst (λ (o : Option (ℕ × ℕ)). Printing tb cs (then_tasks o (last_first c.print_on.new.rows.items)) c.print_on.new.out.items whole) c.in-None.is (c.in_ok-next.ensures.prints few whole (c.printing.invariant few x h w)))
