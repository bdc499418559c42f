use Rattle.std.proofs.Common.{arith, refl, sym, ap, ◌∙◌, subst, ◌∷◌, ◌++◌, List}
use Rattle.fip_base.specs.fip_language.PrintedText.{printed}
use Rattle.plain_rows.specs.declared.print.Task.{Task}
use Rattle.plain_rows.specs.declared.print.Task.TheVariants as T
use Rattle.plain_rows.specs.Printing.{last_first, Prints, Printing}
use Rattle.plain_rows.proofs.Printed.{last_push, last_empty, none_left, printing_ends}
use Rattle.plain_rows.proofs.print.print_value.Goals as goal

pub printing-init : goal.printing-init
printing-init c =
    let a = c.args in
    let tb = a.table.now in
    let e = ap last_first c.in_ok-push.ensures.items ∙ last_push _ _ ∙ ap (λ (ts : List Task). T.Whole a.ty a.value ∷ ts) (ap last_first c.new-tasks.ensures.items ∙ last_empty) in
    λ v following h s.
    let text = printed tb a.ty v following in
    (text, subst (λ (ts : List Task). Prints tb a.store.now following ts text) (sym e) (v, h, s, following, refl, refl), refl)

pub returns-in-None : goal.returns-in-None
returns-in-None c = record {
  prints = λ v following h s. printing_ends c.args.table.now c.args.store.now following (last_first c.printing.tasks.items) c.printing.out.items _ (none_left c.printing.tasks.items (let z = c.in-None.ensures.cases in omega (arith, z.0))) (c.printing.invariant v following h s);
}

pub printing-preserved : goal.printing-preserved
printing-preserved c = λ v following h s.
    let tb = c.args.table.now in
    c.in_ok-print_task-in-Some.ensures.prints following (c.args.out.now.items ++ printed tb c.args.ty v following)
    (subst (λ (ts : List Task). Printing tb c.args.store.now following ts c.printing.out.items (c.args.out.now.items ++ printed tb c.args.ty v following)) (ap last_first c.in-Some.ensures.items ∙ last_push _ _) (c.printing.invariant v following h s))
