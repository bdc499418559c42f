use Rattle.std.proofs.Common.{arith, ap, ◌∙◌, subst, [], ◌∷◌, ◌++◌, List}
use Rattle.fip_base.specs.fip_language.Store.{value_of}
use Rattle.plain_rows.specs.declared.load.Task.{Task}
use Rattle.plain_rows.specs.declared.load.Task.TheVariants as T
use Rattle.plain_rows.specs.Loading.{last_first, Loads}
use Rattle.plain_rows.proofs.Loaded.{last_push, last_empty, none_left, begun}
use Rattle.plain_rows.proofs.load.load.Goals as goal

pub loading-init : goal.loading-init
loading-init c = λ few whole x h e l.
    let a = c.args in
    begun a.table.now a.cells.now.cells a.ty a.word (last_first c.push.new.self.items) a.rows.now whole whole x h e l (ap last_first c.in_ok-push.ensures.items ∙ last_push _ _ ∙ ap (λ (ts : List Task). T.Whole a.ty a.word ∷ ts) (ap last_first c.new-tasks.ensures.items ∙ last_empty))

pub returns-in-None : goal.returns-in-None
returns-in-None c = record {
  loads = λ few whole x h e l.
      subst (λ (ts : List Task). Loads c.args.table.now c.args.cells.now.cells ts c.loading.rows (whole ++ value_of x ∷ [])) (none_left c.loading.tasks.items (let z = c.in-None.ensures.cases in omega (arith, z.0)))
      (c.loading.invariant few whole x h e l);
}

pub loading-preserved : goal.loading-preserved
loading-preserved c = λ few whole x h e l.
    c.in_ok-step-in-Some.ensures.loads few (whole ++ value_of x ∷ [])
    (subst (λ (ts : List Task). Loads c.args.table.now c.args.cells.now.cells ts c.loading.rows (whole ++ value_of x ∷ [])) (ap last_first c.in-Some.ensures.items ∙ last_push _ _) (c.loading.invariant few whole x h e l))
