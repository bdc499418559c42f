use Rattle.std.proofs.Common.{◌∙◌, ◌++◌, ◌∷◌, [], List, option_map, map, ap, sym, subst, append-nil}
use Rattle.fip_language.specs.Table.{Shape}
use Rattle.reached_instances.specs.closed_types.Closed.{Closeds, arguments_of}
use Rattle.static_params.specs.FlatProgram.{flat_constructor, row_if}
use Rattle.static_params.specs.FlatView.{numbers_at}
use Rattle.reached_instances.specs.closed_types.SharedTrees.{AreWithin, tree_at, trees, trees_at}
use Rattle.reached_instances.specs.SourceView as S
use Rattle.reached_instances.proofs.closed_types.Growing.{grows_same}
use Rattle.static_params.proofs.table.put_row_of.Goals as goal

pub returns-in_ok-push-in-Some-clause-grows : goal.returns-in_ok-push-in-Some-clause-grows
returns-in_ok-push-in-Some-clause-grows c = λ a. c.in_ok-row-in-Some.ensures.grows a (subst (AreWithin c.args.shared.now.branches) (sym c.deref.ensures.value) c.in_ok-given-in-Some.ensures.within)

pub returns-in_ok-push-in-Some-clause-fits : goal.returns-in_ok-push-in-Some-clause-fits
returns-in_ok-push-in-Some-clause-fits c = λ a. c.in_ok-row-in-Some.ensures.fits a (subst (AreWithin c.args.shared.now.branches) (sym c.deref.ensures.value) c.in_ok-given-in-Some.ensures.within)

pub returns-in_ok-push-in-Some-clause-row : goal.returns-in_ok-push-in-Some-clause-row
returns-in_ok-push-in-Some-clause-row c = λ a.
    let ts = trees c.args.shared.now.branches in
    let ns = numbers_at ts c.args.numbers.now in
    let t = tree_at ts c.args.place in
    let d = S.declared c.in-Some.found.now in
    let row = c.in_ok-row-in-Some.ensures.row a (subst (AreWithin c.args.shared.now.branches) (sym c.deref.ensures.value) c.in_ok-given-in-Some.ensures.within) in
    c.in_ok-push-in-Some.ensures.added
    ∙ ap (λ (r : List Shape). c.args.table.now ++ r ∷ []) (row ∙ ap (λ (cs : Closeds). map (flat_constructor ns cs) d.constructors) (ap (trees_at ts) c.deref.ensures.value ∙ c.in_ok-given-in-Some.ensures.trees))
    ∙ ap (λ l. c.args.table.now ++ row_if ns (arguments_of t) l) (sym (ap (option_map (λ x. S.declared x.now)) c.in-Some.is) ∙ c.data_type.ensures)

pub returns-in-None-clause-grows : goal.returns-in-None-clause-grows
returns-in-None-clause-grows c = λ a. grows_same c.args.shared.now.branches

pub returns-in-None-clause-row : goal.returns-in-None-clause-row
returns-in-None-clause-row c = λ a.
    let ts = trees c.args.shared.now.branches in
    sym (append-nil c.args.table.now)
    ∙ ap (λ l. c.args.table.now ++ row_if (numbers_at ts c.args.numbers.now) (arguments_of (tree_at ts c.args.place)) l) (sym (ap (option_map (λ x. S.declared x.now)) c.in-None.is) ∙ c.data_type.ensures)
