use Rattle.std.proofs.Common.{sym, ap, ◌≡◌, ◌∙◌, ◌∷◌, ◌+◌, subst, drop}
use Rattle.std.proofs.lemmas.List.{drop_more, drop_all}
use Rattle.fip_trees.specs.TreeView.{argument, arguments}
use Rattle.fip_trees.proofs.TreeViews.{argument_constructor}
use Rattle.instance_semantics.specs.Meaning.{argument_value, argument_values}
use Rattle.plain_rows.proofs.Standing.{more_same, more_on}
use Rattle.plain_rows.proofs.Loaded.{on_ok}
use Rattle.plain_eval.specs.Giving.{GivesOne, GivesAll}
use Rattle.plain_eval.proofs.Slots.{kept_all, kept_more}
use Rattle.plain_eval.proofs.Giving.{gives_more, gives_none, gives_node}
use Rattle.plain_eval.proofs.arguments.«+give».Goals as goal

pub give-returns-in_ok-give_all-in-Constructor-clause-gives : goal.give-returns-in_ok-give_all-in-Constructor-clause-gives
give-returns-in_ok-give_all-in-Constructor-clause-gives t c =
    let m = c.in-Constructor in
    let old = c.args.given.now.items in
    on_ok c.fold.result (λ folds env h.
    subst (λ a. GivesOne (argument_value env a) old c.fold.new.self c.fold.new.values.items) (sym (ap argument m.is ∙ argument_constructor _ _ _ _ _ _))
    (gives_node env c.give_all.new.store c.fold.new.self m.number c.len.result m.arguments.items old c.give_all.new.given.items c.fold.new.values.items (c.len.ensures ∙ (m.arguments.ok).0)
    (subst (λ l. GivesAll (argument_values env (arguments l)) old c.give_all.new.store c.give_all.new.given.items) c.as_slice.ensures.value (c.in_ok-give_all-in-Constructor.ensures.gives env h)) folds)) c.fold.ensures.folds

pub give_all-loop-argument-preserved : goal.give_all-loop-argument-preserved
give_all-loop-argument-preserved t c =
    let i = c.loop-argument.argument-index in
    let all = c.args.arguments.now in
    let item = c.argument-item.result in
    let drops : drop i all ≡ item ∷ drop (i + 1) all = drop_more all i item c.loop-argument-test.true ∙ ap (λ x. x ∷ drop (i + 1) all) (sym c.argument-item.is) in
    let inv = c.loop-argument.invariant in
    let one = c.in_ok-give.ensures in
    let first = c.args.store.now in
    let now = c.loop-argument.store in
    let next = c.give.new.store in
    let vars = c.args.variables.now in
    record {
      kept = more_on first now next inv.kept one.kept;
      gives = λ env h s new m g.
          let covers = kept_all first now vars.values.items vars.values.items vars.base vars.end env (kept_more first now vars.values.items inv.kept) h in
          inv.gives env h s new (more_on now next s one.kept m) (subst (λ l. GivesAll (argument_values env (arguments l)) c.loop-argument.given.items s new) (sym drops) (gives_more next s (argument_value env (argument item)) (argument_values env (arguments (drop (i + 1) all))) c.loop-argument.given.items c.give.new.given.items new m (one.gives env covers) g));
    }

pub give_all-returns-clause-gives : goal.give_all-returns-clause-gives
give_all-returns-clause-gives t c = λ env h.
    let s = c.loop-argument.store in
    let given = c.loop-argument.given.items in
    c.loop-argument.invariant.gives env h s given (more_same s) (subst (λ l. GivesAll (argument_values env (arguments l)) given s given) (sym (drop_all c.loop-argument.argument-index c.args.arguments.now c.loop-argument-test.false)) (gives_none s given))
