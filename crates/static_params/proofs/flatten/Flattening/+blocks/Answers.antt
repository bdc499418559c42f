use Rattle.std.proofs.Common.{◌≡◌, ◌∙◌, ◌++◌, List, map, refl, ap, sym}
use Rattle.fip_base.specs.CoreView as V
use Rattle.fip_base.specs.declared.core_form.Binder.{Binder}
use Rattle.fip_base.specs.declared.core_form.Binding.{Binding, out-Binding}
use Rattle.fip_base.specs.declared.core_form.Block.{out-Block}
use Rattle.fip_base.specs.declared.core_form.Clause.{out-Clause}
use Rattle.fip_base.specs.declared.core_form.Argument as CA
use Rattle.fip_base.specs.declared.core_form.Block as CoreBlock
use Rattle.fip_base.specs.declared.core_form.Clause as CC
use Rattle.fip_base.specs.declared.core_form.Written.{Written}
use Rattle.fip_base.specs.declared.core_form.MatchKind.{MatchKind}
use Rattle.fip_base.specs.declared.core_form.MatchKind.TheVariants as K
use Rattle.fip_language.specs.Core as C
use Rattle.fip_trees.specs.Tree as T
use Rattle.fip_trees.specs.declared.program.Block.{Block}
use Rattle.fip_trees.specs.TreeView as W
use Rattle.fip_trees.proofs.TreeViews.{expression_nested}
use Rattle.static_params.specs.FlatProgram.{flat_argument, flat_arguments, match_of}
use Rattle.static_params.proofs.FlatViews.{core_give, core_nested, core_tuple, view_give, view_tuple}
use Rattle.reached_instances.proofs.closed_types.Hearing.{expression_call, expression_match, expression_operation}
use Rattle.static_params.specs.FlatView.{Making, making, binder_in, block_in, bound_in, case_in, clauses_in, expression_in}
use Rattle.static_params.proofs.Made.{clause_row, made_binding, made_block, made_clause, row_goes, row_done, stays_same, stays_more}
use Rattle.static_params.proofs.flatten.Flattening.+blocks.Goals as goal

same_kind : (k : MatchKind) → W.is_destructive k ≡ V.is_destructive k
same_kind K.Borrowing = refl
same_kind K.Destructive = refl

pub clauses-loop-clause-init : goal.clauses-loop-clause-init
clauses-loop-clause-init t c = record {
  stays = λ m. stays_same c.args.self.now m;
  row = λ m.
      let old = c.args.self.now in
      ap (λ l. map W.clause l ++ map (case_in (making old)) (map V.clause c.args.list.now)) c.new-clauses.ensures.items;
}

pub clauses-loop-clause-preserved : goal.clauses-loop-clause-preserved
clauses-loop-clause-preserved t c =
    let old = c.args.self.now in
    let mid = c.loop-clause.self in
    let new = c.clause.new.self in
    record {
      stays = λ m. let s = c.loop-clause.invariant.stays m in stays_more old mid new s (c.in_ok-made.ensures.stays s.ready);
      row = λ m.
          let s = c.loop-clause.invariant.stays m in
          row_goes W.clause (case_in (making old)) V.clause c.loop-clause.clauses.items c.push.new.self.items c.args.list.now c.loop-clause.clause-index c.clause-item.result c.in_ok-made.made (map (case_in (making old)) (map V.clause c.args.list.now)) c.loop-clause-test.true c.clause-item.is c.in_ok-push.ensures.items
          (c.in_ok-made.ensures.flat s.ready ∙ ap (λ (w : Making). case_in w (V.clause c.clause-item.result)) s.same) (c.loop-clause.invariant.row m);
    }

pub clauses-returns-clause-stays : goal.clauses-returns-clause-stays
clauses-returns-clause-stays t c = λ m. c.loop-clause.invariant.stays m

pub clauses-returns-clause-flat : goal.clauses-returns-clause-flat
clauses-returns-clause-flat t c = λ m.
    let old = c.args.self.now in
    ap W.clauses_of (row_done W.clause (case_in (making old)) V.clause c.loop-clause.clauses.items c.args.list.now c.loop-clause.clause-index (map (case_in (making old)) (map V.clause c.args.list.now)) c.loop-clause-test.false (c.loop-clause.invariant.row m))
    ∙ sym (clause_row (making old) (map V.clause c.args.list.now))

pub bindings-loop-binding-init : goal.bindings-loop-binding-init
bindings-loop-binding-init t c = record {
  stays = λ m. stays_same c.args.self.now m;
  row = λ m.
      let old = c.args.self.now in
      ap (λ l. map W.binding l ++ map (bound_in (making old)) (map V.binding c.args.list.now)) c.new-bindings.ensures.items;
}

pub bindings-loop-binding-preserved : goal.bindings-loop-binding-preserved
bindings-loop-binding-preserved t c =
    let old = c.args.self.now in
    let mid = c.loop-binding.self in
    let new = c.binding.new.self in
    record {
      stays = λ m. let s = c.loop-binding.invariant.stays m in stays_more old mid new s (c.in_ok-made.ensures.stays s.ready);
      row = λ m.
          let s = c.loop-binding.invariant.stays m in
          row_goes W.binding (bound_in (making old)) V.binding c.loop-binding.bindings.items c.push.new.self.items c.args.list.now c.loop-binding.binding-index c.binding-item.result c.in_ok-made.made (map (bound_in (making old)) (map V.binding c.args.list.now)) c.loop-binding-test.true c.binding-item.is c.in_ok-push.ensures.items
          (c.in_ok-made.ensures.flat s.ready ∙ ap (λ (w : Making). bound_in w (V.binding c.binding-item.result)) s.same) (c.loop-binding.invariant.row m);
    }

pub bindings-returns-clause-stays : goal.bindings-returns-clause-stays
bindings-returns-clause-stays t c = λ m. c.loop-binding.invariant.stays m

pub bindings-returns-clause-flat : goal.bindings-returns-clause-flat
bindings-returns-clause-flat t c = λ m.
    let old = c.args.self.now in
    row_done W.binding (bound_in (making old)) V.binding c.loop-binding.bindings.items c.args.list.now c.loop-binding.binding-index (map (bound_in (making old)) (map V.binding c.args.list.now)) c.loop-binding-test.false (c.loop-binding.invariant.row m)

pub clause-returns-clause-stays : goal.clause-returns-clause-stays
clause-returns-clause-stays t c = λ m.
    let s = c.in_ok-pattern.ensures.stays m in
    stays_more c.args.self.now c.pattern.new.self c.block.new.self s (c.in_ok-body.ensures.stays s.ready)

pub clause-returns-clause-flat : goal.clause-returns-clause-flat
clause-returns-clause-flat t c = λ m.
    let s = c.in_ok-pattern.ensures.stays m in
    made_clause (making c.args.self.now) c.args.clause.now c.in_ok-pattern.pattern c.in_ok-body.body (c.in_ok-pattern.ensures.flat m)
    (c.in_ok-body.ensures.flat s.ready ∙ ap (λ (w : Making). block_in w (V.block (out-Clause c.args.clause.now).body)) s.same)

pub binding-returns-clause-stays : goal.binding-returns-clause-stays
binding-returns-clause-stays t c = λ m.
    let s = c.in_ok-binders.ensures.stays m in
    stays_more c.args.self.now c.binders.new.self c.expression.new.self s (c.in_ok-bound.ensures.stays s.ready)

pub binding-returns-clause-flat : goal.binding-returns-clause-flat
binding-returns-clause-flat t c = λ m.
    let s = c.in_ok-binders.ensures.stays m in
    let old = making c.args.self.now in
    made_binding old c.args.binding.now c.in_ok-binders.binders c.in_ok-bound.bound
    (c.in_ok-binders.ensures.flat m ∙ ap (λ (bs : List Binder). map (binder_in old) (map V.binder bs)) c.deref.ensures.value)
    (c.in_ok-bound.ensures.flat s.ready ∙ ap (λ (w : Making). expression_in w (V.expression (out-Binding c.args.binding.now).bound)) s.same)

pub block-returns-clause-stays : goal.block-returns-clause-stays
block-returns-clause-stays t c = λ m.
    let s = c.in_ok-bindings.ensures.stays m in
    stays_more c.args.self.now c.bindings.new.self c.expression.new.self s (c.in_ok-last.ensures.stays s.ready)

pub block-returns-clause-flat : goal.block-returns-clause-flat
block-returns-clause-flat t c = λ m.
    let s = c.in_ok-bindings.ensures.stays m in
    let old = making c.args.self.now in
    made_block old c.args.block.now c.in_ok-bindings.bindings c.in_ok-last.last
    (c.in_ok-bindings.ensures.flat m ∙ ap (λ (bs : List Binding). map (bound_in old) (map V.binding bs)) c.deref.ensures.value)
    (c.in_ok-last.ensures.flat s.ready ∙ ap (λ (w : Making). expression_in w (V.expression (out-Block c.args.block.now).last)) s.same)

-- ---- one expression

pub expression-returns-in_ok-made-in-Give-clause-stays : goal.expression-returns-in_ok-made-in-Give-clause-stays
expression-returns-in_ok-made-in-Give-clause-stays t c = λ m. stays_same c.args.self.now m

pub expression-returns-in_ok-made-in-Give-clause-flat : goal.expression-returns-in_ok-made-in-Give-clause-flat
expression-returns-in_ok-made-in-Give-clause-flat t c = λ m.
    let w = making c.args.self.now in
    view_give c.in_ok-made-in-Give.made ∙ ap T.Give c.in_ok-made-in-Give.ensures
    ∙ ap (expression_in w) (sym (ap V.expression c.in-Give.is ∙ core_give c.in-Give.argument))

pub expression-returns-in_ok-arguments-in-Tuple-clause-stays : goal.expression-returns-in_ok-arguments-in-Tuple-clause-stays
expression-returns-in_ok-arguments-in-Tuple-clause-stays t c = λ m. stays_same c.args.self.now m

pub expression-returns-in_ok-arguments-in-Tuple-clause-flat : goal.expression-returns-in_ok-arguments-in-Tuple-clause-flat
expression-returns-in_ok-arguments-in-Tuple-clause-flat t c = λ m.
    let w = making c.args.self.now in
    view_tuple c.in-Tuple.place c.in_ok-arguments-in-Tuple.arguments
    ∙ ap (T.Tuple c.in-Tuple.place) (c.in_ok-arguments-in-Tuple.ensures ∙ ap (λ (l : List CA.Argument). flat_arguments w.source (V.arguments l)) c.deref.ensures.value)
    ∙ ap (expression_in w) (sym (ap V.expression c.in-Tuple.is ∙ core_tuple c.in-Tuple.place c.in-Tuple.arguments))

pub expression-returns-in_ok-made-in-Operation-clause-stays : goal.expression-returns-in_ok-made-in-Operation-clause-stays
expression-returns-in_ok-made-in-Operation-clause-stays t c = λ m. stays_same c.args.self.now m

pub expression-returns-in_ok-made-in-Operation-clause-flat : goal.expression-returns-in_ok-made-in-Operation-clause-flat
expression-returns-in_ok-made-in-Operation-clause-flat t c = λ m.
    let w = making c.args.self.now in
    c.in_ok-made-in-Operation.ensures
    ∙ ap (expression_in w) (sym (ap V.expression c.in-Operation.is ∙ expression_operation c.in-Operation.operator c.in-Operation.place c.in-Operation.left c.in-Operation.right))

pub expression-returns-in_ok-made-in-Call-clause-stays : goal.expression-returns-in_ok-made-in-Call-clause-stays
expression-returns-in_ok-made-in-Call-clause-stays t c = λ m. c.in_ok-made-in-Call.ensures.stays m

pub expression-returns-in_ok-made-in-Call-clause-flat : goal.expression-returns-in_ok-made-in-Call-clause-flat
expression-returns-in_ok-made-in-Call-clause-flat t c = λ m.
    let w = making c.args.self.now in
    c.in_ok-made-in-Call.ensures.flat m
    ∙ ap (λ (l : List Written). expression_in w (C.Call c.in-Call.name c.in-Call.place (V.writtens l) (V.arguments c.deref-in-Call-2.result.now))) c.deref-in-Call.ensures.value
    ∙ ap (λ (l : List CA.Argument). expression_in w (C.Call c.in-Call.name c.in-Call.place (V.writtens c.in-Call.statics.items) (V.arguments l))) c.deref-in-Call-2.ensures.value
    ∙ ap (expression_in w) (sym (ap V.expression c.in-Call.is ∙ expression_call c.in-Call.name c.in-Call.place c.in-Call.statics c.in-Call.arguments))

pub expression-returns-in_ok-made-in-Match-clause-stays : goal.expression-returns-in_ok-made-in-Match-clause-stays
expression-returns-in_ok-made-in-Match-clause-stays t c = λ m. c.in_ok-clauses-in-Match.ensures.stays m

pub expression-returns-in_ok-made-in-Match-clause-flat : goal.expression-returns-in_ok-made-in-Match-clause-flat
expression-returns-in_ok-made-in-Match-clause-flat t c = λ m.
    let w = making c.args.self.now in
    let k = c.in-Match.kind in
    c.in_ok-made-in-Match.ensures
    ∙ ap (λ d. match_of d c.in-Match.place (W.argument c.in_ok-scrutinee-in-Match.scrutinee) (W.clauses c.in_ok-clauses-in-Match.clauses.items)) (same_kind k)
    ∙ ap (λ (a : T.Argument). match_of (V.is_destructive k) c.in-Match.place a (W.clauses c.in_ok-clauses-in-Match.clauses.items)) c.in_ok-scrutinee-in-Match.ensures
    ∙ ap (match_of (V.is_destructive k) c.in-Match.place (flat_argument w.source (V.argument c.in-Match.scrutinee))) (c.in_ok-clauses-in-Match.ensures.flat m ∙ ap (λ (l : List CC.Clause). clauses_in w (V.clauses l)) c.deref-in-Match.ensures.value)
    ∙ ap (expression_in w) (sym (ap V.expression c.in-Match.is ∙ expression_match k c.in-Match.place c.in-Match.scrutinee c.in-Match.clauses))

pub expression-returns-in_ok-boxed-in-Nested-clause-stays : goal.expression-returns-in_ok-boxed-in-Nested-clause-stays
expression-returns-in_ok-boxed-in-Nested-clause-stays t c = λ m. c.in_ok-block-in-Nested.ensures.stays m

pub expression-returns-in_ok-boxed-in-Nested-clause-flat : goal.expression-returns-in_ok-boxed-in-Nested-clause-flat
expression-returns-in_ok-boxed-in-Nested-clause-flat t c = λ m.
    let w = making c.args.self.now in
    expression_nested c.in_ok-boxed-in-Nested.boxed
    ∙ ap (λ (b : Block). T.Nested (W.block b)) c.in_ok-boxed-in-Nested.ensures.ok
    ∙ ap T.Nested (c.in_ok-block-in-Nested.ensures.flat m ∙ ap (λ (b : CoreBlock.Block). block_in w (V.block b)) (let e : c.deref-in-Nested.result.now ≡ c.in-Nested.block.value = cc in e))
    ∙ ap (expression_in w) (sym (ap V.expression c.in-Nested.is ∙ core_nested c.in-Nested.block))
