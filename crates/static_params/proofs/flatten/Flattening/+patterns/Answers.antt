use Rattle.std.proofs.Common.{◌∙◌, ◌++◌, List, map, ap, sym}
use Rattle.fip_base.specs.CoreView as V
use Rattle.fip_base.specs.declared.core_form.Pattern as CP
use Rattle.fip_language.specs.Core.{Name}
use Rattle.fip_trees.specs.Tree as T
use Rattle.fip_trees.specs.TreeView as W
use Rattle.fip_trees.specs.declared.decls.ConstructorId.{ConstructorId}
use Rattle.fip_trees.proofs.TreeViews.{pattern_constructor}
use Rattle.static_params.specs.FlatProgram.{constructor_of}
use Rattle.static_params.proofs.FlatViews.{core_binder, core_constructor, view_binder}
use Rattle.static_params.specs.FlatView.{Making, making, pattern_in, patterns_in}
use Rattle.static_params.proofs.Made.{pattern_row, row_goes, row_done, stays_same, stays_more}
use Rattle.static_params.proofs.flatten.Flattening.+patterns.Goals as goal

pub patterns-loop-pattern-init : goal.patterns-loop-pattern-init
patterns-loop-pattern-init t c = record {
  stays = λ m. stays_same c.args.self.now m;
  row = λ m.
      let old = c.args.self.now in
      ap (λ l. map W.pattern l ++ map (pattern_in (making old)) (map V.pattern c.args.list.now)) c.new-patterns.ensures.items;
}

pub patterns-loop-pattern-preserved : goal.patterns-loop-pattern-preserved
patterns-loop-pattern-preserved t c =
    let old = c.args.self.now in
    let mid = c.loop-pattern.self in
    let new = c.pattern.new.self in
    record {
      stays = λ m. let s = c.loop-pattern.invariant.stays m in stays_more old mid new s (c.in_ok-made.ensures.stays s.ready);
      row = λ m.
          let s = c.loop-pattern.invariant.stays m in
          row_goes W.pattern (pattern_in (making old)) V.pattern c.loop-pattern.patterns.items c.push.new.self.items c.args.list.now c.loop-pattern.pattern-index c.pattern-item.result c.in_ok-made.made (map (pattern_in (making old)) (map V.pattern c.args.list.now)) c.loop-pattern-test.true c.pattern-item.is c.in_ok-push.ensures.items
          (c.in_ok-made.ensures.flat s.ready ∙ ap (λ (w : Making). pattern_in w (V.pattern c.pattern-item.result)) s.same) (c.loop-pattern.invariant.row m);
    }

pub patterns-returns-clause-stays : goal.patterns-returns-clause-stays
patterns-returns-clause-stays t c = λ m. c.loop-pattern.invariant.stays m

pub patterns-returns-clause-flat : goal.patterns-returns-clause-flat
patterns-returns-clause-flat t c = λ m.
    let old = c.args.self.now in
    ap W.patterns_of (row_done W.pattern (pattern_in (making old)) V.pattern c.loop-pattern.patterns.items c.args.list.now c.loop-pattern.pattern-index (map (pattern_in (making old)) (map V.pattern c.args.list.now)) c.loop-pattern-test.false (c.loop-pattern.invariant.row m))
    ∙ sym (pattern_row (making old) (map V.pattern c.args.list.now))

-- ---- one pattern

pub pattern-returns-in_ok-made-in-Binder-clause-flat : goal.pattern-returns-in_ok-made-in-Binder-clause-flat
pattern-returns-in_ok-made-in-Binder-clause-flat t c = λ m.
    let w = making c.args.self.now in
    view_binder c.in_ok-made-in-Binder.made ∙ ap T.BinderPattern (c.in_ok-made-in-Binder.ensures.flat m)
    ∙ ap (pattern_in w) (sym (ap V.pattern c.in-Binder.is ∙ core_binder c.in-Binder.binder))

pub pattern-returns-in-Literal-clause-stays : goal.pattern-returns-in-Literal-clause-stays
pattern-returns-in-Literal-clause-stays t c = λ m. stays_same c.args.self.now m

pub pattern-returns-in_ok-patterns-in-Constructor-clause-flat : goal.pattern-returns-in_ok-patterns-in-Constructor-clause-flat
pattern-returns-in_ok-patterns-in-Constructor-clause-flat t c = λ m.
    let w = making c.args.self.now in
    let id = c.constructor-id.result in
    let p = c.in-Constructor.place in
    let k = constructor_of w.source c.in-Constructor.name in
    pattern_constructor 0 id.«data» id.number c.in_ok-name-in-Constructor.name p c.in_ok-patterns-in-Constructor.patterns
    ∙ ap (λ (j : ConstructorId). T.ConstructorPattern 0 j.«data» j.number c.in_ok-name-in-Constructor.name p (W.patterns c.in_ok-patterns-in-Constructor.patterns.items)) c.constructor-id.ensures
    ∙ ap (λ (x : Name). T.ConstructorPattern 0 k.«data» k.number x p (W.patterns c.in_ok-patterns-in-Constructor.patterns.items)) c.in_ok-name-in-Constructor.ensures
    ∙ ap (T.ConstructorPattern 0 k.«data» k.number c.in-Constructor.name p) (c.in_ok-patterns-in-Constructor.ensures.flat m ∙ ap (λ (l : List CP.Pattern). patterns_in w (V.patterns l)) c.deref.ensures.value)
    ∙ ap (pattern_in w) (sym (ap V.pattern c.in-Constructor.is ∙ core_constructor c.in-Constructor.name p c.in-Constructor.patterns))
