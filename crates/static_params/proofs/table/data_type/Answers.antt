use Rattle.std.proofs.Common.{◌∙◌, ◌++◌, List, map, refl, ap}
use Rattle.fip_language.specs.Table.{Shape}
use Rattle.fip_trees.specs.declared.decls.DeclaredConstructor.{DeclaredConstructor}
use Rattle.reached_instances.specs.closed_types.Closed.{Closeds}
use Rattle.static_params.specs.FlatProgram.{Numbers, flat_constructor}
use Rattle.static_params.specs.FlatView.{numbers_at}
use Rattle.reached_instances.specs.closed_types.SharedTrees.{trees, trees_at}
use Rattle.reached_instances.specs.closed_types.DeclaredView.{constructor}
use Rattle.reached_instances.proofs.closed_types.Growing.{grows_same, grows_more, trees_kept, within_more}
use Rattle.static_params.proofs.Made.{items_done, items_goes}
use Rattle.static_params.proofs.PlaceNumbers.{numbers_kept, numbers_more}
use Rattle.static_params.proofs.table.data_type.Goals as goal

pub loop-constructor-init : goal.loop-constructor-init
loop-constructor-init c =
    let ns = numbers_at (trees c.args.shared.now.branches) c.args.numbers.now in
    let cs = trees_at (trees c.args.shared.now.branches) c.args.given.now in
    record {
      grows = λ a w. grows_same c.args.shared.now.branches;
      fits = λ a w. refl;
      row = λ a w. ap (λ (l : List Shape). l ++ map (flat_constructor ns cs) (map constructor c.deref-constructor-items.result.now)) c.new-constructors.ensures.items;
    }

pub loop-constructor-preserved : goal.loop-constructor-preserved
loop-constructor-preserved c =
    let n = c.args.numbers.now in
    let old = c.args.shared.now in
    let mid = c.loop-constructor.shared in
    let new = c.closed_constructor.new.shared in
    let ns = numbers_at (trees old.branches) n in
    let cs = trees_at (trees old.branches) c.args.given.now in
    let xs = c.deref-constructor-items.result.now in
    let x = c.constructor-item.result in
    record {
      grows = λ a w.
          let g = c.loop-constructor.invariant.grows a w in
          grows_more old.branches mid.branches new.branches g (c.in_ok-made.ensures.grows (numbers_more n old mid g a) (within_more old.branches mid.branches c.args.given.now g w));
      fits = λ a w.
          let g = c.loop-constructor.invariant.grows a w in
          c.in_ok-made.ensures.fits (numbers_more n old mid g a) (within_more old.branches mid.branches c.args.given.now g w) ∙ c.loop-constructor.invariant.fits a w;
      row = λ a w.
          let g = c.loop-constructor.invariant.grows a w in
          let made =
          c.in_ok-made.ensures.made (numbers_more n old mid g a) (within_more old.branches mid.branches c.args.given.now g w)
          ∙ ap (λ (m : Numbers). flat_constructor m (trees_at (trees mid.branches) c.args.given.now) (constructor x)) (numbers_kept n old mid g a)
          ∙ ap (λ (ds : Closeds). flat_constructor ns ds (constructor x)) (trees_kept old.branches mid.branches c.args.given.now g w) in
          items_goes (flat_constructor ns cs) constructor c.loop-constructor.constructors.items c.push.new.self.items xs c.loop-constructor.constructor-index x c.in_ok-made.made (map (flat_constructor ns cs) (map constructor xs)) c.loop-constructor-test.true c.constructor-item.is c.in_ok-push.ensures.items made (c.loop-constructor.invariant.row a w);
    }

pub returns-clause-grows : goal.returns-clause-grows
returns-clause-grows c = c.loop-constructor.invariant.grows

pub returns-clause-fits : goal.returns-clause-fits
returns-clause-fits c = c.loop-constructor.invariant.fits

pub returns-clause-row : goal.returns-clause-row
returns-clause-row c = λ a w.
    let ns = numbers_at (trees c.args.shared.now.branches) c.args.numbers.now in
    let cs = trees_at (trees c.args.shared.now.branches) c.args.given.now in
    let xs = c.deref-constructor-items.result.now in
    c.new.ensures.same
    ∙ items_done (flat_constructor ns cs) constructor c.loop-constructor.constructors.items xs c.loop-constructor.constructor-index (map (flat_constructor ns cs) (map constructor xs)) c.loop-constructor-test.false (c.loop-constructor.invariant.row a w)
    ∙ ap (λ (l : List DeclaredConstructor). map (flat_constructor ns cs) (map constructor l)) c.deref-constructor-items.ensures.value
