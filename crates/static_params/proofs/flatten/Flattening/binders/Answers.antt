use Rattle.std.proofs.Common.{◌∙◌, ◌++◌, map, ap}
use Rattle.fip_base.specs.CoreView as V
use Rattle.static_params.specs.FlatView.{Making, making, binder_in}
use Rattle.static_params.proofs.Made.{items_goes, items_done, stays_same, stays_more}
use Rattle.static_params.proofs.flatten.Flattening.binders.Goals as goal

pub loop-binder-init : goal.loop-binder-init
loop-binder-init c = record {
  stays = λ m. stays_same c.args.self.now m;
  row = λ m.
      let old = c.args.self.now in
      ap (λ l. l ++ map (binder_in (making old)) (map V.binder c.args.list.now)) c.in_ok-binders.ensures.items;
}

pub loop-binder-preserved : goal.loop-binder-preserved
loop-binder-preserved c =
    let old = c.args.self.now in
    let mid = c.loop-binder.self in
    let new = c.binder.new.self in
    record {
      stays = λ m. let s = c.loop-binder.invariant.stays m in stays_more old mid new s (c.in_ok-made.ensures.stays s.ready);
      row = λ m.
          let s = c.loop-binder.invariant.stays m in
          items_goes (binder_in (making old)) V.binder c.loop-binder.binders.items c.push.new.self.items c.args.list.now c.loop-binder.binder-index c.binder-item.result c.in_ok-made.made (map (binder_in (making old)) (map V.binder c.args.list.now)) c.loop-binder-test.true c.binder-item.is c.in_ok-push.ensures.items
          (c.in_ok-made.ensures.flat s.ready ∙ ap (λ (w : Making). binder_in w (V.binder c.binder-item.result)) s.same) (c.loop-binder.invariant.row m);
    }

pub returns-clause-stays : goal.returns-clause-stays
returns-clause-stays c = λ m. c.loop-binder.invariant.stays m

pub returns-clause-flat : goal.returns-clause-flat
returns-clause-flat c = λ m.
    let old = c.args.self.now in
    items_done (binder_in (making old)) V.binder c.loop-binder.binders.items c.args.list.now c.loop-binder.binder-index (map (binder_in (making old)) (map V.binder c.args.list.now)) c.loop-binder-test.false (c.loop-binder.invariant.row m)
