use Rattle.std.proofs.Common.{sym, ap}
use Rattle.fip_base.specs.fip_language.Core as C
use Rattle.fip_base.specs.CoreView.{written}
use Rattle.closed_types.specs.SharedTrees.{trees}
use Rattle.closed_types.specs.Source.{Instance}
use Rattle.reached_instances.specs.SourceView.{source, instance}
use Rattle.closed_types.specs.TypeInstances.{unless_int}
use Rattle.closed_types.specs.Uses.{declared_type}
use Rattle.reached_instances.proofs.Closing.{instance_kept, ready_more}
use Rattle.reached_instances.proofs.Putting.{all_of_map, put_as, put_ends, put_starts, put_step}
use Rattle.reached_instances.proofs.source.Source.put_writtens.Goals as goal

pub loop-written-init : goal.loop-written-init
loop-written-init c = λ r w. put_starts (λ x. unless_int (declared_type (source c.args.self.now) (instance (trees c.args.shared.now.branches) c.args.here.now) (written x.now))) c.args.list.now c.args.shared.now c.args.places.now.items w

pub loop-written-preserved : goal.loop-written-preserved
loop-written-preserved c = λ r w.
    let s = source c.args.self.now in
    let here = c.args.here.now in
    let old = c.args.shared.now in
    let mid = c.loop-written.shared in
    let new = c.put_written.new.shared in
    let x = c.written-item.result in
    let p = c.loop-written.invariant r w in
    let same = instance_kept here old.branches mid.branches p.grows r.within in
    put_step (λ y. unless_int (declared_type s (instance (trees old.branches) here) (written y.now))) c.args.list.now c.loop-written.written-index x old mid new c.args.places.now.items c.loop-written.places.items c.put_written.new.places.items c.loop-written-test.true c.written-item.is p
    (put_as mid new c.loop-written.places.items c.put_written.new.places.items _ _ (ap (λ (j : Instance). unless_int (declared_type s j (written x.now))) same)
    (c.in_ok-put_written.ensures (ready_more c.args.self.now old.branches mid.branches here p.grows r) p.within))

pub returns : goal.returns
returns c = λ r w.
    let s = source c.args.self.now in
    let h = instance (trees c.args.shared.now.branches) c.args.here.now in
    put_as c.args.shared.now c.loop-written.shared c.args.places.now.items c.loop-written.places.items _ _ (sym (all_of_map (λ (y : C.Written). unless_int (declared_type s h y)) (λ y. written y.now) c.args.list.now))
    (put_ends (λ y. unless_int (declared_type s h (written y.now))) c.args.list.now c.loop-written.written-index c.args.shared.now c.loop-written.shared c.args.places.now.items c.loop-written.places.items c.loop-written-test.false (c.loop-written.invariant r w))
