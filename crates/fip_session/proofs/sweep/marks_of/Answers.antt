use Rattle.std.proofs.Common.{arith}
use Rattle.fip_session.proofs.Marking.{marking_starts, marking_on, marking_ends}
use Rattle.fip_session.proofs.sweep.marks_of.Goals as goal

pub loop-tree-init : goal.loop-tree-init
loop-tree-init c = marking_starts c.args.kept.now.list.items c.as_slice-tree-items.result.now c.in_ok-marks.marks.items c.places_to.result c.as_slice-tree-items.ensures.same (c.in_ok-marks.ensures.items_if_clones_equal (λ y h. h)) c.places_to.ensures.within

pub loop-tree-preserved : goal.loop-tree-preserved
loop-tree-preserved c = marking_on c.args.kept.now.list.items c.as_slice-tree-items.result.now c.loop-tree.tree-index _ c.loop-tree.marks.items c.mark.new.marks.items c.as_slice-tree-items.ensures.same c.loop-tree-test.true c.mark.ensures c.loop-tree.invariant

pub returns : goal.returns
returns c = record {
  marks = (let ge = c.loop-tree-test.false in marking_ends c.args.kept.now.list.items c.as_slice-tree-items.result.now c.loop-tree.tree-index c.loop-tree.marks.items (omega (arith, ge)) c.loop-tree.invariant);
}
