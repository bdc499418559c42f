use Rattle.std.proofs.Common.{◌-◌}
use Rattle.derivation_check.proofs.Rows.{owned_here, owned_first, owned_more}
use Rattle.derivation_check.proofs.nodes.are_owned.Goals as goal

pub returns-then-not-is_owned-clause-complete : goal.returns-then-not-is_owned-clause-complete
returns-then-not-is_owned-clause-complete c h = let g = c.is_owned.ensures.complete (owned_here c.args.nodes.now c.args.below c.loop-left.place c.loop-left.left c.loop-left-test.true (c.loop-left.invariant.down h)) in let f = c.if-not-is_owned.true in cc

pub loop-left-preserved : goal.loop-left-preserved
loop-left-preserved c = record {
  up = λ h. c.loop-left.invariant.up (owned_more c.args.nodes.now c.args.below c.loop-left.place c.following-place.result c.loop-left.left c.loop-left-test.true (c.following-place.ensures.row (c.loop-left.left - 1)) (c.is_owned.ensures.sound c.if-not-is_owned.false) h);
  down = λ h. (owned_first c.args.nodes.now c.args.below c.loop-left.place c.following-place.result c.loop-left.left c.loop-left-test.true (c.following-place.ensures.row (c.loop-left.left - 1)) (c.loop-left.invariant.down h)).1;
}
