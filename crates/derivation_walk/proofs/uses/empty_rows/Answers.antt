use Rattle.std.proofs.Common.{refl, ◌+◌}
use Rattle.derivation_walk.proofs.UsesRows.{rows_more}
use Rattle.derivation_walk.proofs.uses.empty_rows.Goals as goal

pub loop-i-preserved : goal.loop-i-preserved
loop-i-preserved c = rows_more c.loop-i.places.items c.push.new.self.items c.new.result c.loop-i.i (c.loop-i.i + 1) c.in_ok-push.ensures.items c.new.ensures.items refl c.loop-i.invariant
