use Rattle.std.proofs.Common.{length, arith, ◌≤◌, ◌+◌, ◌^◌}
use Rattle.derivation_check.specs.Places.{following}
use Rattle.derivation_check.proofs.Rows.{past_row, after_some}
use Rattle.derivation_check.proofs.nodes.following.Goals as goal

pub returns-in-None-checked_add-clause-row : goal.returns-in-None-checked_add-clause-row
returns-in-None-checked_add-clause-row c n = let e = c.in-None-checked_add.ensures in let g = c.length_of.ensures.fits in let k = c.length_of.ensures.count in let f = after_some c.args.nodes.now c.args.place c.in-Some.node.now c.in-Some.ensures.some in past_row c.args.nodes.now c.length_of.result (following c.args.nodes.now c.args.place) n (omega arith) (omega arith)
