use Rattle.std.proofs.Common.{arith}
use Rattle.command_library.proofs.Nodes.{odd_below}
use Rattle.command_library.proofs.keys.node_of.Goals as goal

pub returns-then-part : goal.returns-then-part
returns-then-part c = record {
  node = λ small v h.
      let z = c.if-part-eq0.false in
      let below = odd_below c.args.table.now c.args.cells.now.cells c.args.part v (omega (arith, z)) c.if-part-eq0-2.false h in
      let big = c.if-part.true in
      absurd (omega (arith, small, below, big));
}
