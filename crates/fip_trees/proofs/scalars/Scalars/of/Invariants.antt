use Rattle.std.proofs.Common.{◌≡◌, suc, length}
use Rattle.fip_trees.proofs.ScalarTables.{Flags}
use Rattle.fip_trees.proofs.scalars.Scalars.of.Given as goal

abbrev pub invariant-loop-place : goal.invariant-loop-place
invariant-loop-place l = record {
  count : length l.flags.items ≡ suc l.place;
  flags : Flags l.types l.flags.items;
}
