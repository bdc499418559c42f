use Rattle.std.proofs.Common.{◌≡◌, drop}
use Rattle.fip_language.specs.Table.{all_bare}
use Rattle.fip_base.proofs.table.are_bare.Given as goal

abbrev pub invariant-loop-c : goal.invariant-loop-c
invariant-loop-c l = all_bare (drop l.c-index l.constructors) ≡ all_bare l.constructors
