use Rattle.std.proofs.Common.{◌≡◌, ◌≤◌, length, drop}
use Rattle.command_library.specs.MadeTree.{ends_of}
use Rattle.command_library.specs.Reading.{ints}
use Rattle.command_library.proofs.keys.ends_of.Given as goal

abbrev pub invariant-keys : goal.invariant-keys
invariant-keys l = record {
  within : l.left ≤ length l.keys;
  ends : l.ends ≡ ends_of (ints (drop l.left l.keys));
}

abbrev pub decreases-keys : goal.decreases-keys
decreases-keys l = l.left
