use Rattle.std.proofs.Common.{◌+◌, ◌-◌, ◌*◌, ◌^◌, vec_len}
use Rattle.fip_language.specs.Values.{Value}
use Rattle.fip_machine.specs.machine_cells.Small.{IsSmall}
use Rattle.command_library.specs.MadeTree.{keys_of}
use Rattle.command_library.specs.Reading.{IsAt, AreKeys}
use Rattle.command_library.proofs.keys.keys_in.Given as goal

abbrev pub invariant-reading : goal.invariant-reading
invariant-reading l = IsSmall l.cells.cells → (v : Value) → IsAt l.table l.cells.cells l.fn.part v → AreKeys l.table l.cells.cells l.waiting.items l.keys.items (keys_of v)

-- a part that puts further ones has a key
abbrev pub decreases-reading : goal.decreases-reading
decreases-reading l = vec_len l.waiting + 2 * (2 ^ 64 - vec_len l.keys)
