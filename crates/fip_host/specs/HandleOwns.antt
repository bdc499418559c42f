-- What a `Handle` owns: the same as a box of a `Hosted`. And what a `Slot` does: what a handle of its machine would, or
-- nothing where none was put there yet.
use Rattle.std.specs.Prelude.{Option, Some, None}
use base.Fml.{Fml, ftrue}
use base.Stored.{Coded}
use denote.RawPtr.{Ptr}
use Rattle.std.specs.Box.Ownership.{box_owns}
use Rattle.std.specs.declared.alloc.Global.{Global}
use Rattle.std.specs.contracts.impls.GlobalAllocator.TheImpl.{ghosts}
use Rattle.fip_host.specs.contracts.hosted.Hosted.{the_row}

abbrev pub handle_owns : Global → Ptr → the_row.Denot → Fml
handle_owns alloc = box_owns (ghosts.dealloc_token alloc) the_row

abbrev pub slot_owns : Global → Ptr → Option the_row.Denot → Fml
slot_owns alloc at None = ftrue
slot_owns alloc at (Some held) = handle_owns alloc at held

abbrev pub hosted_coded : Coded the_row.Denot
hosted_coded = the_row.coded
