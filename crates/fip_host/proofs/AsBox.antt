-- The handle and its parts own what a box at the same types owns.
use mir.Syntax.{impl, tnil, dnil}
use mathlib.Core.List.{[]}
use denote.Signature.{Slot, plain}
use Rattle.std_alloc.proofs.BoxSteps.Form.{Bx}
use Rattle.std.specs.contracts.alloc.Global as Heap
use Rattle.std.specs.contracts.impls.GlobalAllocator.TheImpl.{ghosts, dict}
use Rattle.std.proofs.alloc.Global.TheLaws as heap
use Rattle.fip_host.specs.contracts.hosted.Hosted as Hosted
use Rattle.fip_host.proofs.hosted.Hosted.TheLaws as hosted
use Rattle.fip_host.specs.contracts.handle.parts.Parts as Parts
use Rattle.fip_host.specs.contracts.handle.Handle as Handle

abbrev pub E : Bx
E = record { row = Hosted.the_row; laws = hosted.the_row_laws; al = record { row = Heap.the_row; laws = heap.the_row_laws; g = ghosts; d = dict; drops = impl [] tnil dnil } }

abbrev pub FromParts : Slot 0
FromParts = plain (λ _. Parts.the_row Hosted.the_row Heap.the_row ghosts)

abbrev pub FromHandle : Slot 0
FromHandle = plain (λ _. Handle.the_row)
