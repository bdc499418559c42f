-- Once the borrow of the machine ends, the handle holds what was last written through it.
use base.Fml.{Fml}
use denote.Ref.{MutBor}
use denote.Follow.{follows}
use Rattle.fip_host.specs.contracts.hosted.Hosted as M
use Rattle.fip_host.specs.contracts.handle.Handle as H

-- the handle with another machine in it
abbrev pub with_machine : H.the_row.Denot → M.the_row.Denot → H.the_row.Denot
with_machine h w = record { at = h.at; alloc = h.alloc; held = w }

abbrev pub handle_follows : MutBor H.the_row.Denot → MutBor M.the_row.Denot → Fml
handle_follows b r = follows H.the_row M.the_row b.ghost_name r.ghost_name (with_machine b.now)
