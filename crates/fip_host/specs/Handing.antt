-- What `fip_verify` hands to the host: a machine of just the code that the bytes spell. Of the 240 bytes of the file of
-- rev it is a machine of rev, with no run, no cell, no word for one, and nothing kept.
use Rattle.std.specs.Prelude.{◌≡◌, ℕ, List, [], Option, Some, None}
use Rattle.fip_machine.specs.code_verify.Checked.{Checked}
use Rattle.fip_host.specs.Hosting.{Seen}
use Rattle.fip_host.specs.Verdicts.{IsCodeOf}

-- There is a machine of this code, and nothing was done with it yet.
pub record IsNewMachine (v : Checked) (held : Option Seen) : Type 0 where
  pub machine : Seen
  pub is : held ≡ Some machine
  pub code : machine.code ≡ v
  pub task : machine.task ≡ None
  pub cells : machine.store.cells ≡ []
  pub released : machine.store.released ≡ []
  pub left : machine.left ≡ 0
  pub kept : machine.kept ≡ []

-- There is a machine of the code that the bytes spell, which is sound.
pub record IsMachineOf (bytes : List ℕ) (held : Option Seen) : Type 0 where
  pub code : Checked
  pub spelled : IsCodeOf bytes code
  pub machine : IsNewMachine code held
