use Rattle.std.proofs.Common.{◌≡◌, ◌≤◌, length, map, drop}
use Rattle.fip_trees.specs.TreeView as V
use Rattle.fip_proof.specs.Ready.{IsReady}
use Rattle.fip_proof.proofs.Texts.{Written}
use Rattle.fip_proof.proofs.files.derivation_text.Given as goal

abbrev pub invariant-loop-number : goal.invariant-loop-number
invariant-loop-number l = record {
  limit : l.text.limit ≡ l.limit;
  within : length l.text.bytes ≤ l.limit;
  written : IsReady (V.program l.typed.program) l.needs → Written (V.program l.typed.program) l.number (map V.instance_of (drop l.number l.instance-items)) l.text.bytes;
}
