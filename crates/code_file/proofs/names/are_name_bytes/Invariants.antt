use Rattle.std.proofs.Common.{◌≡◌, drop}
use Rattle.fip_language.specs.Character as C
use Rattle.code_file.proofs.names.are_name_bytes.Given as goal

abbrev pub invariant-loop-byte : goal.invariant-loop-byte
invariant-loop-byte l = C.are_name_bytes (drop l.byte-index l.text) ≡ C.are_name_bytes l.text
