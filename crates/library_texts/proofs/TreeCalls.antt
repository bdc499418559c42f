-- What the calls of the program of the text `tree` tell, written out: frames, groups, registers and stack numbers.
use Rattle.std.specs.Prelude.{false, [], ◌∷◌, Some}
use Rattle.source_report.specs.call_groups.Groups.{call}
use Rattle.library_texts.proofs.StackNumbers.{Told}

abbrev pub tree_told : Told
tree_told = record {
  calls = (call 1 false ∷ []) ∷ (call 2 false ∷ call 1 false ∷ []) ∷ (call 1 false ∷ call 2 false ∷ []) ∷ [];
  frames = Some 4 ∷ Some 11 ∷ Some 17 ∷ [];
  members = record { group = 0; registers = 2; stack = Some (record { frames = 0; words = 17 }) } ∷ record { group = 1; registers = 9; stack = Some (record { frames = 0; words = 17 }) } ∷ record { group = 1; registers = 15; stack = Some (record { frames = 0; words = 17 }) } ∷ [];
  frame_ranks = 0 ∷ 0 ∷ 0 ∷ [];
  word_ranks = 2 ∷ 1 ∷ 0 ∷ [];
}
