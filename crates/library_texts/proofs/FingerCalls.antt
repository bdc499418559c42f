-- What the calls of the program of the text `finger` tell, written out: frames, groups, registers and stack numbers.
use Rattle.std.specs.Prelude.{true, false, [], ◌∷◌, Some}
use Rattle.source_report.specs.call_groups.Groups.{call}
use Rattle.library_texts.proofs.StackNumbers.{Told}

abbrev pub finger_told : Told
finger_told = record {
  calls = (call 1 false ∷ []) ∷ (call 1 false ∷ []) ∷ (call 2 false ∷ []) ∷ (call 0 true ∷ call 2 true ∷ call 4 true ∷ []) ∷ (call 5 true ∷ call 5 true ∷ call 5 true ∷ call 5 true ∷ call 4 false ∷ call 5 true ∷ []) ∷ (call 5 false ∷ []) ∷ [];
  frames = Some 4 ∷ Some 14 ∷ Some 17 ∷ Some 29 ∷ Some 88 ∷ Some 10 ∷ [];
  members = record { group = 0; registers = 2; stack = Some (record { frames = 0; words = 14 }) } ∷ record { group = 1; registers = 12; stack = Some (record { frames = 0; words = 14 }) } ∷ record { group = 2; registers = 15; stack = Some (record { frames = 0; words = 17 }) } ∷ record { group = 3; registers = 27; stack = Some (record { frames = 2; words = 127 }) } ∷ record { group = 4; registers = 86; stack = Some (record { frames = 1; words = 98 }) } ∷ record { group = 5; registers = 8; stack = Some (record { frames = 0; words = 10 }) } ∷ [];
  frame_ranks = 0 ∷ 0 ∷ 0 ∷ 2 ∷ 1 ∷ 0 ∷ [];
  word_ranks = 1 ∷ 0 ∷ 0 ∷ 2 ∷ 1 ∷ 0 ∷ [];
}
