-- What the calls of the program of the text `list` tell, written out: frames, groups, registers and stack numbers.
use Rattle.std.specs.Prelude.{true, false, [], ◌∷◌, Some, None}
use Rattle.source_report.specs.call_groups.Groups.{call}
use Rattle.library_texts.proofs.StackNumbers.{Told}

abbrev pub list_told : Told
list_told = record {
  calls = (call 0 false ∷ []) ∷ (call 0 false ∷ []) ∷ (call 0 true ∷ call 0 false ∷ []) ∷ (call 4 false ∷ []) ∷ (call 0 false ∷ call 4 false ∷ []) ∷ [] ∷ (call 0 false ∷ []) ∷ [];
  frames = Some 9 ∷ Some 4 ∷ Some 6 ∷ Some 4 ∷ Some 12 ∷ Some 15 ∷ None ∷ [];
  members = record { group = 0; registers = 7; stack = Some (record { frames = 0; words = 9 }) } ∷ record { group = 1; registers = 2; stack = Some (record { frames = 0; words = 9 }) } ∷ record { group = 2; registers = 4; stack = Some (record { frames = 1; words = 15 }) } ∷ record { group = 3; registers = 2; stack = Some (record { frames = 0; words = 12 }) } ∷ record { group = 4; registers = 10; stack = Some (record { frames = 0; words = 12 }) } ∷ record { group = 5; registers = 13; stack = Some (record { frames = 0; words = 15 }) } ∷ record { group = 6; registers = 4; stack = None } ∷ [];
  frame_ranks = 0 ∷ 0 ∷ 1 ∷ 0 ∷ 0 ∷ 0 ∷ 0 ∷ [];
  word_ranks = 0 ∷ 1 ∷ 1 ∷ 1 ∷ 0 ∷ 0 ∷ 0 ∷ [];
}
