-- What the calls of the program of the text `rbtree` tell, written out: frames, groups, registers and stack numbers.
use Rattle.std.specs.Prelude.{true, false, [], ◌∷◌, Some, None}
use Rattle.source_report.specs.call_groups.Groups.{call}
use Rattle.library_texts.proofs.StackNumbers.{Told}

abbrev pub rbtree_told : Told
rbtree_told = record {
  calls = (call 1 false ∷ []) ∷ (call 2 true ∷ call 3 true ∷ call 1 false ∷ call 1 false ∷ call 2 true ∷ []) ∷ (call 2 false ∷ call 2 false ∷ []) ∷ (call 2 false ∷ call 2 false ∷ call 3 false ∷ call 3 false ∷ call 3 false ∷ call 3 false ∷ []) ∷ (call 4 false ∷ call 4 false ∷ []) ∷ (call 0 true ∷ call 5 false ∷ []) ∷ [];
  frames = Some 6 ∷ Some 38 ∷ Some 17 ∷ Some 98 ∷ Some 18 ∷ None ∷ [];
  members = record { group = 0; registers = 4; stack = Some (record { frames = 1; words = 136 }) } ∷ record { group = 1; registers = 36; stack = Some (record { frames = 1; words = 136 }) } ∷ record { group = 2; registers = 15; stack = Some (record { frames = 0; words = 17 }) } ∷ record { group = 3; registers = 96; stack = Some (record { frames = 0; words = 98 }) } ∷ record { group = 4; registers = 16; stack = Some (record { frames = 0; words = 18 }) } ∷ record { group = 5; registers = 14; stack = None } ∷ [];
  frame_ranks = 2 ∷ 1 ∷ 0 ∷ 0 ∷ 0 ∷ 0 ∷ [];
  word_ranks = 2 ∷ 1 ∷ 0 ∷ 0 ∷ 0 ∷ 0 ∷ [];
}
