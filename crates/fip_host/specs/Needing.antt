-- The bytes of memory that are reckoned for a store and a run, which `fip_need` reports.
--
-- rev, which is fip, of 7 registers and with frames of 9 words, alone in its code: 8 * (9 + 7 + 9) + 128 = 328 bytes
-- for a run.
use Rattle.std.specs.Prelude.{◌≡◌, ℕ, zero, suc, ◌+◌, ◌-◌, ◌*◌, ◌/◌, ◌^◌, List, [], ◌∷◌, Option, Some, None, max, min}
use Rattle.std.specs.Prelude.{slice_get}
use Rattle.fip_base.specs.declared.plain.Stack.{Stack}
use Rattle.fip_language.specs.declared.limits.TheConstants.{MOST_FRAMES}
use Rattle.fip_machine.specs.cell_code.declared.code.Function.{Function}
use Rattle.fip_machine.specs.code_verify.Checked.{Checked}
use Rattle.cell_code.specs.Plain.{plain}
use Rattle.code_verify.specs.code_rules.StackNumbers.{HasStack}
use Rattle.fip_host.specs.declared.answer.FipNeed.{FipNeed}

-- the words of the greatest frame: a word for each register and two more; 2 where there is no function
abbrev pub largest_frame : List Function → ℕ
largest_frame [] = 2
largest_frame (g ∷ gs) = max (g.registers + 2) (largest_frame gs)

-- the words of all frames of a run: what its stack number says, or as many of the greatest as may be held beside the
-- first one
abbrev pub words_held : Option Stack → ℕ → ℕ → ℕ
words_held (Some s) frames largest = s.words
words_held None frames largest = (min frames MOST_FRAMES + 1) * largest

-- lists of places of cells, 4 bytes for each: as many of k fields as a store of so many words can have, for each k up
-- to the given one; and a block for each list
abbrev pub places_bytes : ℕ → ℕ → ℕ
places_bytes zero words = 0
places_bytes (suc k) words = places_bytes k words + (words / (suc k + 1)) * 4 + 32

-- a store: its words, one bit and half a word for each, lists of places, and the kept values
abbrev pub store_bytes : ℕ → ℕ → ℕ
store_bytes words kept =
    4096 + places_bytes 16 words + words * 8 + (words / 64) * 8 + (words / 2) * 8 + kept * 24

-- as much of it as a number of the machine has room for
abbrev pub capped : ℕ → ℕ
capped n = min n (2 ^ 64 - 1)

-- What is reported of a store of so many words, with room for so many kept values, and of a run of function n with so many
-- frames: beside the frames the words of the arguments, and the greatest frame once more.
pub record IsNeed (c : Checked) (n words kept frames : ℕ) (t : FipNeed) : Type 0 where
  pub function : Function
  pub is : slice_get c.code.functions.items n ≡ Some function
  pub stack : Option Stack
  pub has : HasStack (plain c.code) n stack
  pub run : let largest = largest_frame c.code.functions.items in
      t.run ≡ capped ((words_held stack frames largest + function.registers + largest) * 8 + 128)
  pub store : t.store ≡ capped (store_bytes words kept)
