-- The most frames and words so far, which a run has with the place where it is.
-- Where two frames wait and the running one ends at word 12, the most so far are at least 2 and 14. A Call whose frame
-- ends at word 20 makes them 3 and 22, if they were less; a return leaves them.
use Rattle.std.specs.Prelude.{◌≡◌, ℕ, ◌+◌, ◌≤◌, max}
use Rattle.machine_step.specs.declared.cursor.Cursor.{Cursor}

-- the words of all frames, two of each beside its registers
abbrev pub words_now : Cursor → ℕ
words_now c = c.base + c.registers + 2

-- They are no less than those of now.
pub record IsHigh (c : Cursor) : Type 0 where
  pub frames : c.frames ≤ c.highest.frames
  pub words : words_now c ≤ c.highest.words

-- At the new place they are those so far, or those of the new place where these are more.
pub record IsRaised (c d : Cursor) : Type 0 where
  pub frames : d.highest.frames ≡ max c.highest.frames d.frames
  pub words : d.highest.words ≡ max c.highest.words (words_now d)

-- The run is in the same frame, and they stay.
pub record IsSame (c d : Cursor) : Type 0 where
  pub base : d.base ≡ c.base
  pub registers : d.registers ≡ c.registers
  pub frames : d.frames ≡ c.frames
  pub highest : d.highest ≡ c.highest
