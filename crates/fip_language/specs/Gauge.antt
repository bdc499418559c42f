-- The gauge of a run: over all states from the first to the last the lowest and the highest number of held cells of
-- each size (those of live trees and of credits), the most frames and the most words of stack. All are 0 where no state
-- was seen.
-- For instance, rev of Cons(1, Cons(2, Nil)) and Nil holds 2 cells of size 2 all the time: both numbers are 2.
use Rattle.std.specs.Prelude.{ℕ, min, max, List, [], ◌∷◌}

-- what is seen of a state: how many cells of each size are held, the frames, and the words of stack
pub record Seen : Type 0 where
  pub held : ℕ → ℕ
  pub frames : ℕ
  pub words : ℕ

abbrev pub lowest : ℕ → List Seen → ℕ
lowest k [] = 0
lowest k (s ∷ []) = s.held k
lowest k (s ∷ t ∷ ss) = min (s.held k) (lowest k (t ∷ ss))

abbrev pub highest : ℕ → List Seen → ℕ
highest k [] = 0
highest k (s ∷ ss) = max (s.held k) (highest k ss)

abbrev pub highest_frames : List Seen → ℕ
highest_frames [] = 0
highest_frames (s ∷ ss) = max s.frames (highest_frames ss)

abbrev pub highest_words : List Seen → ℕ
highest_words [] = 0
highest_words (s ∷ ss) = max s.words (highest_words ss)
