-- The words of registers of a frame, which begins at a number among all words.
-- Among the words 7, 5, 6, 4 the frame of 3 registers at 1 has 5, 6, 4; its registers 2 and 0 have 4 and 5, and where 2
-- and 0 get 8 and 9, the words are 7, 9, 6, 8.
use Rattle.std.specs.Prelude.{ℕ, suc, ◌+◌, List, [], ◌∷◌, slice_index_or, slice_set}

-- the words of registers
abbrev pub words_from : ℕ → List ℕ → List ℕ → List ℕ
words_from base ws [] = []
words_from base ws (r ∷ rs) = slice_index_or ws (base + r) 0 ∷ words_from base ws rs

-- with other words in registers, the first one first
abbrev pub put_words : ℕ → List ℕ → List ℕ → List ℕ → List ℕ
put_words base ws [] vs = ws
put_words base ws (d ∷ ds) [] = ws
put_words base ws (d ∷ ds) (v ∷ vs) = put_words base (slice_set ws (base + d) v) ds vs

-- with other words from a number on
abbrev pub laid_at : ℕ → List ℕ → List ℕ → List ℕ
laid_at n ws [] = ws
laid_at n ws (v ∷ vs) = laid_at (suc n) (slice_set ws n v) vs
