-- The lines of the gauge. For each size of which there were cells they report the lowest and the highest number of
-- them; then the frames and the words of the stack at their highest; and for a fip function what a run holds at the
-- most.
--
-- The reversal of a list of three items has the lines
--     cells of 2: 3 to 3
--     stack: 0 frames, 9 words
--     bound: 0 frames, 9 words
use Rattle.std.specs.Prelude.{ℕ, zero, suc, ◌-◌, Bool, List, [], ◌++◌, Option, Some, None}
use Rattle.std.specs.Prelude.{if◌then◌else◌}
use Rattle.fip_language.specs.declared.limits.TheConstants.{MOST_FIELDS}
use Rattle.fip_language.specs.Gauge.{Seen, lowest, highest, highest_frames, highest_words}
use Rattle.fip_base.specs.declared.plain.Stack.{Stack}
use Rattle.command_outcome.specs.Texts.{cells_text, stack_text, bound_text}

-- a line for a size of which there were cells, and then the rest
abbrev pub size_line : ℕ → ℕ → ℕ → List ℕ → List ℕ
size_line k low zero rest = rest
size_line k low (suc high) rest = cells_text k low (suc high) ++ rest

-- the lines of n sizes, the last of them 16, by the lowest and the highest number of cells of each size
abbrev pub size_lines : (ℕ → ℕ) → (ℕ → ℕ) → ℕ → List ℕ → List ℕ
size_lines low high zero rest = rest
size_lines low high (suc n) rest = size_line (MOST_FIELDS - n) (low (MOST_FIELDS - n)) (high (MOST_FIELDS - n))
    (size_lines low high n rest)

-- the stack, and its bound, where there is one
abbrev pub stack_lines : Stack → Option Stack → List ℕ
stack_lines stack None = stack_text stack.frames stack.words
stack_lines stack (Some bound) = stack_text stack.frames stack.words ++ bound_text bound.frames bound.words

-- the sizes from 1 to 16, the stack, and its bound
abbrev pub gauge_text : (ℕ → ℕ) → (ℕ → ℕ) → Stack → Option Stack → List ℕ
gauge_text low high stack bound = size_lines low high MOST_FIELDS (stack_lines stack bound)

-- where it is asked for
abbrev pub if_asked : Bool → List ℕ → List ℕ
if_asked gauge text = if gauge then text else []

-- ---- by what is seen of the states of a run

abbrev pub highest_stack : List Seen → Stack
highest_stack ss = record { frames = highest_frames ss; words = highest_words ss }

abbrev pub gauge_by_states : List Seen → Option Stack → List ℕ
gauge_by_states ss bound = gauge_text (λ k. lowest k ss) (λ k. highest k ss) (highest_stack ss) bound
