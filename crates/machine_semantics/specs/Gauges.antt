-- The gauge of a run: over all its states from the loaded one to the last, for each size the lowest and the highest
-- number of cells that are live or credited, the most frames beside the entry's, and the most words of all frames.
-- rev of Cons(1, Cons(2, Nil)) and Nil has two cells of size 2 in each of its states, no frame, and 9 words.
-- What is seen of each state is reported by `lowest`, `highest`, `highest_frames` and `highest_words` of the language's own
-- definitions, over the list below.
use Rattle.std.specs.Prelude.{ℕ, zero, suc, List, [], ◌∷◌, map}
use Rattle.cell_code.specs.fip_language.Gauge.{Seen}
use Rattle.cell_code.specs.Plain.{PlainCode}
use Rattle.machine_semantics.specs.Cells.{count_held}
use Rattle.machine_semantics.specs.States.{State, frames_held, words_held}
use Rattle.machine_semantics.specs.Steps.{Kinds}
use Rattle.machine_semantics.specs.Runs.{Run, Going, Over, later}

-- the cells of each size that aren't released, the frames and the words of a state
abbrev pub seen_of : State → Seen
seen_of s = record { held = λ k. count_held k s.store; frames = frames_held s; words = words_held s }

-- The states of a run from this moment on, over at most so many steps. The last one of a run that is over is seen once
-- more: its end changes no cell.
abbrev pub states : Kinds → PlainCode → ℕ → Run → List State
states kinds code zero (Going s left steps) = s ∷ []
states kinds code (suc n) (Going s left steps) = s ∷ states kinds code n (later kinds code (Going s left steps))
states kinds code zero (Over e s left steps) = s ∷ []
states kinds code (suc n) (Over e s left steps) = s ∷ []

abbrev pub seen : Kinds → PlainCode → ℕ → Run → List Seen
seen kinds code n r = map seen_of (states kinds code n r)
