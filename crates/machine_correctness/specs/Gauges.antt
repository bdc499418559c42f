-- What a gauge reports of a run in place; what is seen of the states of any run that gives values; and how high the stack
-- of any run is.
--
-- Of rev of Cons(1, Cons(2, Nil)) and Nil it reports 2 as the lowest and the highest number of cells of size 2, and 0 of
-- each other size; no frame, and 9 words.
use Rattle.std.specs.Prelude.{◌≡◌, ◌≤◌, ◌+◌, ◌-◌, ℕ, List, slice_index_or}
use Rattle.fip_machine.specs.fip_language.declared.limits.TheConstants.{MOST_FIELDS}
use Rattle.fip_machine.specs.fip_language.Gauge.{Seen, lowest, highest, highest_frames, highest_words}
use Rattle.fip_machine.specs.fip_language.Meaning.{Peak}
use Rattle.fip_machine.specs.fip_language.Store.{count}
use Rattle.fip_machine.specs.fip_language.Values.{Values, cells_of_all}
use Rattle.value_text.specs.fip_base.declared.plain.Param.{Param}
use Rattle.value_text.specs.fip_base.declared.plain.Stack.{Stack}
use Rattle.run_loading.specs.tree_refinement.LentValues.{lent_values}
use Rattle.fip_machine.specs.declared.gauge.Gauge.{Gauge}

-- the cells of a size of arguments and of a header's credits
abbrev pub cells_given : ℕ → Values → List ℕ → ℕ
cells_given size vs credits = cells_of_all size vs + count size credits

-- As many cells of each size were held all the time as those that were given, and the stack was within this number. A
-- size has its numbers one place before it.
pub record IsFlat (g : Gauge) (vs : Values) (credits : List ℕ) (stack : Stack) : Type 0 where
  pub lowest : (size : ℕ) → 1 ≤ size → size ≤ MOST_FIELDS →
      slice_index_or g.lowest (size - 1) 0 ≡ cells_given size vs credits
  pub highest : (size : ℕ) → 1 ≤ size → size ≤ MOST_FIELDS →
      slice_index_or g.highest (size - 1) 0 ≡ cells_given size vs credits
  pub frames : g.frames ≤ stack.frames
  pub words : g.words ≤ stack.words

-- Over these states the lowest number of held cells of each size is that of the results' and the borrowed arguments'
-- cells, the highest that of the arguments' cells and the header's credits, and the stack is as high as this peak.
pub record IsMeasured (vs results : Values) (params : List Param) (credits : List ℕ) (peak : Peak) (ss : List Seen) :
    Type 0 where
  pub lowest : (size : ℕ) → 1 ≤ size →
      lowest size ss ≡ cells_of_all size results + cells_of_all size (lent_values params vs)
  pub highest : (size : ℕ) → 1 ≤ size → highest size ss ≡ cells_given size vs credits
  pub frames : highest_frames ss ≡ peak.frames
  pub words : highest_words ss ≡ peak.words

-- Over these states the stack is as high as this peak.
pub record IsAsHigh (peak : Peak) (ss : List Seen) : Type 0 where
  pub frames : highest_frames ss ≡ peak.frames
  pub words : highest_words ss ≡ peak.words
