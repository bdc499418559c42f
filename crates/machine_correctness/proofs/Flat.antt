-- A fip entry's run in place, and what a gauge reports of it.
-- Idea: what is so of the state after each number of steps is so of each state that the gauge sees.
use Rattle.std.proofs.Common.{◌≡◌, ◌<◌, ◌≤◌, ◌+◌, ℕ, zero, suc, true, List, [], ◌∷◌, length, map, Some, sym, ap, ap₂, ◌∙◌, subst, arith}
use Rattle.std.specs.Prelude.{min, max}
use Rattle.fip_machine.specs.fip_language.Every.{Every}
use Rattle.fip_machine.specs.fip_language.Gauge.{Seen, lowest, highest, highest_frames, highest_words}
use Rattle.fip_machine.specs.fip_language.Store.{count}
use Rattle.fip_machine.specs.fip_language.Values.{Values, cells_of_all}
use Rattle.value_text.specs.fip_base.declared.plain.Stack.{Stack}
use Rattle.fip_machine.specs.cell_code.declared.code.Code.{Code}
use Rattle.compiler_correctness.specs.machine_semantics.Cells.{count_held}
use Rattle.fip_machine.specs.cell_code.Plain.{PlainFunction, PlainCode, plain, function_at}
use Rattle.compiler_correctness.specs.machine_semantics.Gauges.{seen_of, states, seen}
use Rattle.compiler_correctness.specs.machine_semantics.Runs.{Value, Trap, Out, Deep, Unsound, Run, Going, Over, state_of, begun, after, later}
use Rattle.compiler_correctness.specs.machine_semantics.States.{State, frames_held, words_held}
use Rattle.compiler_correctness.specs.machine_semantics.Steps.{Kinds}
use Rattle.run_loading.specs.code_rules.Codes.{is_fip}
use Rattle.run_loading.specs.code_rules.StackNumbers.{IsStack}
use Rattle.run_loading.specs.separation.Codes.{AreKinds}
use Rattle.run_loading.specs.separation.Starts.{IsStart}
use Rattle.run_loading.proofs.separation_bounds.FipRuns.{frames_within, words_within}
use Rattle.run_loading.proofs.separation_bounds.Falling.{fip_count}
use Rattle.run_loading.specs.tree_refinement.Runs.{BeginsWith}
use Rattle.fip_machine.specs.code_verify.Checked.{Checked}
use Rattle.fip_machine.specs.declared.gauge.Gauge.{Gauge}
use Rattle.fip_machine.specs.GaugeView.{Reports, ReportsRun}
use Rattle.machine_correctness.specs.Ended.{ReportsJustOver}
use Rattle.machine_correctness.proofs.VerifiedEnds.{reports_just_run}
use Rattle.machine_correctness.specs.Gauges.{IsFlat, cells_given}
use Rattle.machine_correctness.specs.Starts.{IsSoundCode, Begins}
use Rattle.machine_correctness.proofs.Starting.{starts, fip, cells_at_start}
use Rattle.fip_machine.proofs.fip_language.Facts.{max_within as most}

-- ---- each state

module _ (c : PlainCode) (before waits : Kinds) (n : ℕ) (f : PlainFunction) (vs : Values) (s : State) (calls : ℕ) (t : IsStart c before waits n [] s) (b : BeginsWith c n s vs) (is : function_at c n ≡ Some f) (k : is_fip f.kind ≡ true) where
  abbrev at : ℕ → State
  at steps = state_of (after before c steps (begun s calls))

  pub all_cells : (steps size : ℕ) → count_held size (at steps).store ≡ cells_given size vs f.credits
  all_cells steps size = fip_count c before waits n [] s calls steps size t (fip c n f is k) ∙ cells_at_start c before waits n f vs s size t b is

  pub all_frames : (steps : ℕ) (stack : Stack) → IsStack c n stack → frames_held (at steps) ≤ stack.frames
  all_frames steps stack number = frames_within c before waits n [] s calls steps stack t (fip c n f is k) number

  pub all_words : (steps : ℕ) (stack : Stack) → IsStack c n stack → words_held (at steps) ≤ stack.words
  all_words steps stack number = words_within c before waits n [] s calls steps stack t (fip c n f is k) number

-- of code in memory
module _ (code : Code) (before waits : Kinds) (n : ℕ) (f : PlainFunction) (vs : Values) (frames : ℕ) (s : State) (calls : ℕ) (sound : IsSoundCode code) (kinds : AreKinds (plain code) before waits) (b : Begins code n f vs frames s) (k : is_fip f.kind ≡ true) where
  abbrev steps_to : PlainCode → ℕ → State
  steps_to q steps = state_of (after before q steps (begun s calls))

  abbrev t : IsStart (plain code) before waits n [] s × BeginsWith (plain code) n s vs
  t = starts code before waits n f vs frames s sound kinds b

  pub each_cells : (steps size : ℕ) → count_held size (steps_to (plain code) steps).store ≡ cells_of_all size vs + count size f.credits
  each_cells steps size = all_cells (plain code) before waits n f vs s calls t.0 t.1 b.is k steps size

  pub each_frames : (steps : ℕ) (stack : Stack) → IsStack (plain code) n stack → frames_held (steps_to (plain code) steps) ≤ stack.frames
  each_frames steps stack number = all_frames (plain code) before waits n f vs s calls t.0 t.1 b.is k steps stack number

  pub each_words : (steps : ℕ) (stack : Stack) → IsStack (plain code) n stack → words_held (steps_to (plain code) steps) ≤ stack.words
  each_words steps stack number = all_words (plain code) before waits n f vs s calls t.0 t.1 b.is k steps stack number

-- ---- all states that are seen

all_states : (P : State → Type 0) (kinds : Kinds) (code : PlainCode) (m : ℕ) (r : Run) → ((j : ℕ) → P (state_of (after kinds code j r))) → Every P (states kinds code m r)
all_states P kinds code zero (Going s left n) h = (h 0, tt)
all_states P kinds code (suc m) (Going s left n) h = (h 0, all_states P kinds code m (later kinds code (Going s left n)) (λ j. h (suc j)))
all_states P kinds code zero (Over e s left n) h = (h 0, tt)
all_states P kinds code (suc m) (Over e s left n) h = (h 0, tt)

some_state : (kinds : Kinds) (code : PlainCode) (m : ℕ) (r : Run) → 0 < length (states kinds code m r)
some_state kinds code zero (Going s left n) = omega arith
some_state kinds code (suc m) (Going s left n) = omega arith
some_state kinds code zero (Over e s left n) = omega arith
some_state kinds code (suc m) (Over e s left n) = omega arith

lowest_flat : (size c : ℕ) (ss : List State) → 0 < length ss → Every (λ (u : State). count_held size u.store ≡ c) ss → lowest size (map seen_of ss) ≡ c
lowest_flat size c [] some h = absurd (omega (arith, some))
lowest_flat size c (s ∷ []) some h = h.0
lowest_flat size c (s ∷ t ∷ ss) some h =
    let rest = lowest_flat size c (t ∷ ss) (omega arith) h.1 in
    let both : min c c ≡ c = omega arith in
    ap₂ min h.0 rest ∙ both

highest_flat : (size c : ℕ) (ss : List State) → 0 < length ss → Every (λ (u : State). count_held size u.store ≡ c) ss → highest size (map seen_of ss) ≡ c
highest_flat size c [] some h = absurd (omega (arith, some))
highest_flat size c (s ∷ []) some h =
    let alone : max c 0 ≡ c = omega arith in
    ap (λ x. max x 0) h.0 ∙ alone
highest_flat size c (s ∷ t ∷ ss) some h =
    let rest = highest_flat size c (t ∷ ss) (omega arith) h.1 in
    let both : max c c ≡ c = omega arith in
    ap₂ max h.0 rest ∙ both

frames_bounded : (c : ℕ) (ss : List State) → Every (λ (u : State). frames_held u ≤ c) ss → highest_frames (map seen_of ss) ≤ c
frames_bounded c [] h = omega arith
frames_bounded c (s ∷ ss) h = most (frames_held s) (highest_frames (map seen_of ss)) c h.0 (frames_bounded c ss h.1)

words_bounded : (c : ℕ) (ss : List State) → Every (λ (u : State). words_held u ≤ c) ss → highest_words (map seen_of ss) ≤ c
words_bounded c [] h = omega arith
words_bounded c (s ∷ ss) h = most (words_held s) (highest_words (map seen_of ss)) c h.0 (words_bounded c ss h.1)

-- what is seen of a run in place, as far as one goes
pub record IsFlatRun (vs : Values) (credits : List ℕ) (stack : Stack) (ss : List Seen) : Type 0 where
  pub lowest : (size : ℕ) → lowest size ss ≡ cells_given size vs credits
  pub highest : (size : ℕ) → highest size ss ≡ cells_given size vs credits
  pub frames : highest_frames ss ≤ stack.frames
  pub words : highest_words ss ≤ stack.words

flat_run : (before : Kinds) (code : PlainCode) (s : State) (calls : ℕ) (vs : Values) (credits : List ℕ) (stack : Stack) (m : ℕ) → ((j size : ℕ) → count_held size (state_of (after before code j (begun s calls))).store ≡ cells_given size vs credits) → ((j : ℕ) → frames_held (state_of (after before code j (begun s calls))) ≤ stack.frames) → ((j : ℕ) → words_held (state_of (after before code j (begun s calls))) ≤ stack.words) → IsFlatRun vs credits stack (seen before code m (begun s calls))
flat_run before code s calls vs credits stack m held in_frames in_words =
    let ss : List State = states before code m (begun s calls) in
    let some = some_state before code m (begun s calls) in
    let cells : (size : ℕ) → Every (λ (u : State). count_held size u.store ≡ cells_given size vs credits) ss =
    λ size. all_states (λ (u : State). count_held size u.store ≡ cells_given size vs credits) before code m (begun s calls) (λ j. held j size) in
    record {
      lowest = λ size. lowest_flat size (cells_given size vs credits) ss some (cells size);
      highest = λ size. highest_flat size (cells_given size vs credits) ss some (cells size);
      frames = frames_bounded stack.frames ss (all_states (λ (u : State). frames_held u ≤ stack.frames) before code m (begun s calls) in_frames);
      words = words_bounded stack.words ss (all_states (λ (u : State). words_held u ≤ stack.words) before code m (begun s calls) in_words);
    }

pub runs_flat : (c : PlainCode) (before waits : Kinds) (n : ℕ) (f : PlainFunction) (vs : Values) (s : State) (calls m : ℕ) (stack : Stack) → IsStart c before waits n [] s → BeginsWith c n s vs → function_at c n ≡ Some f → is_fip f.kind ≡ true → IsStack c n stack → IsFlatRun vs f.credits stack (seen before c m (begun s calls))
runs_flat c before waits n f vs s calls m stack t b is k number =
    flat_run before c s calls vs f.credits stack m (λ j size. all_cells c before waits n f vs s calls t b is k j size)
    (λ j. all_frames c before waits n f vs s calls t b is k j stack number) (λ j. all_words c before waits n f vs s calls t b is k j stack number)

-- ---- the gauge

reports : (r : Run) (g : Gauge) (ss : List Seen) → ReportsJustOver r g ss → Reports g ss
reports (Going s left n) g ss h = absurd h
reports (Over (Value ws) s left n) g ss h = h
reports (Over (Trap kind line col) s left n) g ss h = h
reports (Over Out s left n) g ss h = h
reports (Over Deep s left n) g ss h = h
reports (Over Unsound s left n) g ss h = absurd h

pub gauge_flat : (v : Checked) (before waits : Kinds) (n : ℕ) (f : PlainFunction) (vs : Values) (frames : ℕ) (s : State) (calls : ℕ) (stack : Stack) (g : Gauge) → IsSoundCode v.code → AreKinds (plain v.code) before waits → Begins v.code n f vs frames s → is_fip f.kind ≡ true → IsStack (plain v.code) n stack → ReportsRun before (plain v.code) s calls g → IsFlat g vs f.credits stack
gauge_flat v before waits n f vs frames s calls stack g sound kinds b k number runs =
    let start = (starts v.code before waits n f vs frames s sound kinds b).0 in
    let just = reports_just_run v before waits n [] s calls g start runs in
    let ss : List Seen = seen before (plain v.code) just.0 (begun s calls) in
    let t = reports (after before (plain v.code) just.0 (begun s calls)) g ss just.1 in
    let flat : IsFlatRun vs f.credits stack ss = flat_run before (plain v.code) s calls vs f.credits stack just.0
    (λ j size. each_cells v.code before waits n f vs frames s calls sound kinds b k j size)
    (λ j. each_frames v.code before waits n f vs frames s calls sound kinds b k j stack number)
    (λ j. each_words v.code before waits n f vs frames s calls sound kinds b k j stack number) in
    record {
      lowest = λ size one few. t.lowest size one few ∙ flat.lowest size;
      highest = λ size one few. t.highest size one few ∙ flat.highest size;
      frames = subst (λ m. m ≤ stack.frames) (sym t.frames) flat.frames;
      words = subst (λ m. m ≤ stack.words) (sym t.words) flat.words;
    }
