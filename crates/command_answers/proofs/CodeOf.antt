-- The code of a source, whatever the compiler, is known by what is required of it: it is lowered from the source's
-- program, so its runs end as the program means, and take as much of the stack as the evaluation does. The idea: a
-- function that is loaded begins rightly, and is that of its instance; what is lowered so means its instance; and the
-- stack of its run is that of the run on trees, whose frames have the registers that the groups report.
use Rattle.std.proofs.Common.{◌≡◌, ◌∙◌, ◌<◌, ◌+◌, ℕ, zero, suc, List, [], ◌∷◌, length, map, max, Option, Some, None, slice_get, refl, sym, ap, ap₂, subst, arith}
use Rattle.std.proofs.lemmas.Option.{none-some, same_Some}
use Rattle.command_library.specs.fip_language.Gauge.{highest_frames, highest_words}
use Rattle.command_library.specs.fip_language.Meaning.{Peak, Run}
use Rattle.command_library.specs.fip_language.Table.{Table, HaveTypes}
use Rattle.command_library.specs.fip_language.Values.{Values}
use Rattle.command_library.specs.fip_base.declared.plain.Param.{Param}
use Rattle.command_library.specs.fip_base.declared.plain.Stack.{Stack}
use Rattle.command_library.specs.command_tasks.source_report.fip_trees.Tree.{Instance, Program}
use Rattle.command_library.specs.command_tasks.source_report.tail_groups.Members.{AreMembers}
use Rattle.command_library.specs.command_tasks.source_report.tail_groups.Registers as T'
use Rattle.command_library.specs.command_tasks.source_report.instance_semantics.Meaning.{flat_meaning}
use Rattle.command_library.specs.command_tasks.source_report.cell_lower.Limits.{registers}
use Rattle.command_library.specs.command_tasks.source_report.cell_lower.Shape.{Header, header_of, headers}
use Rattle.command_library.specs.code_rules.cell_code.Plain.{PlainFunction, PlainCode, function_at, all_instrs}
use Rattle.command_library.specs.command_tasks.code_file.declared.tags.Version.TheVariants.{Second}
use Rattle.command_library.specs.command_tasks.source_report.lowering_relation.LoweredBodies.{function_of}
use Rattle.command_library.specs.command_tasks.source_report.lowering_relation.LoweredFunctions.{AreLowered}
use Rattle.command_library.specs.command_tasks.source_report.lowering_simulation.CellEnds.{EndsAs, IsFunctionOf}
use Rattle.command_library.specs.command_tasks.source_report.lowering_simulation.RunEnds.{RunsTo, height, highest, words_of_all}
use Rattle.command_library.specs.command_tasks.source_report.lowering_simulation.Wide.{AreWide}
use Rattle.command_library.specs.command_tasks.run_loading.tree_refinement.Runs.{BeginsWith}
use Rattle.command_library.specs.command_tasks.run_loading.tree_refinement.tree_semantics.Runs as T
use Rattle.command_library.specs.command_tasks.run_loading.tree_refinement.tree_semantics.States as U
use Rattle.command_library.specs.machine_semantics.Gauges.{seen}
use Rattle.command_library.specs.machine_semantics.Limits.{frame_words}
use Rattle.command_library.specs.machine_semantics.Runs as C
use Rattle.command_library.specs.machine_semantics.Runs.{End, Value, Ends, Over, begun, after, loaded}
use Rattle.command_library.specs.machine_semantics.States.{State}
use Rattle.command_library.specs.machine_semantics.Steps.{Kinds}
use Rattle.command_library.specs.code_rules.Codes.{params, params_of}
use Rattle.command_library.specs.separation.Codes.{AreKinds, HasLiterals}
use Rattle.command_library.specs.separation.Starts.{IsStart}
use Rattle.command_library.specs.run_loading.Loading.{first_store, first_words}
use Rattle.command_library.proofs.run_loading.Begins.{begins}
use Rattle.command_library.proofs.separation.Loading.{loaded_is}
use Rattle.command_library.specs.command_run.GaugeText.{highest_stack}
use Rattle.command_library.specs.command_source.ProgramCode.{IsCodeOfSource}
use Rattle.command_library.proofs.command_run.machine_correctness.Entries.{plain_header}
use Rattle.command_library.proofs.command_run.machine_correctness.Peaks.{header_at, counted_at}
use Rattle.command_library.proofs.command_run.machine_correctness.tree_refinement.Overs.{seen_at_end, seen_enough}
use Rattle.command_library.proofs.command_run.machine_correctness.tree_refinement.Stacks.{wide, wide_at, wide_all, tree_frames, tree_words, tree_highest, frames_from, words_from}
use Rattle.command_library.proofs.command_run.machine_correctness.compiler_correctness.Joined.{on_cells, begun_takes, not_stuck}
use Rattle.command_library.proofs.command_run.machine_correctness.compiler_correctness.in_place_safety.Within.{frame_same, variables_at}
use Rattle.command_library.proofs.command_run.machine_correctness.compiler_correctness.in_place_safety.Checked.{bounded}
use Rattle.command_library.proofs.command_run.machine_correctness.compiler_correctness.lowering_simulation.Guards.{guarded}
use Rattle.command_library.proofs.command_run.machine_correctness.compiler_correctness.lowering_simulation.Whole.{runs_to}
use Rattle.command_library.proofs.command_run.machine_correctness.compiler_correctness.source_report.Distinct.{typed_distinct}
use Rattle.command_library.proofs.command_run.machine_correctness.compiler_correctness.source_report.Sizing.{typed_filled}
use Rattle.command_library.proofs.command_run.machine_correctness.compiler_correctness.source_safety.Accepted.{credited_checked}
use Rattle.command_library.proofs.command_run.machine_correctness.compiler_correctness.source_safety.Formed.{typed_is_formed}
use Rattle.command_answers.specs.Exec.{stack_of_peak}
use Rattle.command_answers.specs.CodeOf.{IsLoaded, IsCodeOf}
use Rattle.command_answers.proofs.FileTexts.{literals}
use Rattle.command_library.proofs.fip_language.Facts.{max_none}

-- a function of this header
of_header : (fs : List PlainFunction) (n : ℕ) (h : Header) → slice_get (map plain_header fs) n ≡ Some h → (f : PlainFunction) × (slice_get fs n ≡ Some f) × (plain_header f ≡ h)
of_header [] n h e = absurd (none-some h e)
of_header (f ∷ fs) zero h e = (f, refl, same_Some (plain_header f) h e)
of_header (f ∷ fs) (suc n) h e = of_header fs n h e

-- ---- the highest over a run on trees

all_same : (c : PlainCode) (gs : List U.Frame) → wide_all c gs ≡ words_of_all (wide_at c) gs
all_same c [] = refl
all_same c (g ∷ gs) = ap (λ w. wide_at c g.function + w) (all_same c gs)

frames_same : (c : PlainCode) (code : PlainCode) (n : ℕ) (r : T.Run) → tree_highest (tree_frames c) code n r ≡ (highest code (wide_at c) n r).frames
frames_same c code zero (T.Going t left m) = omega arith
frames_same c code (suc n) (T.Going t left m) = ap (max (length t.waiting)) (frames_same c code n (T.later code (T.Going t left m)))
frames_same c code zero (T.Over a t left m) = omega arith
frames_same c code (suc n) (T.Over a t left m) = omega arith

words_state : (c : PlainCode) (t : U.State) → tree_words c t ≡ (height (wide_at c) t).words
words_state c t = ap (λ w. wide_at c t.running.function + w) (all_same c t.waiting)

words_same : (c : PlainCode) (code : PlainCode) (n : ℕ) (r : T.Run) → tree_highest (tree_words c) code n r ≡ (highest code (wide_at c) n r).words
words_same c code zero (T.Going t left m) = max_none (tree_words c t) _ (words_state c t)
words_same c code (suc n) (T.Going t left m) =
    ap (λ x. max x (tree_highest (tree_words c) code n (T.later code (T.Going t left m)))) (words_state c t)
    ∙ ap (max (height (wide_at c) t).words) (words_same c code n (T.later code (T.Going t left m)))
words_same c code zero (T.Over a t left m) = max_none (tree_words c t) _ (words_state c t)
words_same c code (suc n) (T.Over a t left m) = max_none (tree_words c t) _ (words_state c t)

highest_over : (code : PlainCode) (width : ℕ → ℕ) (m : ℕ) (a : _) (s : U.State) (left j : ℕ) → highest code width m (T.Over a s left j) ≡ height width s
highest_over code width zero a s left j = refl
highest_over code width (suc m) a s left j = refl

highest_enough : (code : PlainCode) (width : ℕ → ℕ) (n m : ℕ) (r : T.Run) (a : _) (last : U.State) (left steps : ℕ) → T.after code n r ≡ T.Over a last left steps → highest code width (n + m) r ≡ highest code width n r
highest_enough code width zero m (T.Going s l j) a last left steps is = absurd cc
highest_enough code width (suc n) m (T.Going s l j) a last left steps is =
    let more : suc n + m ≡ suc (n + m) = omega arith in
    ap (λ k. highest code width k (T.Going s l j)) more
    ∙ ap (λ p. record { frames = max (height width s).frames p.frames; words = max (height width s).words p.words }) (highest_enough code width n m (T.later code (T.Going s l j)) a last left steps is)
highest_enough code width n m (T.Over b s l j) a last left steps is = highest_over code width (n + m) b s l j ∙ sym (highest_over code width n b s l j)

-- with no call left a run gives no words
pub some_calls : (before : Kinds) (code : PlainCode) (s : State) (calls : ℕ) (ws : List ℕ) (last : State) (left steps : ℕ) → Ends before code s calls (Value ws) last left steps → 0 < calls
some_calls before code s zero ws last left steps x = absurd (never x.enough x.is)
  where
    never : (n : ℕ) → after before code n (begun s zero) ≡ Over (Value ws) last left steps → ⊥
    never zero e = absurd cc
    never (suc n) e = never n e
some_calls before code s (suc k) ws last left steps x = omega arith

module _ (source : List ℕ) (code : PlainCode) (h : IsCodeOfSource source code) where
  abbrev c : PlainCode
  c = code

  abbrev p : Program
  p = h.program

  abbrev trees : PlainCode
  trees = c

  lowered : AreLowered p (all_instrs trees)
  lowered = h.lowered.lowered

  headed : map plain_header c.functions ≡ headers h.lowered.members p.instances
  headed = h.lowered.functions

  written : HasLiterals c
  written = literals h.filed.0 code (Second, h.filed.1)

  -- the function of an instance
  function_found : (i n : ℕ) (d : Instance) → function_of p.instances i ≡ Some n → slice_get p.instances i ≡ Some d → (f : PlainFunction) × (function_at c n ≡ Some f) × (plain_header f ≡ header_of (registers h.lowered.members i) d)
  function_found i n d e there =
      let zeroth : 0 + i ≡ i = omega arith in
      let at = header_at h.lowered.members 0 p.instances i n d e there ∙ ap (λ k. Some (header_of (registers h.lowered.members k) d)) zeroth in
      of_header c.functions n (header_of (registers h.lowered.members i) d) (ap (λ hs. slice_get hs n) headed ∙ at)

  wide_code : AreWide p (wide_at c)
  wide_code g n d e there =
      let f = function_found g n d e there in
      let own : (f.0).registers ≡ T'.registers d = ap (λ (x : Header). x.registers) f.2 ∙ counted_at p.instances h.lowered.members g d h.lowered.found there (slice_get h.lowered.members g) refl in
      let b = bounded p h.lowered.members (credited_checked source p h.lowered.members h.accepted.tailed.credited h.lowered.found) in
      ap wide f.1 ∙ ap (λ r. r + frame_words) own ∙ frame_same d (variables_at p.instances g d b.scrutinees there)

  module _ (before waits : Kinds) (kinds : AreKinds c before waits) (i n : ℕ) (vs : Values) (frames : ℕ) (s : State) (l : IsLoaded p c i n vs frames s) where
    abbrev d : Instance
    d = l.instance

    f : (f : PlainFunction) × (function_at c n ≡ Some f) × (plain_header f ≡ header_of (registers h.lowered.members i) d)
    f = function_found i n d l.is l.there

    params_same : (f.0).params ≡ d.params
    params_same = ap (λ (x : Header). x.signature.params) f.2

    credits_same : (f.0).credits ≡ d.credits
    credits_same = ap (λ (x : Header). x.signature.credits) f.2

    of' : IsFunctionOf p i c n
    of' = record {
      function = l.is;
      types = h.lowered.types;
      takes = λ e at. ap params_of f.1 ∙ (params_same ∙ ap (λ (x : Instance). x.params) (same_Some d e (sym l.there ∙ at)));
    }

    typed : HaveTypes c.types (map (λ (q : Param). q.ty) (f.0).params) vs
    typed =
        subst (λ tb. HaveTypes tb (map (λ (q : Param). q.ty) (f.0).params) vs) (sym h.lowered.types)
        (subst (λ ps. HaveTypes p.types (map (λ (q : Param). q.ty) ps) vs) (sym params_same) l.typed)

    loaded_so : loaded trees n (first_store vs (f.0).credits) (first_words vs (f.0).credits) frames ≡ Some s
    loaded_so = subst (λ ks. loaded trees n (first_store vs ks) (first_words vs ks) frames ≡ Some s) (sym credits_same) l.begins

    start : IsStart c before waits n [] s × BeginsWith c n s vs
    start = begins c before waits n f.0 vs frames s h.sound written kinds f.1 typed loaded_so

    free : s.free ≡ frames
    free = ap (λ (t : State). t.free) (loaded_is c n f.0 (first_store vs (f.0).credits) (first_words vs (f.0).credits) frames s f.1 loaded_so)

    pub means_so : (calls : ℕ) → EndsAs c before n s calls (flat_meaning p i vs calls frames).answer
    means_so calls =
        subst (λ m. EndsAs c before n s calls (flat_meaning p i vs calls m).answer) free
        (on_cells source p c h.accepted lowered before waits i n vs [] s calls of' start.0 start.1)

    -- the evaluation of the instance
    tree_run : (k : ℕ) → RunsTo trees (wide_at c) (T.begun (T.entry n vs s.free) (suc k)) (flat_meaning p i vs (suc k) s.free)
    tree_run k =
        let matched = h.accepted.tailed.credited.owned.matched in
        let typed = matched.typed in
        let takes = begun_takes c p i n s vs of' start.1 in
        runs_to trees (wide_at c) p lowered (guarded p (typed_is_formed source p typed) (typed_filled source p typed)) (typed_distinct source p typed) wide_code
        i n vs k s.free l.is takes (not_stuck source p matched i n vs (suc k) s.free l.is takes)

    module _ (k : ℕ) (e : End) (last : State) (left steps : ℕ) (x : Ends before trees s (suc k) e last left steps) where
      abbrev r : RunsTo trees (wide_at c) (T.begun (T.entry n vs s.free) (suc k)) (flat_meaning p i vs (suc k) s.free)
      r = tree_run k

      turned : r.enough + x.enough ≡ x.enough + r.enough
      turned = omega arith

      high : highest trees (wide_at c) (x.enough + r.enough) (T.begun (T.entry n vs s.free) (suc k)) ≡ (flat_meaning p i vs (suc k) s.free).peak
      high =
          ap (λ m. highest trees (wide_at c) m (T.begun (T.entry n vs s.free) (suc k))) (sym turned)
          ∙ highest_enough trees (wide_at c) r.enough x.enough (T.begun (T.entry n vs s.free) (suc k)) (flat_meaning p i vs (suc k) s.free).answer r.last r.left r.steps r.is
          ∙ r.peak

      peak_frames : highest_frames (seen before trees x.enough (begun s (suc k))) ≡ (flat_meaning p i vs (suc k) s.free).peak.frames
      peak_frames =
          ap highest_frames (sym (seen_enough before trees x.enough r.enough (begun s (suc k)) e last left steps x.is))
          ∙ frames_from c before waits n [] s vs (suc k) start.0 start.1 (x.enough + r.enough) 0
          ∙ frames_same c trees (x.enough + r.enough) (T.begun (T.entry n vs s.free) (suc k))
          ∙ ap (λ (q : Peak). q.frames) high

      peak_words : highest_words (seen before trees x.enough (begun s (suc k))) ≡ (flat_meaning p i vs (suc k) s.free).peak.words
      peak_words =
          ap highest_words (sym (seen_enough before trees x.enough r.enough (begun s (suc k)) e last left steps x.is))
          ∙ words_from c before waits n [] s vs (suc k) start.0 start.1 (x.enough + r.enough) 0
          ∙ words_same c trees (x.enough + r.enough) (T.begun (T.entry n vs s.free) (suc k))
          ∙ ap (λ (q : Peak). q.words) high

      stack_so : highest_stack (seen before trees steps (begun s (suc k))) ≡ stack_of_peak (flat_meaning p i vs (suc k) frames).peak
      stack_so =
          ap highest_stack (seen_at_end before trees s (suc k) e last left steps x)
          ∙ ap₂ (λ m w. record { frames = m; words = w }) peak_frames peak_words
          ∙ ap (λ m. stack_of_peak (flat_meaning p i vs (suc k) m).peak) free

    pub peaks_so : (calls : ℕ) → 0 < calls → (e : End) (last : State) (left steps : ℕ) → Ends before trees s calls e last left steps → highest_stack (seen before trees steps (begun s calls)) ≡ stack_of_peak (flat_meaning p i vs calls frames).peak
    peaks_so zero some e last left steps x = absurd (omega (arith, some))
    peaks_so (suc k) some e last left steps x = stack_so k e last left steps x

  -- it is the code of its program
  pub code_of : IsCodeOf h.program code
  code_of = record {
    types = h.lowered.types;
    members = h.lowered.members;
    found = h.lowered.found;
    functions = h.lowered.functions;
    within = h.lowered.bounded;
    narrow = h.lowered.narrow;
    spelt = h.filed;
    sound = h.sound;
    stacks = h.lowered.stacks;
    means = λ before waits kinds i n vs calls frames s l. means_so before waits kinds i n vs frames s l calls;
    peaks = λ before waits kinds i n vs calls frames s l some e last left steps x. peaks_so before waits kinds i n vs frames s l calls some e last left steps x;
  }
