-- `exec` ends in one thing: a source means one thing, its input encodes one list of arguments, and each of its codes
-- holds of the stack what is reported of the entry, so that it has as many frames. What the gauge reports of a run is
-- reported by the evaluation.
use Rattle.std.proofs.Common.{◌≡◌, ◌≢◌, ◌∙◌, inl, inr, ◌+◌, ◌-◌, ◌≤◌, ℕ, zero, suc, Bool, List, [], ◌∷◌, ◌++◌, length, Option, Some, slice_get, refl, sym, ap, ap₂, subst, arith}
use Rattle.std.specs.Prelude.{Result, Ok, Err}
use Rattle.std.proofs.lemmas.Option.{none-some}
use Rattle.fip_language.specs.Core.{Core}
use Rattle.fip_language.specs.Meaning.{Answer, Gives, Trap, Out, Deep, Stuck, Peak, Run, meaning}
use Rattle.fip_language.specs.declared.limits.TheConstants.{MOST_FIELDS}
use Rattle.fip_language.specs.Gauge.{Seen, lowest, highest}
use Rattle.fip_language.specs.Prefix.{IsPlace}
use Rattle.fip_language.specs.PrintedText.{printed_lines}
use Rattle.fip_language.specs.Statics.{NoClosed}
use Rattle.fip_language.specs.Table.{Table}
use Rattle.fip_language.specs.Values.{Values}
use Rattle.fip_language.specs.ValueText.{SpellsValues}
use Rattle.fip_language.proofs.Frames.{more_frames}
use Rattle.fip_language.proofs.OnePlace.{IsPlace-unique, IsPlace-not_spelt}
use Rattle.fip_base.specs.declared.plain.Param.{Param}
use Rattle.fip_base.specs.declared.plain.Stack.{Stack}
use Rattle.command_eval.specs.machine_correctness.fip_trees.declared.groups.Member.{Member}
use Rattle.command_eval.specs.machine_correctness.tail_groups.Members.{AreMembers}
use Rattle.command_eval.specs.machine_correctness.Gauges.{IsMeasured}
use Rattle.command_eval.specs.machine_correctness.fip_trees.Tree.{Instance, Program}
use Rattle.command_words.specs.Words.{Room}
use Rattle.command_outcome.specs.declared.failure.Failure.{Failure}
use Rattle.command_outcome.specs.declared.failure.Failure.TheVariants as F
use Rattle.command_eval.proofs.machine_correctness.separation_kinds.Basics.{less_or_not}
use Rattle.session_semantics.specs.Talk.{frames_of}
use Rattle.command_eval.proofs.machine_correctness.source_report.Once.{accepted_once}
use Rattle.command_eval.specs.EvalAnswer.{Entry, Spells}
use Rattle.command_eval.proofs.Once.{one_program, one_root, one_core, typed_alike, one_text}
use Rattle.command_run.specs.CodeRun.{all_seen, words_for}
use Rattle.command_run.specs.ExecAnswer.{Execs, Misspelt, Small, Ran, RunsOn, ReportsRun, answer_of, frames_for, peak_of, words_of}
use Rattle.command_run.specs.GaugeText.{gauge_by_states, gauge_text, highest_stack, if_asked, size_line, size_lines, stack_lines}
use Rattle.command_run.proofs.Entry.{root_at}
pub use Rattle.command_eval.proofs.command_source.Compiling.{member_there as member_at}

-- ---- frames

-- an answer that isn't for lack of frames is the same with others
pub same_answer : (core : Core) (name : List ℕ) (vs : Values) (calls m n : ℕ) → (meaning core name NoClosed vs calls m).answer ≢ Deep → (meaning core name NoClosed vs calls n).answer ≢ Deep → (meaning core name NoClosed vs calls m).answer ≡ (meaning core name NoClosed vs calls n).answer
same_answer core name vs calls m n a b = elim (less_or_not m n) as (λ v. (meaning core name NoClosed vs calls m).answer ≡ (meaning core name NoClosed vs calls n).answer) [
  | inl less ↦
      let all : m + (n - m) ≡ n = omega (arith, less) in
      sym (ap (λ (r : Run). r.answer) (more_frames core name NoClosed vs calls m (n - m) a)) ∙ ap (λ d. (meaning core name NoClosed vs calls d).answer) all
  | inr more ↦
      let all : n + (m - n) ≡ m = omega (arith, more) in
      sym (sym (ap (λ (r : Run). r.answer) (more_frames core name NoClosed vs calls n (m - n) b)) ∙ ap (λ d. (meaning core name NoClosed vs calls d).answer) all)
]

-- ---- what is reported

reports_alike : (tb : Table) (results : List ℕ) (calls frames : ℕ) (following other : Values → List ℕ) (a : Answer) (d e : Result (List ℕ) Failure) → ((vs : Values) (left : ℕ) → a ≡ Gives vs left → following vs ≡ other vs) → ReportsRun tb results calls frames following a d → ReportsRun tb results calls frames other a e → d ≡ e
reports_alike tb results calls frames following other (Gives vs left) d e same h k = h ∙ ap (λ text. Ok (printed_lines tb results vs ++ text)) (same vs left refl) ∙ sym k
reports_alike tb results calls frames following other (Trap kind line col) d e same h k = h ∙ sym k
reports_alike tb results calls frames following other Out d e same h k = h ∙ sym k
reports_alike tb results calls frames following other Deep d e same h k = h ∙ sym k
reports_alike tb results calls frames following other Stuck d e same h k = absurd h

-- the lines of sizes, where the numbers of each size are the same
pub sizes_alike : (low low' high high' : ℕ → ℕ) → ((k : ℕ) → 1 ≤ k → low k ≡ low' k) → ((k : ℕ) → 1 ≤ k → high k ≡ high' k) → (n : ℕ) → n ≤ MOST_FIELDS → (rest : List ℕ) → size_lines low high n rest ≡ size_lines low' high' n rest
sizes_alike low low' high high' l h zero le rest = refl
sizes_alike low low' high high' l h (suc n) le rest =
    let k = MOST_FIELDS - n in
    let one : 1 ≤ k = omega (arith, le) in
    ap (λ x. size_line k x (high k) (size_lines low high n rest)) (l k one)
    ∙ ap (λ x. size_line k (low' k) x (size_lines low high n rest)) (h k one)
    ∙ ap (size_line k (low' k) (high' k)) (sizes_alike low low' high high' l h n (omega (arith, le)) rest)

-- what is reported of states that are measured alike
gauge_alike : (vs us : Values) (ps : List Param) (ks : List ℕ) (peak : Peak) (ss ts : List Seen) (held : Option Stack) → IsMeasured vs us ps ks peak ss → IsMeasured vs us ps ks peak ts → gauge_by_states ss held ≡ gauge_by_states ts held
gauge_alike vs us ps ks peak ss ts held x y =
    ap (λ (s : Stack). gauge_text (λ k. lowest k ss) (λ k. highest k ss) s held) (ap₂ (λ f w. record { frames = f; words = w }) (x.frames ∙ sym y.frames) (x.words ∙ sym y.words))
    ∙ sizes_alike (λ k. lowest k ss) (λ k. lowest k ts) (λ k. highest k ss) (λ k. highest k ts) (λ k one. x.lowest k one ∙ sym (y.lowest k one)) (λ k one. x.highest k one ∙ sym (y.highest k one)) MOST_FIELDS (omega arith) (stack_lines (highest_stack ts) held)

module _ (source name : List ℕ) (x y : Entry source name) where
  pub answers_alike : (vs : Values) (calls frames : ℕ) → answer_of y vs calls frames ≡ answer_of x vs calls frames
  answers_alike vs calls frames = ap (λ (c : Core). (meaning c name NoClosed vs calls frames).answer) (one_core source name x y)

  -- both codes hold of the stack what is reported of the entry
  held_alike : (vs : Values) (room : Room) (gauge : Bool) (d e : Result (List ℕ) Failure) → (h : RunsOn x vs room gauge d) → (k : RunsOn y vs room gauge e) → (k.code).held ≡ (h.code).held
  held_alike vs room gauge d e h k =
      let of = (h.code).of' in
      let ms = of.lowered.members in
      let root = root_at name x.program.instances x.root x.named in
      let found : AreMembers x.program.instances ms = subst (λ (p : Program). AreMembers p.instances ms) (accepted_once source of.program x.program of.accepted x.accepted) of.lowered.found in
      let m = member_at x.program.instances ms root.place x.root found.size root.there in
      let other : AreMembers y.program.instances ms = subst (λ (p : Program). AreMembers p.instances ms) (sym (one_program source name x y)) found in
      let there : slice_get y.program.instances root.place ≡ Some y.root = ap (λ (p : Program). slice_get p.instances root.place) (one_program source name x y) ∙ root.there ∙ ap Some (sym (one_root source name x y)) in
      k.bound ms other root.place m.0 there m.1 ∙ sym (h.bound ms found root.place m.0 root.there m.1)

  pub after_alike : (vs : Values) (calls frames : ℕ) (following : Values → List ℕ) (e : Result (List ℕ) Failure) → ReportsRun y.program.types y.root.results calls frames following (answer_of y vs calls frames) e → ReportsRun x.program.types x.root.results calls frames following (answer_of x vs calls frames) e
  after_alike vs calls frames following e h =
      subst (λ (c : Core). ReportsRun x.program.types x.root.results calls frames following (meaning c name NoClosed vs calls frames).answer e) (one_core source name x y)
      (subst (λ (d : Instance). ReportsRun x.program.types d.results calls frames following (meaning y.core name NoClosed vs calls frames).answer e) (one_root source name x y)
      (subst (λ (p : Program). ReportsRun p.types y.root.results calls frames following (meaning y.core name NoClosed vs calls frames).answer e) (one_program source name x y) h))

  pub measured_alike : (vs us : Values) (calls frames : ℕ) (ss : List Seen) → IsMeasured vs us y.root.params y.root.credits (peak_of y vs calls frames) ss → IsMeasured vs us x.root.params x.root.credits (peak_of x vs calls frames) ss
  measured_alike vs us calls frames ss h =
      subst (λ (c : Core). IsMeasured vs us x.root.params x.root.credits (meaning c name NoClosed vs calls frames).peak ss) (one_core source name x y)
      (subst (λ (d : Instance). IsMeasured vs us d.params d.credits (meaning y.core name NoClosed vs calls frames).peak ss) (one_root source name x y) h)

  runs_once : (vs : Values) (room : Room) (gauge : Bool) (d e : Result (List ℕ) Failure) → RunsOn x vs room gauge d → RunsOn y vs room gauge e → d ≡ e
  runs_once vs room gauge d e h k =
      let m : ℕ = frames_for h.code room in
      let n : ℕ = frames_for k.code room in
      let held : (k.code).held ≡ (h.code).held = held_alike vs room gauge d e h k in
      let same : n ≡ m = ap (frames_of room.frames) held in
      let lines : Option Stack → List ℕ = λ b. if_asked gauge (gauge_by_states (all_seen k.run) b) in
      let other : ReportsRun x.program.types x.root.results room.calls n (λ us. lines (k.code).held) (answer_of x vs room.calls n) e = after_alike vs room.calls n (λ us. lines (k.code).held) e k.reported in
      let there : ReportsRun x.program.types x.root.results room.calls m (λ us. lines (h.code).held) (answer_of x vs room.calls m) e = subst (λ b. ReportsRun x.program.types x.root.results room.calls m (λ us. lines b) (answer_of x vs room.calls m) e) held (subst (λ f. ReportsRun x.program.types x.root.results room.calls f (λ us. lines (k.code).held) (answer_of x vs room.calls f) e) same other) in
      reports_alike x.program.types x.root.results room.calls m (λ us. if_asked gauge (gauge_by_states (all_seen h.run) (h.code).held)) (λ us. lines (h.code).held) (answer_of x vs room.calls m) d e
      (λ us left gives. ap (if_asked gauge) (gauge_alike vs us x.root.params x.root.credits (peak_of x vs room.calls m) (all_seen h.run) (all_seen k.run) (h.code).held (h.measured us left gives)
      (subst (λ f. IsMeasured vs us x.root.params x.root.credits (peak_of x vs room.calls f) (all_seen k.run)) same
      (measured_alike vs us room.calls n (all_seen k.run) (k.measured us left (answers_alike vs room.calls n ∙ ap (answer_of x vs room.calls) same ∙ gives))))))
      h.reported there

  pub words_alike : (vs : Values) → words_of y vs ≡ words_of x vs
  words_alike vs = ap (λ (d : Instance). words_for vs d.credits) (one_root source name x y)

  pub spelt_alike : (input : List ℕ) (vs : Values) → Spells y input vs → Spells x input vs
  spelt_alike input vs h = typed_alike source name x y (λ tb ks. SpellsValues tb ks input vs) h

module _ (source name input : List ℕ) (room : Room) (gauge : Bool) where
  pub exec_once : (d e : Result (List ℕ) Failure) → Execs source name input room gauge d → Execs source name input room gauge e → d ≡ e
  exec_once d e (Misspelt x at h) (Misspelt y to k) =
      ap (λ n. Err (F.BadInput n)) (IsPlace-unique (Spells x) input at to h (typed_alike source name x y (λ tb ks. IsPlace (SpellsValues tb ks) input to) k))
  exec_once d e (Misspelt x at h) (Small y us k less) = absurd (IsPlace-not_spelt (Spells x) input at us h (spelt_alike source name x y input us k))
  exec_once d e (Misspelt x at h) (Ran y us f k fits runs) = absurd (IsPlace-not_spelt (Spells x) input at us h (spelt_alike source name x y input us k))
  exec_once d e (Small x vs h less) (Misspelt y to k) = absurd (IsPlace-not_spelt (Spells y) input to vs k (spelt_alike source name y x input vs h))
  exec_once d e (Small x vs h less) (Small y us k more) =
      let words : words_of y us ≡ words_of x vs = words_alike source name x y us ∙ ap (words_of x) (one_text source name x y input vs us h k) in
      ap (λ n. Err (F.TooSmall n room.words)) (sym words)
  exec_once d e (Small x vs h less) (Ran y us f k fits runs) =
      let words : words_of y us ≡ words_of x vs = words_alike source name x y us ∙ ap (words_of x) (one_text source name x y input vs us h k) in
      absurd (omega (arith, less, fits, words))
  exec_once d e (Ran x vs f h fits runs) (Misspelt y to k) = absurd (IsPlace-not_spelt (Spells y) input to vs k (spelt_alike source name y x input vs h))
  exec_once d e (Ran x vs f h fits runs) (Small y us k less) =
      let words : words_of y us ≡ words_of x vs = words_alike source name x y us ∙ ap (words_of x) (one_text source name x y input vs us h k) in
      absurd (omega (arith, less, fits, words))
  exec_once d e (Ran x vs f h fits runs) (Ran y us g k also others) =
      runs_once source name x y vs room gauge d e runs
      (subst (λ ws. RunsOn y ws room gauge e) (one_text source name x y input vs us h k) others)
