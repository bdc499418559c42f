-- The stack of a run of an accepted source's code is the peak of the evaluation of its program.
-- Idea: it is that of the run on trees, which has the peak of the evaluation; and a frame has as many words there as
-- here, since the function of an instance has as many registers as its groups report.
use Rattle.std.proofs.Common.{◌≡◌, ◌<◌, ◌+◌, ℕ, zero, suc, List, [], ◌∷◌, length, map, max, Option, Some, None, slice_get, refl, sym, ap, ◌∙◌, subst, arith}
use Rattle.std.proofs.lemmas.Option.{none-some, same_Some}
use Rattle.fip_machine.specs.fip_language.declared.FunKind.{FunKind}
use Rattle.fip_machine.specs.fip_language.declared.FunKind.TheVariants.{Fip, Fbip, Fun}
use Rattle.fip_machine.specs.fip_language.Core.{Core}
use Rattle.fip_machine.specs.fip_language.Gauge.{highest_frames, highest_words}
use Rattle.fip_machine.specs.fip_language.Meaning.{Gives, Peak, meaning}
use Rattle.fip_machine.specs.fip_language.Statics.{NoClosed}
use Rattle.fip_machine.specs.fip_language.Store.{count}
use Rattle.fip_machine.specs.fip_language.Values.{Values, cells_of_all}
use Rattle.compiler_correctness.specs.fip_trees.declared.groups.Member.{Member}
use Rattle.compiler_correctness.specs.fip_trees.Tree.{Instance}
use Rattle.compiler_correctness.specs.tail_groups.Members.{AreMembers}
use Rattle.compiler_correctness.specs.tail_groups.Registers as T'
use Rattle.fip_machine.specs.cell_code.declared.code.Code.{Code}
use Rattle.fip_machine.specs.cell_code.Plain.{PlainFunction, PlainCode, plain, function_at, results}
use Rattle.compiler_correctness.specs.machine_semantics.Gauges.{seen}
use Rattle.compiler_correctness.specs.machine_semantics.Limits.{frame_words}
use Rattle.compiler_correctness.specs.machine_semantics.Runs as C
use Rattle.compiler_correctness.specs.machine_semantics.Runs.{End, Value, Over, Ends, begun, after}
use Rattle.compiler_correctness.specs.machine_semantics.States.{State}
use Rattle.compiler_correctness.specs.machine_semantics.Steps.{Kinds}
use Rattle.run_loading.specs.separation.Codes.{AreKinds}
use Rattle.run_loading.specs.separation.Starts.{IsStart}
use Rattle.compiler_correctness.proofs.in_place_safety.Within.{frame_same, variables_at}
use Rattle.compiler_correctness.proofs.in_place_safety.Checked.{bounded}
use Rattle.compiler_correctness.proofs.source_safety.Accepted.{credited_checked}
use Rattle.compiler_correctness.proofs.source_safety.Formed.{typed_is_formed}
use Rattle.compiler_correctness.proofs.source_report.Sizing.{typed_filled}
use Rattle.compiler_correctness.proofs.specialisation_correctness.Meant.{root_meant}
use Rattle.compiler_correctness.proofs.source_report.Distinct.{typed_distinct}
use Rattle.compiler_correctness.proofs.Joined.{begun_takes, not_stuck}
use Rattle.compiler_correctness.specs.tree_semantics.Runs as T
use Rattle.compiler_correctness.specs.tree_semantics.States as U
use Rattle.run_loading.specs.tree_refinement.Agreement.{AreWordsOf}
use Rattle.run_loading.specs.tree_refinement.Runs.{BeginsWith, IsSameEnd}
use Rattle.run_loading.proofs.separation_bounds.Ending.{ends_once}
use Rattle.run_loading.specs.tree_refinement.LentValues.{lent_values}
use Rattle.run_loading.proofs.tree_refinement.Cells.{highest_by_trees, lowest_by_trees}
use Rattle.run_loading.proofs.tree_refinement.Overs.{seen_enough}
use Rattle.run_loading.proofs.tree_refinement.Stacks.{wide, wide_at, wide_all, tree_frames, tree_words, tree_highest, frames_from, words_from}
use Rattle.compiler_correctness.specs.lowering_relation.LoweredBodies.{has_function, one_more, if_function, function_of}
use Rattle.compiler_correctness.proofs.lowering_simulation.Guards.{guarded}
use Rattle.compiler_correctness.specs.lowering_simulation.RunEnds.{RunsTo, words_of_all, height, highest}
use Rattle.compiler_correctness.specs.lowering_simulation.Wide.{AreWide}
use Rattle.compiler_correctness.proofs.lowering_simulation.Whole.{runs_to}
use Rattle.compiler_correctness.specs.cell_lower.Limits.{is_ruled, registers}
use Rattle.compiler_correctness.specs.cell_lower.Shape.{Header, header_of, and_if, headers_from}
use Rattle.machine_correctness.specs.Gauges.{IsAsHigh, IsMeasured}
use Rattle.machine_correctness.specs.Starts.{IsCodeOf, Begins}
use Rattle.machine_correctness.proofs.EvaluatedEnds.{ends_as}
use Rattle.machine_correctness.proofs.Entries.{plain_header, named}
use Rattle.machine_correctness.proofs.Made.{IsMadeOf, made_of}
use Rattle.machine_correctness.proofs.Starting.{starts, free_is}
use Rattle.fip_machine.proofs.fip_language.Facts.{max_none}

-- ---- the header of an instance's function

first_header : (k : FunKind) (n : ℕ) (h : Header) (hs : List Header) → if_function (has_function k) ≡ Some n → slice_get (and_if (is_ruled k) h hs) n ≡ Some h
first_header Fip n h hs e = ap (slice_get (h ∷ hs)) (sym (same_Some 0 n e))
first_header Fbip n h hs e = ap (slice_get (h ∷ hs)) (sym (same_Some 0 n e))
first_header Fun n h hs e = absurd (none-some n e)

later_header : (k : FunKind) (o : Option ℕ) (n : ℕ) (g h : Header) (hs : List Header) → ((m : ℕ) → o ≡ Some m → slice_get hs m ≡ Some h) → one_more (has_function k) o ≡ Some n → slice_get (and_if (is_ruled k) g hs) n ≡ Some h
later_header k None n g h hs rest e = absurd (none-some n e)
later_header Fip (Some m) n g h hs rest e = ap (slice_get (g ∷ hs)) (sym (same_Some (suc m) n e)) ∙ rest m refl
later_header Fbip (Some m) n g h hs rest e = ap (slice_get (g ∷ hs)) (sym (same_Some (suc m) n e)) ∙ rest m refl
later_header Fun (Some m) n g h hs rest e = ap (slice_get hs) (sym (same_Some m n e)) ∙ rest m refl

pub header_at : (ms : List Member) (i : ℕ) (ds : List Instance) (g n : ℕ) (d : Instance) → function_of ds g ≡ Some n → slice_get ds g ≡ Some d → slice_get (headers_from ms i ds) n ≡ Some (header_of (registers ms (i + g)) d)
header_at ms i [] g n d e there = absurd (none-some d there)
header_at ms i (x ∷ xs) zero n d e there =
    let z : i ≡ i + zero = omega arith in
    first_header x.kind n (header_of (registers ms i) x) (headers_from ms (suc i) xs) e
    ∙ ap (λ (y : Instance). Some (header_of (registers ms i) y)) (same_Some x d there)
    ∙ ap (λ k. Some (header_of (registers ms k) d)) z
header_at ms i (x ∷ xs) (suc g) n d e there =
    let z : suc i + g ≡ i + suc g = omega arith in
    later_header x.kind (function_of xs g) n (header_of (registers ms i) x) (header_of (registers ms (i + suc g)) d) (headers_from ms (suc i) xs)
    (λ m q. header_at ms (suc i) xs g m d q there ∙ ap (λ k. Some (header_of (registers ms k) d)) z) e

-- ---- a frame has as many words here as there

-- a function of this header
of_header : (fs : List PlainFunction) (n : ℕ) (h : Header) → slice_get (map plain_header fs) n ≡ Some h → (f : PlainFunction) × (slice_get fs n ≡ Some f) × (plain_header f ≡ h)
of_header [] n h e = absurd (none-some h e)
of_header (f ∷ fs) zero h e = (f, refl, same_Some (plain_header f) h e)
of_header (f ∷ fs) (suc n) h e = of_header fs n h e

pub counted_at : (ds : List Instance) (ms : List Member) (i : ℕ) (d : Instance) → AreMembers ds ms → slice_get ds i ≡ Some d → (o : Option Member) → slice_get ms i ≡ o → registers ms i ≡ T'.registers d
counted_at ds ms i d h e None there = absurd (short ds ms i d h.size e there)
  where
    short : (ds : List Instance) (ms : List Member) (i : ℕ) (d : Instance) → length ms ≡ length ds → slice_get ds i ≡ Some d → slice_get ms i ≡ None → ⊥
    short [] ms i d l e n = none-some d e
    short (x ∷ ds) [] i d l e n = omega (arith, l)
    short (x ∷ ds) (m ∷ ms) zero d l e n = none-some m (sym n)
    short (x ∷ ds) (m ∷ ms) (suc i) d l e n = short ds ms i d (omega (arith, l)) e n
counted_at ds ms i d h e (Some m) there = ap (λ (o : Option Member). Rattle.compiler_correctness.specs.cell_lower.Limits.registers_of o) there ∙ h.counted i d m e there

module _ (source : List ℕ) (core : Core) (c : PlainCode) (h : IsMadeOf source core c) (found : AreMembers h.program.instances h.members) where
  abbrev width : ℕ → ℕ
  width = wide_at c

  wide_code : AreWide h.program width
  wide_code g n d e there =
      let zeroth : 0 + g ≡ g = omega arith in
      let at = header_at h.members 0 h.program.instances g n d e there ∙ ap (λ k. Some (header_of (registers h.members k) d)) zeroth in
      let f = of_header c.functions n (header_of (registers h.members g) d) (ap (λ hs. slice_get hs n) h.functions ∙ at) in
      let own : (f.0).registers ≡ T'.registers d = ap (λ (x : Header). x.registers) f.2 ∙ counted_at h.program.instances h.members g d found there (slice_get h.members g) refl in
      let b = bounded h.program h.members (credited_checked source h.program h.members h.accepted.tailed.credited found) in
      ap wide f.1 ∙ ap (λ r. r + frame_words) own ∙ frame_same d (variables_at h.program.instances g d b.scrutinees there)

-- ---- the highest over a run on trees

all_same : (code : _) (gs : List U.Frame) → wide_all code gs ≡ words_of_all (wide_at code) gs
all_same code [] = refl
all_same code (g ∷ gs) = ap (λ w. wide_at code g.function + w) (all_same code gs)

frames_same : (c : _) (code : PlainCode) (n : ℕ) (r : T.Run) → tree_highest (tree_frames c) code n r ≡ (highest code (wide_at c) n r).frames
frames_same c code zero (T.Going t left m) = omega arith
frames_same c code (suc n) (T.Going t left m) = ap (max (length t.waiting)) (frames_same c code n (T.later code (T.Going t left m)))
frames_same c code zero (T.Over a t left m) = omega arith
frames_same c code (suc n) (T.Over a t left m) = omega arith

words_state : (c : _) (t : U.State) → tree_words c t ≡ (height (wide_at c) t).words
words_state c t = ap (λ w. wide_at c t.running.function + w) (all_same c t.waiting)

words_same : (c : _) (code : PlainCode) (n : ℕ) (r : T.Run) → tree_highest (tree_words c) code n r ≡ (highest code (wide_at c) n r).words
words_same c code zero (T.Going t left m) = max_none (tree_words c t) _ (words_state c t)
words_same c code (suc n) (T.Going t left m) =
    ap (λ x. max x (tree_highest (tree_words c) code n (T.later code (T.Going t left m)))) (words_state c t)
    ∙ ap (max (height (wide_at c) t).words) (words_same c code n (T.later code (T.Going t left m)))
words_same c code zero (T.Over a t left m) = max_none (tree_words c t) _ (words_state c t)
words_same c code (suc n) (T.Over a t left m) = max_none (tree_words c t) _ (words_state c t)

highest_over : (code : PlainCode) (width : ℕ → ℕ) (m : ℕ) (a : _) (s : U.State) (left j : ℕ) → highest code width m (T.Over a s left j) ≡ height width s
highest_over code width zero a s left j = refl
highest_over code width (suc m) a s left j = refl

highest_enough : (code : PlainCode) (width : ℕ → ℕ) (n m : ℕ) (r : T.Run) (a : _) (last : U.State) (left steps : ℕ) → T.after code n r ≡ T.Over a last left steps → highest code width (n + m) r ≡ highest code width n r
highest_enough code width zero m (T.Going s l j) a last left steps is = absurd cc
highest_enough code width (suc n) m (T.Going s l j) a last left steps is =
    let more : suc n + m ≡ suc (n + m) = omega arith in
    ap (λ k. highest code width k (T.Going s l j)) more
    ∙ ap (λ p. record { frames = max (height width s).frames p.frames; words = max (height width s).words p.words }) (highest_enough code width n m (T.later code (T.Going s l j)) a last left steps is)
highest_enough code width n m (T.Over b s l j) a last left steps is = highest_over code width (n + m) b s l j ∙ sym (highest_over code width n b s l j)

-- ---- a run that has calls

-- with no call left it gives none
some_calls : (before : Kinds) (code : PlainCode) (s : State) (calls : ℕ) (ws : List ℕ) (last : State) (left steps : ℕ) → Ends before code s calls (Value ws) last left steps → (k : ℕ) × (calls ≡ suc k)
some_calls before code s zero ws last left steps x = absurd (never x.enough x.is)
  where
    never : (n : ℕ) → after before code n (begun s zero) ≡ Over (Value ws) last left steps → ⊥
    never zero e = absurd cc
    never (suc n) e = never n e
some_calls before code s (suc k) ws last left steps x = (k, refl)

module _ (source : List ℕ) (core : Core) (c : PlainCode) (before waits : Kinds) (n : ℕ) (f : PlainFunction) (vs : Values) (s : State) (h : IsMadeOf source core c) (found : AreMembers h.program.instances h.members) (t : IsStart c before waits n [] s) (begins : BeginsWith c n s vs) (is : function_at c n ≡ Some f) (some : 0 < length f.name) where
  abbrev width' : ℕ → ℕ
  width' = wide_at c

  abbrev trees : PlainCode
  trees = c

  -- the evaluation of the instance, and what the source means by it
  tree_run : (k : ℕ) → RunsTo trees width' (T.begun (T.entry n vs s.free) (suc k)) (meaning core f.name NoClosed vs (suc k) s.free)
  tree_run k =
      let x = named h.program h.members c n f h.types h.functions is some in
      let matched = h.accepted.tailed.credited.owned.matched in
      let typed = matched.typed in
      let takes = begun_takes c h.program x.place n s vs x.of' begins in
      let runs = runs_to trees width' h.program h.lowered (guarded h.program (typed_is_formed source h.program typed) (typed_filled source h.program typed)) (typed_distinct source h.program typed) (wide_code source core c h found)
      x.place n vs k s.free x.of'.function takes (not_stuck source h.program matched x.place n vs (suc k) s.free x.of'.function takes) in
      let meant = root_meant source h.program typed core h.parsed x.place x.instance vs (suc k) s.free x.there x.root in
      let called = ap (λ name. meaning core name NoClosed vs (suc k) s.free) (sym x.name) in
      subst (RunsTo trees width' (T.begun (T.entry n vs s.free) (suc k))) (meant ∙ called) runs

  module _ (k : ℕ) (e : End) (last : State) (left steps : ℕ) (x : Ends before trees s (suc k) e last left steps) where
    abbrev r : RunsTo trees width' (T.begun (T.entry n vs s.free) (suc k)) (meaning core f.name NoClosed vs (suc k) s.free)
    r = tree_run k

    turned : r.enough + x.enough ≡ x.enough + r.enough
    turned = omega arith

    high : highest trees width' (x.enough + r.enough) (T.begun (T.entry n vs s.free) (suc k)) ≡ (meaning core f.name NoClosed vs (suc k) s.free).peak
    high =
        ap (λ m. highest trees width' m (T.begun (T.entry n vs s.free) (suc k))) (sym turned)
        ∙ highest_enough trees width' r.enough x.enough (T.begun (T.entry n vs s.free) (suc k)) (meaning core f.name NoClosed vs (suc k) s.free).answer r.last r.left r.steps r.is
        ∙ r.peak

    pub peak_frames : highest_frames (seen before trees x.enough (begun s (suc k))) ≡ (meaning core f.name NoClosed vs (suc k) s.free).peak.frames
    peak_frames =
        ap highest_frames (sym (seen_enough before trees x.enough r.enough (begun s (suc k)) e last left steps x.is))
        ∙ frames_from c before waits n [] s vs (suc k) t begins (x.enough + r.enough) 0
        ∙ frames_same c trees (x.enough + r.enough) (T.begun (T.entry n vs s.free) (suc k))
        ∙ ap (λ (p : Peak). p.frames) high

    pub peak_words : highest_words (seen before trees x.enough (begun s (suc k))) ≡ (meaning core f.name NoClosed vs (suc k) s.free).peak.words
    peak_words =
        ap highest_words (sym (seen_enough before trees x.enough r.enough (begun s (suc k)) e last left steps x.is))
        ∙ words_from c before waits n [] s vs (suc k) t begins (x.enough + r.enough) 0
        ∙ words_same c trees (x.enough + r.enough) (T.begun (T.entry n vs s.free) (suc k))
        ∙ ap (λ (p : Peak). p.words) high

-- ---- what is seen of a run that gives values

value_end : (tb : _) (types : List ℕ) (l : State) (left : ℕ) (end : End) (vs : Values) (k : ℕ) → IsSameEnd tb types l left end (Gives vs k) → (ws : List ℕ) × (end ≡ Value ws) × AreWordsOf tb l.store types ws vs
value_end tb types l left (Value ws) vs k h = (ws, refl, h.0)
value_end tb types l left (C.Trap kind line col) vs k h = absurd h
value_end tb types l left C.Out vs k h = absurd h
value_end tb types l left C.Deep vs k h = absurd h
value_end tb types l left C.Unsound vs k h = absurd h

-- the end of a run that is that of its evaluation
record GivesWords (c : PlainCode) (n : ℕ) (results' : Values) (end : End) (last : State) : Type 0 where
  pub words : List ℕ
  pub is : end ≡ Value words
  pub are : AreWordsOf c.types last.store (results c n) words results'

same_end : (c : PlainCode) (n : ℕ) (us : Values) (end other : End) (l m : State) (left k steps j : ℕ) → Over end l left steps ≡ Over other m k j → (ws : List ℕ) × (end ≡ Value ws) × AreWordsOf c.types l.store (results c n) ws us → GivesWords c n us other m
same_end c n us end other l m left k steps j e x =
    let ends : end ≡ other = cc in
    let lasts : l ≡ m = cc in
    record { words = x.0; is = sym ends ∙ x.1; are = subst (λ (u : State). AreWordsOf c.types u.store (results c n) x.0 us) lasts x.2 }

pub made_measured : (source : List ℕ) (core : Core) (c : PlainCode) (before waits : Kinds) (n : ℕ) (f : PlainFunction) (vs results' : Values) (s : State) (calls rest : ℕ) (end : End) (last : State) (left steps : ℕ) → (h : IsMadeOf source core c) → AreMembers h.program.instances h.members → IsStart c before waits n [] s → BeginsWith c n s vs → function_at c n ≡ Some f → 0 < length f.name → (meaning core f.name NoClosed vs calls s.free).answer ≡ Gives results' rest → (e : Ends before c s calls end last left steps) → IsMeasured vs results' f.params f.credits (meaning core f.name NoClosed vs calls s.free).peak (seen before c e.enough (begun s calls))
made_measured source core c before waits n f vs us s calls rest end last left steps h found t begins is some gives e =
    let meant = ends_as source core c before waits n f vs s calls h t begins is some in
    let once = ends_once c before waits before waits n [] s calls meant.end end meant.last last meant.left left meant.steps steps t t.kinds meant.ends e in
    let x = same_end c n us meant.end end meant.last last meant.left left meant.steps steps once
    (value_end c.types (results c n) meant.last meant.left meant.end us rest (subst (IsSameEnd c.types (results c n) meant.last meant.left meant.end) gives meant.same)) in
    let words : Ends before c s calls (Value x.words) last left steps = record { enough = e.enough; is = e.is ∙ ap (λ d. Over d last left steps) x.is } in
    let k = some_calls before c s calls x.words last left steps words in
    let own : t.function ≡ f = same_Some t.function f (sym t.is ∙ is) in
    let there : Ends before c s (suc k.0) (Value x.words) last left steps = record { enough = e.enough; is = subst (λ m. after before c e.enough (begun s m) ≡ Over (Value x.words) last left steps) k.1 words.is } in
    record {
      lowest = λ size one. lowest_by_trees c before waits n s vs us calls size x.words last left steps t begins one words x.are
          ∙ ap (λ (g : PlainFunction). cells_of_all size us + cells_of_all size (lent_values g.params vs)) own;
      highest = λ size one. highest_by_trees c before waits n s vs calls e.enough size t begins one
          ∙ ap (λ (g : PlainFunction). cells_of_all size vs + count size g.credits) own;
      frames = subst (λ m. highest_frames (seen before c e.enough (begun s m)) ≡ (meaning core f.name NoClosed vs m s.free).peak.frames) (sym k.1)
          (peak_frames source core c before waits n f vs s h found t begins is some k.0 (Value x.words) last left steps there);
      words = subst (λ m. highest_words (seen before c e.enough (begun s m)) ≡ (meaning core f.name NoClosed vs m s.free).peak.words) (sym k.1)
          (peak_words source core c before waits n f vs s h found t begins is some k.0 (Value x.words) last left steps there);
    }

-- ---- of code in memory

pub measured : (source : List ℕ) (core : Core) (code : Code) (before waits : Kinds) (n : ℕ) (f : PlainFunction) (vs results' : Values) (frames : ℕ) (s : State) (calls rest : ℕ) (end : End) (last : State) (left steps : ℕ) → (h : IsCodeOf source core code) → AreMembers h.program.instances h.members → AreKinds (plain code) before waits → Begins code n f vs frames s → 0 < length f.name → (meaning core f.name NoClosed vs calls frames).answer ≡ Gives results' rest → (e : Ends before (plain code) s calls end last left steps) → IsMeasured vs results' f.params f.credits (meaning core f.name NoClosed vs calls frames).peak (seen before (plain code) e.enough (begun s calls))
measured source core code before waits n f vs us frames s calls rest end last left steps h found kinds b some gives e =
    let t = starts code before waits n f vs frames s h.is_sound kinds b in
    let free = free_is code n f vs frames s b in
    subst (λ m. IsMeasured vs us f.params f.credits (meaning core f.name NoClosed vs calls m).peak (seen before (plain code) e.enough (begun s calls))) free
    (made_measured source core (plain code) before waits n f vs us s calls rest end last left steps (made_of source core code h) found t.0 t.1 b.is some
    (subst (λ m. (meaning core f.name NoClosed vs calls m).answer ≡ Gives us rest) (sym free) gives) e)

-- whatever it ends with, where it has a call
pub as_high : (source : List ℕ) (core : Core) (code : Code) (before waits : Kinds) (n : ℕ) (f : PlainFunction) (vs : Values) (frames : ℕ) (s : State) (calls : ℕ) (end : End) (last : State) (left steps : ℕ) → (h : IsCodeOf source core code) → AreMembers h.program.instances h.members → AreKinds (plain code) before waits → Begins code n f vs frames s → 0 < length f.name → 0 < calls → (e : Ends before (plain code) s calls end last left steps) → IsAsHigh (meaning core f.name NoClosed vs calls frames).peak (seen before (plain code) e.enough (begun s calls))
as_high source core code before waits n f vs frames s zero end last left steps h found kinds b some calls e = absurd (omega (arith, calls))
as_high source core code before waits n f vs frames s (suc k) end last left steps h found kinds b some calls e =
    let t = starts code before waits n f vs frames s h.is_sound kinds b in
    let made = made_of source core code h in
    subst (λ m. IsAsHigh (meaning core f.name NoClosed vs (suc k) m).peak (seen before (plain code) e.enough (begun s (suc k)))) (free_is code n f vs frames s b)
    (record {
      frames = peak_frames source core (plain code) before waits n f vs s made found t.0 t.1 b.is some k end last left steps e;
      words = peak_words source core (plain code) before waits n f vs s made found t.0 t.1 b.is some k end last left steps e;
    })
