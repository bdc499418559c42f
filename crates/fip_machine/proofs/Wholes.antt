-- A whole run of a machine: its task runs over its cells, or over a recorder of them, and its gauge sees the first state
-- and the last one.
-- The idea: of each size the first state has the most held cells and the last one the least; so two looks report all.
use Rattle.std.proofs.Common.{◌≡◌, ◌≢◌, ℕ, zero, suc, ◌+◌, ◌-◌, ◌<◌, ◌≤◌, Bool, true, false, List, [], ◌∷◌, Some, None, max, refl, sym, ap, subst, ◌∙◌, arith}
use Rattle.std.specs.Prelude.{Result, Err, IsErrAnd, slice_index_or, nat_eq, if◌then◌else◌}
use Rattle.fip_language.specs.declared.limits.TheConstants.{MOST_FIELDS}
use Rattle.fip_language.specs.Gauge as G
use Rattle.cell_store.specs.Cells.{Cells, size_of, count_live}
use Rattle.cell_store.specs.Made.{Stored}
use Rattle.cell_code.specs.Plain.{PlainCode, plain}
use Rattle.machine_cells.specs.machine_semantics.Cells.{Store, held_in, count_held}
use Rattle.machine_cells.specs.machine_semantics.States.{Typed, State, frames_held, words_held}
use Rattle.machine_cells.specs.machine_semantics.Steps.{Kinds}
use Rattle.machine_cells.specs.machine_semantics.Runs.{Value, Trap, Out, Deep, Unsound, Run, Going, Over, state_of, begun, later, after}
use Rattle.machine_cells.specs.machine_semantics.Gauges.{seen}
use Rattle.machine_cells.proofs.machine_semantics.Stays.{over_stays}
use Rattle.machine_cells.proofs.machine_semantics.Gauged.{held, lowest_is_last, highest_is_first}
use Rattle.machine_cells.specs.Small.{IsSmall, store_of}
use Rattle.fip_machine.specs.declared.gauge.Gauge.{Gauge}
use Rattle.fip_machine.specs.declared.machine.Ended.{Ended}
use Rattle.fip_machine.specs.declared.machine.Ended.TheVariants as M
use Rattle.fip_machine.specs.Tasks.{Stand, IsMeasured, IsFresh, state_with}
use Rattle.fip_machine.specs.Machines.{Seen}
use Rattle.fip_machine.specs.Ending.{KnowsRun, IsOver, RunsTo}
use Rattle.fip_machine.specs.GaugeView.{lowered, IsUnseen, Reports, ReportsOver, ReportsRun}
use Rattle.fip_machine.specs.Along.{Origin, at_step, UnlessStuck, seen_to, HasMost, state_in, IsReady, IsAlong, HasRun}
use Rattle.cell_trace.specs.declared.error.TraceError.{TraceError}
use Rattle.cell_trace.specs.declared.trace.Trace.{Trace}
use Rattle.cell_trace.specs.Traced.{Standing, Noted, IsTraced, standing_from}
use Rattle.cell_trace.specs.Taped.{Recorded, IsTape}
use Rattle.fip_machine.specs.Traces.{notes, AtValue}
use Rattle.fip_machine.specs.Taped.{IfValue, HasTape, RunTaped, IsFirstTape}
use Rattle.fip_machine.proofs.Tapings.{first_of, at_value}
use Rattle.fip_machine.proofs.Mosts.{over_state}
use Rattle.fip_machine.proofs.Alongs.{ready_out, ready_along}

-- what a task was seen to do over cells
abbrev pub HasRan : Stand → Stored → ℕ → Ended → Stand → Stored → Type 0
HasRan t s calls e u w = (o : Origin) → IsReady o t s calls → HasRun o e u w

pub ran_out : (t : Stand) (s : Stored) (calls : ℕ) → calls ≡ 0 → HasRan t s calls M.Out t s
ran_out t s calls none o r = ready_out o t s calls none r

pub ran_on : (t : Stand) (s : Stored) (calls : ℕ) (e : Ended) (u : Stand) (w : Stored) → calls ≢ 0 → ((o : Origin) → IsAlong o t s (calls - 1) → HasRun o e u w) → HasRan t s calls e u w
ran_on t s calls e u w some ran o r = ran o (ready_along o t s calls some r)

-- the run of a machine that has this task and these cells
abbrev pub origin_of : Kinds → List Typed → Stand → Stored → ℕ → Origin
origin_of kinds lent t s calls = record {
  code = t.code;
  kinds = kinds;
  lent = lent;
  first = state_with t lent (store_of s.cells s.released);
  calls = calls;
  most_frames = t.most_frames;
  most_words = t.most_words;
}

run_from : (t : Stand) (s : Stored) (calls : ℕ) (e : Ended) (u : Stand) (w : Stored) → IsMeasured t → HasRan t s calls e u w → (kinds : Kinds) (lent : List Typed) → KnowsRun t.code kinds (state_with t lent (store_of s.cells s.released)) calls → t.ended ≡ None → IsSmall s.cells → s.pushed ≡ [] → HasRun (origin_of kinds lent t s calls) e u w
run_from t s calls e u w measured ran kinds lent knows going small empty = ran (origin_of kinds lent t s calls) (record {
  code = refl;
  knows = knows;
  going = going;
  small = small;
  empty = empty;
  first = refl;
  calls = refl;
  most_frames = refl;
  most_words = refl;
  measured = measured;
})

-- the machine of a task and cells
abbrev pub seen_of : Stand → Stored → Seen
seen_of t s = record { stack = t; store = store_of s.cells s.released; pushed = s.pushed }

pub runs_to : (m : Seen) (t : Stand) (s : Stored) (calls : ℕ) (e : Ended) (u : Stand) (w : Stored) → seen_of t s ≡ m → IsMeasured t → HasRan t s calls e u w → (kinds : Kinds) (lent : List Typed) → KnowsRun m.stack.code kinds (state_with m.stack lent m.store) calls → m.stack.ended ≡ None → IsSmall m.store.cells → m.pushed ≡ [] → RunsTo kinds (plain m.stack.code.code) (state_with m.stack lent m.store) calls e (state_with u lent (store_of w.cells w.released)) u.given
runs_to m t s calls e u w view measured ran = subst (λ (q : Seen). (kinds : Kinds) (lent : List Typed) → KnowsRun q.stack.code kinds (state_with q.stack lent q.store) calls → q.stack.ended ≡ None → IsSmall q.store.cells → q.pushed ≡ [] → RunsTo kinds (plain q.stack.code.code) (state_with q.stack lent q.store) calls e (state_with u lent (store_of w.cells w.released)) u.given) view (λ kinds lent knows going small empty.
    let h = run_from t s calls e u w measured ran kinds lent knows going small empty in
    (h.0, h.1))

-- what a gauge does with a state
pub record Saw (g h : Gauge) (cells : Cells) (released : List Bool) (f w : ℕ) : Type 0 where
  pub lowest : (k : ℕ) → k < MOST_FIELDS → slice_index_or h.lowest k 0 ≡ lowered g.seen (slice_index_or g.lowest k 0) (count_live (k + 1) cells released)
  pub highest : (k : ℕ) → k < MOST_FIELDS → slice_index_or h.highest k 0 ≡ max (slice_index_or g.highest k 0) (count_live (k + 1) cells released)
  pub frames : h.frames ≡ max g.frames f
  pub words : h.words ≡ max g.words w
  pub seen : h.seen ≡ true

no_cell : (n : ℕ) → n ≡ 0 + n
no_cell n = omega arith

live_is_held : (k : ℕ) (cs : Cells) (rs : List Bool) → count_live k cs rs ≡ count_held k (store_of cs rs)
live_is_held k [] rs = refl
live_is_held k (o ∷ cs) [] = refl
live_is_held k (None ∷ cs) (r ∷ rs) = live_is_held k cs rs ∙ no_cell (held_in k cs rs)
live_is_held k (Some c ∷ cs) (true ∷ rs) = ap (λ n. 0 + n) (live_is_held k cs rs)
live_is_held k (Some c ∷ cs) (false ∷ rs) = ap (λ n. (if nat_eq k (size_of c) then 1 else 0) + n) (live_is_held k cs rs)

begun_state : (s : State) (calls : ℕ) → state_of (begun s calls) ≡ s
begun_state s zero = refl
begun_state s (suc left) = refl

-- the last state is among those that are seen
held_last : (kinds : Kinds) (code : PlainCode) (k n : ℕ) (r : Run) → held k (after kinds code n r) ≤ G.highest k (seen kinds code n r)
held_last kinds code k zero (Going s left m) = omega arith
held_last kinds code k zero (Over e s left m) = omega arith
held_last kinds code k (suc n) (Going s left m) = let rest = held_last kinds code k n (later kinds code (Going s left m)) in omega (arith, rest)
held_last kinds code k (suc n) (Over e s left m) = let same = ap (held k) (over_stays kinds code (suc n) e s left m) in omega (arith, same)

first_frames : (kinds : Kinds) (code : PlainCode) (n : ℕ) (r : Run) → frames_held (state_of r) ≤ G.highest_frames (seen kinds code n r)
first_frames kinds code zero (Going s left m) = omega arith
first_frames kinds code (suc n) (Going s left m) = omega arith
first_frames kinds code zero (Over e s left m) = omega arith
first_frames kinds code (suc n) (Over e s left m) = omega arith

first_words : (kinds : Kinds) (code : PlainCode) (n : ℕ) (r : Run) → words_held (state_of r) ≤ G.highest_words (seen kinds code n r)
first_words kinds code zero (Going s left m) = omega arith
first_words kinds code (suc n) (Going s left m) = omega arith
first_words kinds code zero (Over e s left m) = omega arith
first_words kinds code (suc n) (Over e s left m) = omega arith

-- two looks report all states
reports : (kinds : Kinds) (lent : List Typed) (t u : Stand) (s w : Stored) (calls n : ℕ) (g h i : Gauge) → IsUnseen g → Saw g h s.cells s.released t.frames t.words → Saw h i w.cells w.released u.most_frames u.most_words → IsMeasured t → IsFresh t → state_of (at_step (origin_of kinds lent t s calls) n) ≡ state_in (origin_of kinds lent t s calls) u w → HasMost (origin_of kinds lent t s calls) n u → Reports i (seen_to (origin_of kinds lent t s calls) n)
reports kinds lent t u s w calls n g h i unseen first last measured fresh there most = record {
  lowest = λ k low high.
      let j : k - 1 < MOST_FIELDS = omega (arith, low, high) in
      let a = ends k low high in
      let l1 = first.lowest (k - 1) j ∙ ap (λ b. lowered b (slice_index_or g.lowest (k - 1) 0) (count_live (k - 1 + 1) s.cells s.released)) unseen.seen ∙ first_count k low in
      let l2 = last.lowest (k - 1) j ∙ (λ x. lowered (first.seen x) (l1 x) (last_count k low x)) in
      let least = lowest_is_last kinds code k low n r in
      omega (arith, l2, least, a);
  highest = λ k low high.
      let j : k - 1 < MOST_FIELDS = omega (arith, low, high) in
      let a = ends k low high in
      let z = unseen.highest (k - 1) in
      let f = first_count k low in
      let f2 = last_count k low in
      let h1 = first.highest (k - 1) j in
      let h2 = last.highest (k - 1) j in
      let most = highest_is_first kinds code k low n r in
      omega (arith, z, f, f2, h1, h2, most, a);
  frames =
      (let a = unseen.frames in
      let b = first.frames in
      let c = last.frames in
      let d = most.frames in
      let e = fresh.frames in
      let f = first_frames kinds code n r in
      let f2 : frames_held (state_of r) ≡ t.frames = ap frames_held (begun_state (state_with t lent (store_of s.cells s.released)) calls) ∙ sym measured.frames in
      omega (arith, a, b, c, d, e, f, f2));
  words =
      (let a = unseen.words in
      let b = first.words in
      let c = last.words in
      let d = most.words in
      let e = fresh.words in
      let f = first_words kinds code n r in
      let f2 : words_held (state_of r) ≡ t.words = ap words_held (begun_state (state_with t lent (store_of s.cells s.released)) calls) ∙ sym measured.words in
      omega (arith, a, b, c, d, e, f, f2));
}
  where
    code : PlainCode
    code = plain t.code.code

    r : Run
    r = begun (state_with t lent (store_of s.cells s.released)) calls

    first_count : (k : ℕ) → 1 ≤ k → count_live (k - 1 + 1) s.cells s.released ≡ held k r
    first_count k low = (let e : k - 1 + 1 ≡ k = omega (arith, low) in ap (λ m. count_live m s.cells s.released) e ∙ live_is_held k s.cells s.released ∙ sym (ap (λ (q : State). count_held k q.store) (begun_state (state_with t lent (store_of s.cells s.released)) calls)))

    last_count : (k : ℕ) → 1 ≤ k → count_live (k - 1 + 1) w.cells w.released ≡ held k (after kinds code n r)
    last_count k low = (let e : k - 1 + 1 ≡ k = omega (arith, low) in ap (λ m. count_live m w.cells w.released) e ∙ live_is_held k w.cells w.released ∙ sym (ap (λ (q : State). count_held k q.store) there))

    ends : (k : ℕ) → 1 ≤ k → k ≤ MOST_FIELDS → held k (after kinds code n r) ≤ held k r
    ends k low high = (let top = held_last kinds code k n r in let most = highest_is_first kinds code k low n r in omega (arith, top, most))

over_reports : (m : Run) (e : Ended) (new : State) (given : List ℕ) (i : Gauge) (ss : List G.Seen) (P : Type 0) → IsOver m e new given → UnlessStuck m (state_of m ≡ new) → UnlessStuck m P → (state_of m ≡ new → P → Reports i ss) → ReportsOver m i ss
over_reports (Going s left n) e new given i ss P h there p f = absurd h
over_reports (Over (Value ws) s left n) e new given i ss P h there p f = f there p
over_reports (Over (Trap kind line col) s left n) e new given i ss P h there p f = f there p
over_reports (Over Out s left n) e new given i ss P h there p f = f there p
over_reports (Over Deep s left n) e new given i ss P h there p f = f there p
over_reports (Over Unsound s left n) e new given i ss P h there p f = tt

pub reports_run : (m : Seen) (t : Stand) (s : Stored) (calls : ℕ) (e : Ended) (u : Stand) (w : Stored) (g h i : Gauge) → seen_of t s ≡ m → IsMeasured t → HasRan t s calls e u w → Saw g h s.cells s.released t.frames t.words → Saw h i w.cells w.released u.most_frames u.most_words → IsUnseen g → (kinds : Kinds) (lent : List Typed) → KnowsRun m.stack.code kinds (state_with m.stack lent m.store) calls → IsFresh m.stack → IsSmall m.store.cells → m.pushed ≡ [] → ReportsRun kinds (plain m.stack.code.code) (state_with m.stack lent m.store) calls i
reports_run m t s calls e u w g h i view measured ran first last unseen = subst (λ (q : Seen). (kinds : Kinds) (lent : List Typed) → KnowsRun q.stack.code kinds (state_with q.stack lent q.store) calls → IsFresh q.stack → IsSmall q.store.cells → q.pushed ≡ [] → ReportsRun kinds (plain q.stack.code.code) (state_with q.stack lent q.store) calls i) view (λ kinds lent knows fresh small empty.
    let o = origin_of kinds lent t s calls in
    let r = run_from t s calls e u w measured ran kinds lent knows fresh.going small empty in
    (r.0, over_reports (at_step o r.0) e (state_in o u w) u.given i (seen_to o r.0) (HasMost o r.0 u) r.1 (over_state (at_step o r.0) e (state_in o u w) u.given r.1) r.2 (λ there most. reports kinds lent t u s w calls r.0 g h i unseen first last measured fresh there most)))

pub saw : (g h : Gauge) (cells : Cells) (released : List Bool) (frames words f w : ℕ) (counts : List ℕ) → ((k : ℕ) → k < MOST_FIELDS → slice_index_or h.lowest k 0 ≡ lowered g.seen (slice_index_or g.lowest k 0) (slice_index_or counts k 0)) → ((k : ℕ) → k < MOST_FIELDS → slice_index_or h.highest k 0 ≡ max (slice_index_or g.highest k 0) (slice_index_or counts k 0)) → h.frames ≡ max g.frames f → h.words ≡ max g.words w → h.seen ≡ true → ((k : ℕ) → k < MOST_FIELDS → slice_index_or counts k 0 ≡ count_live (k + 1) cells released) → f ≡ frames → w ≡ words → Saw g h cells released frames words
saw g h cells released frames words f w counts lowest highest most_frames most_words seen are fs ws = record {
  lowest = λ k l. lowest k l ∙ ap (λ n. lowered g.seen (slice_index_or g.lowest k 0) n) (are k l);
  highest = λ k l. highest k l ∙ ap (λ n. max (slice_index_or g.highest k 0) n) (are k l);
  frames = most_frames ∙ ap (λ n. max g.frames n) fs;
  words = most_words ∙ ap (λ n. max g.words n) ws;
  seen = seen;
}

-- a run without a call, of which one look reports
pub reports_none : (m : Seen) (t : Stand) (s : Stored) (calls : ℕ) (g h : Gauge) → seen_of t s ≡ m → calls ≡ 0 → IsMeasured t → Saw g h s.cells s.released t.frames t.words → IsUnseen g → (kinds : Kinds) (lent : List Typed) → KnowsRun m.stack.code kinds (state_with m.stack lent m.store) calls → IsFresh m.stack → IsSmall m.store.cells → m.pushed ≡ [] → ReportsRun kinds (plain m.stack.code.code) (state_with m.stack lent m.store) calls h
reports_none m t s calls g h view none measured look unseen = subst (λ (q : Seen). (kinds : Kinds) (lent : List Typed) → KnowsRun q.stack.code kinds (state_with q.stack lent q.store) calls → IsFresh q.stack → IsSmall q.store.cells → q.pushed ≡ [] → ReportsRun kinds (plain q.stack.code.code) (state_with q.stack lent q.store) calls h) view (λ kinds lent knows fresh small empty.
    let first : State = state_with t lent (store_of s.cells s.released) in
    subst (λ n. ReportsRun kinds (plain t.code.code) first n h) (sym none) (
      0,
      record {
        lowest = λ k low high.
            let j : k - 1 < MOST_FIELDS = omega (arith, low, high) in
            look.lowest (k - 1) j ∙ ap (λ b. lowered b (slice_index_or g.lowest (k - 1) 0) (count_live (k - 1 + 1) s.cells s.released)) unseen.seen ∙ count k low;
        highest = λ k low high.
            let j : k - 1 < MOST_FIELDS = omega (arith, low, high) in
            let a = look.highest (k - 1) j in
            let z = unseen.highest (k - 1) in
            let c = count k low in
            omega (arith, a, z, c);
        frames = (let a = look.frames in let z = unseen.frames in let c = measured.frames in omega (arith, a, z, c));
        words = (let a = look.words in let z = unseen.words in let c = measured.words in omega (arith, a, z, c));
      },
    ))
  where
    count : (k : ℕ) → 1 ≤ k → count_live (k - 1 + 1) s.cells s.released ≡ count_held k (store_of s.cells s.released)
    count k low = (let e : k - 1 + 1 ≡ k = omega (arith, low) in ap (λ m. count_live m s.cells s.released) e ∙ live_is_held k s.cells s.released)

-- a machine that is taken apart, whose task runs over a recorder, and that is put together again

same_parts : (m : Seen) (t : Stand) (s w : Stored) → t ≡ m.stack → store_of s.cells s.released ≡ m.store → s.pushed ≡ m.pushed → w ≡ s → seen_of t w ≡ m
same_parts m t s w stack store pushed same =
    let there : store_of w.cells w.released ≡ m.store = ap (λ (z : Stored). store_of z.cells z.released) same ∙ store in
    let left : w.pushed ≡ m.pushed = ap (λ (z : Stored). z.pushed) same ∙ pushed in
    λ i. record { stack = stack i; store = there i; pushed = left i }

pub has_come : (m : Seen) (t : Stand) (s w : Stored) (calls : ℕ) (e : Ended) (u : Stand) (v x : Stored) (new : Seen) → t ≡ m.stack → store_of s.cells s.released ≡ m.store → s.pushed ≡ m.pushed → w ≡ s → IsMeasured t → HasRan t w calls e u v → x ≡ v → new.stack ≡ u → new.store ≡ store_of x.cells x.released → (kinds : Kinds) (lent : List Typed) → KnowsRun m.stack.code kinds (state_with m.stack lent m.store) calls → m.stack.ended ≡ None → IsSmall m.store.cells → m.pushed ≡ [] → RunsTo kinds (plain m.stack.code.code) (state_with m.stack lent m.store) calls e (state_with new.stack lent new.store) new.stack.given
has_come m t s w calls e u v x new stack store pushed same measured ran kept after cells kinds lent knows going small empty =
    let first : State = state_with m.stack lent m.store in
    let reported : RunsTo kinds (plain m.stack.code.code) first calls e (state_with u lent (store_of v.cells v.released)) u.given = runs_to m t w calls e u v (same_parts m t s w stack store pushed same) measured ran kinds lent knows going small empty in
    let stood : RunsTo kinds (plain m.stack.code.code) first calls e (state_with new.stack lent (store_of v.cells v.released)) new.stack.given = subst (λ (q : Stand). RunsTo kinds (plain m.stack.code.code) first calls e (state_with q lent (store_of v.cells v.released)) q.given) (sym after) reported in
    let stays : store_of v.cells v.released ≡ new.store = sym (cells ∙ ap (λ (z : Stored). store_of z.cells z.released) kept) in
    subst (λ (q : Store). RunsTo kinds (plain m.stack.code.code) first calls e (state_with new.stack lent q) new.stack.given) stays stood

pub has_reported : (m : Seen) (t : Stand) (s w : Stored) (calls : ℕ) (e : Ended) (u : Stand) (v : Stored) (g h i : Gauge) → t ≡ m.stack → store_of s.cells s.released ≡ m.store → s.pushed ≡ m.pushed → w ≡ s → IsMeasured t → HasRan t w calls e u v → Saw g h w.cells w.released t.frames t.words → Saw h i v.cells v.released u.most_frames u.most_words → IsUnseen g → (kinds : Kinds) (lent : List Typed) → KnowsRun m.stack.code kinds (state_with m.stack lent m.store) calls → IsFresh m.stack → IsSmall m.store.cells → m.pushed ≡ [] → ReportsRun kinds (plain m.stack.code.code) (state_with m.stack lent m.store) calls i
has_reported m t s w calls e u v g h i stack store pushed same measured ran first last unseen = reports_run m t w calls e u v g h i (same_parts m t s w stack store pushed same) measured ran first last unseen

-- the trace of the run

-- The run gives a value, and this is what is answered of its trace.
abbrev pub AtTraced : Seen → Kinds → List Typed → (calls limit : ℕ) → Result Trace TraceError → Type 0
AtTraced m kinds lent calls limit answer = (n : ℕ) × AtValue (after kinds (plain m.stack.code.code) n (begun (state_with m.stack lent m.store) calls)) (λ steps. IsTraced (standing_from 0 m.store.cells) (notes kinds (plain m.stack.code.code) (state_with m.stack lent m.store) calls steps) steps limit answer)

pub recorded_ran : (t : Stand) (s : Stored) (r w : Recorded) (calls limit : ℕ) (e : Ended) (u : Stand) → r.store ≡ s → IsTape (standing_from 0 s.cells) [] 0 limit r.tape → ((o : Origin) (limit : ℕ) → IsReady o t r.store calls → IsFirstTape o limit r.tape → RunTaped o limit e u w) → HasRan t r.store calls e u w.store
recorded_ran t s r w calls limit e u same loaded ran o ready = (ran o limit ready (first_of o t r s limit calls same loaded ready)).run

pub has_traced : (m : Seen) (t : Stand) (s : Stored) (r w : Recorded) (calls limit : ℕ) (e : Ended) (u : Stand) (answer : Result Trace TraceError) → t ≡ m.stack → store_of s.cells s.released ≡ m.store → s.pushed ≡ m.pushed → r.store ≡ s → IsMeasured t → IsTape (standing_from 0 s.cells) [] 0 limit r.tape → ((o : Origin) (limit : ℕ) → IsReady o t r.store calls → IsFirstTape o limit r.tape → RunTaped o limit e u w) → ((cells : List Standing) (es : List Noted) (n l : ℕ) → IsTape cells es n l w.tape → IsTraced cells es n l answer) → e ≡ M.Value → (kinds : Kinds) (lent : List Typed) → KnowsRun m.stack.code kinds (state_with m.stack lent m.store) calls → m.stack.ended ≡ None → IsSmall m.store.cells → m.pushed ≡ [] → AtTraced m kinds lent calls limit answer
has_traced m t s r w calls limit e u answer stack store pushed same measured loaded ran traced is kinds lent = subst (λ (q : Seen). KnowsRun q.stack.code kinds (state_with q.stack lent q.store) calls → q.stack.ended ≡ None → IsSmall q.store.cells → q.pushed ≡ [] → AtTraced q kinds lent calls limit answer) (same_parts m t s r.store stack store pushed same) (λ knows going small empty.
    let o = origin_of kinds lent t r.store calls in
    let ready : IsReady o t r.store calls = record {
      code = refl;
      knows = knows;
      going = going;
      small = small;
      empty = empty;
      first = refl;
      calls = refl;
      most_frames = refl;
      most_words = refl;
      measured = measured;
    } in
    let h = ran o limit ready (first_of o t r s limit calls same loaded ready) in
    let n = h.run.0 in
    let beside : HasTape o limit w.tape n = subst (λ (f : Ended). IfValue f (HasTape o limit w.tape n)) is h.beside in
    (n, at_value o limit n e (state_in o u w.store) u.given w.tape (λ steps. IsTraced (standing_from 0 o.first.store.cells) (notes o.kinds (plain o.code.code) o.first o.calls steps) steps limit answer) is h.run.1 beside (λ tape. traced (standing_from 0 o.first.store.cells) (notes o.kinds (plain o.code.code) o.first o.calls n) n limit tape)))

-- an error that was handed on
pub error_is : {A B : Type 0} (r : Result A B) (P : B → Type 0) (x : B) → r ≡ Err x → IsErrAnd r P → P x
error_is {A} {B} r P x e h = subst (λ q. IsErrAnd q P) e h
