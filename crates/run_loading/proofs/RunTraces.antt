-- The trace of a run of sound code is one: by induction over the steps. What is kept is that the cells of the trace that
-- aren't released yet are those of the state.
use Rattle.std.proofs.Common.{◌≡◌, ◌≢◌, inl, inr, ℕ, zero, suc, ◌+◌, ◌^◌, ◌<◌, ◌≤◌, Bool, true, false, List, [], ◌∷◌, ◌++◌, length, Option, Some, None, slice_get, slice_set, refl, sym, ap, ap₂, ◌∙◌, subst, arith, ◌==◌, if◌then◌else◌}
use Rattle.std.proofs.lemmas.Option.{none-some, same_Some, option_and_then_some}
use Rattle.tree_refinement.specs.fip_language.Every.{Every}
use Rattle.tree_refinement.specs.fip_language.Store.{Cell}
use Rattle.tree_refinement.specs.machine_semantics.Cells.{Store, IsStore, IsSized, Change, Write, Release, cell_in, cell_at, size_of, size_in, sizes, one_if_true, released_at, given_up, changed, changed_by}
use Rattle.tree_refinement.specs.machine_semantics.States.{State, Next, Went, Entered, Gave, Trapped, TooDeep, Stuck}
use Rattle.tree_refinement.specs.machine_semantics.Steps.{Kinds, next, changes_of}
use Rattle.tree_refinement.specs.machine_semantics.Runs.{End, Run, Going, Over, begun, comes}
use Rattle.tree_refinement.specs.machine_semantics.Traces.{Event, events_of, done_changes, events}
use Rattle.tree_refinement.proofs.machine_semantics.Followed.{Followed, followed}
use Rattle.tree_refinement.proofs.machine_semantics.Sizes.{went_keeps}
use Rattle.tree_refinement.specs.cell_code.Plain.{PlainCode, results}
use Rattle.tree_refinement.specs.code_rules.Breaks.{IsSound}
use Rattle.tree_refinement.proofs.separation_kinds.Basics.{pick, chosen, refused, equal, equal_is, unequal_is, length_map}
use Rattle.tree_refinement.proofs.separation.Stores.{same_place, IsWritten, is_written}
use Rattle.tree_refinement.specs.separation.Codes.{HasLiterals, AreKinds}
use Rattle.tree_refinement.specs.separation.Starts.{IsStart}
use Rattle.tree_refinement.specs.separation.Alive.{IsAlive}
use Rattle.tree_refinement.proofs.separation.Loading.{start_alive}
use Rattle.tree_refinement.proofs.separation.Running.{GoodRun, later_good}
use Rattle.run_loading.specs.TraceText.{Loaded, IsWord, AreCells, size_at, without, AreEvents, IsTrace}
use Rattle.run_loading.specs.Replaying.{loaded_from, trace_of}
use Rattle.run_loading.specs.Writable.{HaveFewConstructors, IsWritable}
use Rattle.run_loading.proofs.StepChanges.{releases, IsPlain, cell_within, step_plain}
use Rattle.tree_refinement.proofs.tree_semantics.machine_semantics.cell_code.fip_base.fip_language.Facts.{get_set_flag as flag_other}

-- ---- the cells of a trace by place

-- the size of a cell that isn't released
abbrev live_size : Option Cell → ℕ → Option ℕ
live_size None r = None
live_size (Some c) zero = Some (size_of c)
live_size (Some c) (suc r) = None

-- these cells are those of the store that aren't released
abbrev AreLive : List Loaded → Store → Type 0
AreLive live s = (p : ℕ) → size_at p live ≡ live_size (cell_at s p) (released_at s p)

none_before : (os : List (Option Cell)) (p q : ℕ) → p < q → size_at p (loaded_from q os) ≡ None
none_before [] p q h = refl
none_before (None ∷ os) p q h = none_before os p (suc q) (omega arith)
none_before (Some c ∷ os) p q h = refused (q == p) (Some (size_of c)) (size_at p (loaded_from (suc q) os)) (unequal_is q p (λ e. absurd (let z : ⊥ = omega arith in z))) ∙ none_before os p (suc q) (omega arith)

first_size : (os : List (Option Cell)) (p q j : ℕ) → p ≡ q + j → size_at p (loaded_from q os) ≡ live_size (cell_in os j) 0
first_size [] p q j e = refl
first_size (None ∷ os) p q zero e = none_before os p (suc q) (omega arith)
first_size (None ∷ os) p q (suc j) e = first_size os p (suc q) j (omega arith)
first_size (Some c ∷ os) p q zero e = chosen (q == p) (Some (size_of c)) (size_at p (loaded_from (suc q) os)) (equal_is q p (omega arith))
first_size (Some c ∷ os) p q (suc j) e = refused (q == p) (Some (size_of c)) (size_at p (loaded_from (suc q) os)) (unequal_is q p (λ z. absurd (let y : ⊥ = omega arith in y))) ∙ first_size os p (suc q) j (omega arith)

first_live : (s : Store) → ((p : ℕ) → released_at s p ≡ 0) → AreLive (loaded_from 0 s.cells) s
first_live s none p = first_size s.cells p 0 p (omega arith) ∙ ap (live_size (cell_at s p)) (sym (none p))

cells_are : (os : List (Option Cell)) (least q : ℕ) → least ≤ q → q + length os < 2 ^ 32 → Every IsSized os → ((j : ℕ) (c : Cell) → cell_in os j ≡ Some c → (c.tag < 2 ^ 32) × Every IsWord c.fields) → AreCells least (loaded_from q os)
cells_are [] least q h k sized small = tt
cells_are (None ∷ os) least q h k sized small = cells_are os least (suc q) (omega arith) (omega arith) sized.1 (λ j c e. small (suc j) c e)
cells_are (Some c ∷ os) least q h k sized small =
    let first = small 0 c refl in
    let some = sized.0.0 in
    let few = sized.0.1 in (
      record { above = h; place = omega arith; tag = first.0; some = omega arith; few = few; words = first.1 },
      cells_are os (suc q) (suc q) (omega arith) (omega arith) sized.1 (λ j c e. small (suc j) c e),
    )

cells_number : (os : List (Option Cell)) (q : ℕ) → length (loaded_from q os) ≤ length os
cells_number [] q = omega arith
cells_number (None ∷ os) q = let h = cells_number os (suc q) in omega arith
cells_number (Some c ∷ os) q = let h = cells_number os (suc q) in omega arith

-- ---- a write

written_live : (live : List Loaded) (s : Store) (w : ℕ) (old new : Cell) → (b : IsWritten s w new) → cell_at s w ≡ Some old → size_of old ≡ size_of new → AreLive live s → AreLive live b.store
written_live live s w old new b at same h p = elim (same_place w p) as (λ v. size_at p live ≡ live_size (cell_at b.store p) (released_at b.store p)) [
  | inl e ↦ h p ∙ ap (live_size (cell_at s p)) (sym (b.released p)) ∙ subst (λ p. live_size (cell_at s p) (released_at b.store p) ≡ live_size (cell_at b.store p) (released_at b.store p)) e
      (ap (λ o. live_size o (released_at b.store w)) at ∙ even (released_at b.store w) ∙ sym (ap (λ o. live_size o (released_at b.store w)) b.here))
  | inr off ↦ h p ∙ ap₂ live_size (sym (b.other p off)) (sym (b.released p))
]
  where
    even : (r : ℕ) → live_size (Some old) r ≡ live_size (Some new) r
    even zero = ap Some same
    even (suc r) = refl

-- ---- releases

without_here : (p : ℕ) (cs : List Loaded) → size_at p (without p cs) ≡ None
without_here p [] = refl
without_here p (c ∷ cs) = pick (λ xs. size_at p xs ≡ None) (c.place == p) (without p cs) (c ∷ without p cs) (λ e. without_here p cs) (λ e. refused (c.place == p) (Some (length c.fields)) (size_at p (without p cs)) e ∙ without_here p cs)

without_other : (p q : ℕ) (cs : List Loaded) → (p ≡ q → ⊥) → size_at q (without p cs) ≡ size_at q cs
without_other p q [] off = refl
without_other p q (c ∷ cs) off = pick (λ xs. size_at q xs ≡ (if c.place == q then Some (length c.fields) else size_at q cs)) (c.place == p) (without p cs) (c ∷ without p cs)
    (λ e. without_other p q cs off ∙ sym (refused (c.place == q) (Some (length c.fields)) (size_at q cs) (unequal_is c.place q (λ z. off (sym (equal c.place p e) ∙ z)))))
    (λ e. ap (λ o. if c.place == q then Some (length c.fields) else o) (without_other p q cs off))

flag_here : (rs : List Bool) (p : ℕ) (r : Bool) → slice_get rs p ≡ Some r → slice_get (slice_set rs p true) p ≡ Some true
flag_here [] p r e = absurd (none-some r e)
flag_here (x ∷ rs) zero r e = refl
flag_here (x ∷ rs) (suc p) r e = flag_here rs p r e

-- a cell that was released
record IsGivenUp (s : Store) (p : ℕ) (t : Store) : Type 0 where
  cell : Cell
  there : cell_at s p ≡ Some cell
  clear : slice_get s.released p ≡ Some false
  is : record s { released = slice_set s.released p true } ≡ t

given_up_is : (s t : Store) (p : ℕ) (o : Option Cell) (r : Option Bool) → cell_at s p ≡ o → slice_get s.released p ≡ r → given_up s p o r ≡ Some t → IsGivenUp s p t
given_up_is s t p None r a b e = absurd (none-some t e)
given_up_is s t p (Some c) None a b e = absurd (none-some t e)
given_up_is s t p (Some c) (Some true) a b e = absurd (none-some t e)
given_up_is s t p (Some c) (Some false) a b e = record { cell = c; there = a; clear = b; is = same_Some _ t e }

released_live : (live : List Loaded) (s : Store) (w : ℕ) (c : Cell) → cell_at s w ≡ Some c → slice_get s.released w ≡ Some false → AreLive live s → AreLive (without w live) (record s { released = slice_set s.released w true })
released_live live s w c at clear h p = elim (same_place w p) as (λ v. size_at p (without w live) ≡ live_size (cell_at s p) (one_if_true (slice_get (slice_set s.released w true) p))) [
  | inl e ↦ subst (λ p. size_at p (without w live) ≡ live_size (cell_at s p) (one_if_true (slice_get (slice_set s.released w true) p))) e
      (without_here w live ∙ sym (ap₂ live_size at (ap one_if_true (flag_here s.released w false clear))))
  | inr off ↦ without_other w p live off ∙ h p ∙ ap (λ r. live_size (cell_at s p) (one_if_true r)) (sym (flag_other s.released w p off))
]

-- ---- the events of a step

-- what comes after a step of this number, from these cells on
abbrev After : Store → ℕ → ℕ → List Event → Type 0
After t k last es = (live : List Loaded) (least : ℕ) → least ≤ k → AreLive live t → AreEvents live least last es

released_events : (ps : List ℕ) (live : List Loaded) (s t : Store) (least k last : ℕ) (es : List Event) → length s.cells < 2 ^ 32 → least ≤ k → k ≤ last → AreLive live s → changed_by (releases ps) s ≡ Some t → After t k last es → AreEvents live least last (events_of k (releases ps) ++ es)
released_events [] live s t least k last es short low high h e rest = rest live least low (subst (AreLive live) (same_Some s t e) h)
released_events (p ∷ ps) live s t least k last es short low high h e rest = option_and_then_some (λ u. changed_by (releases ps) u) (changed (Release p) s) t e (λ u is more.
    let g : IsGivenUp s p u = given_up_is s u p (cell_at s p) (slice_get s.released p) refl refl is in
    let size : size_at p live ≡ Some (size_of g.cell) = h p ∙ ap₂ live_size g.there (ap one_if_true g.clear) in
    let within = cell_within s.cells p g.cell g.there in
    let there : size_at p live ≢ None = λ z. none-some (size_of g.cell) (sym z ∙ size) in (
      low,
      high,
      ((let z : p < 2 ^ 32 = omega arith in z), there),
      released_events ps (without p live) u t k k last es (subst (λ (u : Store). length u.cells < 2 ^ 32) g.is short) (omega arith) high (subst (AreLive (without p live)) g.is (released_live live s p g.cell g.there g.clear h)) more rest,
    ))

plain_events : (cs : List Change) (live : List Loaded) (s t : Store) (least k last : ℕ) (es : List Event) → IsStore s → length s.cells < 2 ^ 32 → least ≤ k → k ≤ last → IsPlain s cs → AreLive live s → changed_by cs s ≡ Some t → After t k last es → AreEvents live least last (events_of k cs ++ es)
plain_events cs live s t least k last es store short low high plain h e rest = elim plain as (λ v. AreEvents live least last (events_of k cs ++ es)) [
  | inl w ↦
      let new : Cell = record { tag = w.tag; fields = w.words } in
      let b : IsWritten s w.place new = is_written s w.place w.cell new store w.there w.size in
      let same : b.store ≡ t = same_Some b.store t (sym b.is ∙ sym (ap (λ cs. changed_by cs s) w.is) ∙ e) in
      let within = cell_within s.cells w.place w.cell w.there in
      let size : size_at w.place live ≡ Some (length w.words) = h w.place ∙ ap₂ live_size w.there w.free ∙ ap Some w.size in
      let events_are : AreEvents live least last (events_of k (Write w.place w.tag w.words ∷ []) ++ es) = (
        low,
        high,
        ((let z : w.place < 2 ^ 32 = omega arith in z), size, w.small, w.bits),
        rest live k (omega arith) (subst (AreLive live) same (written_live live s w.place w.cell new b w.there w.size h)),
      ) in
      subst (λ cs. AreEvents live least last (events_of k cs ++ es)) (sym w.is) events_are
  | inr r ↦
      subst (λ cs. AreEvents live least last (events_of k cs ++ es)) (sym r.1)
      (released_events r.0 live s t least k last es short low high h (sym (ap (λ cs. changed_by cs s) r.1) ∙ e) rest)
]

-- ---- runs

length_sizes : (old new : Store) → sizes new ≡ sizes old → length new.cells ≡ length old.cells
length_sizes old new e = sym (length_map size_in new.cells) ∙ ap (λ xs. length xs) e ∙ length_map size_in old.cells

-- events of the run from here on
abbrev Reported : PlainCode → Kinds → ℕ → Run → List Loaded → ℕ → ℕ → Type 0
Reported c before n r live least last = AreEvents live least last (events before c n r)

over_reported : (c : PlainCode) (before : Kinds) (n : ℕ) (e : End) (s : State) (left k : ℕ) (live : List Loaded) (least last : ℕ) → Reported c before n (Over e s left k) live least last
over_reported c before zero e s left k live least last = tt
over_reported c before (suc n) e s left k live least last = tt

-- the run after a step, where the next is x
onward : (c : PlainCode) (before waits : Kinds) (types kept : List ℕ) (n k last left : ℕ) (cs : List Change) (s : State) (x : Next) (live : List Loaded) (least : ℕ) → IsStore s.store → length s.store.cells < 2 ^ 32 → least ≤ suc k → suc k ≤ last → IsPlain s.store cs → AreLive live s.store → x ≡ next before c s → Followed cs s x → GoodRun c types kept (comes s left (suc k) x) → ((t : State) (rest : ℕ) (more : List Loaded) (low : ℕ) → GoodRun c types kept (Going t rest (suc k)) → length t.store.cells < 2 ^ 32 → low ≤ suc k → AreLive more t.store → Reported c before n (Going t rest (suc k)) more low last) → AreEvents live least last (events_of (suc k) (done_changes cs x) ++ events before c n (comes s left (suc k) x))
onward c before waits types kept n k last left cs s (Went t) live least store short low high plain h is f g others = plain_events cs live s.store t.store least (suc k) last (events before c n (Going t left (suc k))) store short low high plain h f
    (λ more least below alive. others t left more least g (subst (λ m. m < 2 ^ 32) (sym (length_sizes s.store t.store (went_keeps before c s t (sym is)).sizes)) short) below alive)
onward c before waits types kept n k last zero cs s (Entered t) live least store short low high plain h is f g others = over_reported c before n _ s 0 (suc k) live least last
onward c before waits types kept n k last (suc left) cs s (Entered t) live least store short low high plain h is f g others = others t left live least g (subst (λ (u : Store). length u.cells < 2 ^ 32) (sym f) short) low (subst (AreLive live) (sym f) h)
onward c before waits types kept n k last left cs s (Gave ws) live least store short low high plain h is f g others = over_reported c before n _ s left (suc k) live least last
onward c before waits types kept n k last left cs s (Trapped kind line col) live least store short low high plain h is f g others = over_reported c before n _ s left (suc k) live least last
onward c before waits types kept n k last zero cs s TooDeep live least store short low high plain h is f g others = over_reported c before n _ s 0 (suc k) live least last
onward c before waits types kept n k last (suc left) cs s TooDeep live least store short low high plain h is f g others = over_reported c before n _ s left (suc k) live least last
onward c before waits types kept n k last left cs s Stuck live least store short low high plain h is f g others = over_reported c before n _ s left (suc k) live least last

reported : (c : PlainCode) (before waits : Kinds) (types kept : List ℕ) (n k last left : ℕ) (s : State) (live : List Loaded) (least : ℕ) → IsSound c → HasLiterals c → AreKinds c before waits → HaveFewConstructors c.types → k + n ≤ last → least ≤ suc k → GoodRun c types kept (Going s left k) → length s.store.cells < 2 ^ 32 → AreLive live s.store → Reported c before n (Going s left k) live least last
reported c before waits types kept zero k last left s live least sound literals kinds few high low g short h = tt
reported c before waits types kept (suc n) k last left s live least sound literals kinds few high low g short h =
    onward c before waits types kept n k last left (changes_of before c s) s (next before c s) live least g.store short low (omega arith)
    (step_plain c before waits types kept s sound literals kinds few short g) h refl (followed before c s)
    (later_good c before waits types kept (Going s left k) sound literals kinds g)
    (λ t rest more least good short low alive. reported c before waits types kept n (suc k) last rest t more least sound literals kinds few (omega arith) (omega arith) good short alive)

begun_reported : (c : PlainCode) (before waits : Kinds) (types kept : List ℕ) (steps calls : ℕ) (s : State) → IsSound c → HasLiterals c → AreKinds c before waits → HaveFewConstructors c.types → IsAlive c types kept s → length s.store.cells < 2 ^ 32 → AreLive (loaded_from 0 s.store.cells) s.store → Reported c before steps (begun s calls) (loaded_from 0 s.store.cells) 1 steps
begun_reported c before waits types kept steps zero s sound literals kinds few a short h = over_reported c before steps _ s 0 0 (loaded_from 0 s.store.cells) 1 steps
begun_reported c before waits types kept steps (suc left) s sound literals kinds few a short h = reported c before waits types kept steps 0 steps left s (loaded_from 0 s.store.cells) 1 sound literals kinds few (omega arith) (omega arith) a short h

pub run_is_traced : (c : PlainCode) (before waits : Kinds) (n : ℕ) (kept : List ℕ) (s : State) (calls steps : ℕ) → IsStart c before waits n kept s → HaveFewConstructors c.types → IsWritable s.store → length (events before c steps (begun s calls)) < 2 ^ 32 → steps < 2 ^ 64 → IsTrace (trace_of before c s calls steps)
run_is_traced c before waits n kept s calls steps start few w number small =
    let a = start_alive c before waits n kept s start in
    let places = w.places in
    let count = cells_number s.store.cells 0 in
    record {
      cells = cells_are s.store.cells 0 0 (omega arith) (omega arith) a.store.sized (λ j c e. (w.tags j c e, w.words j c e));
      cell_count = omega arith;
      events = begun_reported c before waits (results c n) kept steps calls s start.sound start.literals start.kinds few a w.places (first_live s.store w.unreleased);
      event_count = number;
      steps = small;
    }
