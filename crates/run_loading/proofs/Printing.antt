-- The lines of a trace's replay are those of the states of its run. The trace reports the cells alone and not the places
-- after the last of them; these stay without cells, and have no lines.
use Rattle.std.proofs.Common.{◌≡◌, ℕ, zero, suc, ◌-◌, ◌≤◌, Bool, true, false, List, [], ◌∷◌, ◌++◌, length, Option, Some, None, refl, sym, ap, subst, ◌∙◌, arith, slice_get}
use Rattle.std.specs.Prelude.{replicate, slice_set, nat_le, nat_eq, if◌then◌else◌}
use Rattle.tree_refinement.specs.fip_language.Store.{Cell}
use Rattle.tree_refinement.specs.machine_semantics.Cells.{Store, Change, Write, Release, cell_in, cell_at, size_of, written, given_up, changed}
use Rattle.tree_refinement.specs.cell_code.Plain.{PlainCode}
use Rattle.tree_refinement.specs.machine_semantics.States.{State}
use Rattle.tree_refinement.specs.machine_semantics.Steps.{Kinds}
use Rattle.tree_refinement.specs.machine_semantics.Runs.{begun, after, state_of}
use Rattle.tree_refinement.specs.machine_semantics.Traces.{Event, events, changed_or, applied_if, replay}
use Rattle.tree_refinement.proofs.machine_semantics.Replayed.{replay_is}
use Rattle.run_loading.specs.Loading.{unreleased}
use Rattle.run_loading.specs.TraceText.{Loaded}
use Rattle.run_loading.specs.Replaying.{place_line, lines_from, store_text, places_from, replayed, loaded_from, trace_of}
use Rattle.tree_refinement.proofs.tree_semantics.machine_semantics.cell_code.fip_base.fip_language.Facts.{append_none as end_nil, length_set as set_length, suc_injective as fewer}

-- ---- places without cells after the others

-- so many places more, without cells
abbrev padded : ℕ → Store → Store
padded m s = record { cells = s.cells ++ replicate m None; released = s.released ++ replicate m false }

-- a place is reported of each as often
abbrev Even : Store → Type 0
Even s = length s.released ≡ length s.cells

no_lines : (m p : ℕ) → lines_from p (replicate m None) (replicate m false) ≡ []
no_lines zero p = refl
no_lines (suc m) p = no_lines m (suc p)

same_lines : (m p : ℕ) (os : List (Option Cell)) (rs : List Bool) → length rs ≡ length os →
    lines_from p (os ++ replicate m None) (rs ++ replicate m false) ≡ lines_from p os rs
same_lines m p [] [] h = no_lines m p
same_lines m p [] (r ∷ rs) h = absurd (omega arith)
same_lines m p (o ∷ os) [] h = absurd (omega arith)
same_lines m p (o ∷ os) (r ∷ rs) h =
    ap (λ t. place_line p o r ++ t) (same_lines m (suc p) os rs (fewer (length rs) (length os) h))

-- ---- changes

no_cell : (m p : ℕ) → cell_in (replicate m None) p ≡ None
no_cell zero p = refl
no_cell (suc m) zero = refl
no_cell (suc m) (suc p) = no_cell m p

same_cell : (m : ℕ) (os : List (Option Cell)) (p : ℕ) → cell_in (os ++ replicate m None) p ≡ cell_in os p
same_cell m [] p = no_cell m p
same_cell m (o ∷ os) zero = refl
same_cell m (o ∷ os) (suc p) = same_cell m os p

none_is : (c : Cell) → ◌≡◌ {A = Option Cell} None (Some c) → ⊥
none_is c h = cc

set_cell : (m : ℕ) (os : List (Option Cell)) (p : ℕ) (c : Cell) (o : Option Cell) → cell_in os p ≡ Some c →
    slice_set (os ++ replicate m None) p o ≡ slice_set os p o ++ replicate m None
set_cell m [] p c o h = absurd (none_is c h)
set_cell m (x ∷ os) zero c o h = refl
set_cell m (x ∷ os) (suc p) c o h = ap (λ ys. x ∷ ys) (set_cell m os p c o h)

same_flag : (m : ℕ) (os : List (Option Cell)) (rs : List Bool) (p : ℕ) (c : Cell) → length rs ≡ length os →
    cell_in os p ≡ Some c → slice_get (rs ++ replicate m false) p ≡ slice_get rs p
same_flag m [] rs p c e h = absurd (none_is c h)
same_flag m (x ∷ os) [] p c e h = absurd (omega arith)
same_flag m (x ∷ os) (r ∷ rs) zero c e h = refl
same_flag m (x ∷ os) (r ∷ rs) (suc p) c e h = same_flag m os rs p c (fewer (length rs) (length os) e) h

set_flag : (m : ℕ) (os : List (Option Cell)) (rs : List Bool) (p : ℕ) (c : Cell) → length rs ≡ length os →
    cell_in os p ≡ Some c → slice_set (rs ++ replicate m false) p true ≡ slice_set rs p true ++ replicate m false
set_flag m [] rs p c e h = absurd (none_is c h)
set_flag m (x ∷ os) [] p c e h = absurd (omega arith)
set_flag m (x ∷ os) (r ∷ rs) zero c e h = refl
set_flag m (x ∷ os) (r ∷ rs) (suc p) c e h =
    ap (λ ys. r ∷ ys) (set_flag m os rs p c (fewer (length rs) (length os) e) h)

-- what a change leaves, padded
abbrev IsPadded : ℕ → Store → Store → Type 0
IsPadded m s t = (s ≡ padded m t) × Even t

write_padded : (m : ℕ) (t : Store) (p : ℕ) (new : Cell) (o : Option Cell) → Even t → cell_at t p ≡ o →
    IsPadded m (changed_or (padded m t) (written (padded m t) p new o)) (changed_or t (written t p new o))
write_padded m t p new None e h = (refl, e)
write_padded m t p new (Some old) e h = by_size (nat_eq (size_of old) (size_of new))
  where
    by_size : (b : Bool) → IsPadded m
        (changed_or (padded m t) (if b then Some (record (padded m t) { cells = slice_set (t.cells ++ replicate m None) p (Some new) }) else None))
        (changed_or t (if b then Some (record t { cells = slice_set t.cells p (Some new) }) else None))
    by_size false = (refl, e)
    by_size true = (
      ap (λ os. record (padded m t) { cells = os }) (set_cell m t.cells p old (Some new) h),
      e ∙ sym (set_length t.cells p (Some new)),
    )

release_padded : (m : ℕ) (t : Store) (p : ℕ) (o : Option Cell) (r : Option Bool) → Even t → cell_at t p ≡ o →
    IsPadded m (changed_or (padded m t) (given_up (padded m t) p o r)) (changed_or t (given_up t p o r))
release_padded m t p None r e h = (refl, e)
release_padded m t p (Some c) None e h = (refl, e)
release_padded m t p (Some c) (Some true) e h = (refl, e)
release_padded m t p (Some c) (Some false) e h = (
  ap (λ rs. record (padded m t) { released = rs }) (set_flag m t.cells t.released p c e h),
  set_length t.released p true ∙ e,
)

-- a change does the same to both
change_padded : (m : ℕ) (t : Store) (c : Change) → Even t →
    IsPadded m (changed_or (padded m t) (changed c (padded m t))) (changed_or t (changed c t))
change_padded m t (Write p tag ws) e =
    subst (λ o. IsPadded m (changed_or (padded m t) (written (padded m t) p (record { tag = tag; fields = ws }) o))
    (changed_or t (written t p (record { tag = tag; fields = ws }) (cell_at t p)))) (sym (same_cell m t.cells p))
    (write_padded m t p (record { tag = tag; fields = ws }) (cell_at t p) e refl)
change_padded m t (Release p) e =
    subst (λ o. IsPadded m (changed_or (padded m t) (given_up (padded m t) p o (slice_get (t.released ++ replicate m false) p)))
    (changed_or t (given_up t p (cell_at t p) (slice_get t.released p)))) (sym (same_cell m t.cells p))
    (with_flag (cell_at t p) refl)
  where
    with_flag : (o : Option Cell) → cell_at t p ≡ o → IsPadded m
        (changed_or (padded m t) (given_up (padded m t) p o (slice_get (t.released ++ replicate m false) p)))
        (changed_or t (given_up t p o (slice_get t.released p)))
    with_flag None h = (refl, e)
    with_flag (Some c) h =
        subst (λ r. IsPadded m (changed_or (padded m t) (given_up (padded m t) p (Some c) r))
        (changed_or t (given_up t p (Some c) (slice_get t.released p)))) (sym (same_flag m t.cells t.released p c e h))
        (release_padded m t p (Some c) (slice_get t.released p) e h)

applied_padded : (m : ℕ) (t : Store) (b : Bool) (v : Event) → Even t →
    IsPadded m (applied_if b v (padded m t)) (applied_if b v t)
applied_padded m t true v e = change_padded m t v.change e
applied_padded m t false v e = (refl, e)

replay_padded : (m i : ℕ) (es : List Event) (t : Store) → Even t →
    IsPadded m (replay (padded m t) es i) (replay t es i)
replay_padded m i [] t e = (refl, e)
replay_padded m i (v ∷ es) t e =
    let one = applied_padded m t (nat_le v.step i) v e in
    subst (λ s. IsPadded m (replay s es i) (replay (applied_if (nat_le v.step i) v t) es i)) (sym one.0)
    (replay_padded m i es (applied_if (nat_le v.step i) v t) one.1)

same_text : (m : ℕ) (s t : Store) → IsPadded m s t → store_text t ≡ store_text s
same_text m s t h =
    sym (same_lines m 0 t.cells t.released h.1) ∙ ap store_text (sym h.0)

-- ---- the cells of a trace

-- no cell before this place
abbrev From : ℕ → List Loaded → Type 0
From p [] = Unit {0}
From p (c ∷ cs) = p ≤ c.place

sooner : (p : ℕ) (cs : List Loaded) → From (suc p) cs → From p cs
sooner p [] h = tt
sooner p (c ∷ cs) h = omega arith

begins_there : (p : ℕ) (os : List (Option Cell)) → From p (loaded_from p os)
begins_there p [] = tt
begins_there p (None ∷ os) = sooner p (loaded_from (suc p) os) (begins_there (suc p) os)
begins_there p (Some c ∷ os) = omega arith

one_more : (p q : ℕ) → suc p ≤ q → q - p ≡ suc (q - suc p)
one_more p q h = omega arith

shifted : (p : ℕ) (c : Loaded) (cs : List Loaded) → suc p ≤ c.place →
    places_from p (c ∷ cs) ≡ None ∷ places_from (suc p) (c ∷ cs)
shifted p c cs h =
    ap (λ k. replicate k None ++ Some (record { tag = c.tag; fields = c.fields }) ∷ places_from (suc c.place) cs)
    (one_more p c.place h)

-- some places without cells are left out
abbrev AreBack : ℕ → List (Option Cell) → List Loaded → Type 0
AreBack p os cs = (m : ℕ) × (os ≡ places_from p cs ++ replicate m None)

none_back : (p : ℕ) (os : List (Option Cell)) (cs : List Loaded) → From (suc p) cs → AreBack (suc p) os cs →
    AreBack p (None ∷ os) cs
none_back p os [] f (m, e) = (suc m, ap (λ xs. None ∷ xs) e)
none_back p os (c ∷ cs) f (m, e) =
    (m, ap (λ xs. None ∷ xs) e ∙ ap (λ xs. xs ++ replicate m None) (sym (shifted p c cs f)))

no_room : (p : ℕ) → 0 ≡ p - p
no_room p = omega arith

are_back : (p : ℕ) (os : List (Option Cell)) → AreBack p os (loaded_from p os)
are_back p [] = (0, refl)
are_back p (None ∷ os) =
    none_back p os (loaded_from (suc p) os) (begins_there (suc p) os) (are_back (suc p) os)
are_back p (Some c ∷ os) =
    let more = are_back (suc p) os in (
      more.0,
      ap (λ xs. Some c ∷ xs) more.1
          ∙ ap (λ k. (replicate k None ++ Some c ∷ places_from (suc p) (loaded_from (suc p) os)) ++ replicate more.0 None)
          (no_room p),
    )

pads_released : (os : List (Option Cell)) (m : ℕ) → unreleased (os ++ replicate m None) ≡ padded m (unreleased os)
pads_released os m = ap (λ rs. record { cells = os ++ replicate m None; released = rs }) (flags os)
  where
    flags : (xs : List (Option Cell)) →
        replicate (length (xs ++ replicate m None)) false ≡ replicate (length xs) false ++ replicate m false
    flags [] = count m
      where
        count : (k : ℕ) → replicate (length {A = Option Cell} (replicate k None)) false ≡ replicate k false
        count zero = refl
        count (suc k) = ap (λ ys. false ∷ ys) (count k)
    flags (x ∷ xs) = ap (λ ys. false ∷ ys) (flags xs)

length_of : (n : ℕ) → length {A = Bool} (replicate n false) ≡ n
length_of zero = refl
length_of (suc n) = ap suc (length_of n)

-- the store of a trace, with some places more, is the store that it reports of
pub replay_prints : (kinds : Kinds) (code : PlainCode) (s : State) (cells : List (Option Cell)) (calls steps i : ℕ) →
    s.store ≡ unreleased cells → i ≤ steps →
    replayed (trace_of kinds code s calls steps) i ≡ store_text (state_of (after kinds code i (begun s calls))).store
replay_prints kinds code s cells calls steps i fresh le =
    let reported = are_back 0 cells in
    let m : ℕ = reported.0 in
    let own : Store = unreleased (places_from 0 (loaded_from 0 cells)) in
    let es = events kinds code steps (begun s calls) in
    let same : s.store ≡ padded m own =
    fresh ∙ (ap unreleased reported.1 ∙ pads_released (places_from 0 (loaded_from 0 cells)) m) in
    let both = replay_padded m i es own (length_of (length (places_from 0 (loaded_from 0 cells)))) in
    ap (λ os. store_text (replay (unreleased (places_from 0 (loaded_from 0 os))) es i)) (ap (λ x. x.cells) fresh)
    ∙ (same_text m (replay (padded m own) es i) (replay own es i) both
    ∙ (ap (λ x. store_text (replay x es i)) (sym same)
    ∙ ap store_text (replay_is kinds code s calls steps i le)))
