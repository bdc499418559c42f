-- The values that were read so far, and their cells by size.
use Rattle.std.proofs.Common.{◌≡◌, ℕ, zero, suc, ◌+◌, ◌<◌, ◌≤◌, List, [], ◌∷◌, length, drop, Some, None, refl, sym, ap, ◌∙◌, subst, arith}
use Rattle.std.specs.Prelude.{Ok, Err, nat_eq, if◌then◌else◌, Bool, true, false}
use Rattle.fip_language.specs.Prefix.{Accepted, Stopped}
use Rattle.fip_language.specs.Values.{Value, Int, Node, Values, End, More, count_of, one_of_size, cells, cells_of_all, words_of_node, words_needed, words_needed_by_all}
use Rattle.fip_language.specs.Table.{Table}
use Rattle.fip_language.specs.SoundTable.{AreTypes, IsSoundTable}
use Rattle.fip_language.specs.Character.{Character, characters}
use Rattle.fip_language.proofs.Prefix.{accepted}
use Rattle.value_text.specs.Machine.{join, snoc, Around, Alone, Lines, Field, step, final}
use Rattle.value_text.specs.Scan.{runs}
use Rattle.value_text.proofs.Tables.{is_table, types_alive}
use Rattle.value_text.proofs.Residual.{Ends, Completes, filled_gives, join-assoc}
use Rattle.value_text.proofs.Exact.{Good, GoodAround, good_filled, Reads, exact}
use Rattle.value_text.specs.declared.counts.Counts.{Counts}
use Rattle.value_text.specs.declared.read.Event.{Event}
use Rattle.value_text.specs.declared.read.Event.TheVariants as E
use Rattle.value_text.specs.declared.read.Refused.TheVariants.{BadValue}
use Rattle.value_text.specs.Reading.{Outline, KnownRows, IsKnown, Spot, Before, After, Nowhere, state_at, rows_of, lines_of, outline_at, spot_of, GoesOn, after_at, Origin, whole, alone, Moves, IsLast, Stepped, cost_of, IsReading}
use Rattle.value_text.specs.Counting.{closes, values_before, values_to, spent, spent_at, count_at, IsCounting}

-- cells and words of values in a row
pub cells_join : (k : ℕ) (xs ys : Values) → cells_of_all k (join xs ys) ≡ cells_of_all k xs + cells_of_all k ys
cells_join k End ys = omega arith
cells_join k (More x xs) ys = let h = cells_join k xs ys in omega (arith, h)

pub cells_snoc : (k : ℕ) (xs : Values) (v : Value) → cells_of_all k (snoc xs v) ≡ cells_of_all k xs + cells k v
cells_snoc k xs v = let h = cells_join k xs (More v End) in omega (arith, h)

needed_join : (xs ys : Values) → words_needed_by_all (join xs ys) ≡ words_needed_by_all xs + words_needed_by_all ys
needed_join End ys = omega arith
needed_join (More x xs) ys = let h = needed_join xs ys in omega (arith, h)

needed_snoc : (xs : Values) (v : Value) → words_needed_by_all (snoc xs v) ≡ words_needed_by_all xs + words_needed v
needed_snoc xs v = let h = needed_join xs (More v End) in omega (arith, h)

pub count_join : (xs ys : Values) → count_of (join xs ys) ≡ count_of xs + count_of ys
count_join End ys = omega arith
count_join (More x xs) ys = let h = count_join xs ys in omega (arith, h)

pub count_snoc : (xs : Values) (v : Value) → count_of (snoc xs v) ≡ suc (count_of xs)
count_snoc xs v = let h = count_join xs (More v End) in omega (arith, h)

pub join-end : (xs : Values) → join xs End ≡ xs
join-end End = refl
join-end (More x xs) = ap (More x) (join-end xs)

node_words : (n : ℕ) → 0 < n → words_of_node n ≡ suc n
node_words zero h = absurd (omega arith)
node_words (suc n) h = refl

needed_node : (c : ℕ) (xs : Values) (v : Value) → words_needed (Node c (snoc xs v)) ≡ suc (suc (count_of xs)) + words_needed_by_all xs + words_needed v
needed_node c xs v =
    let n = count_snoc xs v in
    let h = needed_snoc xs v in
    let w = node_words (count_of (snoc xs v)) (omega (arith, n)) in
    omega (arith, n, h, w)

-- what an event does to the values that were read
abbrev pub Grows : Event → Values → Values → Type 0
Grows (E.Number i) vs vs' = vs' ≡ snoc vs (Int i)
Grows (E.Bare c) vs vs' = vs' ≡ snoc vs (Node c End)
Grows (E.Closed c n) vs vs' = (before parts : Values) × (vs ≡ join before parts) × (n ≡ count_of parts) × (0 < n) × (vs' ≡ snoc before (Node c parts))
Grows E.Opened vs vs' = vs' ≡ vs
Grows E.Comma vs vs' = vs' ≡ vs
Grows E.Line vs vs' = vs' ≡ vs

pub values_grow : (e : Event) (s s' : Spot) → Moves e s s' → Grows e (values_to s) (values_to s')
values_grow (E.Number i) s s' m = ap values_to m.2 ∙ ap (λ vs. snoc vs (Int i)) (sym (ap values_to m.1))
values_grow (E.Bare c) s s' m = ap values_to m.3 ∙ ap (λ vs. snoc vs (Node c End)) (sym (ap values_to m.2))
values_grow E.Opened s s' m = ap values_to m.6 ∙ join-end (values_before m.1) ∙ sym (ap values_to m.5)
values_grow E.Comma s s' m = ap values_to m.7 ∙ sym (join-assoc (values_before m.5) m.1 (More m.2 End)) ∙ sym (ap values_to m.6)
values_grow (E.Closed c n) s s' m =
    let k = count_snoc m.0 m.1 in
    let e = m.5 in
    (values_before m.2, snoc m.0 m.1, ap values_to m.3 ∙ join-assoc (values_before m.2) m.0 (More m.1 End), omega (arith, e, k), omega (arith, e), ap values_to m.4)
values_grow E.Line s s' m = ap values_to m.5 ∙ sym (ap values_to m.4)

pub cells_grow : (e : Event) (vs vs' : Values) → Grows e vs vs' → (k : ℕ) → cells_of_all k vs' ≡ cells_of_all k vs + closes k e
cells_grow (E.Number i) vs vs' g k = ap (cells_of_all k) g ∙ cells_snoc k vs (Int i)
cells_grow (E.Bare c) vs vs' g k = ap (cells_of_all k) g ∙ cells_snoc k vs (Node c End)
cells_grow (E.Closed c n) vs vs' g k =
    let before = g.0 in
    let parts = g.1 in
    let a = ap (cells_of_all k) g.2 in
    let b = cells_join k before parts in
    let d = ap (cells_of_all k) g.5 in
    let f = cells_snoc k before (Node c parts) in
    let n = ap (one_of_size k) g.3 in
    omega (arith, a, b, d, f, n)
cells_grow E.Opened vs vs' g k = let a = ap (cells_of_all k) g in omega (arith, a)
cells_grow E.Comma vs vs' g k = let a = ap (cells_of_all k) g in omega (arith, a)
cells_grow E.Line vs vs' g k = let a = ap (cells_of_all k) g in omega (arith, a)

-- each event reports of its words
pub spent_moves : (e : Event) (s s' : Spot) → Moves e s s' → spent_at s' ≡ spent_at s + cost_of e
spent_moves (E.Number i) s s' m = ap spent_at m.2 ∙ (let z : spent m.0 + 0 ≡ spent m.0 + 0 = refl in z) ∙ ap (λ n. n + 0) (sym (ap spent_at m.1))
spent_moves (E.Bare c) s s' m = ap spent_at m.3 ∙ (let z : spent m.1 + 0 ≡ spent m.1 + 0 = refl in z) ∙ ap (λ n. n + 0) (sym (ap spent_at m.2))
spent_moves E.Opened s s' m = ap spent_at m.6 ∙ ap (λ n. n + 2) (sym (ap spent_at m.5))
spent_moves E.Comma s s' m =
    let done = m.1 in
    let v = m.2 in
    let a = m.5 in
    let n = count_snoc done v in
    let h = needed_snoc done v in
    let z : spent a + (suc (suc (count_of (snoc done v))) + words_needed_by_all (snoc done v)) ≡ (spent a + (suc (suc (count_of done)) + words_needed_by_all done) + words_needed v) + 1 = omega (arith, n, h) in
    ap spent_at m.7 ∙ z ∙ ap (λ n. n + 1) (sym (ap spent_at m.6))
spent_moves (E.Closed c n) s s' m =
    let done = m.0 in
    let v = m.1 in
    let a = m.2 in
    let h = needed_node c done v in
    let z : spent a + words_needed (Node c (snoc done v)) ≡ (spent a + (suc (suc (count_of done)) + words_needed_by_all done) + words_needed v) + 0 = omega (arith, h) in
    ap spent_at m.4 ∙ z ∙ ap (λ n. n + 0) (sym (ap spent_at m.3))
spent_moves E.Line s s' m =
    let h = needed_snoc m.0 m.1 in
    let z : words_needed_by_all (snoc m.0 m.1) ≡ (words_needed_by_all m.0 + words_needed m.1) + 0 = omega (arith, h) in
    ap spent_at m.5 ∙ z ∙ ap (λ n. n + 0) (sym (ap spent_at m.4))

spent_last : (s : Spot) (vs : Values) → IsLast s vs → spent_at s ≡ words_needed_by_all vs
spent_last (Before k a) vs h = absurd h
spent_last (After a v) vs h = ap (λ a. spent a + words_needed v) h.1 ∙ sym (ap words_needed_by_all h.2 ∙ needed_snoc h.0 v)
spent_last Nowhere vs h = ap words_needed_by_all (sym h)

pub values_last : (s : Spot) (vs : Values) → IsLast s vs → values_to s ≡ vs
values_last (Before k a) vs h = absurd h
values_last (After a v) vs h = ap (λ a. snoc (values_before a) v) h.1 ∙ sym h.2
values_last Nowhere vs h = sym h

-- so many words have no more cells
one_le : (k n : ℕ) → one_of_size k n ≤ words_of_node n
one_le k zero = omega arith
one_le k (suc n) = by_same (nat_eq k (suc n)) where
  by_same : (t : Bool) → (if t then 1 else 0) ≤ suc (suc n)
  by_same true = omega arith
  by_same false = omega arith

mutual
  cells_le : (k : ℕ) (v : Value) → cells k v ≤ words_needed v
  cells_le k (Int i) = omega arith
  cells_le k (Node c vs) = let h = one_le k (count_of vs) in let r = cells_le_all k vs in omega (arith, h, r)

  pub cells_le_all : (k : ℕ) (vs : Values) → cells_of_all k vs ≤ words_needed_by_all vs
  cells_le_all k End = omega arith
  cells_le_all k (More v vs) = let h = cells_le k v in let r = cells_le_all k vs in omega (arith, h, r)

before_le : (k : ℕ) (a : Around) → cells_of_all k (values_before a) ≤ spent a
before_le k (Alone n) = omega arith
before_le k (Lines done rest) = cells_le_all k done
before_le k (Field c done rest a) =
    let h = before_le k a in
    let j = cells_join k (values_before a) done in
    let r = cells_le_all k done in
    omega (arith, h, j, r)

pub cells_spent : (k : ℕ) (s : Spot) → cells_of_all k (values_to s) ≤ spent_at s
cells_spent k (Before j a) = before_le k a
cells_spent k (After a v) =
    let h = before_le k a in
    let j = cells_snoc k (values_before a) v in
    let r = cells_le k v in
    omega (arith, h, j, r)
cells_spent k Nowhere = omega arith

-- an event keeps what stands after
pub moves_after : (e : Event) (s s' : Spot) → Moves e s s' → after_at s' ≡ after_at s
moves_after (E.Number i) s s' m = ap after_at m.2 ∙ sym (ap after_at m.1)
moves_after (E.Bare c) s s' m = ap after_at m.3 ∙ sym (ap after_at m.2)
moves_after E.Opened s s' m = ap after_at m.6 ∙ sym (ap after_at m.5)
moves_after E.Comma s s' m = ap after_at m.7 ∙ sym (ap after_at m.6)
moves_after (E.Closed c n) s s' m = ap after_at m.4 ∙ sym (ap after_at m.3)
moves_after E.Line s s' m = ap after_at m.5 ∙ sym (ap after_at m.4)

-- lines are read to the end of the text
pub lines_go : (s : Spot) → after_at s ≡ None → GoesOn s
lines_go (Before k a) e = tt
lines_go (After (Alone n) v) e = cc
lines_go (After (Lines done rest) v) e = tt
lines_go (After (Field c done rest a) v) e = tt
lines_go Nowhere e = tt

-- reading begins, goes on and stops
pub reading_starts : (tb : Table) (types bytes : List ℕ) (o : Outline) → AreTypes tb types → o ≡ outline_at (spot_of types) → IsReading tb (whole types) bytes o 0 (spot_of types)
reading_starts tb [] bytes o t e = record { outline = e; following = refl; reads = refl; known = subst (IsKnown tb) (sym e) (record { next = tt; frames = tt; lines = tt }); within = omega arith }
reading_starts tb (k ∷ ks) bytes o t e = record { outline = e; following = refl; reads = refl; known = subst (IsKnown tb) (sym e) (record { next = t.0; frames = tt; lines = t.1 }); within = omega arith }

pub alone_starts : (tb : Table) (k at n : ℕ) (bytes : List ℕ) (o : Outline) → k ≤ length tb → at ≤ length bytes → o ≡ outline_at (spot_of (k ∷ [])) → IsReading tb (alone k at n) bytes o at (Before k (Alone n))
alone_starts tb k at n bytes o t w e = record { outline = e; following = refl; reads = refl; known = subst (IsKnown tb) (sym e) (record { next = t; frames = tt; lines = tt }); within = w }

pub reading_on : (tb : Table) (from : Origin) (bytes : List ℕ) (o o' : Outline) (at at' : ℕ) (e : Event) (s s' : Spot) → IsReading tb from bytes o at s → Moves e s s' → o' ≡ outline_at s' → runs tb bytes (state_at s) at ≡ runs tb bytes (state_at s') at' → IsKnown tb o' → at' ≤ length bytes → IsReading tb from bytes o' at' s'
reading_on tb from bytes o o' at at' e s s' r m q reads known within = record { outline = q; following = moves_after e s s' m ∙ r.following; reads = sym reads ∙ r.reads; known = known; within = within }

pub reading_stops : (tb : Table) (from : Origin) (bytes : List ℕ) (o o' : Outline) (at at' k : ℕ) (s : Spot) → IsReading tb from bytes o at s → GoesOn s → ((s : Spot) → GoesOn s → o ≡ outline_at s → Stepped tb bytes s at (Err (BadValue k)) o' at') → runs tb bytes from.state from.place ≡ Stopped k
reading_stops tb from bytes o o' at at' k s r go step = sym r.reads ∙ step s go r.outline

pub no_values : (types : List ℕ) → values_to (spot_of types) ≡ End
no_values [] = refl
no_values (k ∷ ks) = refl

pub counting_starts : (tb : Table) (types bytes : List ℕ) (o : Outline) (at : ℕ) (counts : Counts) → at ≡ 0 → ((k : ℕ) → count_at counts k ≡ 0) → AreTypes tb types → o ≡ outline_at (spot_of types) → IsCounting tb (whole types) bytes o at counts
counting_starts tb types bytes o at counts z n t e = subst (λ at. IsCounting tb (whole types) bytes o at counts) (sym z) (record { spot = spot_of types; reading = reading_starts tb types bytes o t e; exact = λ k le. n k ∙ sym (ap (cells_of_all k) (no_values types)); few = nothing types }) where
  nothing : (types : List ℕ) → spent_at (spot_of types) ≤ 0
  nothing [] = omega arith
  nothing (k ∷ ks) = omega arith

pub counting_alone : (tb : Table) (k at n : ℕ) (bytes : List ℕ) (o : Outline) (counts : Counts) → ((j : ℕ) → count_at counts j ≡ 0) → k ≤ length tb → at ≤ length bytes → o ≡ outline_at (spot_of (k ∷ [])) → IsCounting tb (alone k at n) bytes o at counts
counting_alone tb k at n bytes o counts z t w e = record { spot = Before k (Alone n); reading = alone_starts tb k at n bytes o t w e; exact = λ j le. z j; few = omega arith }

pub counting_few : (tb : Table) (from : Origin) (bytes : List ℕ) (o : Outline) (at : ℕ) (counts : Counts) → IsCounting tb from bytes o at counts → (k : ℕ) → k ≤ 16 → count_at counts k ≤ at
counting_few tb from bytes o at counts h k le = let a = h.exact k le in let b = cells_spent k h.spot in let c = h.few in omega (arith, a, b, c)

pub counting_on : (tb : Table) (from : Origin) (bytes : List ℕ) (o o' : Outline) (at at' : ℕ) (counts counts' : Counts) (e : Event) → (h : IsCounting tb from bytes o at counts) → GoesOn h.spot → ((s : Spot) → GoesOn s → o ≡ outline_at s → Stepped tb bytes s at (Ok (Some e)) o' at') → IsKnown tb o' → at + cost_of e ≤ at' → at' ≤ length bytes → ((k : ℕ) → k ≤ 16 → count_at counts' k ≡ count_at counts k + closes k e) → IsCounting tb from bytes o' at' counts'
counting_on tb from bytes o o' at at' counts counts' e h go step known far within more =
    let r = h.reading in
    let m = step h.spot go r.outline in
    let fw = h.few in
    let sp = spent_moves e h.spot m.0 m.1 in
    record {
      spot = m.0;
      reading = reading_on tb from bytes o o' at at' e h.spot m.0 r m.1 m.2 m.3 known within;
      exact = λ k le. more k le ∙ ap (λ n. n + closes k e) (h.exact k le) ∙ sym (cells_grow e (values_to h.spot) (values_to m.0) (values_grow e h.spot m.0 m.1) k);
      few = omega (arith, far, fw, sp);
    }

pub counting_ends : (tb : Table) (from : Origin) (bytes : List ℕ) (o o' : Outline) (at at' : ℕ) (counts : Counts) → (h : IsCounting tb from bytes o at counts) → GoesOn h.spot → ((s : Spot) → GoesOn s → o ≡ outline_at s → Stepped tb bytes s at (Ok None) o' at') → (vs : Values) × (runs tb bytes from.state from.place ≡ Accepted vs) × ((k : ℕ) → k ≤ 16 → count_at counts k ≡ cells_of_all k vs) × (words_needed_by_all vs ≤ length bytes)
counting_ends tb from bytes o o' at at' counts h go step =
    let r = h.reading in
    let m = step h.spot go r.outline in
    let sp = spent_last h.spot m.0 m.1 in
    let fw = h.few in
    let w = r.within in
    (m.0, sym r.reads ∙ m.2, λ k le. h.exact k le ∙ ap (cells_of_all k) (values_last h.spot m.0 m.1), omega (arith, sp, fw, w))

-- what was read has no more cells than the whole text
ends_fit : (k : ℕ) (tb : Table) (a : Around) (v : Value) (cs : List Character) (x : Values) → Ends tb a v cs x → cells_of_all k (values_before a) + cells k v ≤ cells_of_all k x
ends_fit k tb (Alone n) v cs x h = let e = ap (cells_of_all k) h.1 in omega (arith, e)
ends_fit k tb (Lines done rest) v cs x h = let n = cells_join k done (More v h.0) in let e = ap (cells_of_all k) h.2 in omega (arith, n, e)
ends_fit k tb (Field c done rest a) v cs x h =
    let n = cells_join k done (More v h.0) in
    let j = cells_join k (values_before a) done in
    let i = ends_fit k tb a (Node c (join done (More v h.0))) h.1 x h.3 in
    omega (arith, n, j, i)

known_around : (tb : Table) → IsSoundTable tb → (a : Around) → KnownRows tb (rows_of a) → AreTypes tb (lines_of a) → GoodAround tb a
known_around tb sound (Alone n) r l = tt
known_around tb sound (Lines done rest) r l = types_alive tb sound rest l
known_around tb sound (Field c done rest a) r l = let q = r.1 in (types_alive tb sound rest r.0, known_around tb sound a q.1 l)

good_at : (tb : Table) → IsSoundTable tb → (s : Spot) → IsKnown tb (outline_at s) → Good tb (state_at s)
good_at tb sound (Before k a) h = let l = types_alive tb sound (k ∷ []) (h.next, tt) in (l.0, known_around tb sound a h.frames h.lines)
good_at tb sound (After a v) h = good_filled tb a v (known_around tb sound a h.frames h.lines)
good_at tb sound Nowhere h = tt

fits_completed : (k : ℕ) (tb : Table) (s : Spot) (cs : List Character) (x : Values) → Completes tb (state_at s) cs x → cells_of_all k (values_to s) ≤ cells_of_all k x
fits_completed k tb (Before j a) cs x h = let i = ends_fit k tb a h.0 h.1 x h.3 in omega (arith, i)
fits_completed k tb (After a v) cs x h = let i = ends_fit k tb a v cs x (filled_gives tb a v cs x h) in let j = cells_snoc k (values_before a) v in omega (arith, i, j)
fits_completed k tb Nowhere cs x h = omega arith

pub cells_fit : (k : ℕ) (tb : Table) → IsSoundTable tb → (bytes : List ℕ) (s : Spot) (at : ℕ) (x : Values) → IsKnown tb (outline_at s) → runs tb bytes (state_at s) at ≡ Accepted x → cells_of_all k (values_to s) ≤ cells_of_all k x
cells_fit k tb sound bytes s at x h e = fits_completed k tb s (characters (drop at bytes)) x (accepted (step tb) (final tb) (Good tb) (Reads tb) (exact tb (is_table tb sound)) (drop at bytes) x (state_at s) at (good_at tb sound s h) e)
