-- One step of a reader after another: a byte, a number, words, some bytes, the end.
use Rattle.std.proofs.Common.{◌≡◌, ◌∙◌, ℕ, zero, suc, ◌+◌, ◌*◌, ◌-◌, ◌<◌, ◌≤◌, ◌^◌, Bool, true, false, List, [], ◌∷◌, ◌++◌, length, drop, refl, sym, ap, ap₂, subst, arith, append_assoc}
use Rattle.std.specs.Prelude.{nat_le, codes, Err}
use Rattle.std.proofs.lemmas.Bool.{le-leb}
use Rattle.std.proofs.lemmas.List.{append-nil}
use native.Mathlib.Nat.{pow-suc}
use Rattle.run_loading.specs.machine_semantics.Traces.{Event}
use Rattle.cell_trace.specs.declared.error.ReadTraceError.{ReadTraceError}
use Rattle.cell_trace.specs.declared.error.ReadTraceError.TheVariants as E
use Rattle.run_loading.specs.TraceReading.{Read, Got, Bad, then_read, asked, read_number, read_exactly, read_words, read_cell, read_cells, read_event, read_events, last_step, read_end, read_steps, read_all_events, read_all_cells, read_trace}
use Rattle.run_loading.specs.TraceText.{Loaded, Trace, left_by}
use Rattle.trace_files.specs.Reading.{Spot, Reads, read_byte}
use Rattle.run_loading.proofs.Inverse.{not_bad as bad_got}

-- ---- what follows

pub then_got : {A B : Type 0} (r : Read A) (go : A → ℕ → List ℕ → Read B) (x : A) (at : ℕ) (rest : List ℕ) → r ≡ Got x at rest → then_read r go ≡ go x at rest
then_got r go x at rest h = ap (λ q. then_read q go) h

pub then_bad : {A B : Type 0} (r : Read A) (go : A → ℕ → List ℕ → Read B) (at : ℕ) → r ≡ Bad at → then_read r go ≡ Bad at
then_bad r go at h = ap (λ q. then_read q go) h

pub asked_yes : {A : Type 0} (b : Bool) (at : ℕ) (r : Read A) → b ≡ true → asked b at r ≡ r
asked_yes b at r h = ap (λ c. asked c at r) h

pub asked_no : {A : Type 0} (b : Bool) (at : ℕ) (r : Read A) → b ≡ false → asked b at r ≡ Bad at
asked_no b at r h = ap (λ c. asked c at r) h

-- an error of a part is one of the whole
pub err_then : {X Y A B : Type 0} (one : X → Y) (many : A → B) (s t : Spot) (e : ReadTraceError) (r : Read Y) (go : Y → ℕ → List ℕ → Read B) → Reads one (Err e) s r → Reads many (Err e) t (then_read r go)
err_then one many s t E.NoMemory r go h = tt
err_then one many s t (E.BadTrace at) r go h = then_bad r go at h

-- ---- a byte

pub byte_got : (at b : ℕ) (bs rest : List ℕ) → bs ≡ b ∷ rest → read_byte at bs ≡ Got b (suc at) rest
byte_got at b bs rest e = ap (read_byte at) e

pub byte_end : (at : ℕ) (bs : List ℕ) → length bs ≡ 0 → read_byte at bs ≡ Bad at
byte_end at [] e = refl
byte_end at (b ∷ bs) e = absurd (omega arith)

pub ruleset bytes = (byte_got, byte_end)

-- a number of one byte is the byte
plain : (b : ℕ) → 256 * 0 + b ≡ b
plain b = omega arith

pub one_byte : (at : ℕ) (bs : List ℕ) → read_number 1 0 at bs ≡ read_byte at bs
unfolding read_number
one_byte at [] = refl
one_byte at (b ∷ bs) = ap (λ n. Got n (suc at) bs) (plain b)

-- ---- a number

got_same : {A : Type 0} (x y : A) (a b : ℕ) (xs ys : List ℕ) → Got x a xs ≡ Got y b ys → (x ≡ y) × (a ≡ b) × (xs ≡ ys)
got_same x y a b xs ys h = (cc, cc, cc)

pub number_on : (w n at b to : ℕ) (bs rest : List ℕ) → read_byte at bs ≡ Got b to rest → read_number (suc w) n at bs ≡ read_number w (256 * n + b) to rest
unfolding read_number
number_on w n at b to [] rest h = absurd (bad_got b at to rest h)
number_on w n at b to (c ∷ bs) rest h = let same = got_same c b (suc at) to bs rest h in λ i. read_number w (256 * n + same.0 i) (same.1 i) (same.2 i)

pub number_bad : (w n at e : ℕ) (bs : List ℕ) → read_byte at bs ≡ Bad e → read_number (suc w) n at bs ≡ Bad e
unfolding read_number
number_bad w n at e [] h = cc
number_bad w n at e (c ∷ bs) h = absurd (got_bad c (suc at) e bs h)
  where
    got_bad : (x a b : ℕ) (xs : List ℕ) → ◌≡◌ {A = Read ℕ} (Got x a xs) (Bad b) → ⊥
    got_bad x a b xs h = cc

pub number_done : (n at : ℕ) (bs : List ℕ) → read_number 0 n at bs ≡ Got n at bs
unfolding read_number
number_done n at bs = refl

fewer : (w i : ℕ) → i < w → w - i ≡ suc (w - (i + 1))
fewer w i h = omega arith

whole : (n : ℕ) → n - 0 ≡ n
whole n = omega arith

ended : (w i : ℕ) → w ≤ i → w - i ≡ 0
ended w i h = omega arith

-- the loop over the bytes of a number
pub number_more : (w i n b : ℕ) (s t : Spot) (all : Read ℕ) → i < w → read_byte s.at s.rest ≡ Got b t.at t.rest → read_number (w - i) n s.at s.rest ≡ all → read_number (w - (i + 1)) (n * 256 + b) t.at t.rest ≡ all
number_more w i n b s t all lt h inv =
    ap (λ m. read_number (w - (i + 1)) m t.at t.rest) (turned n b) ∙ sym (number_on (w - (i + 1)) n s.at b t.at s.rest t.rest h) ∙ ap (λ k. read_number k n s.at s.rest) (sym (fewer w i lt)) ∙ inv
  where
    turned : (n b : ℕ) → n * 256 + b ≡ 256 * n + b
    turned n b = omega arith

pub number_err : (w i n : ℕ) (s t u : Spot) (e : ReadTraceError) (all : Read ℕ) → i < w → read_number (w - i) n s.at s.rest ≡ all → Reads (λ (x : ℕ). x) (Err e) t (read_byte s.at s.rest) → Reads (λ (x : ℕ). x) (Err e) u all
number_err w i n s t u E.NoMemory all lt inv h = tt
number_err w i n s t u (E.BadTrace at) all lt inv h =
    sym inv ∙ ap (λ k. read_number k n s.at s.rest) (fewer w i lt) ∙ number_bad (w - (i + 1)) n s.at at s.rest h

pub number_all : (w i n : ℕ) (s : Spot) (all : Read ℕ) → w ≤ i → read_number (w - i) n s.at s.rest ≡ all → all ≡ Got n s.at s.rest
number_all w i n s all le inv = sym inv ∙ ap (λ k. read_number k n s.at s.rest) (ended w i le) ∙ number_done n s.at s.rest

-- within bounds
one_more : (i : ℕ) → i + 1 ≡ suc i
one_more i = omega arith

power_next : (i : ℕ) → 256 ^ (i + 1) ≡ 256 ^ i * 256
power_next i = ap (λ k. 256 ^ k) (one_more i) ∙ pow-suc 256 i

pub number_below : (n b i : ℕ) → n < 256 ^ i → b < 256 → n * 256 + b < 256 ^ (i + 1)
number_below n b i h k = under n b (256 ^ i) (256 ^ (i + 1)) (power_next i) h k
  where
    under : (n b p q : ℕ) → q ≡ p * 256 → n < p → b < 256 → n * 256 + b < q
    under n b p q e h k = omega arith

power_few : (i : ℕ) → i ≤ 7 → 256 ^ i ≤ 72057594037927936
power_few zero h = omega arith
power_few (suc zero) h = omega arith
power_few (suc (suc zero)) h = omega arith
power_few (suc (suc (suc zero))) h = omega arith
power_few (suc (suc (suc (suc zero)))) h = omega arith
power_few (suc (suc (suc (suc (suc zero))))) h = omega arith
power_few (suc (suc (suc (suc (suc (suc zero)))))) h = omega arith
power_few (suc (suc (suc (suc (suc (suc (suc zero))))))) h = omega arith
power_few (suc (suc (suc (suc (suc (suc (suc (suc i)))))))) h = absurd (omega arith)

pub number_fits : (n b i w : ℕ) → n < 256 ^ i → i < w → w ≤ 8 → b < 256 → n * 256 + b < 18446744073709551616
number_fits n b i w h lt le k = under n b (256 ^ i) h (power_few i (omega arith)) k
  where
    under : (n b p : ℕ) → n < p → p ≤ 72057594037927936 → b < 256 → n * 256 + b < 18446744073709551616
    under n b p h k l = omega arith

-- ---- some bytes

not_empty : {A : Type 0} (xs : List A) (i : ℕ) → i < length xs → (x : A) × (ys : List A) × (drop i xs ≡ x ∷ ys)
not_empty [] i h = absurd (omega arith)
not_empty (x ∷ xs) zero h = (x, xs, refl)
not_empty (x ∷ xs) (suc i) h = not_empty xs i (omega arith)

bad_same : {A : Type 0} (a b : ℕ) → ◌≡◌ {A = Read A} (Bad a) (Bad b) → a ≡ b
bad_same a b h = cc

got_bad : {A : Type 0} (x : A) (a b : ℕ) (xs : List ℕ) → ◌≡◌ {A = Read A} (Got x a xs) (Bad b) → ⊥
got_bad x a b xs h = cc

exactly_bad : (w : ℕ) (ws : List ℕ) (at e : ℕ) (bs : List ℕ) → read_byte at bs ≡ Bad e → read_exactly (w ∷ ws) at bs ≡ Bad e
exactly_bad w ws at e [] h = ap Bad (bad_same at e h)
exactly_bad w ws at e (b ∷ bs) h = absurd (got_bad b (suc at) e bs h)

pub exactly_err : (wanted : List ℕ) (i : ℕ) (s t u : Spot) (e : ReadTraceError) (all : Read (Unit {0})) → i < length wanted → read_exactly (drop i wanted) s.at s.rest ≡ all → Reads (λ (x : ℕ). x) (Err e) t (read_byte s.at s.rest) → Reads (λ (x : Unit {0}). tt) (Err e) u all
exactly_err wanted i s t u E.NoMemory all lt inv h = tt
exactly_err wanted i s t u (E.BadTrace at) all lt inv h =
    let some = not_empty wanted i lt in
    sym inv ∙ ap (λ ws. read_exactly ws s.at s.rest) some.2 ∙ exactly_bad some.0 some.1 s.at at s.rest h

-- ---- lists of what is read

abbrev pub with_front : {A : Type 0} → List A → Read (List A) → Read (List A)
with_front xs r = then_read r (λ ys at rest. Got (xs ++ ys) at rest)

-- one more in front
front_more : {A : Type 0} (xs : List A) (x : A) (r : Read (List A)) → with_front (xs ++ x ∷ []) r ≡ with_front xs (then_read r (λ ys at rest. Got (x ∷ ys) at rest))
front_more xs x (Got ys at rest) = ap (λ zs. Got zs at rest) (append_assoc xs (x ∷ []) ys)
front_more xs x (Bad at) = refl

pub front_none : {A : Type 0} (r : Read (List A)) → with_front [] r ≡ r
front_none (Got ys at rest) = refl
front_none (Bad at) = refl

-- one that is read, and then the others
abbrev each : {A : Type 0} → Read A → (A → ℕ → List ℕ → Read (List A)) → Read (List A)
each r go = then_read r (λ x at rest. then_read (go x at rest) (λ xs at' rest'. Got (x ∷ xs) at' rest'))

front_each : {A : Type 0} (xs : List A) (x : A) (r : Read A) (go : A → ℕ → List ℕ → Read (List A)) (at : ℕ) (rest : List ℕ) → r ≡ Got x at rest → with_front xs (each r go) ≡ with_front (xs ++ x ∷ []) (go x at rest)
front_each xs x r go at rest h = ap (λ q. with_front xs (each q go)) h ∙ sym (front_more xs x (go x at rest))

front_err : {X A B : Type 0} (one : X → A) (many : B → List A) (s t : Spot) (e : ReadTraceError) (xs : List A) (r : Read A) (go : A → ℕ → List ℕ → Read (List A)) (all : Read (List A)) → with_front xs (each r go) ≡ all → Reads one (Err e) s r → Reads many (Err e) t all
front_err one many s t E.NoMemory xs r go all inv h = tt
front_err one many s t (E.BadTrace at) xs r go all inv h = sym inv ∙ ap (λ q. with_front xs (each q go)) h

-- words
words_next : (n i : ℕ) (s : Spot) → i < n → read_words (n - i) s.at s.rest ≡ each (read_number 8 0 s.at s.rest) (λ w at rest. read_words (n - (i + 1)) at rest)
words_next n i s lt = ap (λ k. read_words k s.at s.rest) (fewer n i lt)

pub words_more : (n i w : ℕ) (s t : Spot) (xs ys : List ℕ) (all : Read (List ℕ)) → i < n → ys ≡ xs ++ w ∷ [] → read_number 8 0 s.at s.rest ≡ Got w t.at t.rest → with_front xs (read_words (n - i) s.at s.rest) ≡ all → with_front ys (read_words (n - (i + 1)) t.at t.rest) ≡ all
words_more n i w s t xs ys all lt e h inv =
    ap (λ zs. with_front zs (read_words (n - (i + 1)) t.at t.rest)) e
    ∙ sym (front_each xs w (read_number 8 0 s.at s.rest) (λ w at rest. read_words (n - (i + 1)) at rest) t.at t.rest h)
    ∙ ap (with_front xs) (sym (words_next n i s lt)) ∙ inv

pub words_err : {B : Type 0} (many : B → List ℕ) (n i : ℕ) (s t u : Spot) (xs : List ℕ) (e : ReadTraceError) (all : Read (List ℕ)) → i < n → with_front xs (read_words (n - i) s.at s.rest) ≡ all → Reads (λ (x : ℕ). x) (Err e) t (read_number 8 0 s.at s.rest) → Reads many (Err e) u all
words_err many n i s t u xs e all lt inv h =
    front_err (λ (x : ℕ). x) many t u e xs (read_number 8 0 s.at s.rest) (λ w at rest. read_words (n - (i + 1)) at rest) all (ap (with_front xs) (sym (words_next n i s lt)) ∙ inv) h

pub words_all : (n i : ℕ) (s : Spot) (xs : List ℕ) (all : Read (List ℕ)) → n ≤ i → with_front xs (read_words (n - i) s.at s.rest) ≡ all → all ≡ Got xs s.at s.rest
words_all n i s xs all le inv = sym inv ∙ ap (λ k. with_front xs (read_words k s.at s.rest)) (ended n i le) ∙ ap (λ ys. Got ys s.at s.rest) (append-nil xs)

pub words_first : (n at : ℕ) (bs : List ℕ) (xs : List ℕ) → xs ≡ [] → with_front xs (read_words (n - 0) at bs) ≡ read_words n at bs
words_first n at bs xs e = ap₂ (λ ys k. with_front ys (read_words k at bs)) e (whole n) ∙ front_none (read_words n at bs)

-- cells
cells_next : (n i least : ℕ) (s : Spot) → i < n → read_cells (n - i) least s.at s.rest ≡ each (read_cell least s.at s.rest) (λ c at rest. read_cells (n - (i + 1)) (suc c.place) at rest)
cells_next n i least s lt = ap (λ k. read_cells k least s.at s.rest) (fewer n i lt)

pub cells_more : (n i least next : ℕ) (c : Loaded) (s t : Spot) (xs ys : List Loaded) (all : Read (List Loaded)) → i < n → ys ≡ xs ++ c ∷ [] → next ≡ c.place + 1 → read_cell least s.at s.rest ≡ Got c t.at t.rest → with_front xs (read_cells (n - i) least s.at s.rest) ≡ all → with_front ys (read_cells (n - (i + 1)) next t.at t.rest) ≡ all
cells_more n i least next c s t xs ys all lt e up h inv =
    ap (λ zs. with_front zs (read_cells (n - (i + 1)) next t.at t.rest)) e
    ∙ ap (λ l. with_front (xs ++ c ∷ []) (read_cells (n - (i + 1)) l t.at t.rest)) (up ∙ one_more c.place)
    ∙ sym (front_each xs c (read_cell least s.at s.rest) (λ c at rest. read_cells (n - (i + 1)) (suc c.place) at rest) t.at t.rest h)
    ∙ ap (with_front xs) (sym (cells_next n i least s lt)) ∙ inv

pub cells_err : {X B : Type 0} (one : X → Loaded) (many : B → List Loaded) (n i least : ℕ) (s t u : Spot) (xs : List Loaded) (e : ReadTraceError) (all : Read (List Loaded)) → i < n → with_front xs (read_cells (n - i) least s.at s.rest) ≡ all → Reads one (Err e) t (read_cell least s.at s.rest) → Reads many (Err e) u all
cells_err one many n i least s t u xs e all lt inv h =
    front_err one many t u e xs (read_cell least s.at s.rest) (λ c at rest. read_cells (n - (i + 1)) (suc c.place) at rest) all (ap (with_front xs) (sym (cells_next n i least s lt)) ∙ inv) h

pub cells_all : (n i least : ℕ) (s : Spot) (xs : List Loaded) (all : Read (List Loaded)) → n ≤ i → with_front xs (read_cells (n - i) least s.at s.rest) ≡ all → all ≡ Got xs s.at s.rest
cells_all n i least s xs all le inv = sym inv ∙ ap (λ k. with_front xs (read_cells k least s.at s.rest)) (ended n i le) ∙ ap (λ ys. Got ys s.at s.rest) (append-nil xs)

-- after the number of cells
pub cells_first : (n : ℕ) (s t : Spot) (xs : List Loaded) → xs ≡ [] → read_number 4 0 s.at s.rest ≡ Got n t.at t.rest → with_front xs (read_cells (n - 0) 0 t.at t.rest) ≡ then_read (read_number 4 0 s.at s.rest) (λ n at rest. read_cells n 0 at rest)
cells_first n s t xs e h =
    ap₂ (λ ys k. with_front ys (read_cells k 0 t.at t.rest)) e (whole n) ∙ front_none (read_cells n 0 t.at t.rest)
    ∙ sym (then_got (read_number 4 0 s.at s.rest) (λ n at rest. read_cells n 0 at rest) n t.at t.rest h)

-- events
events_next : (n i least : ℕ) (live : List Loaded) (s : Spot) → i < n → read_events (n - i) live least s.at s.rest ≡ each (read_event live least s.at s.rest) (λ e at rest. read_events (n - (i + 1)) (left_by e.change live) e.step at rest)
events_next n i least live s lt = ap (λ k. read_events k live least s.at s.rest) (fewer n i lt)

pub events_more : (n i least next : ℕ) (live later : List Loaded) (v : Event) (s t : Spot) (xs ys : List Event) (all : Read (List Event)) → i < n → ys ≡ xs ++ v ∷ [] → next ≡ v.step → later ≡ left_by v.change live → read_event live least s.at s.rest ≡ Got v t.at t.rest → with_front xs (read_events (n - i) live least s.at s.rest) ≡ all → with_front ys (read_events (n - (i + 1)) later next t.at t.rest) ≡ all
events_more n i least next live later v s t xs ys all lt e up left h inv =
    ap (λ zs. with_front zs (read_events (n - (i + 1)) later next t.at t.rest)) e
    ∙ ap₂ (λ ls l. with_front (xs ++ v ∷ []) (read_events (n - (i + 1)) ls l t.at t.rest)) left up
    ∙ sym (front_each xs v (read_event live least s.at s.rest) (λ v at rest. read_events (n - (i + 1)) (left_by v.change live) v.step at rest) t.at t.rest h)
    ∙ ap (with_front xs) (sym (events_next n i least live s lt)) ∙ inv

pub events_err : {X B : Type 0} (one : X → Event) (many : B → List Event) (n i least : ℕ) (live : List Loaded) (s t u : Spot) (xs : List Event) (e : ReadTraceError) (all : Read (List Event)) → i < n → with_front xs (read_events (n - i) live least s.at s.rest) ≡ all → Reads one (Err e) t (read_event live least s.at s.rest) → Reads many (Err e) u all
events_err one many n i least live s t u xs e all lt inv h =
    front_err one many t u e xs (read_event live least s.at s.rest) (λ v at rest. read_events (n - (i + 1)) (left_by v.change live) v.step at rest) all (ap (with_front xs) (sym (events_next n i least live s lt)) ∙ inv) h

pub events_all : (n i least : ℕ) (live : List Loaded) (s : Spot) (xs : List Event) (all : Read (List Event)) → n ≤ i → with_front xs (read_events (n - i) live least s.at s.rest) ≡ all → all ≡ Got xs s.at s.rest
events_all n i least live s xs all le inv = sym inv ∙ ap (λ k. with_front xs (read_events k live least s.at s.rest)) (ended n i le) ∙ ap (λ ys. Got ys s.at s.rest) (append-nil xs)

pub events_first : (n : ℕ) (cells live : List Loaded) (s t : Spot) (xs : List Event) → xs ≡ [] → live ≡ cells → read_number 4 0 s.at s.rest ≡ Got n t.at t.rest → with_front xs (read_events (n - 0) live 1 t.at t.rest) ≡ then_read (read_number 4 0 s.at s.rest) (λ n at rest. read_events n cells 1 at rest)
events_first n cells live s t xs e same h =
    ap₂ (λ ys k. with_front ys (read_events k live 1 t.at t.rest)) e (whole n) ∙ front_none (read_events n live 1 t.at t.rest) ∙ ap (λ ls. read_events n ls 1 t.at t.rest) same
    ∙ sym (then_got (read_number 4 0 s.at s.rest) (λ n at rest. read_events n cells 1 at rest) n t.at t.rest h)

-- ---- the end

end_got : {A : Type 0} (x : A) (at : ℕ) (rest : List ℕ) → ◌≡◌ {A = Read (Unit {0})} (read_end tt at rest) (Got tt at rest) → read_end x at rest ≡ Got x at []
end_got x at [] h = refl
end_got x at (b ∷ rest) h = absurd (bad_is_got at at (b ∷ rest) h)
  where
    bad_is_got : (a b : ℕ) (ys : List ℕ) → ◌≡◌ {A = Read (Unit {0})} (Bad a) (Got tt b ys) → ⊥
    bad_is_got a b ys h = cc

pub steps_got : (cells : List Loaded) (events : List Event) (n : ℕ) (s t : Spot) (start : ℕ) → start ≡ s.at → read_number 8 0 s.at s.rest ≡ Got n t.at t.rest → last_step events ≤ n → ◌≡◌ {A = Read (Unit {0})} (read_end tt t.at t.rest) (Got tt t.at t.rest) → (end : ℕ) × (read_steps cells events s.at s.rest ≡ Got (record { cells = cells; events = events; steps = n }) end [])
steps_got cells events n s t start same h le e = (
  t.at,
  then_got (read_number 8 0 s.at s.rest) (λ n at rest. asked (nat_le (last_step events) n) s.at (read_end (record { cells = cells; events = events; steps = n }) at rest)) n t.at t.rest h
      ∙ asked_yes (nat_le (last_step events) n) s.at (read_end (record { cells = cells; events = events; steps = n }) t.at t.rest) (le-leb (last_step events) n le)
      ∙ end_got (record { cells = cells; events = events; steps = n }) t.at t.rest e,
)

-- ---- the whole

then_assoc : {A B C : Type 0} (r : Read A) (f : A → ℕ → List ℕ → Read B) (g : B → ℕ → List ℕ → Read C) → then_read (then_read r f) g ≡ then_read r (λ x at rest. then_read (f x at rest) g)
then_assoc (Got x at rest) f g = refl
then_assoc (Bad at) f g = refl

-- the cells and the events, each after its number, and the steps
pub whole_got : (bytes : List ℕ) (s t u v : Spot) (cells : List Loaded) (events : List Event) (trace : Trace) → s ≡ record { at = 0; rest = bytes } → ◌≡◌ {A = Read (Unit {0})} (read_exactly (codes "FP2T" ++ (0 ∷ 1 ∷ [])) s.at s.rest) (Got tt t.at t.rest) → then_read (read_number 4 0 t.at t.rest) (λ n at rest. read_cells n 0 at rest) ≡ Got cells u.at u.rest → then_read (read_number 4 0 u.at u.rest) (λ n at rest. read_events n cells 1 at rest) ≡ Got events v.at v.rest → (end : ℕ) × (read_steps cells events v.at v.rest ≡ Got trace end []) → (end : ℕ) × (read_trace bytes ≡ Got trace end [])
whole_got bytes s t u v cells events trace first h k l m =
    let from : ◌≡◌ {A = Read (Unit {0})} (read_exactly (codes "FP2T" ++ (0 ∷ 1 ∷ [])) 0 bytes) (Got tt t.at t.rest) = subst (λ (x : Spot). ◌≡◌ {A = Read (Unit {0})} (read_exactly (codes "FP2T" ++ (0 ∷ 1 ∷ [])) x.at x.rest) (Got tt t.at t.rest)) first h in (
      m.0,
      then_got (read_exactly (codes "FP2T" ++ (0 ∷ 1 ∷ [])) 0 bytes) (λ u at rest. read_all_cells at rest) tt t.at t.rest from
          ∙ sym (then_assoc (read_number 4 0 t.at t.rest) (λ n at rest. read_cells n 0 at rest) (λ cs at rest. read_all_events cs at rest))
          ∙ then_got (then_read (read_number 4 0 t.at t.rest) (λ n at rest. read_cells n 0 at rest)) (λ cs at rest. read_all_events cs at rest) cells u.at u.rest k
          ∙ sym (then_assoc (read_number 4 0 u.at u.rest) (λ n at rest. read_events n cells 1 at rest) (λ es at rest. read_steps cells es at rest))
          ∙ then_got (then_read (read_number 4 0 u.at u.rest) (λ n at rest. read_events n cells 1 at rest)) (λ es at rest. read_steps cells es at rest) events v.at v.rest l
          ∙ m.1,
    )
