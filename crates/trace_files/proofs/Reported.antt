-- From the last events of the cells to their lines.
use Rattle.std.proofs.Common.{true≢false, ◌≡◌, ◌≢◌, ◌∙◌, ℕ, zero, suc, ◌+◌, ◌<◌, ◌≤◌, Bool, true, false, List, [], ◌∷◌, ◌++◌, length, map, take, drop, Option, Some, None, slice_get, refl, sym, ap, ap₂, subst, arith, append_assoc}
use Rattle.std.specs.Prelude.{◌==◌, nat_le, slice_set, replicate, if◌then◌else◌}
use Rattle.std.specs.Fmt.{decimal}
use Rattle.std.proofs.lemmas.List.{append-nil}
use Rattle.std.proofs.lemmas.Option.{none-some, same_Some}
use Rattle.std.proofs.lemmas.Bool.{eqb-true, eq-eqb, leb-true, le-leb}
use Rattle.run_loading.specs.machine_semantics.Traces.{Event}
use Rattle.cell_trace.specs.declared.trace.LoadedCell.{LoadedCell}
use Rattle.cell_trace.specs.declared.trace.Event.{Event as a_event}
use Rattle.cell_trace.specs.declared.trace.Trace.{Trace as Memory}
use Rattle.run_loading.specs.TraceText.{Loaded, AreCells, IsTrace}
use Rattle.run_loading.specs.Replaying.{fields_text, replayed}
use Rattle.trace_files.specs.Lines.{place_of, reported_line, latest, reported_lines, numbered, lines_by, words_line, IsMarked}
use Rattle.trace_files.specs.Plain.{plain_cell, plain_event, plain_trace}
use Rattle.trace_files.specs.Reading.{AreRising}
use Rattle.trace_files.proofs.Live.{places_apart}
use Rattle.trace_files.proofs.Shown.{replay_reported}
use Rattle.fip_language.proofs.Facts.{drop_end as drop_all, unequal_test as differs, unequal_test_at as differs_at}
pub use Rattle.fip_language.proofs.Facts.{take_past as take_all}

-- ---- fields

pub fields_are : (ws : List ℕ) → fields_text ws ≡ words_line ws ++ 10 ∷ []
fields_are [] = refl
fields_are (w ∷ ws) = ap (λ t. 32 ∷ decimal w ++ t) (fields_are ws) ∙ ap (λ t. 32 ∷ t) (sym (append_assoc (decimal w) (words_line ws) (10 ∷ [])))

-- ---- the lines of all cells

one_more : (n : ℕ) → n + 1 ≡ suc n
one_more n = omega arith

lines_next : (es : List Event) (cs : List Loaded) (os : List (Option ℕ)) (n : ℕ) (c : Loaded) (o : Option ℕ) → slice_get cs n ≡ Some c → slice_get os n ≡ Some o → lines_by es (drop n cs) (drop n os) ≡ reported_line c (numbered es o) ++ lines_by es (drop (suc n) cs) (drop (suc n) os)
lines_next es [] os n c o h k = absurd (none-some c h)
lines_next es (x ∷ cs) [] n c o h k = absurd (none-some o k)
lines_next es (x ∷ cs) (y ∷ os) zero c o h k = ap₂ (λ a b. reported_line a (numbered es b) ++ lines_by es cs os) (same_Some x c h) (same_Some y o k)
lines_next es (x ∷ cs) (y ∷ os) (suc n) c o h k = lines_next es cs os n c o h k

pub lines_more : (es : List Event) (cs : List Loaded) (os : List (Option ℕ)) (n : ℕ) (c : Loaded) (o : Option ℕ) (text more all : List ℕ) → slice_get cs n ≡ Some c → slice_get os n ≡ Some o → more ≡ text ++ reported_line c (numbered es o) → text ++ lines_by es (drop n cs) (drop n os) ≡ all → more ++ lines_by es (drop (n + 1) cs) (drop (n + 1) os) ≡ all
lines_more es cs os n c o text more all h k e inv =
    ap₂ (λ t m. t ++ lines_by es (drop m cs) (drop m os)) e (one_more n)
    ∙ append_assoc text (reported_line c (numbered es o)) (lines_by es (drop (suc n) cs) (drop (suc n) os))
    ∙ ap (λ t. text ++ t) (sym (lines_next es cs os n c o h k)) ∙ inv

pub lines_all : (es : List Event) (cs : List Loaded) (os : List (Option ℕ)) (n : ℕ) (text all : List ℕ) → length cs ≤ n → text ++ lines_by es (drop n cs) (drop n os) ≡ all → text ≡ all
lines_all es cs os n text all le inv = sym (append-nil text) ∙ ap (λ xs. text ++ lines_by es xs (drop n os)) (sym (drop_all cs n le)) ∙ inv

pub lines_reported : (es : List Event) (i : ℕ) (cells : List LoadedCell) (os : List (Option ℕ)) → length os ≡ length cells → ((k : ℕ) (c : LoadedCell) (o : Option ℕ) → slice_get cells k ≡ Some c → slice_get os k ≡ Some o → numbered es o ≡ latest c.place i es None) → lines_by es (map plain_cell cells) os ≡ reported_lines i es (map plain_cell cells)
lines_reported es i [] os e h = refl
lines_reported es i (c ∷ cells) [] e h = absurd (omega arith)
lines_reported es i (c ∷ cells) (o ∷ os) e h = ap₂ (λ a b. reported_line (plain_cell c) a ++ b) (h 0 c o refl refl) (lines_reported es i cells os (omega arith) (λ k. h (suc k)))

pub rising : (p : ℕ) (cs : List Loaded) → AreCells p cs → AreRising p cs
rising p [] h = tt
rising p (c ∷ cs) h = (h.0.above, rising (suc c.place) cs h.1)

-- ---- the last event

latest_more : (p i : ℕ) (es : List Event) (e : Event) (o : Option Event) → latest p i (es ++ e ∷ []) o ≡ (if nat_le e.step i then (if p == place_of e.change then Some e else latest p i es o) else latest p i es o)
latest_more p i [] e o = refl
latest_more p i (x ∷ es) e o = latest_more p i es e (if nat_le x.step i then (if p == place_of x.change then Some x else o) else o)

take_more : {A : Type 0} (xs : List A) (n : ℕ) (x : A) → slice_get xs n ≡ Some x → take (suc n) xs ≡ take n xs ++ x ∷ []
take_more [] n x h = absurd (none-some x h)
take_more (y ∷ xs) zero x h = ap (λ z. z ∷ []) (same_Some y x h)
take_more (y ∷ xs) (suc n) x h = ap (λ zs. y ∷ zs) (take_more xs n x h)

numbered_if : (es : List Event) (a b : Bool) (n : ℕ) (e : Event) (o : Option ℕ) (l : Option Event) → slice_get es n ≡ Some e → numbered es o ≡ l → numbered es (if a then (if b then Some n else o) else o) ≡ (if a then (if b then Some e else l) else l)
numbered_if es true true n e o l h k = h
numbered_if es true false n e o l h k = k
numbered_if es false b n e o l h k = k

-- the invariant of the loop over the events
pub last_more : (es : List Event) (n i p : ℕ) (e : Event) (before : Option (Option ℕ)) (o : Option ℕ) → slice_get es n ≡ Some e → ((b : Option ℕ) → before ≡ Some b → numbered es b ≡ latest p i (take n es) None) → IsMarked e n i p before o → numbered es o ≡ latest p i (take (n + 1) es) None
last_more es n i p e None o h old m = absurd m
last_more es n i p e (Some b) o h old m =
    ap (numbered es) m
    ∙ numbered_if es (nat_le e.step i) (p == place_of e.change) n e b (latest p i (take n es) None) h (old b refl)
    ∙ sym (latest_more p i (take n es) e None)
    ∙ ap (λ xs. latest p i xs None) (sym (take_more es n e h) ∙ ap (λ m. take m es) (sym (one_more n)))

-- at first there is none
none_there : (n k : ℕ) (o : Option ℕ) → slice_get (replicate n None) k ≡ Some o → o ≡ None
none_there zero k o h = absurd (none-some o h)
none_there (suc n) zero o h = sym (same_Some None o h)
none_there (suc n) (suc k) o h = none_there n k o h

pub none_first : (es : List Event) (last : List (Option ℕ)) (n i p k : ℕ) (o : Option ℕ) → last ≡ replicate n None → slice_get last k ≡ Some o → numbered es o ≡ latest p i (take 0 es) None
none_first es last n i p k o e h = ap (numbered es) (none_there n k o (subst (λ xs. slice_get xs k ≡ Some o) e h))

pub nones : (n : ℕ) → length {A = Option ℕ} (replicate n None) ≡ n
nones zero = refl
nones (suc n) = ap suc (nones n)

-- ---- marking

not_less : (a b : ℕ) → b < a → nat_le a b ≡ false
not_less a b lt = by (nat_le a b) refl
  where
    by : (t : Bool) → nat_le a b ≡ t → t ≡ false
    by true e = absurd (let le = leb-true a b e in omega (arith, le, lt))
    by false e = refl

less_equal : (a b : ℕ) → a ≤ b → nat_le a b ≡ true
less_equal a b le = le-leb a b le

set_same : {A : Type 0} (xs : List A) (k : ℕ) (x o : A) → slice_get (slice_set xs k x) k ≡ Some o → (b : A) × (slice_get xs k ≡ Some b) × (o ≡ x)
set_same [] k x o h = absurd (none-some o h)
set_same (y ∷ xs) zero x o h = (y, refl, sym (same_Some x o h))
set_same (y ∷ xs) (suc k) x o h = set_same xs k x o h

set_other : {A : Type 0} (xs : List A) (j k : ℕ) (x : A) → j ≢ k → slice_get (slice_set xs j x) k ≡ slice_get xs k
set_other [] j k x n = refl
set_other (y ∷ xs) zero zero x n = absurd (n refl)
set_other (y ∷ xs) zero (suc k) x n = refl
set_other (y ∷ xs) (suc j) zero x n = refl
set_other (y ∷ xs) (suc j) (suc k) x n = set_other xs j k x (λ e. n (ap suc e))

kept : (e : Event) (n i p : ℕ) (before : Option (Option ℕ)) (o : Option ℕ) → before ≡ Some o → (if nat_le e.step i then (if p == place_of e.change then Some n else o) else o) ≡ o → IsMarked e n i p before o
kept e n i p before o h same = subst (λ b. IsMarked e n i p b o) (sym h) (sym same)

pub marked_late : (e : Event) (n i p : ℕ) (old : List (Option ℕ)) (k : ℕ) (o : Option ℕ) → i < e.step → slice_get old k ≡ Some o → IsMarked e n i p (slice_get old k) o
marked_late e n i p old k o lt h = kept e n i p (slice_get old k) o h (ap (λ b. if b then (if p == place_of e.change then Some n else o) else o) (not_less e.step i lt))

other_kept : (b : Bool) (n : ℕ) (o : Option ℕ) → (if b then o else o) ≡ o
other_kept true n o = refl
other_kept false n o = refl

pub marked_else : (e : Event) (n i p : ℕ) (old : List (Option ℕ)) (k : ℕ) (o : Option ℕ) → p ≢ place_of e.change → slice_get old k ≡ Some o → IsMarked e n i p (slice_get old k) o
marked_else e n i p old k o other h = kept e n i p (slice_get old k) o h (ap (λ b. if nat_le e.step i then (if b then Some n else o) else o) (differs p (place_of e.change) other) ∙ other_kept (nat_le e.step i) n o)

pub marked_here : (cells : List LoadedCell) (old : List (Option ℕ)) (e : Event) (n i j : ℕ) (found : LoadedCell) → AreRising 0 (map plain_cell cells) → slice_get cells j ≡ Some found → found.place ≡ place_of e.change → e.step ≤ i → (k : ℕ) (c : LoadedCell) (o : Option ℕ) → slice_get cells k ≡ Some c → slice_get (slice_set old j (Some n)) k ≡ Some o → IsMarked e n i c.place (slice_get old k) o
marked_here cells old e n i j found rises at same le k c o h s = by (j == k) refl
  where
    by : (t : Bool) → (j == k) ≡ t → IsMarked e n i c.place (slice_get old k) o
    by true t =
        let one = eqb-true j k t in
        let is = set_same old k (Some n) o (subst (λ m. slice_get (slice_set old m (Some n)) k ≡ Some o) one s) in
        let place : c.place ≡ place_of e.change = ap (λ (x : LoadedCell). x.place) (same_Some c found (sym h ∙ subst (λ m. slice_get cells m ≡ Some found) one at)) ∙ same in
        subst (λ b. IsMarked e n i c.place b o) (sym is.1) (is.2
        ∙ sym (ap₂ (λ a b. if a then (if b then Some n else is.0) else is.0) (less_equal e.step i le) (eq-eqb c.place (place_of e.change) place)))
    by false t =
        let apart : j ≢ k = λ m. true≢false (sym (eq-eqb j k m) ∙ t) in
        marked_else e n i c.place old k o (λ p. places_apart cells k j c found rises h at apart (p ∙ sym same)) (sym (set_other old j k (Some n) apart) ∙ s)

pub marked_nowhere : (cells : List LoadedCell) (old : List (Option ℕ)) (e : Event) (n i : ℕ) → ((k : ℕ) (c : LoadedCell) → slice_get cells k ≡ Some c → c.place ≢ place_of e.change) → (k : ℕ) (c : LoadedCell) (o : Option ℕ) → slice_get cells k ≡ Some c → slice_get old k ≡ Some o → IsMarked e n i c.place (slice_get old k) o
marked_nowhere cells old e n i none k c o h s = marked_else e n i c.place old k o (none k c h) s

pub take_map : {A B : Type 0} (f : A → B) (xs : List A) (n : ℕ) → length xs ≤ n → take n (map f xs) ≡ map f xs
take_map f [] zero le = refl
take_map f [] (suc n) le = refl
take_map f (x ∷ xs) zero le = absurd (omega arith)
take_map f (x ∷ xs) (suc n) le = ap (λ ys. f x ∷ ys) (take_map f xs n (omega arith))

-- ---- the line of a live cell

on : (s t a rest : List ℕ) → t ≡ s ++ a → t ++ rest ≡ s ++ (a ++ rest)
on s t a rest e = ap (λ x. x ++ rest) e ∙ append_assoc s a rest

pub live_put : (s0 s1 s2 s3 s4 s5 s6 s7 a b d ws : List ℕ) (m n p q : ℕ) → s1 ≡ s0 ++ a → m ≡ p → s2 ≡ s1 ++ decimal m → s3 ≡ s2 ++ b → n ≡ q → s4 ≡ s3 ++ decimal n → s5 ≡ s4 ++ d → s6 ≡ s5 ++ words_line ws → s7 ≡ s6 ++ 10 ∷ [] → s7 ≡ s0 ++ (a ++ (decimal p ++ (b ++ (decimal q ++ (d ++ fields_text ws)))))
live_put s0 s1 s2 s3 s4 s5 s6 s7 a b d ws m n p q e1 same e2 e3 equal e4 e5 e6 e7 =
    let w = words_line ws ++ 10 ∷ [] in
    e7
    ∙ on s5 s6 (words_line ws) (10 ∷ []) e6
    ∙ on s4 s5 d w e5
    ∙ on s3 s4 (decimal n) (d ++ w) e4
    ∙ on s2 s3 b (decimal n ++ (d ++ w)) e3
    ∙ on s1 s2 (decimal m) (b ++ (decimal n ++ (d ++ w))) e2
    ∙ on s0 s1 a (decimal m ++ (b ++ (decimal n ++ (d ++ w)))) e1
    ∙ ap₂ (λ x y. s0 ++ (a ++ (decimal x ++ (b ++ (decimal y ++ (d ++ w)))))) same equal
    ∙ ap (λ t. s0 ++ (a ++ (decimal p ++ (b ++ (decimal q ++ (d ++ t)))))) (sym (fields_are ws))

-- ---- the whole

-- the last events of the cells, which are marked, give the lines of the replay
pub after_is : (t : Memory) (i : ℕ) (cs ds : List LoadedCell) (es fs : List a_event) (last os : List (Option ℕ)) (first text : List ℕ) → cs ≡ t.cells.items → es ≡ t.events.items → ds ≡ t.cells.items → fs ≡ t.events.items → os ≡ last → first ≡ [] → length last ≡ length cs → (AreRising 0 (map plain_cell cs) → (k : ℕ) (c : LoadedCell) (o : Option ℕ) → slice_get cs k ≡ Some c → slice_get last k ≡ Some o → numbered (map plain_event es) o ≡ latest c.place i (map plain_event es) None) → text ≡ first ++ lines_by (map plain_event fs) (map plain_cell ds) os → IsTrace (plain_trace t) → text ≡ replayed (plain_trace t) i
after_is t i cs ds es fs last os first text c1 e1 c2 e2 o f all reported is h =
    let rises : AreRising 0 (map plain_cell cs) = subst (λ xs. AreRising 0 (map plain_cell xs)) (sym c1) (rising 0 (map plain_cell t.cells.items) h.cells) in
    is
    ∙ ap (λ x. x ++ lines_by (map plain_event fs) (map plain_cell ds) os) f
    ∙ ap₂ (λ x y. lines_by (map plain_event x) (map plain_cell y) os) (e2 ∙ sym e1) (c2 ∙ sym c1)
    ∙ ap (λ x. lines_by (map plain_event es) (map plain_cell cs) x) o
    ∙ lines_reported (map plain_event es) i cs last all (reported rises)
    ∙ ap₂ (λ x y. reported_lines i (map plain_event x) (map plain_cell y)) e1 c1
    ∙ replay_reported (plain_trace t) i h
