-- Each step of the reader, from spot to spot.
use Rattle.std.proofs.Common.{◌≡◌, ℕ, zero, suc, ◌+◌, ◌<◌, ◌≤◌, List, [], ◌∷◌, ◌++◌, length, length-append, take, drop, get_or, Option, Some, None, refl, sym, ap, ap₂, ◌∙◌, arith}
use Rattle.std.specs.Prelude.{ℤ, slice_get, slice_set, Ok, Bool, true, false, ◌==◌}
use Rattle.std.proofs.lemmas.Option.{none-some}
use Rattle.std.proofs.lemmas.Bool.{eqb-true}
use Rattle.fip_language.specs.Prefix.{Accepted, Stopped}
use Rattle.fip_language.specs.Values.{Value, Int, Node, Values, End, More, count_of}
use Rattle.fip_language.specs.Table.{Shape, Table, constructors}
use Rattle.fip_language.specs.SoundTable.{AreTypes, IsSoundTable}
use Rattle.fip_language.specs.Character.{Open, Close, Comma, Line}
use Rattle.value_text.specs.declared.read.Frame.{Frame}
use Rattle.value_text.specs.declared.read.Event.TheVariants as E
use Rattle.value_text.specs.Machine.{snoc, Around, Alone, Lines, Field, State, Want, Await, Over, filled, named}
use Rattle.value_text.specs.Scan.{runs}
use Rattle.value_text.specs.Reading.{Pending, Outline, pending, pending_rows, Spot, Before, After, Nowhere, state_at, rows_of, lines_of, outline_at, spot_of, GoesOn, Stepped}
use Rattle.fip_base.specs.TableView.{fields_at}
use Rattle.fip_language.proofs.Facts.{cons_head as head_same, cons_tail as tail_same}
pub use Rattle.fip_language.proofs.Facts.{nonempty as some_open}
use Rattle.value_text.proofs.Counted.{count_snoc as count_join}

pub rows_push : (fs : List Frame) (f : Frame) → pending_rows (fs ++ f ∷ []) ≡ pending f ∷ pending_rows fs
unfolding pending_rows
rows_push [] f = refl
rows_push (g ∷ fs) f = ap (λ ps. ps ++ pending g ∷ []) (rows_push fs f)

-- the last frame is the innermost constructor
pub top_row : (fs : List Frame) (n : ℕ) (f : Frame) → suc n ≡ length fs → f ≡ get_or fs n f → pending_rows fs ≡ pending f ∷ pending_rows (take n fs)
unfolding pending_rows
top_row [] n f l e = absurd (omega (arith, l))
top_row (g ∷ []) zero f l e = ap (λ g. pending g ∷ []) (sym e)
top_row (g ∷ []) (suc n) f l e = absurd (omega (arith, l))
top_row (g ∷ h ∷ fs) zero f l e = absurd (omega (arith, l))
top_row (g ∷ h ∷ fs) (suc n) f l e = ap (λ ps. ps ++ pending g ∷ []) (top_row (h ∷ fs) n f (omega (arith, l)) e)

pub set_row : (fs : List Frame) (n : ℕ) (f : Frame) → suc n ≡ length fs → pending_rows (slice_set fs n f) ≡ pending f ∷ pending_rows (take n fs)
unfolding pending_rows
set_row [] n f l = absurd (omega (arith, l))
set_row (g ∷ []) zero f l = refl
set_row (g ∷ []) (suc n) f l = absurd (omega (arith, l))
set_row (g ∷ h ∷ fs) zero f l = absurd (omega (arith, l))
set_row (g ∷ h ∷ fs) (suc n) f l = ap (λ ps. ps ++ pending g ∷ []) (set_row (h ∷ fs) n f (omega (arith, l)))

pub rows_empty : pending_rows [] ≡ []
unfolding pending_rows
rows_empty = refl

abbrev pub outlined : Option ℕ → List Pending → List ℕ → Outline
outlined n f l = record { next = n; frames = f; lines = l }

-- an int
pub number_step : (tb : Table) (bytes : List ℕ) (at at' : ℕ) (o : Outline) (s : Spot) (i i' : ℤ) → o ≡ outline_at s → o.next ≡ Some 0 → i ≡ i' → ((a : Around) → runs tb bytes (Want 0 a) at ≡ runs tb bytes (filled a (Int i)) at') → Stepped tb bytes s at (Ok (Some (E.Number i'))) (record o { next = None }) at'
number_step tb bytes at at' o (Before k a) i i' e n same r =
    let z : k ≡ 0 = let q : Some k ≡ Some 0 = sym (ap (λ (o : Outline). o.next) e) ∙ n in cc in
    (After a (Int i'), (a, ap (λ k. Before k a) z, refl), ap (λ (o : Outline). record o { next = None }) e, ap (λ k. runs tb bytes (Want k a) at) z ∙ r a ∙ ap (λ i. runs tb bytes (filled a (Int i)) at') same)
number_step tb bytes at at' o (After a v) i i' e n same r = absurd (none-some 0 (sym (ap (λ (o : Outline). o.next) e) ∙ n))
number_step tb bytes at at' o Nowhere i i' e n same r = absurd (none-some 0 (sym (ap (λ (o : Outline). o.next) e) ∙ n))

-- a value that is refused
pub value_bad : (tb : Table) (bytes : List ℕ) (at ty k : ℕ) (o : Outline) (s : Spot) → o ≡ outline_at s → o.next ≡ Some ty → ((a : Around) → runs tb bytes (Want ty a) at ≡ Stopped k) → runs tb bytes (state_at s) at ≡ Stopped k
value_bad tb bytes at ty k o (Before j a) e n r =
    let z : j ≡ ty = let q : Some j ≡ Some ty = sym (ap (λ (o : Outline). o.next) e) ∙ n in cc in
    ap (λ j. runs tb bytes (Want j a) at) z ∙ r a
value_bad tb bytes at ty k o (After a v) e n r = absurd (none-some ty (sym (ap (λ (o : Outline). o.next) e) ∙ n))
value_bad tb bytes at ty k o Nowhere e n r = absurd (none-some ty (sym (ap (λ (o : Outline). o.next) e) ∙ n))

-- a constructor without fields
pub bare_step : (tb : Table) (bytes : List ℕ) (at at' ty c : ℕ) (fields : List ℕ) (o : Outline) (s : Spot) → o ≡ outline_at s → o.next ≡ Some ty → 0 < ty → fields ≡ [] → ((a : Around) → runs tb bytes (Want ty a) at ≡ runs tb bytes (named c fields a) at') → Stepped tb bytes s at (Ok (Some (E.Bare c))) (record o { next = None }) at'
bare_step tb bytes at at' zero c fields o s e n d f r = absurd (omega arith)
bare_step tb bytes at at' (suc t) c fields o (Before k a) e n d f r =
    let z : k ≡ suc t = let q : Some k ≡ Some (suc t) = sym (ap (λ (o : Outline). o.next) e) ∙ n in cc in
    (After a (Node c End), (t, a, ap (λ k. Before k a) z, refl), ap (λ (o : Outline). record o { next = None }) e, ap (λ k. runs tb bytes (Want k a) at) z ∙ r a ∙ ap (λ f. runs tb bytes (named c f a) at') f)
bare_step tb bytes at at' (suc t) c fields o (After a v) e n d f r = absurd (none-some (suc t) (sym (ap (λ (o : Outline). o.next) e) ∙ n))
bare_step tb bytes at at' (suc t) c fields o Nowhere e n d f r = absurd (none-some (suc t) (sym (ap (λ (o : Outline). o.next) e) ∙ n))

-- a constructor with fields
pub open_step : (tb : Table) (bytes : List ℕ) (at mid at' ty c k size : ℕ) (ks fields : List ℕ) (o : Outline) (frames : List Pending) (s : Spot) → o ≡ outline_at s → o.next ≡ Some ty → 0 < ty → fields ≡ k ∷ ks → size ≡ length fields → frames ≡ record { c = c; rest = ks; size = size } ∷ o.frames → ((a : Around) → runs tb bytes (Want ty a) at ≡ runs tb bytes (named c fields a) mid) → ((s : State) → runs tb bytes (Await Open s) mid ≡ runs tb bytes s at') → Stepped tb bytes s at (Ok (Some E.Opened)) (record { next = Some k; frames = frames; lines = o.lines }) at'
open_step tb bytes at mid at' zero c k size ks fields o frames s e n d f z fr r q = absurd (omega arith)
open_step tb bytes at mid at' (suc t) c k size ks fields o frames (Before j a) e n d f z fr r q =
    let w : j ≡ suc t = let q : Some j ≡ Some (suc t) = sym (ap (λ (o : Outline). o.next) e) ∙ n in cc in
    let len : length fields ≡ suc (length ks) = ap length f in
    let si : size ≡ suc (count_of End) + length ks = omega (arith, z, len) in
    let rows : frames ≡ rows_of (Field c End ks a) = fr ∙ ap₂ (λ (m : ℕ) (ps : List Pending). record { c = c; rest = ks; size = m } ∷ ps) si (ap (λ (o : Outline). o.frames) e) in
    (Before k (Field c End ks a), (t, a, c, k, ks, ap (λ k. Before k a) w, refl), ap₂ (λ (ps : List Pending) (ls : List ℕ). outlined (Some k) ps ls) rows (ap (λ (o : Outline). o.lines) e), ap (λ k. runs tb bytes (Want k a) at) w ∙ r a ∙ ap (λ f. runs tb bytes (named c f a) mid) f ∙ q (Want k (Field c End ks a)))
open_step tb bytes at mid at' (suc t) c k size ks fields o frames (After a v) e n d f z fr r q = absurd (none-some (suc t) (sym (ap (λ (o : Outline). o.next) e) ∙ n))
open_step tb bytes at mid at' (suc t) c k size ks fields o frames Nowhere e n d f z fr r q = absurd (none-some (suc t) (sym (ap (λ (o : Outline). o.next) e) ∙ n))

-- no ( after the name of a constructor with fields
pub open_bad : (tb : Table) (bytes : List ℕ) (at mid ty c k p : ℕ) (ks fields : List ℕ) → fields ≡ k ∷ ks → ((a : Around) → runs tb bytes (Want ty a) at ≡ runs tb bytes (named c fields a) mid) → ((s : State) → runs tb bytes (Await Open s) mid ≡ Stopped p) → (a : Around) → runs tb bytes (Want ty a) at ≡ Stopped p
open_bad tb bytes at mid ty c k p ks fields f r q a = r a ∙ ap (λ f. runs tb bytes (named c f a) mid) f ∙ q (Want k (Field c End ks a))

-- after the last field
pub close_step : (tb : Table) (bytes : List ℕ) (at at' : ℕ) (o : Outline) (p : Pending) (s : Spot) → record o { frames = p ∷ o.frames } ≡ outline_at s → o.next ≡ None → p.rest ≡ [] → ((s : State) → runs tb bytes (Await Close s) at ≡ runs tb bytes s at') → Stepped tb bytes s at (Ok (Some (E.Closed p.c p.size))) o at'
close_step tb bytes at at' o p (Before k a) e n f q = absurd (none-some k (sym n ∙ ap (λ (o : Outline). o.next) e))
close_step tb bytes at at' o p (After (Alone m) v) e n f q = let z : (p ∷ o.frames) ≡ [] = ap (λ (o : Outline). o.frames) e in cc
close_step tb bytes at at' o p (After (Lines done rest) v) e n f q = let z : (p ∷ o.frames) ≡ [] = ap (λ (o : Outline). o.frames) e in cc
close_step tb bytes at at' o p (After (Field c done (k ∷ ks) a) v) e n f q =
    let z : (p ∷ o.frames) ≡ record { c = c; rest = k ∷ ks; size = suc (count_of done) + length (k ∷ ks) } ∷ rows_of a = ap (λ (o : Outline). o.frames) e in
    let y : p ≡ record { c = c; rest = k ∷ ks; size = suc (count_of done) + length (k ∷ ks) } = head_same p (record { c = c; rest = k ∷ ks; size = suc (count_of done) + length (k ∷ ks) }) o.frames (rows_of a) z in
    let x : [] ≡ k ∷ ks = sym f ∙ ap (λ (p : Pending). p.rest) y in
    cc
close_step tb bytes at at' o p (After (Field c done [] a) v) e n f q =
    let z : (p ∷ o.frames) ≡ record { c = c; rest = []; size = suc (count_of done) + 0 } ∷ rows_of a = ap (λ (o : Outline). o.frames) e in
    let y : p ≡ record { c = c; rest = []; size = suc (count_of done) + 0 } = head_same p (record { c = c; rest = []; size = suc (count_of done) + 0 }) o.frames (rows_of a) z in
    let fs : o.frames ≡ rows_of a = tail_same _ _ o.frames (rows_of a) z in
    let pc : p.c ≡ c = ap (λ (p : Pending). p.c) y in
    let ps : p.size ≡ suc (count_of done) = let w : p.size ≡ suc (count_of done) + 0 = ap (λ (p : Pending). p.size) y in omega (arith, w) in
    let moved : Spot = After a (Node p.c (snoc done v)) in
    (moved, (done, v, a, ap (λ c. After (Field c done [] a) v) (sym pc), refl, ps), next_of o a fs (ap (λ (o : Outline). o.lines) e) n, q (filled a (Node c (snoc done v))) ∙ ap (λ c. runs tb bytes (filled a (Node c (snoc done v))) at') (sym pc)) where
      next_of : (o : Outline) (a : Around) → o.frames ≡ rows_of a → o.lines ≡ lines_of a → o.next ≡ None → o ≡ outlined None (rows_of a) (lines_of a)
      next_of o a f l n = ap (λ n. outlined n o.frames o.lines) n ∙ ap₂ (λ (f : List Pending) (l : List ℕ). outlined None f l) f l
close_step tb bytes at at' o p Nowhere e n f q = let z : (p ∷ o.frames) ≡ [] = ap (λ (o : Outline). o.frames) e in cc

-- after another field
pub comma_step : (tb : Table) (bytes : List ℕ) (at at' k : ℕ) (ks : List ℕ) (o : Outline) (p : Pending) (frames : List Pending) (s : Spot) → record o { frames = p ∷ o.frames } ≡ outline_at s → o.next ≡ None → p.rest ≡ k ∷ ks → frames ≡ record { c = p.c; rest = ks; size = p.size } ∷ o.frames → ((s : State) → runs tb bytes (Await Comma s) at ≡ runs tb bytes s at') → Stepped tb bytes s at (Ok (Some E.Comma)) (record { next = Some k; frames = frames; lines = o.lines }) at'
comma_step tb bytes at at' k ks o p frames (Before j a) e n f fr q = absurd (none-some j (sym n ∙ ap (λ (o : Outline). o.next) e))
comma_step tb bytes at at' k ks o p frames (After (Alone m) v) e n f fr q = let z : (p ∷ o.frames) ≡ [] = ap (λ (o : Outline). o.frames) e in cc
comma_step tb bytes at at' k ks o p frames (After (Lines done rest) v) e n f fr q = let z : (p ∷ o.frames) ≡ [] = ap (λ (o : Outline). o.frames) e in cc
comma_step tb bytes at at' k ks o p frames (After (Field c done [] a) v) e n f fr q =
    let z : (p ∷ o.frames) ≡ record { c = c; rest = []; size = suc (count_of done) + 0 } ∷ rows_of a = ap (λ (o : Outline). o.frames) e in
    let y : p ≡ record { c = c; rest = []; size = suc (count_of done) + 0 } = head_same p (record { c = c; rest = []; size = suc (count_of done) + 0 }) o.frames (rows_of a) z in
    let x : k ∷ ks ≡ [] = sym f ∙ ap (λ (p : Pending). p.rest) y in
    cc
comma_step tb bytes at at' k ks o p frames (After (Field c done (j ∷ js) a) v) e n f fr q =
    let z : (p ∷ o.frames) ≡ record { c = c; rest = j ∷ js; size = suc (count_of done) + length (j ∷ js) } ∷ rows_of a = ap (λ (o : Outline). o.frames) e in
    let y : p ≡ record { c = c; rest = j ∷ js; size = suc (count_of done) + length (j ∷ js) } = head_same p (record { c = c; rest = j ∷ js; size = suc (count_of done) + length (j ∷ js) }) o.frames (rows_of a) z in
    let fs : o.frames ≡ rows_of a = tail_same _ _ o.frames (rows_of a) z in
    let x : k ∷ ks ≡ j ∷ js = sym f ∙ ap (λ (p : Pending). p.rest) y in
    let kj : k ≡ j = cc in
    let kjs : ks ≡ js = cc in
    let pc : p.c ≡ c = ap (λ (p : Pending). p.c) y in
    let ps : p.size ≡ suc (count_of (snoc done v)) + length js = let w : p.size ≡ suc (count_of done) + suc (length js) = ap (λ (p : Pending). p.size) y in omega (arith, w, count_join done v) in
    let row : frames ≡ rows_of (Field c (snoc done v) js a) = fr ∙ row_of p.c c ks js p.size (suc (count_of (snoc done v)) + length js) o.frames (rows_of a) pc kjs ps fs in
    (Before j (Field c (snoc done v) js a), (c, done, v, j, js, a, refl, refl), ap (λ n. outlined n frames o.lines) (ap Some kj) ∙ ap₂ (λ (f : List Pending) (l : List ℕ). outlined (Some j) f l) row (ap (λ (o : Outline). o.lines) e), q (Want j (Field c (snoc done v) js a))) where
      row_of : (c c' : ℕ) (r r' : List ℕ) (m m' : ℕ) (ps ps' : List Pending) → c ≡ c' → r ≡ r' → m ≡ m' → ps ≡ ps' → record { c = c; rest = r; size = m } ∷ ps ≡ record { c = c'; rest = r'; size = m' } ∷ ps'
      row_of c c' r r' m m' ps ps' a b d e = ap (λ c. record { c = c; rest = r; size = m } ∷ ps) a ∙ ap (λ r. record { c = c'; rest = r; size = m } ∷ ps) b ∙ ap₂ (λ (m : ℕ) (ps : List Pending). record { c = c'; rest = r'; size = m } ∷ ps) d e
comma_step tb bytes at at' k ks o p frames Nowhere e n f fr q = let z : (p ∷ o.frames) ≡ [] = ap (λ (o : Outline). o.frames) e in cc

-- a sign is missing after a field
pub field_bad : (tb : Table) (bytes : List ℕ) (at k : ℕ) (o : Outline) (p : Pending) (s : Spot) → record o { frames = p ∷ o.frames } ≡ outline_at s → o.next ≡ None → (p.rest ≡ [] → (s : State) → runs tb bytes (Await Close s) at ≡ Stopped k) → ((j : ℕ) (js : List ℕ) → p.rest ≡ j ∷ js → (s : State) → runs tb bytes (Await Comma s) at ≡ Stopped k) → runs tb bytes (state_at s) at ≡ Stopped k
field_bad tb bytes at k o p (Before j a) e n f g = absurd (none-some j (sym n ∙ ap (λ (o : Outline). o.next) e))
field_bad tb bytes at k o p (After (Alone m) v) e n f g = let z : (p ∷ o.frames) ≡ [] = ap (λ (o : Outline). o.frames) e in cc
field_bad tb bytes at k o p (After (Lines done rest) v) e n f g = let z : (p ∷ o.frames) ≡ [] = ap (λ (o : Outline). o.frames) e in cc
field_bad tb bytes at k o p (After (Field c done [] a) v) e n f g =
    let z : (p ∷ o.frames) ≡ record { c = c; rest = []; size = suc (count_of done) + 0 } ∷ rows_of a = ap (λ (o : Outline). o.frames) e in
    let y : p ≡ record { c = c; rest = []; size = suc (count_of done) + 0 } = head_same p (record { c = c; rest = []; size = suc (count_of done) + 0 }) o.frames (rows_of a) z in
    f (ap (λ (p : Pending). p.rest) y) (filled a (Node c (snoc done v)))
field_bad tb bytes at k o p (After (Field c done (j ∷ js) a) v) e n f g =
    let z : (p ∷ o.frames) ≡ record { c = c; rest = j ∷ js; size = suc (count_of done) + length (j ∷ js) } ∷ rows_of a = ap (λ (o : Outline). o.frames) e in
    let y : p ≡ record { c = c; rest = j ∷ js; size = suc (count_of done) + length (j ∷ js) } = head_same p (record { c = c; rest = j ∷ js; size = suc (count_of done) + length (j ∷ js) }) o.frames (rows_of a) z in
    g j js (ap (λ (p : Pending). p.rest) y) (Want j (Field c (snoc done v) js a))
field_bad tb bytes at k o p Nowhere e n f g = let z : (p ∷ o.frames) ≡ [] = ap (λ (o : Outline). o.frames) e in cc

-- after a line
pub line_step : (tb : Table) (bytes : List ℕ) (at at' k : ℕ) (ks : List ℕ) (o : Outline) (lines : List ℕ) (s : Spot) → o ≡ outline_at s → o.next ≡ None → o.frames ≡ [] → o.lines ≡ k ∷ ks → ks ≡ lines → ((s : State) → runs tb bytes (Await Line s) at ≡ runs tb bytes s at') → Stepped tb bytes s at (Ok (Some E.Line)) (record { next = Some k; frames = o.frames; lines = lines }) at'
line_step tb bytes at at' k ks o lines (Before j a) e n f l w q = absurd (none-some j (sym n ∙ ap (λ (o : Outline). o.next) e))
line_step tb bytes at at' k ks o lines (After (Field c done rest a) v) e n f l w q = let z = sym f ∙ ap (λ (o : Outline). o.frames) e in cc
line_step tb bytes at at' k ks o lines (After (Alone m) v) e n f l w q = let z = sym l ∙ ap (λ (o : Outline). o.lines) e in cc
line_step tb bytes at at' k ks o lines (After (Lines done []) v) e n f l w q = let z = sym l ∙ ap (λ (o : Outline). o.lines) e in cc
line_step tb bytes at at' k ks o lines (After (Lines done (j ∷ js)) v) e n f l w q =
    let z : k ∷ ks ≡ j ∷ js = sym l ∙ ap (λ (o : Outline). o.lines) e in
    let kj : k ≡ j = cc in
    let kjs : ks ≡ js = cc in
    (Before j (Lines (snoc done v) js), (done, v, j, js, refl, refl), ap (λ n. outlined n o.frames lines) (ap Some kj) ∙ ap₂ (λ (f : List Pending) (l : List ℕ). outlined (Some j) f l) f (sym w ∙ kjs), q (Want j (Lines (snoc done v) js)))
line_step tb bytes at at' k ks o lines Nowhere e n f l w q = let z = sym l ∙ ap (λ (o : Outline). o.lines) e in cc

pub line_bad : (tb : Table) (bytes : List ℕ) (at k : ℕ) (o : Outline) (s : Spot) (p : ℕ) (ks : List ℕ) → o ≡ outline_at s → o.next ≡ None → o.frames ≡ [] → o.lines ≡ p ∷ ks → ((s : State) → runs tb bytes (Await Line s) at ≡ Stopped k) → runs tb bytes (state_at s) at ≡ Stopped k
line_bad tb bytes at k o (Before j a) p ks e n f l q = absurd (none-some j (sym n ∙ ap (λ (o : Outline). o.next) e))
line_bad tb bytes at k o (After (Field c done rest a) v) p ks e n f l q = let z = sym f ∙ ap (λ (o : Outline). o.frames) e in cc
line_bad tb bytes at k o (After (Alone m) v) p ks e n f l q = let z = sym l ∙ ap (λ (o : Outline). o.lines) e in cc
line_bad tb bytes at k o (After (Lines done []) v) p ks e n f l q = let z = sym l ∙ ap (λ (o : Outline). o.lines) e in cc
line_bad tb bytes at k o (After (Lines done (j ∷ js)) v) p ks e n f l q = q (Want j (Lines (snoc done v) js))
line_bad tb bytes at k o Nowhere p ks e n f l q = let z = sym l ∙ ap (λ (o : Outline). o.lines) e in cc

-- the end
pub end_step : (tb : Table) (bytes : List ℕ) (at at' : ℕ) (o o' : Outline) (s : Spot) → GoesOn s → o ≡ outline_at s → o.next ≡ None → o.frames ≡ [] → o.lines ≡ [] → ((vs : Values) → runs tb bytes (Over vs) at ≡ Accepted vs) → Stepped tb bytes s at (Ok None) o' at'
end_step tb bytes at at' o o' (Before j a) g e n f l q = absurd (none-some j (sym n ∙ ap (λ (o : Outline). o.next) e))
end_step tb bytes at at' o o' (After (Alone m) v) g e n f l q = absurd g
end_step tb bytes at at' o o' (After (Field c done rest a) v) g e n f l q = let z = sym f ∙ ap (λ (o : Outline). o.frames) e in cc
end_step tb bytes at at' o o' (After (Lines done []) v) g e n f l q = (snoc done v, (done, refl, refl), q (snoc done v))
end_step tb bytes at at' o o' (After (Lines done (j ∷ js)) v) g e n f l q = let z = sym l ∙ ap (λ (o : Outline). o.lines) e in cc
end_step tb bytes at at' o o' Nowhere g e n f l q = (End, refl, q End)

pub end_bad : (tb : Table) (bytes : List ℕ) (at k : ℕ) (o : Outline) (s : Spot) → GoesOn s → o ≡ outline_at s → o.next ≡ None → o.frames ≡ [] → o.lines ≡ [] → ((vs : Values) → runs tb bytes (Over vs) at ≡ Stopped k) → runs tb bytes (state_at s) at ≡ Stopped k
end_bad tb bytes at k o (Before j a) g e n f l q = absurd (none-some j (sym n ∙ ap (λ (o : Outline). o.next) e))
end_bad tb bytes at k o (After (Alone m) v) g e n f l q = absurd g
end_bad tb bytes at k o (After (Field c done rest a) v) g e n f l q = let z = sym f ∙ ap (λ (o : Outline). o.frames) e in cc
end_bad tb bytes at k o (After (Lines done []) v) g e n f l q = q (snoc done v)
end_bad tb bytes at k o (After (Lines done (j ∷ js)) v) g e n f l q = let z = sym l ∙ ap (λ (o : Outline). o.lines) e in cc
end_bad tb bytes at k o Nowhere g e n f l q = q End

-- the fields after the first ones
pub drop_next : (fs : List ℕ) (n k : ℕ) (ks : List ℕ) → drop n fs ≡ k ∷ ks → (n < length fs) × (drop (suc n) fs ≡ ks)
drop_next [] zero k ks e = cc
drop_next [] (suc n) k ks e = cc
drop_next (f ∷ fs) zero k ks e = (omega arith, tail_same f k fs ks e)
drop_next (f ∷ fs) (suc n) k ks e = let h = drop_next fs n k ks e in (omega (arith, h.0), h.1)

pub same_fields : (m : Option Shape) (a b : Shape) → m ≡ Some a → m ≡ Some b → a.fields ≡ b.fields
same_fields m a b p q = let e : a ≡ b = cc in ap (λ (s : Shape). s.fields) e

-- the fields of a constructor that is there
pub fields_of_shape : (ss : List Shape) (c : ℕ) (s : Shape) → slice_get ss c ≡ Some s → (c < length ss) × (fields_at ss c ≡ s.fields)
fields_of_shape [] c s e = cc
fields_of_shape (r ∷ ss) zero s e = let same : r ≡ s = cc in (omega arith, ap (λ (r : Shape). r.fields) same)
fields_of_shape (r ∷ ss) (suc c) s e = let h = fields_of_shape ss c s e in (omega (arith, h.0), h.1)

pub known_fields : (tb : Table) → IsSoundTable tb → (ty c : ℕ) (s : Shape) → 0 < ty → slice_get (constructors tb ty) c ≡ Some s → AreTypes tb s.fields
known_fields tb sound zero c s d e = absurd (omega arith)
known_fields tb sound (suc t) c s d e = sound.known t c s e

pub narrow_fields : (tb : Table) → IsSoundTable tb → (ty c : ℕ) (s : Shape) → 0 < ty → slice_get (constructors tb ty) c ≡ Some s → length s.fields ≤ 16
narrow_fields tb sound zero c s d e = absurd (omega arith)
narrow_fields tb sound (suc t) c s d e = sound.narrow t c s e

-- before the first value
pub begins_at : (types : List ℕ) (k : ℕ) (ls : List ℕ) (frames : List Pending) → types ≡ k ∷ ls → frames ≡ [] → outlined (Some k) frames ls ≡ outline_at (spot_of types)
begins_at types k ls frames e f = ap (λ f. outlined (Some k) f ls) f ∙ ap (λ t. outline_at (spot_of t)) (sym e)

pub begins_none : (types : List ℕ) (frames : List Pending) → types ≡ [] → frames ≡ [] → outlined None frames types ≡ outline_at (spot_of types)
begins_none types frames e f = ap₂ (λ f t. outlined None f t) f e ∙ ap (λ t. outline_at (spot_of t)) (sym e)

pub none_open : (n : ℕ) (b : Bool) → b ≡ (n == 0) → b ≡ true → n ≡ 0
none_open n b e f = eqb-true n 0 (sym e ∙ f)

pub none_empty : (n : ℕ) (b : Bool) → b ≡ (n == 0) → n ≡ 0 → b ≡ true
none_empty n b e z = e ∙ ap (λ n. n == 0) z

pub no_open : (fs : List Frame) → pending_rows fs ≡ [] → length fs ≡ 0
unfolding pending_rows
no_open [] e = refl
no_open (f ∷ fs) e = let n = ap length e in let a = length-append (pending_rows fs) (pending f ∷ []) in absurd (omega (arith, n, a))

pub no_rows : (fs : List Frame) → length fs ≡ 0 → pending_rows fs ≡ []
no_rows [] e = rows_empty
no_rows (f ∷ fs) e = absurd (omega arith)
