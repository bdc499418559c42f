-- What no step of any code raises: held cells of a size; and, unless a function is entered, frames and their words.
-- The idea: a change sets one place, to a cell of the old size or to a released one. An instruction writes registers
-- that are there, and a return takes a frame away.
use Rattle.std.proofs.Common.{◌≡◌, ℕ, zero, suc, ◌+◌, ◌≤◌, refl, sym, ap, ◌∙◌, subst, arith, Bool, true, false, List, [], ◌∷◌, length, map, Option, Some, None, nat_eq, nat_lt, if◌then◌else◌}
use Rattle.std.specs.Prelude.{slice_get, slice_set, option_and_then, option_map, sum}
use Rattle.std.proofs.lemmas.Option.{none-some, same_Some}
use Rattle.std.proofs.lemmas.Bool.Decides.{nat_tests}
use Rattle.std.proofs.lemmas.List.{length-set}
use Rattle.std.proofs.lemmas.List.Sums.{sum_by-cons}
use Rattle.cell_code.specs.fip_language.declared.TrapKind.{TrapKind}
use Rattle.cell_code.specs.fip_language.Arithmetic.{Operated, Is, Fails}
use Rattle.cell_code.specs.fip_language.Store.{Cell}
use Rattle.cell_code.specs.declared.code.Instr.{Instr}
use Rattle.cell_code.specs.declared.code.Instr.TheVariants as I
use Rattle.cell_code.specs.declared.kind.Kind.{Kind}
use Rattle.cell_code.specs.Plain.{PlainFunction, PlainCode, function_at}
use Rattle.machine_semantics.specs.Cells.{Store, Change, Write, Release, cell_at, size_of, size_in, written, given_up, changed, changed_by, one_held, held_in, count_held}
use Rattle.machine_semantics.specs.Kept.{Keeps}
use Rattle.machine_semantics.specs.States.{Frame, State, Next, Went, Entered, Gave, Trapped, TooDeep, Stuck, frames_held, words_of_frame, words_held}
use Rattle.machine_semantics.specs.Rows as R
use Rattle.machine_semantics.specs.Steps.{Kinds, went_with, went, called_with, called, replaced, destinations, resumed, returned, trapped, act, act_at, instr_of, kinds_of, next, changes_of}
use Rattle.machine_semantics.proofs.Followed.{Followed, followed}
use Rattle.machine_semantics.proofs.Sizes.{went_keeps, entered_keeps}

-- ---- held cells

-- how many places report whether their cell is released stays
written_long : (s t : Store) (p : ℕ) (new : Cell) (o : Option Cell) → written s p new o ≡ Some t → length t.released ≡ length s.released
written_long s t p new None e = absurd (none-some t e)
written_long s t p new (Some old) e = by (nat_eq (size_of old) (size_of new)) e
  where
    by : (b : Bool) → (if b then Some (record s { cells = slice_set s.cells p (Some new) }) else None) ≡ Some t → length t.released ≡ length s.released
    by true e = sym (ap (λ (u : Store). length u.released) (same_Some (record s { cells = slice_set s.cells p (Some new) }) t e))
    by false e = absurd (none-some t e)

given_up_long : (s t : Store) (p : ℕ) (o : Option Cell) (r : Option Bool) → given_up s p o r ≡ Some t → length t.released ≡ length s.released
given_up_long s t p None r e = absurd (none-some t e)
given_up_long s t p (Some c) None e = absurd (none-some t e)
given_up_long s t p (Some c) (Some true) e = absurd (none-some t e)
given_up_long s t p (Some c) (Some false) e = sym (ap (λ (u : Store). length u.released) (same_Some (record s { released = slice_set s.released p true }) t e)) ∙ length-set s.released p true

changed_long : (c : Change) (s t : Store) → changed c s ≡ Some t → length t.released ≡ length s.released
changed_long (Write p c ws) s t e = written_long s t p (record { tag = c; fields = ws }) (cell_at s p) e
changed_long (Release p) s t e = given_up_long s t p (cell_at s p) (slice_get s.released p) e

all_long : (cs : List Change) (s t : Store) → changed_by cs s ≡ Some t → length t.released ≡ length s.released
all_long [] s t e = sym (ap (λ (u : Store). length u.released) (same_Some s t e))
all_long (c ∷ cs) s t e = by (λ u. all_long cs u t) (changed c s) refl e
  where
    by : ((u : Store) → changed_by cs u ≡ Some t → length t.released ≡ length u.released) → (o : Option Store) → changed c s ≡ o → option_and_then (λ u. changed_by cs u) o ≡ Some t → length t.released ≡ length s.released
    by rest None a e = absurd (none-some t e)
    by rest (Some u) a e = rest u e ∙ changed_long c s u a

one_falls : (k : ℕ) (o p : Option Cell) (r f : Bool) → 1 ≤ k → size_in o ≡ size_in p → (r ≡ true → f ≡ true) → one_held k p f ≤ one_held k o r
one_falls k o None r f some e h = omega arith
one_falls k o (Some c) r true some e h = omega arith
one_falls k None (Some c) r false some e h = let z : nat_eq k (size_of c) ≡ false = nothing k (size_of c) some (sym e) in subst (λ b. (if b then 1 else 0) ≤ 0) (sym z) (omega arith)
  where
    nothing : (k n : ℕ) → 1 ≤ k → n ≡ 0 → nat_eq k n ≡ false
    nothing k n some e = grind (arith, nat_tests)
one_falls k (Some c) (Some d) true false some e h = absurd (let z : false ≡ true = h refl in cc)
one_falls k (Some c) (Some d) false false some e h = let z : one_held k (Some d) false ≡ one_held k (Some c) false = ap (λ n. if nat_eq k n then 1 else 0) (sym e) in omega (arith, z)

held_falls : (k : ℕ) (os ps : List (Option Cell)) (rs fs : List Bool) → 1 ≤ k → map size_in os ≡ map size_in ps → length fs ≡ length rs → ((q : ℕ) → slice_get rs q ≡ Some true → slice_get fs q ≡ Some true) → held_in k ps fs ≤ held_in k os rs
held_falls k os [] rs fs some e l h = omega arith
held_falls k os (p ∷ ps) rs [] some e l h = omega arith
held_falls k [] (p ∷ ps) rs (f ∷ fs) some e l h = absurd (let z : [] ≡ size_in p ∷ map size_in ps = e in cc)
held_falls k (o ∷ os) (p ∷ ps) [] (f ∷ fs) some e l h = absurd (omega (arith, l))
held_falls k (o ∷ os) (p ∷ ps) (r ∷ rs) (f ∷ fs) some e l h =
    let x = one_falls k o p r f some (first (size_in o) (size_in p) (map size_in os) (map size_in ps) e) (λ z. same_Some f true (h 0 (ap Some z))) in
    let y = held_falls k os ps rs fs some (others (size_in o) (size_in p) (map size_in os) (map size_in ps) e) (omega (arith, l)) (λ q z. h (suc q) z) in
    omega (arith, x, y)
  where
    first : (m n : ℕ) (ms ns : List ℕ) → m ∷ ms ≡ n ∷ ns → m ≡ n
    first m n ms ns e = cc

    others : (m n : ℕ) (ms ns : List ℕ) → m ∷ ms ≡ n ∷ ns → ms ≡ ns
    others m n ms ns e = cc

store_falls : (k : ℕ) (s t : Store) → 1 ≤ k → Keeps s t → length t.released ≡ length s.released → count_held k t ≤ count_held k s
store_falls k s t some keeps long = held_falls k s.cells t.cells s.released t.released some (sym keeps.sizes) long keeps.released

pub went_holds_less : (kinds : Kinds) (code : PlainCode) (k : ℕ) (s t : State) → 1 ≤ k → next kinds code s ≡ Went t → count_held k t.store ≤ count_held k s.store
went_holds_less kinds code k s t some e = store_falls k s.store t.store some (went_keeps kinds code s t e) (all_long (changes_of kinds code s) s.store t.store (subst (Followed (changes_of kinds code s) s) e (followed kinds code s)))

pub entered_holds_same : (kinds : Kinds) (code : PlainCode) (k : ℕ) (s t : State) → next kinds code s ≡ Entered t → count_held k t.store ≡ count_held k s.store
entered_holds_same kinds code k s t e = ap (count_held k) (let z : t.store ≡ s.store = subst (Followed (changes_of kinds code s) s) e (followed kinds code s) in z)

-- ---- frames and their words

-- what goes on in the frame has as many words
abbrev HasWords : ℕ → Option R.Done → Type 0
HasWords n None = Unit {0}
HasWords n (Some d) = length d.words ≡ n

abbrev HasWrote : ℕ → Option (List ℕ) → Type 0
HasWrote n None = Unit {0}
HasWrote n (Some ws) = length ws ≡ n

write_long : (ws : List ℕ) (d w : ℕ) → HasWrote (length ws) (R.write ws d w)
write_long ws d w = by (nat_lt d (length ws))
  where
    by : (b : Bool) → HasWrote (length ws) (if b then Some (slice_set ws d w) else None)
    by true = length-set ws d w
    by false = tt

write_all_long : (n : ℕ) (ws ds vs : List ℕ) → length ws ≡ n → HasWrote n (R.write_all ws ds vs)
write_all_long n ws [] [] e = e
write_all_long n ws [] (v ∷ vs) e = tt
write_all_long n ws (d ∷ ds) [] e = tt
write_all_long n ws (d ∷ ds) (v ∷ vs) e = by (λ us. write_all_long n us ds vs) (R.write ws d v) (write_long ws d v)
  where
    by : ((us : List ℕ) → length us ≡ n → HasWrote n (R.write_all us ds vs)) → (o : Option (List ℕ)) → HasWrote (length ws) o → HasWrote n (option_and_then (λ us. R.write_all us ds vs) o)
    by rest None h = tt
    by rest (Some us) h = rest us (h ∙ e)

on_long : (s : State) (o : Option (List ℕ)) → HasWrote (length s.running.words) o → HasWords (length s.running.words) (R.on s o)
on_long s None h = tt
on_long s (Some ws) h = h

with_long : (s : State) (o : Option (List Change)) → HasWords (length s.running.words) (R.on_with s o)
with_long s None = tt
with_long s (Some cs) = refl

read_long : (s : State) (d : ℕ) (o : Option ℕ) → HasWrote (length s.running.words) (option_and_then (λ w. R.write s.running.words d w) o)
read_long s d None = tt
read_long s d (Some w) = write_long s.running.words d w

calculated_long : (s : State) (d : ℕ) (o : Option Operated) → HasWords (length s.running.words) (R.calculated s d o)
calculated_long s d None = tt
calculated_long s d (Some (Is v)) = on_long s _ (write_long s.running.words d _)
calculated_long s d (Some (Fails kind)) = tt

branch_long : (s : State) (target : ℕ) (o : Option Bool) → HasWords (length s.running.words) (R.branch s target o)
branch_long s target None = tt
branch_long s target (Some true) = refl
branch_long s target (Some false) = refl

taken_long : (s : State) (d : ℕ) (ds : List ℕ) (o : Option Cell) → HasWrote (length s.running.words) (option_and_then (λ c. R.write_all s.running.words (d ∷ ds) c.fields) o)
taken_long s d ds None = tt
taken_long s d ds (Some c) = write_all_long (length s.running.words) s.running.words (d ∷ ds) c.fields refl

pub all_words : (f : Frame) (fs : List Frame) → sum (map words_of_frame (f ∷ fs)) ≡ length f.words + 2 + sum (map words_of_frame fs)
all_words f fs = sum_by-cons (λ x. x) (words_of_frame f) (map words_of_frame fs)

-- No frame is more, nor are the words of all.
abbrev pub IsLower : State → State → Type 0
IsLower s t = (frames_held t ≤ frames_held s) × (words_held t ≤ words_held s)

abbrev Lowers : State → Next → Type 0
Lowers s (Went t) = IsLower s t
Lowers s (Entered t) = Unit {0}
Lowers s (Gave ws) = Unit {0}
Lowers s (Trapped kind line col) = Unit {0}
Lowers s TooDeep = Unit {0}
Lowers s Stuck = Unit {0}

lowers_with : (s : State) (d : R.Done) (o : Option Store) → length d.words ≡ length s.running.words → Lowers s (went_with s d o)
lowers_with s d None e = tt
lowers_with s d (Some store) e =
    let before = all_words s.running s.waiting in
    let following = all_words (record { function = s.running.function; at = d.at; words = d.words }) s.waiting in
    (omega arith, omega (arith, before, following, e))

lowers_went : (s : State) (d : Option R.Done) → HasWords (length s.running.words) d → Lowers s (went s d)
lowers_went s None h = tt
lowers_went s (Some d) h = lowers_with s d (changed_by d.changes s.store) h

lowers_trapped : (s : State) (line col : ℕ) (o : Option TrapKind) (d : Option R.Done) → HasWords (length s.running.words) d → Lowers s (trapped s line col o d)
lowers_trapped s line col None d h = lowers_went s d h
lowers_trapped s line col (Some kind) d h = tt

lowers_called_with : (s : State) (f : ℕ) (g : PlainFunction) (free : ℕ) (ws : List ℕ) → Lowers s (called_with s f g free ws)
lowers_called_with s f g zero ws = tt
lowers_called_with s f g (suc free) ws = tt

lowers_called : (s : State) (f : ℕ) (g : Option PlainFunction) (ws : Option (List ℕ)) → Lowers s (called s f g ws)
lowers_called s f None ws = tt
lowers_called s f (Some g) None = tt
lowers_called s f (Some g) (Some ws) = lowers_called_with s f g s.free ws

lowers_replaced : (s : State) (f : ℕ) (g : Option PlainFunction) (ws : Option (List ℕ)) → Lowers s (replaced s f g ws)
lowers_replaced s f None ws = tt
lowers_replaced s f (Some g) None = tt
lowers_replaced s f (Some g) (Some ws) = tt

lowers_resumed : (s : State) (w : Frame) (below : List Frame) (o : Option (List ℕ)) → s.waiting ≡ w ∷ below → HasWrote (length w.words) o → Lowers s (resumed s w below o)
lowers_resumed s w below None e h = tt
lowers_resumed s w below (Some ws) e h =
    let frames : frames_held s ≡ suc (length below) = ap length e in
    let words : words_held s ≡ sum (map words_of_frame (s.running ∷ w ∷ below)) = ap (λ fs. sum (map words_of_frame (s.running ∷ fs))) e in
    let first = all_words s.running (w ∷ below) in
    let second = all_words w below in
    let following = all_words (record { function = w.function; at = w.at + 1; words = ws }) below in
    (omega (arith, frames), omega (arith, words, first, second, following, h))

lowers_returned : (code : PlainCode) (s : State) (waiting : List Frame) (ws : Option (List ℕ)) → s.waiting ≡ waiting → Lowers s (returned code s waiting ws)
lowers_returned code s waiting None e = tt
lowers_returned code s [] (Some vs) e = tt
lowers_returned code s (w ∷ below) (Some vs) e = lowers_resumed s w below (option_and_then (λ ds. R.write_all w.words ds vs) (destinations code w)) e (by (destinations code w))
  where
    by : (o : Option (List ℕ)) → HasWrote (length w.words) (option_and_then (λ ds. R.write_all w.words ds vs) o)
    by None = tt
    by (Some ds) = write_all_long (length w.words) w.words ds vs refl

lowers_at : (code : PlainCode) (ks : List Kind) (s : State) (o : Option Instr) → Lowers s (act_at code ks s o)
lowers_at code ks s None = tt
lowers_at code ks s (Some (I.Const d v)) = lowers_went s _ (on_long s _ (write_long s.running.words d _))
lowers_at code ks s (Some (I.Atom d t c)) = lowers_went s _ (on_long s _ (write_long s.running.words d _))
lowers_at code ks s (Some (I.Move d r)) = lowers_went s _ (on_long s _ (read_long s d (R.register s r)))
lowers_at code ks s (Some (I.Arith d o x y line col)) = lowers_trapped s line col (R.trap (R.operated s o x y)) _ (calculated_long s d (R.operated s o x y))
lowers_at code ks s (Some (I.Test r c target)) = lowers_went s _ (branch_long s target _)
lowers_at code ks s (Some (I.TestInt r v target)) = lowers_went s _ (branch_long s target _)
lowers_at code ks s (Some (I.Peek d r i)) = lowers_went s _ (on_long s _ (read_long s d (R.peeked s r i)))
lowers_at code ks s (Some (I.Take r [])) = lowers_went s (R.done code.types ks s (I.Take r [])) refl
lowers_at code ks s (Some (I.Take r (d ∷ ds))) = lowers_went s _ (on_long s _ (taken_long s d ds (option_and_then (λ w. R.named s.store w) (R.register s r))))
lowers_at code ks s (Some (I.Put r t c ss)) = lowers_went s _ (with_long s _)
lowers_at code ks s (Some (I.Drop r)) = lowers_went s _ (with_long s _)
lowers_at code ks s (Some (I.Free r)) = lowers_went s _ (with_long s _)
lowers_at code ks s (Some (I.Call f ss ds)) = lowers_called s f (function_at code f) (R.read_all s.running.words ss)
lowers_at code ks s (Some (I.Tail f ss)) = lowers_replaced s f (function_at code f) (R.read_all s.running.words ss)
lowers_at code ks s (Some (I.Ret ss)) = lowers_returned code s s.waiting (R.read_all s.running.words ss) refl
lowers_at code ks s (Some (I.Jump target)) = lowers_went s (R.done code.types ks s (I.Jump target)) refl

pub went_is_lower : (kinds : Kinds) (code : PlainCode) (s t : State) → next kinds code s ≡ Went t → IsLower s t
went_is_lower kinds code s t e = subst (Lowers s) e (lowers_at code (kinds_of kinds s) s (instr_of code s))
