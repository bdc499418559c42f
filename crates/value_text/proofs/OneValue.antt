-- One value that is read alone: what its end and its places are.
-- Idea: the machine takes any characters after the value, so many as it is reported. Reported as many as there are after the
-- place where the reader ends, it accepts, and so the value stands there with just these after it. Reported any number, it
-- stops at the same place where the reader does.
use Rattle.std.proofs.Common.{◌≡◌, ◌⊎◌, ◌↔◌, inl, inr, Bool, true, false, ℕ, zero, suc, ◌+◌, ◌-◌, ◌<◌, ◌≤◌, List, [], ◌∷◌, ◌++◌, length, length-append, drop, Option, Some, None, refl, sym, ap, ap₂, ◌∙◌, subst, append_assoc, arith}
use Rattle.std.specs.Prelude.{ℤ, Ok, Err, IsTrue, slice_get}
use Rattle.std.specs.declared.vec.Vec.{Vec}
use Rattle.std.specs.declared.alloc.Global.{Global}
use Rattle.std.proofs.Math.Seq.{drop-append_seam, drop-nil}
use Rattle.std.proofs.lemmas.List.{length-drop, length-map, drop-map}
use Rattle.fip_language.specs.Prefix.{Accepted, Stopped, end_outcome, or_stop, run, IsPlace}
use Rattle.fip_language.proofs.Prefix.{accepts, accepted, stops_at_place}
use Rattle.fip_language.specs.Values.{Value, Int, Node, Values, End, More, cells, cells_of_all}
use Rattle.fip_language.specs.Table.{Table, Shape, shapes, HasType}
use Rattle.fip_language.specs.SoundTable.{IsSoundTable}
use Rattle.fip_language.specs.Store.{Placed, Parts, NoParts, MoreParts, value_of, values_of, word_of, words_of, uses_of_all}
use Rattle.fip_language.specs.Character.{Character, Blank, Open, Close, Comma, Minus, Digit, Letter, character, characters}
use Rattle.fip_language.specs.ValueText.{skip, name_of, after_name, after_number, Digits, IntText, ValueText, FieldsText, MoreText}
use Rattle.cell_store.specs.Made.{Loading}
use Rattle.value_text.specs.Machine.{Alone, Lines, Field, State, Want, Past, lookup, step, final}
use Rattle.value_text.specs.Scan.{runs}
use Rattle.value_text.specs.Reading.{Outline, Spot, Before, After, Nowhere, state_at, outline_at, spot_of, GoesOn, after_of, after_at, alone, IsLast, Stepped, IsReading}
use Rattle.value_text.specs.Counting.{values_to, IsCounting}
use Rattle.value_text.specs.Building.{IsBuilt, IsGoing, Built}
use Rattle.value_text.specs.Loaded.{wanted, words_up_to, free_in}
use Rattle.value_text.specs.Single.{BeginsWith, IsValueAt, IsPlaced, needed_by, IsValueMade}
use Rattle.value_text.specs.Alone.{StopsAt, AloneRead, AloneBuilt, error_by}
use Rattle.value_text.specs.declared.build.Stopped as B
use Rattle.value_text.specs.declared.build.Stopped.TheVariants as S
use Rattle.value_text.specs.declared.counts.Counts.{Counts}
use Rattle.value_text.specs.declared.single.MakeError.TheVariants as M
use Rattle.std.proofs.lemmas.Option.{none-some, same_Some}
use Rattle.value_text.specs.Standing.{HoldAll}
use Rattle.value_text.proofs.Tables.{IsTable, is_table, types_alive}
use Rattle.value_text.proofs.Exact.{Good, Reads, exact}
use Rattle.value_text.proofs.Typed.{value_typed}
use Rattle.value_text.proofs.Public.{held_stands}
use Rattle.value_text.proofs.Counted.{reading_stops, alone_starts}
use Rattle.value_text.proofs.Built.{alone_builds}
use Rattle.value_text.specs.declared.read.Refused.{Refused}
use Rattle.value_text.specs.declared.read.Refused.TheVariants as R
use Rattle.value_text.proofs.Taken.{words_same}
use Rattle.value_text.proofs.Whole.{accepted_same, nothing_left}
pub use Rattle.fip_language.proofs.Facts.{reflected as is_whole}

-- ---- where the reader is

-- what is reported of a cursor is so
pub not_whole : {P : Type 0} → (b : Bool) → IsTrue b ↔ P → b ≡ false → P → ⊥
not_whole b h e p = let t = h.1 p in cc

-- reading goes on from a spot that isn't whole
pub open_goes : (o : Outline) (s : Spot) → o ≡ outline_at s → ((o.next ≡ None) × (o.frames ≡ []) → ⊥) → GoesOn s
open_goes o (Before k a) e h = tt
open_goes o (After (Alone n) v) e h = h (ap (λ (o : Outline). o.next) e, ap (λ (o : Outline). o.frames) e)
open_goes o (After (Lines done rest) v) e h = tt
open_goes o (After (Field c done rest a) v) e h = tt
open_goes o Nowhere e h = tt

-- a value that is whole
pub whole_spot : (o : Outline) (n : ℕ) (s : Spot) → o ≡ outline_at s → after_at s ≡ Some n → o.next ≡ None → o.frames ≡ [] → (v : Value) × (s ≡ After (Alone n) v)
whole_spot o n (Before k a) e b x f = let z = sym (ap (λ (o : Outline). o.next) e) ∙ x in cc
whole_spot o n (After (Alone m) v) e b x f = let same : m ≡ n = cc in (v, ap (λ m. After (Alone m) v) same)
whole_spot o n (After (Lines done rest) v) e b x f = cc
whole_spot o n (After (Field c done rest a) v) e b x f = let z = sym (ap (λ (o : Outline). o.frames) e) ∙ f in cc
whole_spot o n Nowhere e b x f = cc

-- it is no end of lines
pub never_last : (s : Spot) (vs : Values) (n : ℕ) → after_at s ≡ Some n → IsLast s vs → ⊥
never_last (Before k a) vs n b h = h
never_last (After a v) vs n b h = let z = sym b ∙ ap after_of h.1 in cc
never_last Nowhere vs n b h = cc

-- ---- what the machine says

-- after the value all characters are taken
past_runs : (tb : Table) (vs : Values) (bytes : List ℕ) (at : ℕ) → run (step tb) (final tb) (Past (length bytes) vs) bytes at ≡ Accepted vs
past_runs tb vs [] at = refl
past_runs tb vs (b ∷ bytes) at = past_runs tb vs bytes (at + 1)

abbrev following : List ℕ → ℕ → ℕ
following bytes at = length (drop at bytes)

module _ (tb : Table) (sound : IsSoundTable tb) (k : ℕ) (known : k ≤ length tb) where
  good : (n : ℕ) → Good tb (Want k (Alone n))
  good n = let a = types_alive tb sound (k ∷ []) (known, tt) in (a.0, tt)

  -- what is accepted is a value with so many characters after it
  accepted_alone : (bytes : List ℕ) (at n : ℕ) (x : Values) → runs tb bytes (Want k (Alone n)) at ≡ Accepted x → (v : Value) × (rest : List Character) × ValueText tb k (characters (drop at bytes)) v rest × (length rest ≡ n) × (More v End ≡ x)
  accepted_alone bytes at n x e = let h = accepted (step tb) (final tb) (Good tb) (Reads tb) (exact tb (is_table tb sound)) (drop at bytes) x (Want k (Alone n)) at (good n) e in (h.0, h.1, h.2, h.3.0, h.3.1)

  -- and a value is accepted
  pub accepts_alone : (bytes : List ℕ) (at : ℕ) (v : Value) → (h : BeginsWith tb k (drop at bytes) v) → runs tb bytes (Want k (Alone (length h.0))) at ≡ Accepted (More v End)
  accepts_alone bytes at v h = accepts (step tb) (final tb) (Good tb) (Reads tb) (exact tb (is_table tb sound)) (drop at bytes) (Want k (Alone (length h.0))) at (More v End) (good (length h.0)) (v, h.0, h.1, (refl, refl))

  -- places are counted from where reading begins
  shifted_end : (s : State) (at b j : ℕ) → (o : Option Values) → end_outcome o (at + b) ≡ Stopped j → (d : ℕ) × (j ≡ at + d) × (end_outcome o b ≡ Stopped d)
  shifted_end s at b j None e = let z : at + b ≡ j = cc in (b, sym z, refl)
  shifted_end s at b j (Some x) e = cc

  shifted_step : (bytes : List ℕ) (at b j : ℕ) → ((s : State) → run (step tb) (final tb) s bytes (at + (b + 1)) ≡ Stopped j → (d : ℕ) × (j ≡ at + d) × (run (step tb) (final tb) s bytes (b + 1) ≡ Stopped d)) → (o : Option State) → or_stop o (at + b) (λ s. run (step tb) (final tb) s bytes (at + b + 1)) ≡ Stopped j → (d : ℕ) × (j ≡ at + d) × (or_stop o b (λ s. run (step tb) (final tb) s bytes (b + 1)) ≡ Stopped d)
  shifted_step bytes at b j rest None e = let z : at + b ≡ j = cc in (b, sym z, refl)
  shifted_step bytes at b j rest (Some s) e = rest s (ap (λ i. run (step tb) (final tb) s bytes i) (let z : at + (b + 1) ≡ at + b + 1 = omega arith in z) ∙ e)

  shifted : (bytes : List ℕ) (at b j : ℕ) (s : State) → run (step tb) (final tb) s bytes (at + b) ≡ Stopped j → (d : ℕ) × (j ≡ at + d) × (run (step tb) (final tb) s bytes b ≡ Stopped d)
  shifted [] at b j s e = shifted_end s at b j (final tb s) e
  shifted (c ∷ bytes) at b j s e = shifted_step bytes at b j (λ s. shifted bytes at (b + 1) j s) (step tb s c) e

  -- the place where the machine stops on what comes from there on
  stopped_alone : (bytes : List ℕ) (at j n : ℕ) → runs tb bytes (Want k (Alone n)) at ≡ Stopped j → (d : ℕ) × (j ≡ at + d) × IsPlace (Reads tb (Want k (Alone n))) (drop at bytes) d
  stopped_alone bytes at j n e =
      let h = shifted (drop at bytes) at 0 j (Want k (Alone n)) (ap (λ i. run (step tb) (final tb) (Want k (Alone n)) (drop at bytes) i) (let z : at + 0 ≡ at = omega arith in z) ∙ e) in
      (h.0, h.1, stops_at_place (step tb) (final tb) (Good tb) (Reads tb) (exact tb (is_table tb sound)) (Want k (Alone n)) (drop at bytes) h.0 (good n) h.2)

  place_alone : (bytes : List ℕ) (at j n : ℕ) → StopsAt tb k bytes at j → (d : ℕ) → j ≡ at + d → IsPlace (Reads tb (Want k (Alone n))) (drop at bytes) d
  place_alone bytes at j n h d e =
      let p = stopped_alone bytes at j n (h n) in
      let f = p.1 in
      let same : p.0 ≡ d = omega (arith, e, f) in
      subst (IsPlace (Reads tb (Want k (Alone n))) (drop at bytes)) same p.2

  -- where it always stops no text goes on that begins with a value
  pub stops_at : (bytes : List ℕ) (at j : ℕ) → StopsAt tb k bytes at j → (d : ℕ) × (j ≡ at + d) × IsPlace (BeginsWith tb k) (drop at bytes) d
  stops_at bytes at j h =
      let first = stopped_alone bytes at j 0 (h 0) in
      let p = first.2 in
      let b = p.before in (
        first.0,
        first.1,
        record {
          within = p.within;
          before = (b.0, (b.2).0, ((b.2).1, (b.2).2));
          there = λ lt c. (place_alone bytes at j (length (c.2).0) h first.0 first.1).there lt (c.0, More c.1 End, (c.1, (c.2).0, (c.2).1, (refl, refl)));
          at_end = λ e v c. (place_alone bytes at j (length c.0) h first.0 first.1).at_end e (More v End) (v, c.0, c.1, (refl, refl));
        },
      )

  pub never_stops : (bytes : List ℕ) (at j : ℕ) (v : Value) → StopsAt tb k bytes at j → BeginsWith tb k (drop at bytes) v → ⊥
  never_stops bytes at j v h b = let z = sym (h (length b.0)) ∙ accepts_alone bytes at v b in cc

-- ---- what stands after a value is the end of the text

abbrev IsRest : List Character → List Character → Type 0
IsRest rest cs = (front : List Character) × (cs ≡ front ++ rest)

rest_more : (c : Character) (cs rest : List Character) → IsRest rest cs → IsRest rest (c ∷ cs)
rest_more c cs rest h = (c ∷ h.0, ap (λ cs. c ∷ cs) h.1)

rest_of : (cs mid rest : List Character) → IsRest mid cs → IsRest rest mid → IsRest rest cs
rest_of cs mid rest h k = (h.0 ++ k.0, h.1 ∙ ap (λ m. h.0 ++ m) k.1 ∙ sym (append_assoc h.0 k.0 rest))

all_rest : (cs : List Character) → IsRest cs cs
all_rest cs = ([], refl)

same_rest : (cs rest : List Character) → cs ≡ rest → IsRest rest cs
same_rest cs rest e = ([], e)

skip_rest : (cs : List Character) → IsRest (skip cs) cs
skip_rest [] = all_rest []
skip_rest (Blank ∷ cs) = rest_more Blank cs (skip cs) (skip_rest cs)
skip_rest (c ∷ cs) = all_rest (c ∷ cs)

name_rest : (cs : List Character) → IsRest (after_name cs) cs
name_rest [] = all_rest []
name_rest (Digit d ∷ cs) = rest_more (Digit d) cs (after_name cs) (name_rest cs)
name_rest (Letter b ∷ cs) = rest_more (Letter b) cs (after_name cs) (name_rest cs)
name_rest (c ∷ cs) = all_rest (c ∷ cs)

number_rest : (cs : List Character) → IsRest (after_number cs) cs
number_rest [] = all_rest []
number_rest (Digit d ∷ cs) = rest_more (Digit d) cs (after_number cs) (number_rest cs)
number_rest (c ∷ cs) = all_rest (c ∷ cs)

digits_rest : (neg : Bool) (cs : List Character) (i : ℤ) (rest : List Character) → Digits neg cs i rest → IsRest rest cs
digits_rest neg [] i rest h = absurd h
digits_rest neg (Digit d ∷ cs) i rest h = rest_more (Digit d) cs rest (subst (λ r. IsRest r cs) (sym h.2) (number_rest cs))
digits_rest neg (_ ∷ cs) i rest h = absurd h

int_rest : (cs : List Character) (i : ℤ) (rest : List Character) → IntText cs i rest → IsRest rest cs
int_rest [] i rest h = absurd h
int_rest (Minus ∷ cs) i rest h = rest_more Minus cs rest (digits_rest true cs i rest h)
int_rest (Digit d ∷ cs) i rest h = digits_rest false (Digit d ∷ cs) i rest h
int_rest (_ ∷ cs) i rest h = absurd h

-- after a sign that comes next
sign_rest : (cs : List Character) (sign : Character) (mid rest : List Character) → skip cs ≡ sign ∷ mid → IsRest rest mid → IsRest rest cs
sign_rest cs sign mid rest e h = rest_of cs (sign ∷ mid) rest (subst (λ m. IsRest m cs) e (skip_rest cs)) (rest_more sign mid rest h)

mutual
  value_rest : (tb : Table) (k : ℕ) (cs : List Character) (v : Value) (rest : List Character) → ValueText tb k cs v rest → IsRest rest cs
  value_rest tb zero cs (Int i) rest h = rest_of cs (skip cs) rest (skip_rest cs) (int_rest (skip cs) i rest h)
  value_rest tb zero cs (Node c vs) rest h = absurd h
  value_rest tb (suc t) cs (Int i) rest h = absurd h
  value_rest tb (suc t) cs (Node c vs) rest h = rest_of cs (skip cs) rest (skip_rest cs) (rest_of (skip cs) (after_name (skip cs)) rest (name_rest (skip cs)) (fields_rest tb (h.0).fields (after_name (skip cs)) vs rest h.3))

  fields_rest : (tb : Table) (ks : List ℕ) (cs : List Character) (vs : Values) (rest : List Character) → FieldsText tb ks cs vs rest → IsRest rest cs
  fields_rest tb [] cs End rest h = same_rest cs rest h
  fields_rest tb [] cs (More v vs) rest h = absurd h
  fields_rest tb (k ∷ ks) cs End rest h = absurd h
  fields_rest tb (k ∷ ks) cs (More v vs) rest h = sign_rest cs Open h.0 rest h.2 (rest_of h.0 h.1 rest (value_rest tb k h.0 v h.1 h.3) (more_rest tb ks h.1 vs rest h.4))

  more_rest : (tb : Table) (ks : List ℕ) (cs : List Character) (vs : Values) (rest : List Character) → MoreText tb ks cs vs rest → IsRest rest cs
  more_rest tb [] cs End rest h = sign_rest cs Close rest rest h (all_rest rest)
  more_rest tb [] cs (More v vs) rest h = absurd h
  more_rest tb (k ∷ ks) cs End rest h = absurd h
  more_rest tb (k ∷ ks) cs (More v vs) rest h = sign_rest cs Comma h.0 rest h.2 (rest_of h.0 h.1 rest (value_rest tb k h.0 v h.1 h.3) (more_rest tb ks h.1 vs rest h.4))

drop_drop : (m n : ℕ) (xs : List ℕ) → drop m (drop n xs) ≡ drop (n + m) xs
drop_drop m zero xs = ap (λ i. drop i xs) (let z : m ≡ 0 + m = omega arith in z)
drop_drop m (suc n) [] = drop-nil m ∙ sym (drop-nil (suc n + m))
drop_drop m (suc n) (x ∷ xs) = drop_drop m n xs ∙ ap (λ i. drop i (x ∷ xs)) (let z : suc (n + m) ≡ suc n + m = omega arith in z)

rest_is : (bytes : List ℕ) (at end : ℕ) (rest : List Character) → at ≤ end → end ≤ length bytes → IsRest rest (characters (drop at bytes)) → length rest ≡ length (drop end bytes) → rest ≡ characters (drop end bytes)
rest_is bytes at end rest le within h e =
    let a = length-drop at bytes in
    let b = length-drop end bytes in
    let c : length (characters (drop at bytes)) ≡ length (drop at bytes) = length-map (drop at bytes) character in
    let d : length (characters (drop at bytes)) ≡ length h.0 + length rest = ap length h.1 ∙ length-append h.0 rest in
    let front : length h.0 ≡ end - at = omega (arith, a, b, c, d, e, le, within) in
    let sum : at + (end - at) ≡ end = omega (arith, le) in
    sym (drop-append_seam h.0 rest) ∙ ap (λ cs. drop (length h.0) cs) (sym h.1) ∙ ap (λ m. drop m (characters (drop at bytes))) front ∙ drop-map character (end - at) (drop at bytes) ∙ ap characters (drop_drop (end - at) at bytes ∙ ap (λ m. drop m bytes) sum)

-- ---- a text begins with one value

digits_same : (neg : Bool) (cs : List Character) (i j : ℤ) (r q : List Character) → Digits neg cs i r → Digits neg cs j q → (i ≡ j) × (r ≡ q)
digits_same neg [] i j r q h g = absurd h
digits_same neg (Digit d ∷ cs) i j r q h g = (h.1 ∙ sym g.1, h.2 ∙ sym g.2)
digits_same neg (_ ∷ cs) i j r q h g = absurd h

int_same : (cs : List Character) (i j : ℤ) (r q : List Character) → IntText cs i r → IntText cs j q → (i ≡ j) × (r ≡ q)
int_same [] i j r q h g = absurd h
int_same (Minus ∷ cs) i j r q h g = digits_same true cs i j r q h g
int_same (Digit d ∷ cs) i j r q h g = digits_same false (Digit d ∷ cs) i j r q h g
int_same (_ ∷ cs) i j r q h g = absurd h

after_sign : (sign : Character) (cs as' bs : List Character) → cs ≡ sign ∷ as' → cs ≡ sign ∷ bs → as' ≡ bs
after_sign sign cs as' bs e f = let z : sign ∷ as' ≡ sign ∷ bs = sym e ∙ f in cc

module _ (tb : Table) (table : IsTable tb) where
  constructor_same : (t c d : ℕ) (s u : Shape) (name : List Character) → slice_get (shapes tb t) c ≡ Some s → slice_get (shapes tb t) d ≡ Some u → name ≡ characters s.name → name ≡ characters u.name → (c ≡ d) × (s.fields ≡ u.fields)
  constructor_same t c d s u name a b e f =
      let z : Some (c, s.fields) ≡ Some (d, u.fields) = sym (table.unique t c s a) ∙ ap (λ m. lookup 0 m (shapes tb t)) (sym e ∙ f) ∙ table.unique t d u b in
      let y : (c, s.fields) ≡ (d, u.fields) = same_Some (c, s.fields) (d, u.fields) z in
      (ap (λ (r : ℕ × List ℕ). r.0) y, ap (λ (r : ℕ × List ℕ). r.1) y)

  mutual
    pub value_same : (k : ℕ) (cs : List Character) (v w : Value) (r q : List Character) → ValueText tb k cs v r → ValueText tb k cs w q → (v ≡ w) × (r ≡ q)
    value_same zero cs (Int i) (Int j) r q h g = let s = int_same (skip cs) i j r q h g in (ap Int s.0, s.1)
    value_same zero cs (Int i) (Node d ws) r q h g = absurd g
    value_same zero cs (Node c vs) w r q h g = absurd h
    value_same (suc t) cs (Int i) w r q h g = absurd h
    value_same (suc t) cs (Node c vs) (Int j) r q h g = absurd g
    value_same (suc t) cs (Node c vs) (Node d ws) r q h g =
        let s = constructor_same t c d h.0 g.0 (name_of (skip cs)) h.1 g.1 h.2 g.2 in
        let f = fields_same (h.0).fields (after_name (skip cs)) vs ws r q h.3 (subst (λ ks. FieldsText tb ks (after_name (skip cs)) ws q) (sym s.1) g.3) in
        (ap₂ (λ c vs. Node c vs) s.0 f.0, f.1)

    fields_same : (ks : List ℕ) (cs : List Character) (vs ws : Values) (r q : List Character) → FieldsText tb ks cs vs r → FieldsText tb ks cs ws q → (vs ≡ ws) × (r ≡ q)
    fields_same [] cs End End r q h g = (refl, sym h ∙ g)
    fields_same [] cs End (More w ws) r q h g = absurd g
    fields_same [] cs (More v vs) ws r q h g = absurd h
    fields_same (k ∷ ks) cs End ws r q h g = absurd h
    fields_same (k ∷ ks) cs (More v vs) End r q h g = absurd g
    fields_same (k ∷ ks) cs (More v vs) (More w ws) r q h g =
        let i = after_sign Open (skip cs) h.0 g.0 h.2 g.2 in
        let x = value_same k h.0 v w h.1 g.1 h.3 (subst (λ cs. ValueText tb k cs w g.1) (sym i) g.3) in
        let y = more_same ks h.1 vs ws r q h.4 (subst (λ cs. MoreText tb ks cs ws q) (sym x.1) g.4) in
        (ap₂ More x.0 y.0, y.1)

    more_same : (ks : List ℕ) (cs : List Character) (vs ws : Values) (r q : List Character) → MoreText tb ks cs vs r → MoreText tb ks cs ws q → (vs ≡ ws) × (r ≡ q)
    more_same [] cs End End r q h g = (refl, after_sign Close (skip cs) r q h g)
    more_same [] cs End (More w ws) r q h g = absurd g
    more_same [] cs (More v vs) ws r q h g = absurd h
    more_same (k ∷ ks) cs End ws r q h g = absurd h
    more_same (k ∷ ks) cs (More v vs) End r q h g = absurd g
    more_same (k ∷ ks) cs (More v vs) (More w ws) r q h g =
        let i = after_sign Comma (skip cs) h.0 g.0 h.2 g.2 in
        let x = value_same k h.0 v w h.1 g.1 h.3 (subst (λ cs. ValueText tb k cs w g.1) (sym i) g.3) in
        let y = more_same ks h.1 vs ws r q h.4 (subst (λ cs. MoreText tb ks cs ws q) (sym x.1) g.4) in
        (ap₂ More x.0 y.0, y.1)

-- ---- reading

module _ (tb : Table) (k : ℕ) (bytes : List ℕ) (at : ℕ) (given : IsPlaced tb k bytes at) (o : Outline) (end : ℕ) (next : o.next ≡ None) (frames : o.frames ≡ []) where
  -- the machine accepts what was read to its end
  read_accepts : (s : Spot) → IsReading tb (alone k at (following bytes end)) bytes o end s → (v : Value) × (s ≡ After (Alone (following bytes end)) v) × (runs tb bytes (Want k (Alone (following bytes end))) at ≡ Accepted (More v End))
  read_accepts s r =
      let w = whole_spot o (following bytes end) s r.outline r.following next frames in
      (w.0, w.1, sym r.reads ∙ ap (λ s. runs tb bytes (state_at s) end) w.1 ∙ past_runs tb (More w.0 End) (drop end bytes) end)

  value_at : (v : Value) → at ≤ end → end ≤ length bytes → runs tb bytes (Want k (Alone (following bytes end))) at ≡ Accepted (More v End) → IsValueAt tb k bytes at v end
  value_at v le within e =
      let h = accepted_alone tb given.sound k given.known bytes at (following bytes end) (More v End) e in
      let same : h.0 ≡ v = let z = h.4 in cc in
      let rest = rest_is bytes at end h.1 le within (value_rest tb k (characters (drop at bytes)) h.0 h.1 h.2) h.3 in
      record {
        forward = le;
        within = within;
        text = subst (λ v. ValueText tb k (characters (drop at bytes)) v (characters (drop end bytes))) same (subst (λ r. ValueText tb k (characters (drop at bytes)) h.0 r) rest h.2);
      }

  pub read_whole : (counts : Counts) → at ≤ end → ((n : ℕ) → IsCounting tb (alone k at n) bytes o end counts) → AloneRead tb k bytes at (Ok (end, counts))
  read_whole counts le h =
      let c = h (following bytes end) in
      let a = read_accepts c.spot c.reading in
      (a.0, value_at a.0 le (c.reading).within a.2, λ j few. c.exact j few ∙ ap (λ s. cells_of_all j (values_to s)) a.1 ∙ one_value j a.0) where
        one_value : (j : ℕ) (v : Value) → cells_of_all j (More v End) ≡ cells j v
        one_value j v = omega arith

  -- ---- building

  pub built_whole : (first now : Loading) (words : Vec ℕ Global) → length first.released ≡ length first.cells → ((n : ℕ) → IsGoing tb (alone k at n) bytes first o end words.items now) → AloneBuilt tb k bytes at first now (Ok words)
  built_whole first now words flags h =
      let g = h (following bytes end) in
      let a = read_accepts g.spot g.reading in
      let t = accepted_alone tb given.sound k given.known bytes at (following bytes end) (More a.0 End) a.2 in
      let same : t.0 ≡ a.0 = let z = t.4 in cc in
      let b = g.building (wanted [] (More a.0 End)) (More a.0 End) (record { reads = a.2; wanted = λ j. omega arith; flags = flags }) in
      let q = read_accepts b.spot b.reading in
      let values : values_to b.spot ≡ More a.0 End = ap values_to q.1 ∙ accepted_same (More q.0 End) (More a.0 End) (sym q.2 ∙ a.2) in
      (a.0, (t.1, subst (λ v. ValueText tb k (characters (drop at bytes)) v t.1) same t.2), subst (λ vs. IsBuilt (wanted [] (More a.0 End)) first now vs words.items) values b.built)

-- why nothing was built
pub built_not : (tb : Table) (k : ℕ) (bytes : List ℕ) (at : ℕ) → IsPlaced tb k bytes at → (first now : Loading) (e : B.Stopped) → length first.released ≡ length first.cells → ((n : ℕ) → Built tb (alone k at n) bytes first now (Err e)) → AloneBuilt tb k bytes at first now (Err e)
built_not tb k bytes at given first now (S.BadValue j) flags h = h
built_not tb k bytes at given first now S.Full flags h = λ v b fits. h (length b.0) (wanted [] (More v End)) (More v End) (record { reads = accepts_alone tb given.sound k given.known bytes at v b; wanted = λ j. omega arith; fits = fits; flags = flags })
built_not tb k bytes at given first now S.NoMemory flags h = tt

-- why nothing was read
pub read_not : (tb : Table) (k : ℕ) (bytes : List ℕ) (at : ℕ) (o o' : Outline) (p p' : ℕ) (e : Refused) → ((n : ℕ) → (s : Spot) × IsReading tb (alone k at n) bytes o p s × GoesOn s) → ((s : Spot) → GoesOn s → o ≡ outline_at s → Stepped tb bytes s p (Err e) o' p') → AloneRead tb k bytes at (Err e)
read_not tb k bytes at o o' p p' (R.BadValue j) r step = λ n. let h = r n in reading_stops tb (alone k at n) bytes o o' p p' j h.0 h.1 h.2 step
read_not tb k bytes at o o' p p' R.NoMemory r step = tt

-- before the value nothing is built
pub alone_going : (tb : Table) (k at n p : ℕ) (bytes : List ℕ) (first : Loading) (o : Outline) (ws : List ℕ) → p ≡ at → k ≤ length tb → at ≤ length bytes → o ≡ outline_at (spot_of (k ∷ [])) → ws ≡ [] → IsGoing tb (alone k at n) bytes first o p ws first
alone_going tb k at n p bytes first o ws z t l e w = subst (λ p. IsGoing tb (alone k at n) bytes first o p ws first) (sym z) (record {
  spot = Before k (Alone n);
  reading = alone_starts tb k at n bytes o t l e;
  building = λ want vs read. alone_builds tb k at n bytes want first first o ws vs t l e refl w read;
})

-- a value that stands somewhere begins what comes from there on
pub begins_there : (tb : Table) (k : ℕ) (bytes : List ℕ) (at : ℕ) (v : Value) (end : ℕ) → IsValueAt tb k bytes at v end → BeginsWith tb k (drop at bytes) v
begins_there tb k bytes at v end h = (characters (drop end bytes), h.text)

-- ---- the answers

module _ (tb : Table) (k : ℕ) (bytes : List ℕ) (at : ℕ) (given : IsPlaced tb k bytes at) where
  -- one tree has one word
  one_tree : (trees : Parts) (v : Value) → values_of trees ≡ More v End → (x : Placed) × (trees ≡ MoreParts x NoParts) × (value_of x ≡ v)
  one_tree NoParts v e = cc
  one_tree (MoreParts x NoParts) v e = (x, refl, (let z : value_of x ≡ v = cc in z))
  one_tree (MoreParts x (MoreParts y ys)) v e = cc

  pub value_made : (first now : Loading) (w : ℕ) (words : Vec ℕ Global) → slice_get words.items 0 ≡ Some w → AloneBuilt tb k bytes at first now (Ok words) → IsValueMade tb k (drop at bytes) first now w
  value_made first now w words e h =
      let v = h.0 in
      let b = h.2 in
      let t = one_tree b.trees v b.values in
      let x = t.0 in
      let named : words_of b.trees ≡ word_of x ∷ [] = ap words_of t.1 in
      let held = subst (λ ts. HoldAll now.cells ts) t.1 b.held in
      let typed : HasType tb k (value_of x) = subst (HasType tb k) (sym t.2) (value_typed tb k (characters (drop at bytes)) v (h.1).0 (h.1).1) in
      let l = (b.taken).left in
      let none = words_same 16 (λ k. wanted [] (More v End) k - wanted [] (More v End) k) (λ k. wanted [] (More v End) k - cells_of_all k (More v End)) (free_in now) (free_in now) (λ k le. omega arith) in
      let zero = nothing_left 16 (wanted [] (More v End)) (free_in now) in
      record {
        tree = x;
        spelled = subst (BeginsWith tb k (drop at bytes)) (sym t.2) h.1;
        stands = held_stands tb now.cells k x held.0 typed;
        named = same_Some w (word_of x) (sym e ∙ ap (λ ws. slice_get ws 0) (b.words ∙ named));
        once = λ p. let o = (b.taken).once p in let u = ap (uses_of_all p) t.1 in omega (arith, o, u);
        kept = (b.taken).kept;
        left = ap (λ v. now.left + needed_by first v) t.2 ∙ (let a : now.left + needed_by first v ≡ first.left + words_up_to 16 (λ k. wanted [] (More v End) k - cells_of_all k (More v End)) (free_in now) = l in omega (arith, a, none, zero));
        free = λ j le. (let f : free_in now j ≡ free_in first j - (cells j v + 0) = (b.taken).free j le in let c : cells j (value_of x) ≡ cells j v = ap (cells j) t.2 in omega (arith, f, c));
      }

  -- a value leaves a word
  pub some_word : (first now : Loading) (words : Vec ℕ Global) → slice_get words.items 0 ≡ None → AloneBuilt tb k bytes at first now (Ok words) → ⊥
  some_word first now words e h =
      let t = one_tree (h.2).trees h.0 (h.2).values in
      none-some (word_of t.0) (sym e ∙ ap (λ ws. slice_get ws 0) ((h.2).words ∙ ap words_of t.1))

  -- what was made had room
  pub made_fits : (first now : Loading) (words : Vec ℕ Global) (v : Value) → AloneBuilt tb k bytes at first now (Ok words) → BeginsWith tb k (drop at bytes) v → first.left < needed_by first v → ⊥
  made_fits first now words v h b lt =
      let same : h.0 ≡ v = (value_same tb (is_table tb given.sound) k (characters (drop at bytes)) h.0 v (h.1).0 b.0 (h.1).1 b.1).0 in
      let m = ap (needed_by first) same in
      let w = h.0 in
      let l = ((h.2).taken).left in
      let none = words_same 16 (λ k. wanted [] (More w End) k - wanted [] (More w End) k) (λ k. wanted [] (More w End) k - cells_of_all k (More w End)) (free_in now) (free_in now) (λ k le. omega arith) in
      let zero = nothing_left 16 (wanted [] (More w End)) (free_in now) in
      let a : now.left + needed_by first w ≡ first.left + words_up_to 16 (λ k. wanted [] (More w End) k - cells_of_all k (More w End)) (free_in now) = l in
      absurd (omega (arith, a, none, zero, m, lt))

-- the error is the one that the builder stopped with
pub error_complete : (tb : Table) (k : ℕ) (bytes : List ℕ) (at : ℕ) (given : IsPlaced tb k bytes at) (first now : Loading) (v : Value) (e : B.Stopped) → AloneBuilt tb k bytes at first now (Err e) → BeginsWith tb k (drop at bytes) v → needed_by first v ≤ first.left → error_by e ≡ M.NoMemory
error_complete tb k bytes at given first now v (S.BadValue j) h b le = absurd (never_stops tb given.sound k given.known bytes at j v h b)
error_complete tb k bytes at given first now v S.Full h b le = absurd (h v b le)
error_complete tb k bytes at given first now v S.NoMemory h b le = refl

pub error_too_small : (tb : Table) (k : ℕ) (bytes : List ℕ) (at : ℕ) (given : IsPlaced tb k bytes at) (first now : Loading) (v : Value) (e : B.Stopped) → AloneBuilt tb k bytes at first now (Err e) → BeginsWith tb k (drop at bytes) v → (error_by e ≡ M.Full) ⊎ (error_by e ≡ M.NoMemory)
error_too_small tb k bytes at given first now v (S.BadValue j) h b = absurd (never_stops tb given.sound k given.known bytes at j v h b)
error_too_small tb k bytes at given first now v S.Full h b = inl refl
error_too_small tb k bytes at given first now v S.NoMemory h b = inr refl

pub error_place : (tb : Table) (k : ℕ) (bytes : List ℕ) (at : ℕ) (given : IsPlaced tb k bytes at) (first now : Loading) (e : B.Stopped) (j : ℕ) → AloneBuilt tb k bytes at first now (Err e) → error_by e ≡ M.BadValue j → (d : ℕ) × (j ≡ at + d) × IsPlace (BeginsWith tb k) (drop at bytes) d
error_place tb k bytes at given first now (S.BadValue i) j h e = let same : i ≡ j = cc in stops_at tb given.sound k given.known bytes at j (subst (StopsAt tb k bytes at) same h)
error_place tb k bytes at given first now S.Full j h e = cc
error_place tb k bytes at given first now S.NoMemory j h e = cc
