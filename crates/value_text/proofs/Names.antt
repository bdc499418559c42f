-- Names: which front of a name is known, and where the machine goes or stops in a name.
use Rattle.std.proofs.Common.{◌≡◌, ◌≢◌, ◌⊎◌, inl, inr, ℕ, zero, suc, ◌+◌, ◌-◌, ◌<◌, ◌≤◌, List, [], ◌∷◌, ◌++◌, length, take, drop, get_or, Option, Some, None, Bool, true, false, refl, sym, ap, ap₂, ◌∙◌, subst, append_assoc, arith, length-drop}
use Rattle.std.specs.Prelude.{nat_le, nat_eq, ◌||◌, ◌&&◌, if◌then◌else◌, max, slice_get}
use Rattle.std.proofs.lemmas.Bool.{eqb-true, eq-eqb, leb-true, and_parts, or_right, or_from, or_parts}
use Rattle.std.proofs.lemmas.Bool.Decides.{nat_tests}
use Rattle.std.proofs.lemmas.List.{get_or-drop, take_more, drop-drop, take-take, take-append-drop, length-take-le, append-nil, map-append}
use Rattle.std.proofs.Math.Seq.{take-suc}
use Rattle.fip_language.specs.Prefix.{run, Stopped, or_stop}
use Rattle.fip_language.specs.Values.{Node, End}
use Rattle.fip_language.specs.Table.{Shape, Table, shapes, constructors}
use Rattle.fip_language.specs.SoundTable.{IsSoundTable}
use Rattle.fip_language.specs.Character.{Character, Blank, Line, Open, Close, Comma, Minus, Digit, Letter, Other, is_blank, character, characters, are_name_bytes, is_upper_name}
use Rattle.value_text.specs.Machine.{Around, State, Want, Naming, named, any_begins, begins, same_character, pass, naming, pass_named, act, over, over_named, final, step, lookup}
use Rattle.value_text.specs.Scan.{runs, is_name_byte, begins_bytes, some_begins, IsLongest}
use Rattle.value_text.proofs.Text.{lookup_begins}
use Rattle.value_text.proofs.Tables.{is_table, found_shape, name_byte, same_bytes, upper_bytes}
use Rattle.value_text.proofs.Runs.{runs_alike, stops, ends_short, pass_filled, over_filled, is_blank_char, blank_char}
use Rattle.fip_language.proofs.Facts.{and_false}

-- fronts
pub begins_more : (text other : List ℕ) (i : ℕ) → i < length text → i < length other → get_or text i 0 ≡ get_or other i 0 → begins_bytes (take i text) other ≡ true → begins_bytes (take (i + 1) text) other ≡ true
begins_more text other i l m e h = let n : i + 1 ≡ suc i = omega arith in ap (λ n. begins_bytes (take n text) other) n ∙ on text other i l m e h where
  on : (text other : List ℕ) (i : ℕ) → i < length text → i < length other → get_or text i 0 ≡ get_or other i 0 → begins_bytes (take i text) other ≡ true → begins_bytes (take (suc i) text) other ≡ true
  on [] other i l m e h = absurd (omega arith)
  on (t ∷ ts) [] i l m e h = absurd (omega arith)
  on (t ∷ ts) (d ∷ ds) zero l m e h = ap (λ b. b && true) (eq-eqb t d e)
  on (t ∷ ts) (d ∷ ds) (suc i) l m e h = let k = and_parts (nat_eq t d) (begins_bytes (take i ts) ds) h in ap₂ (λ a b. a && b) k.0 (on ts ds i (omega arith) (omega arith) e k.1)

pub begins_short : (text other : List ℕ) (i : ℕ) → i < length text → length other ≤ i → begins_bytes (take (suc i) text) other ≡ false
begins_short [] other i l m = absurd (omega arith)
begins_short (t ∷ ts) [] i l m = refl
begins_short (t ∷ ts) (d ∷ ds) zero l m = absurd (omega arith)
begins_short (t ∷ ts) (d ∷ ds) (suc i) l m = ap (λ b. nat_eq t d && b) (begins_short ts ds i (omega arith) (omega arith)) ∙ and_false (nat_eq t d)

pub begins_unlike : (text other : List ℕ) (i : ℕ) → i < length text → i < length other → get_or text i 0 ≢ get_or other i 0 → begins_bytes (take (suc i) text) other ≡ false
begins_unlike [] other i l m n = absurd (omega arith)
begins_unlike (t ∷ ts) [] i l m n = absurd (omega arith)
begins_unlike (t ∷ ts) (d ∷ ds) zero l m n = let e : nat_eq t d ≡ false = grind (arith, nat_tests) in ap (λ b. b && true) e
begins_unlike (t ∷ ts) (d ∷ ds) (suc i) l m n = ap (λ b. nat_eq t d && b) (begins_unlike ts ds i (omega arith) (omega arith) n) ∙ and_false (nat_eq t d)

-- a shorter front begins too
begins_less : (i j : ℕ) (text other : List ℕ) → i ≤ j → begins_bytes (take j text) other ≡ true → begins_bytes (take i text) other ≡ true
begins_less zero j text other le h = refl
begins_less (suc i) zero text other le h = absurd (omega arith)
begins_less (suc i) (suc j) [] other le h = refl
begins_less (suc i) (suc j) (t ∷ ts) [] le h = cc
begins_less (suc i) (suc j) (t ∷ ts) (d ∷ ds) le h = let k = and_parts (nat_eq t d) (begins_bytes (take j ts) ds) h in ap₂ (λ a b. a && b) k.0 (begins_less i j ts ds (omega arith) k.1)

some_push : (front : List ℕ) (ss : List Shape) (s : Shape) → some_begins front (ss ++ s ∷ []) ≡ (some_begins front ss || begins_bytes front s.name)
some_push front [] s = last (begins_bytes front s.name) where
  last : (b : Bool) → (b || false) ≡ b
  last true = refl
  last false = refl
some_push front (r ∷ ss) s = ap (λ b. begins_bytes front r.name || b) (some_push front ss s) ∙ assoc (begins_bytes front r.name) (some_begins front ss) (begins_bytes front s.name) where
  assoc : (a b c : Bool) → (a || (b || c)) ≡ ((a || b) || c)
  assoc true b c = refl
  assoc false b c = refl

false_less : (i j : ℕ) (text other : List ℕ) → i ≤ j → begins_bytes (take i text) other ≡ false → (t : Bool) → begins_bytes (take j text) other ≡ t → begins_bytes (take j text) other ≡ false
false_less i j text other le f true e = let h = begins_less i j text other le e in cc
false_less i j text other le f false e = e

some_less : (i j : ℕ) (text : List ℕ) (ss : List Shape) → i ≤ j → some_begins (take i text) ss ≡ false → some_begins (take j text) ss ≡ false
some_less i j text [] le f = refl
some_less i j text (s ∷ ss) le f =
    let k = or_parts (begins_bytes (take i text) s.name) (some_begins (take i text) ss) f in
    or_from (begins_bytes (take j text) s.name) (some_begins (take j text) ss) (false_less i j text s.name le k.0 (begins_bytes (take j text) s.name) refl) (some_less i j text ss le k.1)

pub longest_none : (text : List ℕ) → IsLongest text [] 0
longest_none text = record { within = omega arith; begun = inl refl; longest = λ l. refl }

longest_by : (text : List ℕ) (ss : List Shape) (s : Shape) (m k : ℕ) → IsLongest text ss m → k ≤ length text → begins_bytes (take k text) s.name ≡ true → (k < length text → begins_bytes (take (suc k) text) s.name ≡ false) → (t : Bool) → nat_le m k ≡ t → IsLongest text (ss ++ s ∷ []) (max m k)
longest_by text ss s m k h le b l true e =
    let mk = leb-true m k e in
    let q : k ≡ max m k = omega (arith, mk) in
    let r : IsLongest text (ss ++ s ∷ []) k = record {
      within = le;
      begun = inr (some_push (take k text) ss s ∙ or_right (some_begins (take k text) ss) (begins_bytes (take k text) s.name) b);
      longest = λ lt. some_push (take (suc k) text) ss s ∙ or_from (some_begins (take (suc k) text) ss) (begins_bytes (take (suc k) text) s.name) (some_less (suc m) (suc k) text ss (omega (arith, mk)) (h.longest (omega (arith, mk, lt)))) (l lt);
    } in
    subst (IsLongest text (ss ++ s ∷ [])) q r
longest_by text ss s m k h le b l false e =
    let km : k < m = grind (arith, nat_tests) in
    let q : m ≡ max m k = omega (arith, km) in
    let r : IsLongest text (ss ++ s ∷ []) m = record {
      within = h.within;
      begun = begun_on h.begun;
      longest = λ lt. some_push (take (suc m) text) ss s ∙ or_from (some_begins (take (suc m) text) ss) (begins_bytes (take (suc m) text) s.name) (h.longest lt) (false_less (suc k) (suc m) text s.name (omega (arith, km)) (l (let w = h.within in omega (arith, km, w))) (begins_bytes (take (suc m) text) s.name) refl);
    } in
    subst (IsLongest text (ss ++ s ∷ [])) q r where
      begun_on : (m ≡ 0) ⊎ (some_begins (take m text) ss ≡ true) → (m ≡ 0) ⊎ (some_begins (take m text) (ss ++ s ∷ []) ≡ true)
      begun_on (inl z) = inl z
      begun_on (inr z) = inr (some_push (take m text) ss s ∙ ap (λ a. a || begins_bytes (take m text) s.name) z)

pub longest_more : (text : List ℕ) (ss : List Shape) (i : ℕ) (s : Shape) (m k : ℕ) → i < length ss → s ≡ get_or ss i s → IsLongest text (take i ss) m → k ≤ length text → begins_bytes (take k text) s.name ≡ true → (k < length text → begins_bytes (take (suc k) text) s.name ≡ false) → IsLongest text (take (i + 1) ss) (max m k)
longest_more text ss i s m k lt e h le b l =
    let z : take i ss ++ s ∷ [] ≡ take (i + 1) ss = ap (λ (s : Shape). take i ss ++ s ∷ []) e ∙ sym (take_more ss i s lt) in
    subst (λ ss. IsLongest text ss (max m k)) z (longest_by text (take i ss) s m k h le b l (nat_le m k) refl)

-- the machine before a name, after blanks
want_char : (tb : Table) (t : ℕ) (around : Around) (c : Character) → is_blank_char c ≡ false → act tb (Want (suc t) around) c ≡ act tb (Naming t [] around) c
want_char tb t around Blank e = cc
want_char tb t around Line e = refl
want_char tb t around Open e = refl
want_char tb t around Close e = refl
want_char tb t around Comma e = refl
want_char tb t around Minus e = refl
want_char tb t around (Digit d) e = refl
want_char tb t around (Letter b) e = refl
want_char tb t around Other e = refl

pub want_naming : (tb : Table) (bytes : List ℕ) (t : ℕ) (around : Around) (i : ℕ) → i ≤ length bytes → (i < length bytes → is_blank (get_or bytes i 0) ≡ false) → runs tb bytes (Want (suc t) around) i ≡ runs tb bytes (Naming t [] around) i
want_naming tb bytes t around i le e = runs_alike tb bytes (Want (suc t) around) (Naming t [] around) i le (λ lt. want_char tb t around (character (get_or bytes i 0)) (blank_char (get_or bytes i 0) ∙ e lt)) refl

-- one byte of a name
name_act : (tb : Table) (t : ℕ) (front : List Character) (around : Around) (b : ℕ) → is_name_byte b ≡ true → act tb (Naming t front around) (character b) ≡ naming tb t (front ++ character b ∷ []) around
name_act tb t front around b e = by_char (name_byte b e) where
  by_char : ((48 ≤ b) × (character b ≡ Digit (b - 48))) ⊎ (character b ≡ Letter b) → act tb (Naming t front around) (character b) ≡ naming tb t (front ++ character b ∷ []) around
  by_char (inl k) = subst (λ c. act tb (Naming t front around) c ≡ naming tb t (front ++ c ∷ []) around) (sym k.1) refl
  by_char (inr k) = subst (λ c. act tb (Naming t front around) c ≡ naming tb t (front ++ c ∷ []) around) (sym k) refl

begins_front : (a b name : List Character) → begins (a ++ b) name ≡ true → begins a name ≡ true
begins_front [] b name e = refl
begins_front (c ∷ a) b [] e = e
begins_front (c ∷ a) b (d ∷ name) e = let h = and_parts (same_character c d) (begins (a ++ b) name) e in ap₂ (λ x y. x && y) h.0 (begins_front a b name h.1)

any_front : (a b : List Character) (ss : List Shape) → any_begins (a ++ b) ss ≡ true → any_begins a ss ≡ true
any_front a b [] e = cc
any_front a b (s ∷ ss) e = by_first (begins (a ++ b) (characters s.name)) (begins_front a b (characters s.name)) (any_front a b ss) e where
  keep : (x y : Bool) → y ≡ true → (if x then true else y) ≡ true
  keep true y e = refl
  keep false y e = e

  by_first : (t : Bool) → (t ≡ true → begins a (characters s.name) ≡ true) → (any_begins (a ++ b) ss ≡ true → any_begins a ss ≡ true) → (if t then true else any_begins (a ++ b) ss) ≡ true → any_begins a (s ∷ ss) ≡ true
  by_first true f g e = ap (λ t. if t then true else any_begins a ss) (f refl)
  by_first false f g e = keep (begins a (characters s.name)) (any_begins a ss) (g e)

-- the bytes of a front of a constructor's name
name_run : (tb : Table) (t : ℕ) (around : Around) (ns rest : List ℕ) (front : List Character) (i : ℕ) → are_name_bytes ns ≡ true → any_begins (front ++ characters ns) (shapes tb t) ≡ true → run (step tb) (final tb) (Naming t front around) (ns ++ rest) i ≡ run (step tb) (final tb) (Naming t (front ++ characters ns) around) rest (i + length ns)
name_run tb t around [] rest front i n e =
    let z : i ≡ i + 0 = omega arith in
    ap (λ f. run (step tb) (final tb) (Naming t f around) rest i) (sym (append-nil front)) ∙ ap (λ i. run (step tb) (final tb) (Naming t (front ++ []) around) rest i) z
name_run tb t around (b ∷ ns) rest front i n e =
    let k = and_parts (is_name_byte b) (are_name_bytes ns) n in
    let c = character b in
    let same : (front ++ c ∷ []) ++ characters ns ≡ front ++ c ∷ characters ns = append_assoc front (c ∷ []) (characters ns) in
    let e2 : any_begins ((front ++ c ∷ []) ++ characters ns) (shapes tb t) ≡ true = ap (λ f. any_begins f (shapes tb t)) same ∙ e in
    let one = any_front (front ++ c ∷ []) (characters ns) (shapes tb t) e2 in
    let z : i + 1 + length ns ≡ i + suc (length ns) = omega arith in
    ap (λ o. or_stop o i (λ s. run (step tb) (final tb) s (ns ++ rest) (i + 1))) (name_act tb t front around b k.0 ∙ ap (λ (u : Bool). if u then Some (Naming t (front ++ c ∷ []) around) else None) one)
    ∙ name_run tb t around ns rest (front ++ c ∷ []) (i + 1) k.1 e2
    ∙ ap (λ f. run (step tb) (final tb) (Naming t f around) rest (i + 1 + length ns)) same
    ∙ ap (λ i. run (step tb) (final tb) (Naming t (front ++ c ∷ characters ns) around) rest i) z

-- m bytes of a name were read
pub to_front : (tb : Table) (bytes : List ℕ) (t : ℕ) (around : Around) (i m : ℕ) → i + m ≤ length bytes → are_name_bytes (take m (drop i bytes)) ≡ true → (m ≡ 0) ⊎ (any_begins (characters (take m (drop i bytes))) (shapes tb t) ≡ true) → runs tb bytes (Naming t [] around) i ≡ runs tb bytes (Naming t (characters (take m (drop i bytes))) around) (i + m)
to_front tb bytes t around i m le n (inl z) =
    let e : i ≡ i + m = omega (arith, z) in
    let f : [] ≡ characters (take m (drop i bytes)) = ap (λ m. characters (take m (drop i bytes))) (sym z) in
    ap (λ f. runs tb bytes (Naming t f around) i) f ∙ ap (λ j. runs tb bytes (Naming t (characters (take m (drop i bytes))) around) j) e
to_front tb bytes t around i m le n (inr b) =
    let ns = take m (drop i bytes) in
    let split : drop i bytes ≡ ns ++ drop (i + m) bytes = sym (take-append-drop m (drop i bytes)) ∙ ap (λ r. ns ++ r) (drop-drop m i bytes) in
    let len : length ns ≡ m = length-take-le m (drop i bytes) (omega (arith, length-drop i bytes, le)) in
    ap (λ ts. run (step tb) (final tb) (Naming t [] around) ts i) split ∙ name_run tb t around ns (drop (i + m) bytes) [] i n b ∙ ap (λ k. run (step tb) (final tb) (Naming t (characters ns) around) (drop (i + m) bytes) (i + k)) len

abbrev is_name_char : Character → Bool
is_name_char (Digit d) = true
is_name_char (Letter b) = true
is_name_char _ = false

name_char : (b : ℕ) → is_name_char (character b) ≡ is_name_byte b
name_char b = grind (arith, nat_tests)

name_leaves : (tb : Table) (t : ℕ) (front : List Character) (around : Around) (c : Character) → is_name_char c ≡ false → act tb (Naming t front around) c ≡ pass_named (lookup 0 front (shapes tb t)) around c
name_leaves tb t front around (Digit d) e = cc
name_leaves tb t front around (Letter d) e = cc
name_leaves tb t front around Blank e = refl
name_leaves tb t front around Line e = refl
name_leaves tb t front around Open e = refl
name_leaves tb t front around Close e = refl
name_leaves tb t front around Comma e = refl
name_leaves tb t front around Minus e = refl
name_leaves tb t front around Other e = refl

pass_of_named : (tb : Table) (c : ℕ) (fields : List ℕ) (around : Around) (ch : Character) → pass (named c fields around) ch ≡ act tb (named c fields around) ch
pass_of_named tb c [] around ch = pass_filled tb around (Node c End) ch
pass_of_named tb c (k ∷ ks) around ch = refl

over_of_named : (tb : Table) (c : ℕ) (fields : List ℕ) (around : Around) → over (named c fields around) ≡ final tb (named c fields around)
over_of_named tb c [] around = over_filled tb around (Node c End)
over_of_named tb c (k ∷ ks) around = refl

-- a name that is found is over where no letter follows
pub name_over : (tb : Table) (bytes : List ℕ) (t : ℕ) (front : List Character) (around : Around) (c : ℕ) (fields : List ℕ) (i : ℕ) → lookup 0 front (shapes tb t) ≡ Some (c, fields) → i ≤ length bytes → (i < length bytes → is_name_byte (get_or bytes i 0) ≡ false) → runs tb bytes (Naming t front around) i ≡ runs tb bytes (named c fields around) i
name_over tb bytes t front around c fields i e le n =
    runs_alike tb bytes (Naming t front around) (named c fields around) i le
    (λ lt. let ch = character (get_or bytes i 0) in name_leaves tb t front around ch (name_char (get_or bytes i 0) ∙ n lt) ∙ ap (λ o. pass_named o around ch) e ∙ pass_of_named tb c fields around ch)
    (ap (λ o. over_named o around) e ∙ over_of_named tb c fields around)

pub name_unknown : (tb : Table) (bytes : List ℕ) (t : ℕ) (front : List Character) (around : Around) (i : ℕ) → lookup 0 front (shapes tb t) ≡ None → i ≤ length bytes → (i < length bytes → is_name_byte (get_or bytes i 0) ≡ false) → runs tb bytes (Naming t front around) i ≡ Stopped i
name_unknown tb bytes t front around i e le n = by_end (nat_le (suc i) (length bytes)) refl where
  by_end : (u : Bool) → nat_le (suc i) (length bytes) ≡ u → runs tb bytes (Naming t front around) i ≡ Stopped i
  by_end true u =
      let lt : i < length bytes = let h = leb-true (suc i) (length bytes) u in omega arith in
      let ch = character (get_or bytes i 0) in
      stops tb bytes (Naming t front around) i lt (name_leaves tb t front around ch (name_char (get_or bytes i 0) ∙ n lt) ∙ ap (λ o. pass_named o around ch) e)
  by_end false u =
      let at : i ≡ length bytes = grind (arith, nat_tests) in
      ends_short tb bytes (Naming t front around) i at (ap (λ o. over_named o around) e)

-- fronts as characters and as bytes
same_char_byte : (a b : ℕ) → ((48 ≤ a) × (character a ≡ Digit (a - 48))) ⊎ (character a ≡ Letter a) → ((48 ≤ b) × (character b ≡ Digit (b - 48))) ⊎ (character b ≡ Letter b) → same_character (character a) (character b) ≡ nat_eq a b
same_char_byte a b (inl k) (inl h) = ap₂ same_character k.1 h.1 ∙ (let x = k.0 in let y = h.0 in grind (arith, nat_tests))
same_char_byte a b (inl k) (inr h) = ap₂ same_character k.1 h ∙ unlike (nat_eq a b) refl where
  unlike : (t : Bool) → nat_eq a b ≡ t → false ≡ nat_eq a b
  unlike true e = let z = eqb-true a b e in let q = ap character z in cc
  unlike false e = sym e
same_char_byte a b (inr k) (inl h) = ap₂ same_character k h.1 ∙ unlike (nat_eq a b) refl where
  unlike : (t : Bool) → nat_eq a b ≡ t → false ≡ nat_eq a b
  unlike true e = let z = eqb-true a b e in let q = ap character z in cc
  unlike false e = sym e
same_char_byte a b (inr k) (inr h) = ap₂ same_character k h

begins_chars : (front name : List ℕ) → are_name_bytes front ≡ true → are_name_bytes name ≡ true → begins (characters front) (characters name) ≡ begins_bytes front name
begins_chars [] name f n = refl
begins_chars (a ∷ front) [] f n = refl
begins_chars (a ∷ front) (b ∷ name) f n =
    let p = and_parts (is_name_byte a) (are_name_bytes front) f in
    let q = and_parts (is_name_byte b) (are_name_bytes name) n in
    ap₂ (λ x y. x && y) (same_char_byte a b (name_byte a p.0) (name_byte b q.0)) (begins_chars front name p.1 q.1)

some_chars : (front : List ℕ) (ss : List Shape) → are_name_bytes front ≡ true → ((c : ℕ) (s : Shape) → slice_get ss c ≡ Some s → is_upper_name s.name ≡ true) → any_begins (characters front) ss ≡ some_begins front ss
some_chars front [] f n = refl
some_chars front (s ∷ ss) f n = ap₂ (λ x y. if x then true else y) (begins_chars front s.name f (upper_bytes s.name (n 0 s refl))) (some_chars front ss f (λ c. n (suc c))) ∙ as_or (begins_bytes front s.name) (some_begins front ss) where
  as_or : (x y : Bool) → (if x then true else y) ≡ (x || y)
  as_or true y = refl
  as_or false y = refl

name_bytes_take : (m : ℕ) (xs : List ℕ) → are_name_bytes xs ≡ true → are_name_bytes (take m xs) ≡ true
name_bytes_take zero xs e = refl
name_bytes_take (suc m) [] e = refl
name_bytes_take (suc m) (x ∷ xs) e = let k = and_parts (is_name_byte x) (are_name_bytes xs) e in ap₂ (λ a b. a && b) k.0 (name_bytes_take m xs k.1)

-- Where the name is no constructor's: m is its longest known front.
module _ (tb : Table) (sound : IsSoundTable tb) (bytes : List ℕ) (t : ℕ) (around : Around) (i n m : ℕ) (le : i + n ≤ length bytes) (name : are_name_bytes (take n (drop i bytes)) ≡ true) (following : i + n < length bytes → is_name_byte (get_or bytes (i + n) 0) ≡ false) (longest : IsLongest (take n (drop i bytes)) (shapes tb t) m) where
  abbrev text : List ℕ
  text = take n (drop i bytes)

  len : length text ≡ n
  len = length-take-le n (drop i bytes) (omega (arith, length-drop i bytes, le))

  short : m ≤ n
  short = let h = longest.within in omega (arith, h, len)

  fronts : (k : ℕ) → k ≤ n → take k text ≡ take k (drop i bytes)
  fronts k h = take-take k n (drop i bytes) h

  known : (k : ℕ) → any_begins (characters (take k text)) (shapes tb t) ≡ some_begins (take k text) (shapes tb t)
  known k = some_chars (take k text) (shapes tb t) (name_bytes_take k text name) (sound.names t)

  begun : (m ≡ 0) ⊎ (some_begins (take m text) (shapes tb t) ≡ true) → (m ≡ 0) ⊎ (any_begins (characters (take m (drop i bytes))) (shapes tb t) ≡ true)
  begun (inl z) = inl z
  begun (inr z) = inr (ap (λ f. any_begins (characters f) (shapes tb t)) (sym (fronts m short)) ∙ known m ∙ z)

  reached : runs tb bytes (Naming t [] around) i ≡ runs tb bytes (Naming t (characters (take m (drop i bytes))) around) (i + m)
  reached = to_front tb bytes t around i m (omega (arith, short, le)) (ap are_name_bytes (sym (fronts m short)) ∙ name_bytes_take m text name) (begun longest.begun)

  inside : m < n → runs tb bytes (Naming t (characters (take m (drop i bytes))) around) (i + m) ≡ Stopped (i + m)
  inside lt =
      let b = get_or bytes (i + m) 0 in
      let here : get_or (drop i bytes) m 0 ≡ b = get_or-drop i bytes m 0 in
      let more : take (suc m) (drop i bytes) ≡ take m (drop i bytes) ++ b ∷ [] = take-suc (drop i bytes) m 0 (omega (arith, lt, length-drop i bytes, le)) ∙ ap (λ b. take m (drop i bytes) ++ b ∷ []) here in
      let is : is_name_byte b ≡ true = last_is (take m (drop i bytes)) b (ap are_name_bytes (sym (fronts (suc m) lt ∙ more)) ∙ name_bytes_take (suc m) text name) in
      let chars : characters (take m (drop i bytes)) ++ character b ∷ [] ≡ characters (take (suc m) (drop i bytes)) = sym (ap characters more ∙ map-append character (take m (drop i bytes)) (b ∷ [])) in
      let none : any_begins (characters (take m (drop i bytes)) ++ character b ∷ []) (shapes tb t) ≡ false = ap (λ f. any_begins f (shapes tb t)) chars ∙ ap (λ f. any_begins (characters f) (shapes tb t)) (sym (fronts (suc m) lt)) ∙ known (suc m) ∙ longest.longest (omega (arith, lt, len)) in
      stops tb bytes (Naming t (characters (take m (drop i bytes))) around) (i + m) (omega (arith, lt, le)) (name_act tb t (characters (take m (drop i bytes))) around b is ∙ ap (λ (u : Bool). if u then Some (Naming t (characters (take m (drop i bytes)) ++ character b ∷ []) around) else None) none) where
        last_is : (xs : List ℕ) (b : ℕ) → are_name_bytes (xs ++ b ∷ []) ≡ true → is_name_byte b ≡ true
        last_is [] b e = (and_parts (is_name_byte b) true e).0
        last_is (x ∷ xs) b e = last_is xs b (and_parts (is_name_byte x) (are_name_bytes (xs ++ b ∷ [])) e).1

  pub name_stops : lookup 0 (characters text) (shapes tb t) ≡ None → runs tb bytes (Naming t [] around) i ≡ Stopped (i + m)
  name_stops e = reached ∙ by_end (nat_le (suc m) n) refl where
    by_end : (u : Bool) → nat_le (suc m) n ≡ u → runs tb bytes (Naming t (characters (take m (drop i bytes))) around) (i + m) ≡ Stopped (i + m)
    by_end true u = inside (let h = leb-true (suc m) n u in omega arith)
    by_end false u =
        let q : n ≡ m = let s = short in grind (arith, nat_tests) in
        let at : i + n ≡ i + m = ap (λ k. i + k) q in
        name_unknown tb bytes t (characters (take m (drop i bytes))) around (i + m) (ap (λ k. lookup 0 (characters (take k (drop i bytes))) (shapes tb t)) (sym q) ∙ e) (omega (arith, le, q)) (λ lt. ap (λ k. is_name_byte (get_or bytes k 0)) (sym at) ∙ following (omega (arith, lt, at)))

-- a name that no constructor has is not found
pub not_found : (tb : Table) → IsSoundTable tb → (t : ℕ) (text : List ℕ) → are_name_bytes text ≡ true → (text ≢ [] → (c : ℕ) → (s : Shape) × (slice_get (shapes tb t) c ≡ Some s) × (s.name ≡ text) → ⊥) → lookup 0 (characters text) (shapes tb t) ≡ None
not_found tb sound t text n h = by_lookup (lookup 0 (characters text) (shapes tb t)) refl where
  not_empty : (s : Shape) → is_upper_name s.name ≡ true → text ≡ [] → s.name ≡ text → ⊥
  not_empty s u e k = let z : s.name ≡ [] = k ∙ e in let q = sym u ∙ ap is_upper_name z in cc

  by_lookup : (o : Option (ℕ × List ℕ)) → lookup 0 (characters text) (shapes tb t) ≡ o → lookup 0 (characters text) (shapes tb t) ≡ None
  by_lookup None e = e
  by_lookup (Some r) e =
      let f = found_shape (characters text) (shapes tb t) 0 r e in
      let u = sound.names t f.c f.s f.there in
      let k : f.s.name ≡ text = sym (same_bytes text f.s.name n (upper_bytes f.s.name u) f.same) in
      absurd (h (λ e. not_empty f.s u e k) f.c (f.s, f.there, k))

-- the name of a constructor has bytes of names alone
pub name_bytes : (tb : Table) → IsSoundTable tb → (ty c : ℕ) (text : List ℕ) → 0 < ty → (s : Shape) × (slice_get (constructors tb ty) c ≡ Some s) × (s.name ≡ text) → are_name_bytes text ≡ true
name_bytes tb sound zero c text z h = absurd (omega (arith, z))
name_bytes tb sound (suc t) c text z h = ap are_name_bytes (sym h.2) ∙ upper_bytes (h.0).name (sound.names t c h.0 h.1)

-- what the reader of a name gives, where it found the name and where not
module _ (tb : Table) (sound : IsSoundTable tb) (bytes : List ℕ) (at start end : ℕ) (text : List ℕ) (from : start ≤ end) (within : end ≤ length bytes) (is : text ≡ take (end - start) (drop start bytes)) (name : are_name_bytes (take (end - start) (drop start bytes)) ≡ true) (following : end < length bytes → is_name_byte (get_or bytes end 0) ≡ false) (skips : (s : State) → act tb s Blank ≡ Some s → runs tb bytes s at ≡ runs tb bytes s start) (first : start < length bytes → is_blank (get_or bytes start 0) ≡ false) where
  n : ℕ
  n = end - start

  ends_at : start + (end - start) ≡ end
  ends_at = omega (arith, from)

  begins_at : (t : ℕ) (around : Around) → runs tb bytes (Want (suc t) around) at ≡ runs tb bytes (Naming t [] around) start
  begins_at t around = skips (Want (suc t) around) refl ∙ want_naming tb bytes t around start (omega (arith, from, within)) first

  found_runs : (t c : ℕ) (s : Shape) → slice_get (shapes tb t) c ≡ Some s → s.name ≡ text → (around : Around) → runs tb bytes (Want (suc t) around) at ≡ runs tb bytes (named c s.fields around) end
  found_runs t c s e k around =
      let front = characters (take (end - start) (drop start bytes)) in
      let same : characters s.name ≡ front = ap characters (k ∙ is) in
      let l : lookup 0 front (shapes tb t) ≡ Some (c, s.fields) = ap (λ f. lookup 0 f (shapes tb t)) (sym same) ∙ (is_table tb sound).unique t c s e in
      let b : any_begins front (shapes tb t) ≡ true = lookup_begins front [] (shapes tb t) (c, s.fields) 0 (ap (λ f. lookup 0 f (shapes tb t)) (append-nil front) ∙ l) in
      begins_at t around
      ∙ to_front tb bytes t around start (end - start) (omega (arith, from, within)) name (inr b)
      ∙ ap (λ i. runs tb bytes (Naming t front around) i) ends_at
      ∙ name_over tb bytes t front around c s.fields end l within following

  pub name_found : (ty c : ℕ) → 0 < ty → (s : Shape) × (slice_get (constructors tb ty) c ≡ Some s) × (s.name ≡ text) → (s : Shape) × (slice_get (constructors tb ty) c ≡ Some s) × ((around : Around) → runs tb bytes (Want ty around) at ≡ runs tb bytes (named c s.fields around) end)
  name_found zero c z h = absurd (omega (arith, z))
  name_found (suc t) c z h = (h.0, h.1, found_runs t c h.0 h.1 h.2)

  pub name_lost : (ty m : ℕ) → 0 < ty → (text ≢ [] → (c : ℕ) → (s : Shape) × (slice_get (constructors tb ty) c ≡ Some s) × (s.name ≡ text) → ⊥) → IsLongest text (constructors tb ty) m → (around : Around) → runs tb bytes (Want ty around) at ≡ Stopped (start + m)
  name_lost zero m z h l around = absurd (omega (arith, z))
  name_lost (suc t) m z h l around =
      let e = not_found tb sound t text (ap are_name_bytes is ∙ name) h in
      begins_at t around
      ∙ name_stops tb sound bytes t around start (end - start) m (omega (arith, from, within)) name
      (λ lt. ap (λ k. is_name_byte (get_or bytes k 0)) ends_at ∙ following (omega (arith, from, lt)))
      (subst (λ x. IsLongest x (shapes tb t) m) is l)
      (ap (λ x. lookup 0 (characters x) (shapes tb t)) (sym is) ∙ e)
