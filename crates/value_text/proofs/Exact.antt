-- Each state can be completed, so the machine stops at the least place.
use Rattle.std.proofs.Common.{◌≡◌, ℕ, zero, suc, ◌+◌, ◌*◌, ◌≤◌, List, [], ◌∷◌, ◌++◌, length, Option, Some, None, Bool, true, false, refl, sym, ap, ap₂, ◌∙◌, subst, arith}
use Rattle.std.specs.Prelude.{nat_le, replicate, if◌then◌else◌}
use Rattle.std.proofs.lemmas.Bool.{leb-true, and_parts}
use Rattle.std.proofs.lemmas.List.{map-append, append-nil}
use Rattle.std.proofs.lemmas.Option.{same_Some, cond_some}
use Rattle.fip_language.specs.Prefix.{run, Accepted, Stopped}
use Rattle.fip_language.specs.Prefix.{Begins, IsPlace}
use Rattle.fip_language.proofs.Prefix.{IsExact, stops_at_place, accepts, accepted}
use Rattle.fip_language.specs.Values.{Value, Int, Node, Values, End, More}
use Rattle.fip_language.specs.Table.{Shape, Table, shapes, HasType, HaveTypes}
use Rattle.fip_language.specs.Character.{Character, Blank, Line, Open, Close, Comma, Minus, Digit, Letter, Other, character, characters}
use Rattle.fip_language.specs.ValueText.{skip, number, after_number, bound, int_of, ValueText, FieldsText, LinesText, InputText, SpellsValues}
use Rattle.fip_language.specs.PrintedText.{printed, printed_fields, printed_more, printed_lines}
use Rattle.value_text.specs.Machine.{same_character, same_text, begins, lookup, join, snoc, Around, Alone, Lines, Field, State, Want, Naming, Signed, Number, Await, Over, Past, filled, named, any_begins, is_sign, pass, naming, pass_named, in_name, numbered, act, over, over_named, final, start, step}
use Rattle.value_text.proofs.Tables.{same_refl, same_is, name_chars_of, AreNameChars, IsName, AreNames, Alive, AllAlive, IsTable}
use Rattle.value_text.proofs.Residual.{node_text, Ends, Completes, IsPass, InBound, filled_takes, filled_is_pass, named_takes, named_gives, named_is_pass, filled_gives, takes, gives}
use Rattle.value_text.proofs.Reread.{IsBreak, value_reads, fields_read, more_read, fields_break, name_reads}

abbrev pub GoodAround : Table → Around → Type 0
GoodAround tb (Alone n) = Unit {0}
GoodAround tb (Lines done rest) = Alive tb rest
GoodAround tb (Field c done rest around) = Alive tb rest × GoodAround tb around

abbrev pub Good : Table → State → Type 0
Good tb (Want k around) = ((v : Value) × HasType tb k v) × GoodAround tb around
Good tb (Naming t front around) = (any_begins front (shapes tb t) ≡ true) × GoodAround tb around
Good tb (Signed around) = GoodAround tb around
Good tb (Number neg n around) = (n ≤ bound neg) × GoodAround tb around
Good tb (Await sign next) = (is_sign sign sign ≡ true) × Good tb next
Good tb (Over vs) = Unit {0}
Good tb (Past n vs) = Unit {0}

-- keeps
pub good_filled : (tb : Table) (around : Around) (v : Value) → GoodAround tb around → Good tb (filled around v)
good_filled tb (Alone n) v g = tt
good_filled tb (Lines done []) v g = tt
good_filled tb (Lines done (k ∷ ks)) v g = (refl, (g.0, g.1))
good_filled tb (Field c done [] around) v g = (refl, good_filled tb around (Node c (snoc done v)) g.1)
good_filled tb (Field c done (k ∷ ks) around) v g = let a = g.0 in (refl, (a.0, (a.1, g.1)))

good_named : (tb : Table) (c : ℕ) (fields : List ℕ) (around : Around) → Alive tb fields → GoodAround tb around → Good tb (named c fields around)
good_named tb c [] around a g = good_filled tb around (Node c End) g
good_named tb c (k ∷ ks) around a g = (refl, (a.0, (a.1, g)))

alive_step : (tb : Table) (name : List Character) (i : ℕ) (s : Shape) (ss : List Shape) (r : ℕ × List ℕ) → Alive tb s.fields → ((i : ℕ) → lookup i name ss ≡ Some r → Alive tb r.1) → (t : Bool) → (if t then Some (i, s.fields) else lookup (suc i) name ss) ≡ Some r → Alive tb r.1
alive_step tb name i s ss r a rest true e = let same : s.fields ≡ r.1 = cc in subst (Alive tb) same a
alive_step tb name i s ss r a rest false e = rest (suc i) e

found_alive : (tb : Table) (name : List Character) (ss : List Shape) (r : ℕ × List ℕ) → AllAlive tb ss → (i : ℕ) → lookup i name ss ≡ Some r → Alive tb r.1
found_alive tb name [] r a i e = cc
found_alive tb name (s ∷ ss) r a i e = alive_step tb name i s ss r a.0 (found_alive tb name ss r a.1) (same_text name (characters s.name)) e

sign_keeps : (tb : Table) (sign : Character) (next s' : State) (c : Character) → Good tb next → (if is_sign sign c then Some next else None) ≡ Some s' → Good tb s'
sign_keeps tb sign next s' c g e = subst (Good tb) (cond_some (is_sign sign c) next s' e).1 g

pass_keeps : (tb : Table) (s : State) (c : Character) (s' : State) → Good tb s → pass s c ≡ Some s' → Good tb s'
pass_keeps tb (Await sign next) Blank s' g e = subst (Good tb) (same_Some (Await sign next) s' e) g
pass_keeps tb (Await sign next) Line s' g e = sign_keeps tb sign next s' Line g.1 e
pass_keeps tb (Await sign next) Open s' g e = sign_keeps tb sign next s' Open g.1 e
pass_keeps tb (Await sign next) Close s' g e = sign_keeps tb sign next s' Close g.1 e
pass_keeps tb (Await sign next) Comma s' g e = sign_keeps tb sign next s' Comma g.1 e
pass_keeps tb (Await sign next) Minus s' g e = sign_keeps tb sign next s' Minus g.1 e
pass_keeps tb (Await sign next) (Digit d) s' g e = sign_keeps tb sign next s' (Digit d) g.1 e
pass_keeps tb (Await sign next) (Letter b) s' g e = sign_keeps tb sign next s' (Letter b) g.1 e
pass_keeps tb (Await sign next) Other s' g e = sign_keeps tb sign next s' Other g.1 e
pass_keeps tb (Over vs) Blank s' g e = subst (Good tb) (same_Some (Over vs) s' e) g
pass_keeps tb (Over vs) Line s' g e = subst (Good tb) (same_Some (Over vs) s' e) g
pass_keeps tb (Over vs) _ s' g e = cc
pass_keeps tb (Past zero vs) c s' g e = cc
pass_keeps tb (Past (suc n) vs) c s' g e = subst (Good tb) (same_Some (Past n vs) s' e) tt
pass_keeps tb (Want k around) c s' g e = cc
pass_keeps tb (Naming t front around) c s' g e = cc
pass_keeps tb (Signed around) c s' g e = cc
pass_keeps tb (Number neg n around) c s' g e = cc

name_keeps : (tb : Table) (t : ℕ) (front : List Character) (around : Around) (s' : State) → GoodAround tb around → naming tb t front around ≡ Some s' → Good tb s'
name_keeps tb t front around s' g e =
    let h = cond_some (any_begins front (shapes tb t)) (Naming t front around) s' e in
    subst (Good tb) h.1 (h.0, g)

done_keeps : (tb : Table) (table : IsTable tb) (t : ℕ) (front : List Character) (around : Around) (c : Character) (s' : State) → GoodAround tb around → (o : Option (ℕ × List ℕ)) → lookup 0 front (shapes tb t) ≡ o → pass_named o around c ≡ Some s' → Good tb s'
done_keeps tb table t front around c s' g None e h = cc
done_keeps tb table t front around c s' g (Some r) e h = pass_keeps tb (named r.0 r.1 around) c s' (good_named tb r.0 r.1 around (found_alive tb front (shapes tb t) r (table.alive t) 0 e) g) h

in_name_keeps : (tb : Table) (table : IsTable tb) (t : ℕ) (front : List Character) (around : Around) (c : Character) (s' : State) → GoodAround tb around → in_name tb t front around c ≡ Some s' → Good tb s'
in_name_keeps tb table t front around (Digit d) s' g e = name_keeps tb t (front ++ Digit d ∷ []) around s' g e
in_name_keeps tb table t front around (Letter b) s' g e = name_keeps tb t (front ++ Letter b ∷ []) around s' g e
in_name_keeps tb table t front around Blank s' g e = done_keeps tb table t front around Blank s' g (lookup 0 front (shapes tb t)) refl e
in_name_keeps tb table t front around Line s' g e = done_keeps tb table t front around Line s' g (lookup 0 front (shapes tb t)) refl e
in_name_keeps tb table t front around Open s' g e = done_keeps tb table t front around Open s' g (lookup 0 front (shapes tb t)) refl e
in_name_keeps tb table t front around Close s' g e = done_keeps tb table t front around Close s' g (lookup 0 front (shapes tb t)) refl e
in_name_keeps tb table t front around Comma s' g e = done_keeps tb table t front around Comma s' g (lookup 0 front (shapes tb t)) refl e
in_name_keeps tb table t front around Minus s' g e = done_keeps tb table t front around Minus s' g (lookup 0 front (shapes tb t)) refl e
in_name_keeps tb table t front around Other s' g e = done_keeps tb table t front around Other s' g (lookup 0 front (shapes tb t)) refl e

numbered_keeps : (tb : Table) (neg : Bool) (n : ℕ) (around : Around) (s' : State) → GoodAround tb around → numbered neg n around ≡ Some s' → Good tb s'
numbered_keeps tb neg n around s' g e =
    let h = cond_some (nat_le n (bound neg)) (Number neg n around) s' e in
    subst (Good tb) h.1 (leb-true n (bound neg) h.0, g)

number_keeps : (tb : Table) (neg : Bool) (n : ℕ) (around : Around) (c : Character) (s' : State) → GoodAround tb around → act tb (Number neg n around) c ≡ Some s' → Good tb s'
number_keeps tb neg n around (Digit d) s' g e = numbered_keeps tb neg (10 * n + d) around s' g e
number_keeps tb neg n around Blank s' g e = pass_keeps tb (filled around (Int (int_of neg n))) Blank s' (good_filled tb around (Int (int_of neg n)) g) e
number_keeps tb neg n around Line s' g e = pass_keeps tb (filled around (Int (int_of neg n))) Line s' (good_filled tb around (Int (int_of neg n)) g) e
number_keeps tb neg n around Open s' g e = pass_keeps tb (filled around (Int (int_of neg n))) Open s' (good_filled tb around (Int (int_of neg n)) g) e
number_keeps tb neg n around Close s' g e = pass_keeps tb (filled around (Int (int_of neg n))) Close s' (good_filled tb around (Int (int_of neg n)) g) e
number_keeps tb neg n around Comma s' g e = pass_keeps tb (filled around (Int (int_of neg n))) Comma s' (good_filled tb around (Int (int_of neg n)) g) e
number_keeps tb neg n around Minus s' g e = pass_keeps tb (filled around (Int (int_of neg n))) Minus s' (good_filled tb around (Int (int_of neg n)) g) e
number_keeps tb neg n around (Letter b) s' g e = pass_keeps tb (filled around (Int (int_of neg n))) (Letter b) s' (good_filled tb around (Int (int_of neg n)) g) e
number_keeps tb neg n around Other s' g e = pass_keeps tb (filled around (Int (int_of neg n))) Other s' (good_filled tb around (Int (int_of neg n)) g) e

want_keeps : (tb : Table) (table : IsTable tb) (k : ℕ) (around : Around) (c : Character) (s' : State) → Good tb (Want k around) → act tb (Want k around) c ≡ Some s' → Good tb s'
want_keeps tb table zero around Blank s' g e = subst (Good tb) (same_Some (Want zero around) s' e) g
want_keeps tb table zero around Minus s' g e = subst (Good tb) (same_Some (Signed around) s' e) g.1
want_keeps tb table zero around (Digit d) s' g e = numbered_keeps tb false d around s' g.1 e
want_keeps tb table zero around _ s' g e = cc
want_keeps tb table (suc t) around Blank s' g e = subst (Good tb) (same_Some (Want (suc t) around) s' e) g
want_keeps tb table (suc t) around Line s' g e = in_name_keeps tb table t [] around Line s' g.1 e
want_keeps tb table (suc t) around Open s' g e = in_name_keeps tb table t [] around Open s' g.1 e
want_keeps tb table (suc t) around Close s' g e = in_name_keeps tb table t [] around Close s' g.1 e
want_keeps tb table (suc t) around Comma s' g e = in_name_keeps tb table t [] around Comma s' g.1 e
want_keeps tb table (suc t) around Minus s' g e = in_name_keeps tb table t [] around Minus s' g.1 e
want_keeps tb table (suc t) around (Digit d) s' g e = in_name_keeps tb table t [] around (Digit d) s' g.1 e
want_keeps tb table (suc t) around (Letter b) s' g e = in_name_keeps tb table t [] around (Letter b) s' g.1 e
want_keeps tb table (suc t) around Other s' g e = in_name_keeps tb table t [] around Other s' g.1 e

signed_keeps : (tb : Table) (around : Around) (c : Character) (s' : State) → GoodAround tb around → act tb (Signed around) c ≡ Some s' → Good tb s'
signed_keeps tb around (Digit d) s' g e = numbered_keeps tb true d around s' g e
signed_keeps tb around _ s' g e = cc

pub keeps : (tb : Table) (table : IsTable tb) (s : State) (c : Character) (s' : State) → Good tb s → act tb s c ≡ Some s' → Good tb s'
keeps tb table (Want k around) c s' g e = want_keeps tb table k around c s' g e
keeps tb table (Naming t front around) c s' g e = in_name_keeps tb table t front around c s' g.1 e
keeps tb table (Signed around) c s' g e = signed_keeps tb around c s' g e
keeps tb table (Number neg n around) c s' g e = number_keeps tb neg n around c s' g.1 e
keeps tb table (Await sign next) c s' g e = pass_keeps tb (Await sign next) c s' g e
keeps tb table (Over vs) c s' g e = pass_keeps tb (Over vs) c s' g e
keeps tb table (Past n vs) c s' g e = pass_keeps tb (Past n vs) c s' g e

-- alive
pub values_of : (tb : Table) (ks : List ℕ) → Alive tb ks → (vs : Values) × HaveTypes tb ks vs
values_of tb [] a = (End, tt)
values_of tb (k ∷ ks) a = let r = values_of tb ks a.1 in let h = a.0 in (More h.0 r.0, (h.1, r.1))

line_break : (tb : Table) (ks : List ℕ) (vs : Values) → IsBreak (characters (10 ∷ printed_lines tb ks vs))
line_break tb ks vs = tt

-- the lines after a value
abbrev more_lines : Table → List ℕ → Values → List ℕ
more_lines tb [] vs = []
more_lines tb (k ∷ ks) End = []
more_lines tb (k ∷ ks) (More v vs) = 10 ∷ printed tb k v (more_lines tb ks vs)

more_lines_break : (tb : Table) (ks : List ℕ) (vs : Values) → IsBreak (characters (more_lines tb ks vs))
more_lines_break tb [] vs = tt
more_lines_break tb (k ∷ ks) End = tt
more_lines_break tb (k ∷ ks) (More v vs) = tt

lines_read : (tb : Table) (table : IsTable tb) (ks : List ℕ) (vs : Values) → HaveTypes tb ks vs → LinesText tb ks (characters (more_lines tb ks vs)) vs
lines_read tb table [] End h = tt
lines_read tb table [] (More v vs) h = absurd h
lines_read tb table (k ∷ ks) End h = absurd h
lines_read tb table (k ∷ ks) (More v vs) h = (characters (printed tb k v (more_lines tb ks vs)), characters (more_lines tb ks vs), refl, value_reads tb table k v (more_lines tb ks vs) h.0 (more_lines_break tb ks vs), lines_read tb table ks vs h.1)

abbrev AliveEnds : Table → Around → Value → Type 0
AliveEnds tb around v = (bs : List ℕ) × (x : Values) × Ends tb around v (characters bs) x × IsBreak (characters bs)

more_is_break : (tb : Table) (ks : List ℕ) (vs : Values) (rest : List ℕ) → IsBreak (characters (printed_more tb ks vs rest))
more_is_break tb [] vs rest = tt
more_is_break tb (k ∷ ks) End rest = tt
more_is_break tb (k ∷ ks) (More v vs) rest = tt

-- so many characters, blanks
abbrev blanks : ℕ → List ℕ
blanks n = replicate n 32

length_blanks : (n : ℕ) → length (characters (blanks n)) ≡ n
length_blanks zero = refl
length_blanks (suc n) = ap suc (length_blanks n)

blanks_break : (n : ℕ) → IsBreak (characters (blanks n))
blanks_break zero = tt
blanks_break (suc n) = tt

ends_alive : (tb : Table) (table : IsTable tb) (around : Around) (v : Value) → GoodAround tb around → AliveEnds tb around v
ends_alive tb table (Alone n) v g = (blanks n, More v End, (length_blanks n, refl), blanks_break n)
ends_alive tb table (Lines done rest) v g =
    let r = values_of tb rest g in
    (more_lines tb rest r.0, join done (More v r.0), (r.0, lines_read tb table rest r.0 r.1, refl), more_lines_break tb rest r.0)
ends_alive tb table (Field c done rest around) v g =
    let r = values_of tb rest g.0 in
    let e = ends_alive tb table around (Node c (join done (More v r.0))) g.1 in
    (printed_more tb rest r.0 e.0, e.1, (r.0, characters e.0, more_read tb table rest r.0 e.0 r.1 e.3, e.2), more_is_break tb rest r.0 e.0)

tail_chars : (c : Character) (cs : List Character) → AreNameChars (c ∷ cs) → AreNameChars cs
tail_chars (Digit d) cs h = h
tail_chars (Letter d) cs h = h
tail_chars _ cs h = absurd h

-- how a name goes on
begins_more : (front : List Character) (name : List ℕ) → AreNameChars (characters name) → begins front (characters name) ≡ true → (more : List ℕ) × (characters name ≡ front ++ characters more) × AreNameChars (characters more)
begins_more [] name h e = (name, refl, h)
begins_more (c ∷ front) [] h e = cc
begins_more (c ∷ front) (b ∷ name) h e =
    let k = and_parts (same_character c (character b)) (begins front (characters name)) e in
    let r = begins_more front name (tail_chars (character b) (characters name) h) k.1 in
    (r.0, ap₂ (λ c cs. c ∷ cs) (sym (same_is c (character b) k.0)) r.1, r.2)

abbrev Finds : List Character → List Shape → ℕ → Type 0
Finds front ss i = (more : List ℕ) × AreNameChars (characters more) × ((r : ℕ × List ℕ) × (lookup i (front ++ characters more) ss ≡ Some r))

found_here : (i : ℕ) (name : List Character) (s : Shape) (ss : List Shape) → same_text name (characters s.name) ≡ true → lookup i name (s ∷ ss) ≡ Some (i, s.fields)
found_here i name s ss e = ap (λ t. if t then Some (i, s.fields) else lookup (suc i) name ss) e

found_there : (i : ℕ) (name : List Character) (s : Shape) (ss : List Shape) (r : ℕ × List ℕ) → lookup (suc i) name ss ≡ Some r → (t : Bool) → same_text name (characters s.name) ≡ t → (q : ℕ × List ℕ) × (lookup i name (s ∷ ss) ≡ Some q)
found_there i name s ss r h true e = ((i, s.fields), found_here i name s ss e)
found_there i name s ss r h false e = (r, ap (λ t. if t then Some (i, s.fields) else lookup (suc i) name ss) e ∙ h)

finds_step : (front : List Character) (s : Shape) (ss : List Shape) (i : ℕ) → IsName (characters s.name) → (any_begins front ss ≡ true → Finds front ss (suc i)) → (t : Bool) → begins front (characters s.name) ≡ t → (if t then true else any_begins front ss) ≡ true → Finds front (s ∷ ss) i
finds_step front s ss i n rest true e h =
    let m = begins_more front s.name (name_chars_of (characters s.name) n) e in
    (m.0, m.2, ((i, s.fields), found_here i (front ++ characters m.0) s ss (subst (λ cs. same_text cs (characters s.name) ≡ true) m.1 (same_refl (characters s.name) (name_chars_of (characters s.name) n)))))
finds_step front s ss i n rest false e h =
    let m = rest h in
    let q = m.2 in
    (m.0, m.1, found_there i (front ++ characters m.0) s ss q.0 q.1 (same_text (front ++ characters m.0) (characters s.name)) refl)

finds : (front : List Character) (ss : List Shape) → AreNames ss → (i : ℕ) → any_begins front ss ≡ true → Finds front ss i
finds front [] n i e = cc
finds front (s ∷ ss) n i e = finds_step front s ss i n.0 (finds front ss n.1 (suc i)) (begins front (characters s.name)) refl e

abbrev AliveAt : Table → State → Type 0
AliveAt tb s = (bs : List ℕ) × (x : Values) × Completes tb s (characters bs) x

name_alive : (tb : Table) (table : IsTable tb) (t : ℕ) (front : List Character) (around : Around) → any_begins front (shapes tb t) ≡ true → GoodAround tb around → AliveAt tb (Naming t front around)
name_alive tb table t front around b g =
    let f = finds front (shapes tb t) (table.names t) 0 b in
    let q = f.2 in
    let r = q.0 in
    let vs = values_of tb r.1 (found_alive tb (front ++ characters f.0) (shapes tb t) r (table.alive t) 0 q.1) in
    let e = ends_alive tb table around (Node r.0 vs.0) g in
    let tail = printed_fields tb r.1 vs.0 e.0 in
    let split : characters (f.0 ++ tail) ≡ characters f.0 ++ characters tail = map-append character f.0 tail in
    let n = name_reads (characters f.0) (characters tail) f.1 (fields_break tb r.1 vs.0 e.0 vs.1 e.3) in (
      f.0 ++ tail,
      e.1,
      subst (λ cs. Completes tb (Naming t front around) cs e.1) (sym split)
          (r.0, r.1, vs.0, characters e.0, ap (λ n. lookup 0 (front ++ n) (shapes tb t)) n.0 ∙ q.1, subst (λ cs. FieldsText tb r.1 cs vs.0 (characters e.0)) (sym n.1) (fields_read tb table r.1 vs.0 e.0 vs.1 e.3), e.2),
    )

number_stays : (n : ℕ) (cs : List Character) → IsBreak cs → (n ≡ number n cs) × (cs ≡ after_number cs)
number_stays n [] b = (refl, refl)
number_stays n (Digit d ∷ cs) b = absurd b
number_stays n (Letter d ∷ cs) b = absurd b
number_stays n (_ ∷ cs) b = (refl, refl)

number_alive : (tb : Table) (table : IsTable tb) (neg : Bool) (n : ℕ) (around : Around) → n ≤ bound neg → GoodAround tb around → AliveAt tb (Number neg n around)
number_alive tb table neg n around le g =
    let e = ends_alive tb table around (Int (int_of neg n)) g in
    let k = number_stays n (characters e.0) e.3 in
    (e.0, e.1, (subst (λ m. m ≤ bound neg) k.0 le, subst (λ cs. Ends tb around (Int (int_of neg (number n (characters e.0)))) cs e.1) k.1 (subst (λ m. Ends tb around (Int (int_of neg m)) (characters e.0) e.1) k.0 e.2)))

sign_byte : (sign : Character) → is_sign sign sign ≡ true → (b : ℕ) × (character b ≡ sign) × ((cs : List Character) → skip (sign ∷ cs) ≡ sign ∷ cs)
sign_byte Line e = (10, refl, λ cs. refl)
sign_byte Open e = (40, refl, λ cs. refl)
sign_byte Close e = (41, refl, λ cs. refl)
sign_byte Comma e = (44, refl, λ cs. refl)
sign_byte _ e = cc

await_alive : (tb : Table) (sign : Character) (next : State) → is_sign sign sign ≡ true → AliveAt tb next → AliveAt tb (Await sign next)
await_alive tb sign next i a =
    let b = sign_byte sign i in
    (b.0 ∷ a.0, a.1, (i, characters a.0, ap (λ c. skip (c ∷ characters a.0)) b.1 ∙ b.2 (characters a.0), a.2))

pub alive : (tb : Table) (table : IsTable tb) (s : State) → Good tb s → AliveAt tb s
alive tb table (Want k around) g =
    let v = g.0 in
    let e = ends_alive tb table around v.0 g.1 in
    (printed tb k v.0 e.0, e.1, (v.0, characters e.0, value_reads tb table k v.0 e.0 v.1 e.3, e.2))
alive tb table (Naming t front around) g = name_alive tb table t front around g.0 g.1
alive tb table (Signed around) g =
    let a = number_alive tb table true 0 around (omega arith) g in
    let h = a.2 in
    (48 ∷ a.0, a.1, (int_of true (number 0 (characters a.0)), after_number (characters a.0), (h.0, refl, refl), h.1))
alive tb table (Number neg n around) g = number_alive tb table neg n around g.0 g.1
alive tb table (Await sign next) g = await_alive tb sign next g.0 (alive tb table next g.1)
alive tb table (Over vs) g = ([], vs, (tt, refl))
alive tb table (Past n vs) g = (blanks n, vs, (length_blanks n, refl))

-- ends
pass_ends : (tb : Table) (s : State) (x : Values) → IsPass s → Completes tb s [] x → over s ≡ Some x
pass_ends tb (Await sign next) x p h = let e = h.2 in cc
pass_ends tb (Over vs) x p h = ap Some h.1
pass_ends tb (Past zero vs) x p h = ap Some h.1
pass_ends tb (Past (suc n) vs) x p h = let e = h.0 in absurd (omega (arith, e))
pass_ends tb (Want k around) x p h = absurd p
pass_ends tb (Naming t front around) x p h = absurd p
pass_ends tb (Signed around) x p h = absurd p
pass_ends tb (Number neg n around) x p h = absurd p

over_ends : (tb : Table) (s : State) (x : Values) → over s ≡ Some x → Completes tb s [] x
over_ends tb (Over vs) x e = (tt, same_Some vs x e)
over_ends tb (Past zero vs) x e = (refl, same_Some vs x e)
over_ends tb (Past (suc n) vs) x e = cc
over_ends tb (Await sign next) x e = cc
over_ends tb (Want k around) x e = cc
over_ends tb (Naming t front around) x e = cc
over_ends tb (Signed around) x e = cc
over_ends tb (Number neg n around) x e = cc

name_ends : (tb : Table) (t : ℕ) (front : List Character) (around : Around) (x : Values) → Completes tb (Naming t front around) [] x → over_named (lookup 0 front (shapes tb t)) around ≡ Some x
name_ends tb t front around x h =
    let e : lookup 0 front (shapes tb t) ≡ Some (h.0, h.1) = ap (λ n. lookup 0 n (shapes tb t)) (sym (append-nil front)) ∙ h.4 in
    ap (λ o. over_named o around) e ∙ pass_ends tb (named h.0 h.1 around) x (named_is_pass h.0 h.1 around) (named_takes tb h.0 h.1 around h.2 [] h.3 x h.5 h.6)

name_ended : (tb : Table) (t : ℕ) (front : List Character) (around : Around) (x : Values) (o : Option (ℕ × List ℕ)) → lookup 0 front (shapes tb t) ≡ o → over_named o around ≡ Some x → Completes tb (Naming t front around) [] x
name_ended tb t front around x None e h = cc
name_ended tb t front around x (Some r) e h =
    let g = named_gives tb r.0 r.1 around [] x (over_ends tb (named r.0 r.1 around) x h) in
    (r.0, r.1, g.0, g.1, ap (λ n. lookup 0 n (shapes tb t)) (append-nil front) ∙ e, g.2, g.3)

want_ends : (tb : Table) → IsTable tb → (t : ℕ) (around : Around) (v : Value) (after : List Character) (x : Values) → ValueText tb (suc t) [] v after → Ends tb around v after x → Completes tb (Naming t [] around) [] x
want_ends tb table t around (Int i) after x h e = absurd h
want_ends tb table t around (Node c vs) after x h e = (c, (h.0).fields, vs, after, ap (λ m. lookup 0 m (shapes tb t)) h.2 ∙ table.unique t c h.0 h.1, h.3, e)

int_ends : (tb : Table) (v : Value) (after : List Character) → ValueText tb zero [] v after → ⊥
int_ends tb (Int i) after h = h
int_ends tb (Node c vs) after h = h

pub ends : (tb : Table) → IsTable tb → (s : State) (x : Values) → Completes tb s [] x → final tb s ≡ Some x
ends tb table (Want zero around) x h = absurd (int_ends tb h.0 h.1 h.2)
ends tb table (Want (suc t) around) x h = name_ends tb t [] around x (want_ends tb table t around h.0 h.1 x h.2 h.3)
ends tb table (Naming t front around) x h = name_ends tb t front around x h
ends tb table (Signed around) x h = absurd h.2
ends tb table (Number neg n around) x h = pass_ends tb (filled around (Int (int_of neg n))) x (filled_is_pass around (Int (int_of neg n))) (filled_takes tb around (Int (int_of neg n)) [] x h.1)
ends tb table (Await sign next) x h = let e = h.2 in cc
ends tb table (Over vs) x h = ap Some h.1
ends tb table (Past n vs) x h = pass_ends tb (Past n vs) x tt h

pub ended : (tb : Table) (s : State) (x : Values) → Good tb s → final tb s ≡ Some x → Completes tb s [] x
ended tb (Want zero around) x g e = cc
ended tb (Want (suc t) around) x g e =
    let h = name_ended tb t [] around x (lookup 0 [] (shapes tb t)) refl e in
    (Node h.0 h.2, h.3, node_text tb t h.0 h.1 [] h.2 h.3 h.4 h.5, h.6)
ended tb (Naming t front around) x g e = name_ended tb t front around x (lookup 0 front (shapes tb t)) refl e
ended tb (Signed around) x g e = cc
ended tb (Number neg n around) x g e = (g.0, filled_gives tb around (Int (int_of neg n)) [] x (over_ends tb (filled around (Int (int_of neg n))) x e))
ended tb (Await sign next) x g e = cc
ended tb (Over vs) x g e = (tt, same_Some vs x e)
ended tb (Past n vs) x g e = over_ends tb (Past n vs) x e

in_bound : (tb : Table) (s : State) → Good tb s → InBound s
in_bound tb (Number neg n around) g = g.0
in_bound tb (Want k around) g = tt
in_bound tb (Naming t front around) g = tt
in_bound tb (Signed around) g = tt
in_bound tb (Await sign next) g = tt
in_bound tb (Over vs) g = tt
in_bound tb (Past n vs) g = tt

abbrev pub Reads : Table → State → List ℕ → Values → Type 0
Reads tb s bs x = Completes tb s (characters bs) x

pub exact : (tb : Table) → IsTable tb → IsExact (step tb) (final tb) (Good tb) (Reads tb)
exact tb table = record {
  takes = λ s b bs x g h. takes tb table s (character b) (characters bs) x h;
  gives = λ s s' b bs x g e h. gives tb s (character b) s' (characters bs) x (in_bound tb s g) e h;
  keeps = λ s s' b g e. keeps tb table s (character b) s' g e;
  alive = λ s g. alive tb table s g;
  ends = λ s x g h. ends tb table s x h;
  ended = λ s x g e. ended tb s x g e;
}

pub good_start : (tb : Table) (params : List ℕ) → Alive tb params → Good tb (start params)
good_start tb [] a = tt
good_start tb (k ∷ ks) a = (a.0, a.1)

start_reads : (tb : Table) (params : List ℕ) (cs : List Character) (x : Values) → InputText tb params cs x → Completes tb (start params) cs x
start_reads tb [] cs End h = (h, refl)
start_reads tb [] cs (More v vs) h = absurd h
start_reads tb (k ∷ ks) cs End h = absurd h
start_reads tb (k ∷ ks) cs (More v vs) h = (v, h.0, h.1, (vs, h.2, refl))

reads_start : (tb : Table) (params : List ℕ) (cs : List Character) (x : Values) → Completes tb (start params) cs x → InputText tb params cs x
reads_start tb [] cs x h = subst (InputText tb [] cs) h.1 h.0
reads_start tb (k ∷ ks) cs x h = let l = h.3 in subst (InputText tb (k ∷ ks) cs) l.2 (h.1, h.2, l.1)

-- The machine accepts just the texts.
pub accepts_text : (tb : Table) → IsTable tb → (params : List ℕ) → Alive tb params → (bs : List ℕ) (x : Values) → SpellsValues tb params bs x → run (step tb) (final tb) (start params) bs 0 ≡ Accepted x
accepts_text tb table params a bs x h = accepts (step tb) (final tb) (Good tb) (Reads tb) (exact tb table) bs (start params) 0 x (good_start tb params a) (start_reads tb params (characters bs) x h)

pub accepted_text : (tb : Table) → IsTable tb → (params : List ℕ) → Alive tb params → (bs : List ℕ) (x : Values) → run (step tb) (final tb) (start params) bs 0 ≡ Accepted x → SpellsValues tb params bs x
accepted_text tb table params a bs x h = reads_start tb params (characters bs) x (accepted (step tb) (final tb) (Good tb) (Reads tb) (exact tb table) bs x (start params) 0 (good_start tb params a) h)

begins_same : (tb : Table) (params : List ℕ) (front : List ℕ) → Begins (SpellsValues tb params) front → Begins (Reads tb (start params)) front
begins_same tb params front b = (b.0, b.1, start_reads tb params (characters (front ++ b.0)) b.1 b.2)

-- Where it stops no text of the types begins so.
pub stopped_text : (tb : Table) → IsTable tb → (params : List ℕ) → Alive tb params → (bs : List ℕ) (t : ℕ) → run (step tb) (final tb) (start params) bs 0 ≡ Stopped t → IsPlace (SpellsValues tb params) bs t
stopped_text tb table params a bs t h =
    let p = stops_at_place (step tb) (final tb) (Good tb) (Reads tb) (exact tb table) (start params) bs t (good_start tb params a) h in
    record {
      within = p.within;
      before = let b = p.before in (b.0, b.1, reads_start tb params (characters (_ ++ b.0)) b.1 b.2);
      there = λ lt b. p.there lt (begins_same tb params _ b);
      at_end = λ e x c. p.at_end e x (start_reads tb params (characters bs) x c);
    }

-- What is printed is read again.
pub printed_reads : (tb : Table) → IsTable tb → (params : List ℕ) (vs : Values) → HaveTypes tb params vs → SpellsValues tb params (printed_lines tb params vs) vs
printed_reads tb table [] End h = tt
printed_reads tb table [] (More v vs) h = absurd h
printed_reads tb table (k ∷ ks) End h = absurd h
printed_reads tb table (k ∷ ks) (More v vs) h = (characters (10 ∷ printed_lines tb ks vs), value_reads tb table k v (10 ∷ printed_lines tb ks vs) h.0 tt, rest_reads ks vs h.1) where
  rest_reads : (ks : List ℕ) (vs : Values) → HaveTypes tb ks vs → LinesText tb ks (characters (10 ∷ printed_lines tb ks vs)) vs
  rest_reads [] End h = tt
  rest_reads [] (More v vs) h = absurd h
  rest_reads (k ∷ ks) End h = absurd h
  rest_reads (k ∷ ks) (More v vs) h = (characters (printed tb k v (10 ∷ printed_lines tb ks vs)), characters (10 ∷ printed_lines tb ks vs), refl, value_reads tb table k v (10 ∷ printed_lines tb ks vs) h.0 tt, rest_reads ks vs h.1)
