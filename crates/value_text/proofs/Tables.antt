-- What follows from a sound table: names as characters, and which constructor a name is found at.
use Rattle.std.proofs.Common.{◌≡◌, ℕ, zero, suc, ◌+◌, ◌-◌, ◌≤◌, List, [], ◌∷◌, Some, Bool, true, false, refl, inl, inr, sym, ap, ap₂, ◌∙◌, subst, arith}
use Rattle.std.specs.Prelude.{pos, ◌⊎◌, slice_get, nat_le, if◌then◌else◌, ◌&&◌, ◌||◌, ◌==◌}
use Rattle.std.proofs.lemmas.Bool.{eqb-true, eq-eqb, leb-true, and_parts}
use Rattle.std.proofs.lemmas.Bool.Decides.{nat_tests}
use Rattle.std.proofs.Math.Bool.{or-true}
use Rattle.fip_language.specs.Values.{Value, Int}
use Rattle.fip_language.specs.Table.{Shape, Table, shapes, HasType}
use Rattle.fip_language.specs.Character.{Character, Digit, Letter, is_digit, is_upper, is_letter, character, characters, are_name_bytes, is_upper_name}
use Rattle.fip_language.specs.SoundTable.{AreTypes, IsSoundTable}
use Rattle.value_text.specs.Machine.{same_character, same_text, lookup}

-- letters and digits alone
abbrev pub AreNameChars : List Character → Type 0
AreNameChars [] = Unit {0}
AreNameChars (Digit d ∷ cs) = AreNameChars cs
AreNameChars (Letter b ∷ cs) = AreNameChars cs
AreNameChars (c ∷ cs) = ⊥

-- a letter and then letters and digits
abbrev pub IsName : List Character → Type 0
IsName [] = ⊥
IsName (Letter b ∷ cs) = AreNameChars cs
IsName (c ∷ cs) = ⊥

abbrev pub AreNames : List Shape → Type 0
AreNames [] = Unit {0}
AreNames (s ∷ ss) = IsName (characters s.name) × AreNames ss

-- each of these types has a value
abbrev pub Alive : Table → List ℕ → Type 0
Alive tb [] = Unit {0}
Alive tb (k ∷ ks) = ((v : Value) × HasType tb k v) × Alive tb ks

abbrev pub AllAlive : Table → List Shape → Type 0
AllAlive tb [] = Unit {0}
AllAlive tb (s ∷ ss) = Alive tb s.fields × AllAlive tb ss

-- a sound table, by types
pub record IsTable (tb : Table) : Type 0 where
  pub names : (t : ℕ) → AreNames (shapes tb t)
  pub unique : (t c : ℕ) (s : Shape) → slice_get (shapes tb t) c ≡ Some s → lookup 0 (characters s.name) (shapes tb t) ≡ Some (c, s.fields)
  pub alive : (t : ℕ) → AllAlive tb (shapes tb t)

digit_range : (b : ℕ) → is_digit b ≡ true → (48 ≤ b) × (b ≤ 57)
digit_range b e = let h = and_parts (nat_le 48 b) (nat_le b 57) e in (leb-true 48 b h.0, leb-true b 57 h.1)

upper_range : (b : ℕ) → is_upper b ≡ true → (65 ≤ b) × (b ≤ 90)
upper_range b e = let h = and_parts (nat_le 65 b) (nat_le b 90) e in (leb-true 65 b h.0, leb-true b 90 h.1)

pub character_digit : (b : ℕ) → 48 ≤ b → b ≤ 57 → character b ≡ Digit (b - 48)
character_digit b l h = grind (arith, nat_tests)

pub character_is_digit : (b : ℕ) → is_digit b ≡ true → character b ≡ Digit (b - 48)
character_is_digit b e = let r = digit_range b e in character_digit b r.0 r.1

pub digit_small : (b : ℕ) → is_digit b ≡ true → b - 48 ≤ 9
digit_small b e = let r = digit_range b e in omega (arith, r.0, r.1)

pub character_upper : (b : ℕ) → 65 ≤ b → b ≤ 90 → character b ≡ Letter b
character_upper b l h = grind (arith, nat_tests)

pub character_letter : (b : ℕ) → is_letter b ≡ true → character b ≡ Letter b
character_letter b e = grind (arith, nat_tests)

name_byte_by : (b : ℕ) (d l : Bool) → is_digit b ≡ d → is_letter b ≡ l → (d || l) ≡ true → ((48 ≤ b) × (character b ≡ Digit (b - 48))) ⊎ (character b ≡ Letter b)
name_byte_by b true l d e h = let r = digit_range b d in inl (r.0, character_digit b r.0 r.1)
name_byte_by b false true d e h = inr (character_letter b e)
name_byte_by b false false d e h = cc

-- a byte of a name is a digit or a letter
pub name_byte : (b : ℕ) → (is_digit b || is_letter b) ≡ true → ((48 ≤ b) × (character b ≡ Digit (b - 48))) ⊎ (character b ≡ Letter b)
name_byte b h = name_byte_by b (is_digit b) (is_letter b) refl refl h

name_char : (b : ℕ) (cs : List Character) → ((48 ≤ b) × (character b ≡ Digit (b - 48))) ⊎ (character b ≡ Letter b) → AreNameChars cs → AreNameChars (character b ∷ cs)
name_char b cs (inl k) h = subst (λ c. AreNameChars (c ∷ cs)) (sym k.1) h
name_char b cs (inr k) h = subst (λ c. AreNameChars (c ∷ cs)) (sym k) h

pub name_chars : (bs : List ℕ) → are_name_bytes bs ≡ true → AreNameChars (characters bs)
name_chars [] e = tt
name_chars (b ∷ bs) e = let h = and_parts (is_digit b || is_letter b) (are_name_bytes bs) e in name_char b (characters bs) (name_byte b h.0) (name_chars bs h.1)

pub upper_name : (bs : List ℕ) → is_upper_name bs ≡ true → IsName (characters bs)
upper_name [] e = cc
upper_name (b ∷ bs) e =
    let h = and_parts (is_upper b) (are_name_bytes bs) e in
    let r = upper_range b h.0 in
    subst (λ c. IsName (c ∷ characters bs)) (sym (character_upper b r.0 r.1)) (name_chars bs h.1)

same_byte : (a b : ℕ) → ((48 ≤ a) × (character a ≡ Digit (a - 48))) ⊎ (character a ≡ Letter a) → ((48 ≤ b) × (character b ≡ Digit (b - 48))) ⊎ (character b ≡ Letter b) → character a ≡ character b → a ≡ b
same_byte a b (inl k) (inl h) e = let d : a - 48 ≡ b - 48 = cc in omega arith
same_byte a b (inl k) (inr h) e = cc
same_byte a b (inr k) (inl h) e = cc
same_byte a b (inr k) (inr h) e = cc

-- names that are one as characters are one
pub same_bytes : (as' bs : List ℕ) → are_name_bytes as' ≡ true → are_name_bytes bs ≡ true → characters as' ≡ characters bs → as' ≡ bs
same_bytes [] [] k h e = refl
same_bytes [] (b ∷ bs) k h e = cc
same_bytes (a ∷ as') [] k h e = cc
same_bytes (a ∷ as') (b ∷ bs) k h e =
    let p = and_parts (is_digit a || is_letter a) (are_name_bytes as') k in
    let q = and_parts (is_digit b || is_letter b) (are_name_bytes bs) h in
    let x : character a ≡ character b = cc in
    let y : characters as' ≡ characters bs = cc in
    ap₂ (λ (a : ℕ) (as' : List ℕ). a ∷ as') (same_byte a b (name_byte a p.0) (name_byte b q.0) x) (same_bytes as' bs p.1 q.1 y)

pub upper_bytes : (bs : List ℕ) → is_upper_name bs ≡ true → are_name_bytes bs ≡ true
upper_bytes [] e = refl
upper_bytes (b ∷ bs) e =
    let h = and_parts (is_upper b) (are_name_bytes bs) e in
    let r = upper_range b h.0 in
    let l : is_letter b ≡ true = ap (λ u. u || (nat_le 97 b && nat_le b 122) || (b == 95)) h.0 in
    let n : (is_digit b || is_letter b) ≡ true = ap (λ l. is_digit b || l) l ∙ or-true (is_digit b) in
    ap₂ (λ x y. x && y) n h.1

pub same_refl : (cs : List Character) → AreNameChars cs → same_text cs cs ≡ true
same_refl [] h = refl
same_refl (Digit d ∷ cs) h = ap₂ (λ x y. x && y) (eq-eqb d d refl) (same_refl cs h)
same_refl (Letter d ∷ cs) h = ap₂ (λ x y. x && y) (eq-eqb d d refl) (same_refl cs h)
same_refl (_ ∷ cs) h = absurd h

pub same_is : (c d : Character) → same_character c d ≡ true → c ≡ d
same_is (Digit a) (Digit b) e = ap Digit (eqb-true a b e)
same_is (Letter a) (Letter b) e = ap Letter (eqb-true a b e)
same_is _ _ e = cc

text_is : (a b : List Character) → same_text a b ≡ true → a ≡ b
text_is [] [] e = refl
text_is [] (d ∷ b) e = cc
text_is (c ∷ a) [] e = cc
text_is (c ∷ a) (d ∷ b) e =
    let h = and_parts (same_character c d) (same_text a b) e in
    ap₂ (λ (c : Character) (a : List Character). c ∷ a) (same_is c d h.0) (text_is a b h.1)

pub name_chars_of : (cs : List Character) → IsName cs → AreNameChars cs
name_chars_of [] h = absurd h
name_chars_of (Letter d ∷ cs) h = h
name_chars_of (_ ∷ cs) h = absurd h

-- the one constructor of a name is found
found_step : (r s : Shape) (ss : List Shape) (c i : ℕ) → (characters r.name ≡ characters s.name → 0 ≡ suc c) → lookup (suc i) (characters s.name) ss ≡ Some (suc i + c, s.fields) → (t : Bool) → same_text (characters s.name) (characters r.name) ≡ t → (if t then Some (i, r.fields) else lookup (suc i) (characters s.name) ss) ≡ Some (i + suc c, s.fields)
found_step r s ss c i n rest true e = let z = n (sym (text_is (characters s.name) (characters r.name) e)) in absurd (omega arith)
found_step r s ss c i n rest false e = let k : suc i + c ≡ i + suc c = omega arith in rest ∙ ap (λ n. Some (n, s.fields)) k

found_at : (ss : List Shape) (c i : ℕ) (s : Shape) → slice_get ss c ≡ Some s → AreNameChars (characters s.name) → ((d : ℕ) (r : Shape) → slice_get ss d ≡ Some r → characters r.name ≡ characters s.name → d ≡ c) → lookup i (characters s.name) ss ≡ Some (i + c, s.fields)
found_at [] c i s e n u = cc
found_at (r ∷ ss) zero i s e n u =
    let same : r ≡ s = cc in
    let z : i ≡ i + 0 = omega arith in
    ap (λ (r : Shape). if same_text (characters s.name) (characters r.name) then Some (i, r.fields) else lookup (suc i) (characters s.name) ss) same
    ∙ ap (λ t. if t then Some (i, s.fields) else lookup (suc i) (characters s.name) ss) (same_refl (characters s.name) n)
    ∙ ap (λ n. Some (n, s.fields)) z
found_at (r ∷ ss) (suc c) i s e n u = found_step r s ss c i (u 0 r refl) (found_at ss c (suc i) s e n (λ d q h k. let z = u (suc d) q h k in omega arith)) (same_text (characters s.name) (characters r.name)) refl

-- what is found is a constructor of that name
pub record IsFound (ss : List Shape) (name : List Character) (i : ℕ) (r : ℕ × List ℕ) : Type 0 where
  pub c : ℕ
  pub s : Shape
  pub number : r.0 ≡ i + c
  pub there : slice_get ss c ≡ Some s
  pub same : name ≡ characters s.name
  pub fields : s.fields ≡ r.1

found_on : (name : List Character) (i : ℕ) (s : Shape) (ss : List Shape) (r : ℕ × List ℕ) → (lookup (suc i) name ss ≡ Some r → IsFound ss name (suc i) r) → (t : Bool) → same_text name (characters s.name) ≡ t → (if t then Some (i, s.fields) else lookup (suc i) name ss) ≡ Some r → IsFound (s ∷ ss) name i r
found_on name i s ss r rest true e h =
    let p : (i, s.fields) ≡ r = cc in
    record { c = 0; s = s; number = (let z : i ≡ r.0 = ap (λ (r : ℕ × List ℕ). r.0) p in omega arith); there = refl; same = text_is name (characters s.name) e; fields = ap (λ (r : ℕ × List ℕ). r.1) p }
found_on name i s ss r rest false e h =
    let f = rest h in
    record { c = suc f.c; s = f.s; number = (let z = f.number in omega arith); there = f.there; same = f.same; fields = f.fields }

pub found_shape : (name : List Character) (ss : List Shape) (i : ℕ) (r : ℕ × List ℕ) → lookup i name ss ≡ Some r → IsFound ss name i r
found_shape name [] i r e = cc
found_shape name (s ∷ ss) i r e = found_on name i s ss r (found_shape name ss (suc i) r) (same_text name (characters s.name)) refl e

-- a sound table, by types
pub types_alive : (tb : Table) → IsSoundTable tb → (ks : List ℕ) → AreTypes tb ks → Alive tb ks
types_alive tb sound [] h = tt
types_alive tb sound (zero ∷ ks) h = ((Int (pos 0), omega arith), types_alive tb sound ks h.1)
types_alive tb sound (suc t ∷ ks) h = let le = h.0 in (sound.inhabited t (omega arith), types_alive tb sound ks h.1)

all_alive : (tb : Table) → IsSoundTable tb → (ss : List Shape) → ((c : ℕ) (s : Shape) → slice_get ss c ≡ Some s → AreTypes tb s.fields) → AllAlive tb ss
all_alive tb sound [] f = tt
all_alive tb sound (s ∷ ss) f = (types_alive tb sound s.fields (f 0 s refl), all_alive tb sound ss (λ c. f (suc c)))

are_names : (ss : List Shape) → ((c : ℕ) (s : Shape) → slice_get ss c ≡ Some s → is_upper_name s.name ≡ true) → AreNames ss
are_names [] f = tt
are_names (s ∷ ss) f = (upper_name s.name (f 0 s refl), are_names ss (λ c. f (suc c)))

found_name : (tb : Table) → IsSoundTable tb → (t c : ℕ) (s : Shape) → slice_get (shapes tb t) c ≡ Some s → lookup 0 (characters s.name) (shapes tb t) ≡ Some (c, s.fields)
found_name tb sound t c s e =
    let n = sound.names t c s e in
    let z : 0 + c ≡ c = omega arith in
    found_at (shapes tb t) c 0 s e (name_chars_of (characters s.name) (upper_name s.name n))
    (λ d r h k. sound.unlike t d c r s h e (same_bytes r.name s.name (upper_bytes r.name (sound.names t d r h)) (upper_bytes s.name n) k))
    ∙ ap (λ n. Some (n, s.fields)) z

pub is_table : (tb : Table) → IsSoundTable tb → IsTable tb
is_table tb sound = record {
  names = λ t. are_names (shapes tb t) (sound.names t);
  unique = found_name tb sound;
  alive = λ t. all_alive tb sound (shapes tb t) (sound.known t);
}
