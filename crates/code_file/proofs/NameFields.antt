-- The readers of names read just the texts of names.
use Rattle.std.proofs.Common.{◌≡◌, ℕ, zero, suc, ◌+◌, ◌-◌, ◌<◌, ◌≤◌, List, [], ◌∷◌, ◌++◌, length, Option, Some, None, Bool, true, false, refl, sym, ap, ap₂, ◌∙◌, subst, append_assoc, arith}
use Rattle.std.specs.Prelude.{◌==◌, ◌&&◌, ◌||◌, not, codes}
use Rattle.std.specs.Int.{w32, from_be_bytes}
use Rattle.std.specs.Str.{bytes_eq}
use Rattle.std.proofs.lemmas.Bool.{eqb-true, eq-eqb}
use Rattle.std.proofs.lemmas.List.{append-nil}
use Rattle.fip_language.specs.Character.{is_upper, is_upper_name, are_name_bytes}
use Rattle.fip_language.proofs.Search.{bytes_eq-other}
use Rattle.code_file.specs.Spelling.{◌+++◌, each, mark, only, four, is_lower, is_keyword, is_function_name, name_text, upper_name_text, function_name_text}
use Rattle.code_file.specs.Reading.{Reader, Give, Byte, ◌>>=◌, byte, any, is_byte, four_reader, times, length_reader, is_name_byte, upper_name_reader, may_follow, may_stand, name_on, function_name_reader}
use Rattle.code_file.proofs.Readers.{Takes, Alive, Front, IsField, bind_takes, bind_gives, then_alive, front_join, front_split, takes_times, gives_times, times_alive}
use Rattle.code_file.proofs.Fields.{and_both, both_and, front_only, only_front, field_test, field_four}
use Rattle.fip_language.proofs.Facts.{positive_not_zero as not_zero, unequal_apart as apart}

not_zero_at : (n : ℕ) (b : Bool) → (n == 0) ≡ b → 0 < n → not b ≡ true
not_zero_at n true e lt = let k = eqb-true n 0 e in absurd (omega arith)
not_zero_at n false e lt = refl

-- the text of a length that isn't 0
abbrev length_text : ℕ → Option (List ℕ)
length_text n = only (not (n == 0)) (four n)

length_takes : (bs : List ℕ) (n : ℕ) (rest : List ℕ) → Takes length_reader bs n rest → Front (length_text n) bs rest
unfolding byte length_reader four_reader
length_takes [] n rest h = absurd h
length_takes (a ∷ []) n rest h = absurd h.1
length_takes (a ∷ b ∷ []) n rest h = absurd h.1.1
length_takes (a ∷ b ∷ c ∷ []) n rest h = absurd h.1.1.1
length_takes (a ∷ b ∷ c ∷ d ∷ bs) n rest h =
    let k = h.1 in
    let l = k.1 in
    let m = l.1 in
    let e = m.1 in
    let t = and_both (is_byte d) (not (from_be_bytes w32 (a ∷ b ∷ c ∷ d ∷ []) == 0)) m.0 in
    only_front (not (n == 0)) (four n) (a ∷ b ∷ c ∷ d ∷ bs) rest (subst (λ n. not (n == 0) ≡ true) e.1 t.1)
    (field_four.takes (a ∷ b ∷ c ∷ d ∷ bs) n rest (h.0, (k.0, (l.0, (t.0, e)))))

length_back : (bs : List ℕ) (n : ℕ) (rest : List ℕ) → not (n == 0) ≡ true → Takes four_reader bs n rest → Takes length_reader bs n rest
unfolding byte length_reader four_reader
length_back [] n rest t h = absurd h
length_back (a ∷ []) n rest t h = absurd h.1
length_back (a ∷ b ∷ []) n rest t h = absurd h.1.1
length_back (a ∷ b ∷ c ∷ []) n rest t h = absurd h.1.1.1
length_back (a ∷ b ∷ c ∷ d ∷ bs) n rest t h =
    let k = h.1 in
    let l = k.1 in
    let m = l.1 in
    let e = m.1 in
    (h.0, (k.0, (l.0, (both_and (is_byte d) (not (from_be_bytes w32 (a ∷ b ∷ c ∷ d ∷ []) == 0)) m.0 (subst (λ n. not (n == 0) ≡ true) (sym e.1) t), e))))

length_gives : (bs : List ℕ) (n : ℕ) (rest : List ℕ) → Front (length_text n) bs rest → Takes length_reader bs n rest
length_gives bs n rest h =
    let k = front_only (not (n == 0)) (four n) bs rest h in
    length_back bs n rest k.0 (field_four.gives bs n rest k.1)

length_alive : Alive length_reader
unfolding byte length_reader
length_alive = ((0, refl), λ a x. ((0, refl), λ b y. ((0, refl), λ c z. ((1, not_zero (from_be_bytes w32 (a ∷ b ∷ c ∷ 1 ∷ [])) (omega arith)), λ d w. tt))))

field_length : IsField length_reader length_text
field_length = record { takes = length_takes; gives = length_gives; alive = length_alive }

-- bytes with which a name may go on
abbrev name_byte_text : ℕ → Option (List ℕ)
name_byte_text b = only (is_name_byte b) (mark b)

field_name_byte : IsField (byte is_name_byte) name_byte_text
field_name_byte = field_test is_name_byte (95, refl)

bytes_of : (ys bs rest : List ℕ) → Front (each name_byte_text ys) bs rest → (are_name_bytes ys ≡ true) × (bs ≡ ys ++ rest)
unfolding each
bytes_of [] bs rest h = (refl, h)
bytes_of (y ∷ ys) bs rest h =
    let p = front_split (name_byte_text y) (each name_byte_text ys) bs rest h in
    let k = front_only (is_name_byte y) (mark y) bs p.0 p.1 in
    let i = bytes_of ys p.0 rest p.2 in
    (both_and (is_name_byte y) (are_name_bytes ys) k.0 i.0, k.1 ∙ ap (λ m. y ∷ m) i.1)

of_bytes : (ys rest : List ℕ) → are_name_bytes ys ≡ true → Front (each name_byte_text ys) (ys ++ rest) rest
unfolding each
of_bytes [] rest e = refl
of_bytes (y ∷ ys) rest e =
    let k = and_both (is_name_byte y) (are_name_bytes ys) e in
    front_join (name_byte_text y) (each name_byte_text ys) (y ∷ (ys ++ rest)) (ys ++ rest) rest
    (only_front (is_name_byte y) (mark y) (y ∷ (ys ++ rest)) (ys ++ rest) k.0 refl) (of_bytes ys rest k.1)

field_upper : IsField (byte is_upper) (λ b. only (is_upper b) (mark b))
field_upper = field_test is_upper (65, refl)

abbrev upper_rest : ℕ → ℕ → Reader (List ℕ)
upper_rest n b = times (n - 1) (byte is_name_byte) >>= λ ys. Give (b ∷ ys)

abbrev upper_body : ℕ → Reader (List ℕ)
upper_body n = byte is_upper >>= λ b. upper_rest n b

upper_front : (b : ℕ) (ys bs mid rest : List ℕ) → is_upper b ≡ true → are_name_bytes ys ≡ true → Front (four (suc (length ys))) bs mid → mid ≡ b ∷ (ys ++ rest) → Front (upper_name_text (b ∷ ys)) bs rest
unfolding upper_name_text name_text
upper_front b ys bs mid rest u a f e =
    only_front (is_upper b && are_name_bytes ys) (four (suc (length ys)) +++ Some (b ∷ ys)) bs rest (both_and (is_upper b) (are_name_bytes ys) u a)
    (front_join (four (suc (length ys))) (Some (b ∷ ys)) bs mid rest f e)

upper_takes : (bs name rest : List ℕ) → Takes upper_name_reader bs name rest → Front (upper_name_text name) bs rest
unfolding upper_name_reader
upper_takes bs name rest h =
    let p = bind_takes length_reader upper_body bs name rest h in
    let n = p.0 in
    let q = bind_takes (byte is_upper) (upper_rest p.0) p.1 name rest p.3 in
    let s = bind_takes (times (p.0 - 1) (byte is_name_byte)) (λ ys. Give (q.0 ∷ ys)) q.1 name rest q.3 in
    let f = front_only (not (p.0 == 0)) (four p.0) bs p.1 (length_takes bs p.0 p.1 p.2) in
    let u = front_only (is_upper q.0) (mark q.0) p.1 q.1 (field_upper.takes p.1 q.0 q.1 q.2) in
    let t = takes_times (byte is_name_byte) name_byte_text field_name_byte (p.0 - 1) q.1 s.0 s.1 s.2 in
    let y = bytes_of s.0 q.1 s.1 t.0 in
    let e = s.3 in
    let some : 0 < p.0 = above p.0 f.0 in
    let size : p.0 ≡ suc (length s.0) = omega (arith, t.1) in
    subst (λ name. Front (upper_name_text name) bs rest) e.1
    (upper_front q.0 s.0 bs p.1 rest u.0 y.0 (subst (λ n. Front (four n) bs p.1) size f.1)
    (u.1 ∙ ap (λ m. q.0 ∷ m) (y.1 ∙ ap (λ r. s.0 ++ r) e.0)))
  where
    above : (n : ℕ) → not (n == 0) ≡ true → 0 < n
    above zero e = absurd cc
    above (suc n) e = omega arith

upper_gives : (bs name rest : List ℕ) → Front (upper_name_text name) bs rest → Takes upper_name_reader bs name rest
unfolding upper_name_reader upper_name_text name_text
upper_gives bs [] rest h = absurd h
upper_gives bs (b ∷ ys) rest h =
    let k = front_only (is_upper b && are_name_bytes ys) (four (suc (length ys)) +++ Some (b ∷ ys)) bs rest h in
    let t = and_both (is_upper b) (are_name_bytes ys) k.0 in
    let p = front_split (four (suc (length ys))) (Some (b ∷ ys)) bs rest k.1 in
    let n = suc (length ys) in
    bind_gives length_reader upper_body bs p.0 (suc (length ys)) (b ∷ ys) rest
    (length_gives bs (suc (length ys)) p.0 (only_front (not (suc (length ys) == 0)) (four (suc (length ys))) bs p.0 (not_zero (suc (length ys)) (omega arith)) p.1))
    (bind_gives (byte is_upper) (upper_rest (suc (length ys))) p.0 (ys ++ rest) b (b ∷ ys) rest
    (field_upper.gives p.0 b (ys ++ rest) (only_front (is_upper b) (mark b) p.0 (ys ++ rest) t.0 p.2))
    (bind_gives (times (suc (length ys) - 1) (byte is_name_byte)) (λ ys. Give (b ∷ ys)) (ys ++ rest) rest ys (b ∷ ys) rest
    (gives_times (byte is_name_byte) name_byte_text field_name_byte (suc (length ys) - 1) (ys ++ rest) ys rest (omega arith) (of_bytes ys rest t.1))
    (refl, refl)))

upper_alive : Alive upper_name_reader
unfolding upper_name_reader
upper_alive =
    then_alive length_reader upper_body length_alive (λ n.
    then_alive (byte is_upper) (upper_rest n) field_upper.alive (λ b.
    then_alive (times (n - 1) (byte is_name_byte)) (λ ys. Give (b ∷ ys)) (times_alive (byte is_name_byte) name_byte_text field_name_byte (n - 1)) (λ ys. tt)))

pub field_upper_name : IsField upper_name_reader upper_name_text
field_upper_name = record { takes = upper_takes; gives = upper_gives; alive = upper_alive }

-- Names of functions: bytes of which each may depend on those before it.
abbrev Stand : ℕ → List ℕ → List ℕ → Type 0
Stand zero front [] = Unit {0}
Stand zero front (b ∷ bs) = ⊥
Stand (suc n) front [] = ⊥
Stand (suc n) front (b ∷ bs) = (may_stand n front b ≡ true) × Stand n (front ++ b ∷ []) bs

on_takes : (n : ℕ) (front bs x rest : List ℕ) → Takes (name_on n front) bs x rest → (ys : List ℕ) × (x ≡ front ++ ys) × (bs ≡ ys ++ rest) × (length ys ≡ n) × Stand n front ys
unfolding byte name_on
on_takes zero front bs x rest h = ([], sym h.1 ∙ sym (append-nil front), h.0, refl, tt)
on_takes (suc n) front [] x rest h = absurd h
on_takes (suc n) front (b ∷ bs) x rest h =
    let k = on_takes n (front ++ b ∷ []) bs x rest h.1 in
    (b ∷ k.0, k.1 ∙ append_assoc front (b ∷ []) k.0, ap (λ bs. b ∷ bs) k.2, ap suc k.3, (h.0, k.4))

on_gives : (n : ℕ) (front ys rest : List ℕ) → Stand n front ys → Takes (name_on n front) (ys ++ rest) (front ++ ys) rest
unfolding byte name_on
on_gives zero front [] rest h = (refl, sym (append-nil front))
on_gives zero front (y ∷ ys) rest h = absurd h
on_gives (suc n) front [] rest h = absurd h
on_gives (suc n) front (y ∷ ys) rest h = (h.0, subst (λ x. Takes (name_on n (front ++ y ∷ [])) (ys ++ rest) x rest) (append_assoc front (y ∷ []) ys) (on_gives n (front ++ y ∷ []) ys rest h.1))

-- what is after a first byte
stand_bytes : (n c : ℕ) (front ys : List ℕ) → Stand n (c ∷ front) ys → are_name_bytes ys ≡ true
stand_bytes zero c front [] h = refl
stand_bytes zero c front (y ∷ ys) h = absurd h
stand_bytes (suc n) c front [] h = absurd h
stand_bytes (suc zero) c front (y ∷ ys) h =
    both_and (is_name_byte y) (are_name_bytes ys) (and_both (is_name_byte y) (not (is_keyword ((c ∷ front) ++ y ∷ []))) h.0).0 (stand_bytes zero c (front ++ y ∷ []) ys h.1)
stand_bytes (suc (suc n)) c front (y ∷ ys) h = both_and (is_name_byte y) (are_name_bytes ys) h.0 (stand_bytes (suc n) c (front ++ y ∷ []) ys h.1)

stand_ends : (n : ℕ) (front : List ℕ) (y : ℕ) (ys : List ℕ) → Stand (suc n) front (y ∷ ys) → not (is_keyword (front ++ y ∷ ys)) ≡ true
stand_ends zero front y [] h = (and_both (may_follow front y) (not (is_keyword (front ++ y ∷ []))) h.0).1
stand_ends zero front y (z ∷ ys) h = absurd h.1
stand_ends (suc n) front y [] h = absurd h.1
stand_ends (suc n) front y (z ∷ ys) h = subst (λ t. not (is_keyword t) ≡ true) (append_assoc front (y ∷ []) (z ∷ ys)) (stand_ends n (front ++ y ∷ []) z ys h.1)

stand_follow : (n : ℕ) (front : List ℕ) (y : ℕ) (ys : List ℕ) → Stand (suc n) front (y ∷ ys) → may_follow front y ≡ true
stand_follow zero front y ys h = (and_both (may_follow front y) (not (is_keyword (front ++ y ∷ []))) h.0).0
stand_follow (suc n) front y ys h = h.0

name_stands : (n : ℕ) (ys : List ℕ) → Stand n [] ys → is_function_name ys ≡ true
name_stands zero [] h = refl
name_stands zero (y ∷ ys) h = absurd h
name_stands (suc n) [] h = absurd h
name_stands (suc n) (y ∷ ys) h =
    both_and (is_lower y && are_name_bytes ys) (not (is_keyword (y ∷ ys))) (both_and (is_lower y) (are_name_bytes ys) (stand_follow n [] y ys h) (stand_bytes n y [] ys h.1)) (stand_ends n [] y ys h)

-- and the other way
stands : (front : List ℕ) (y : ℕ) (ys : List ℕ) → may_follow front y ≡ true → are_name_bytes ys ≡ true → not (is_keyword (front ++ y ∷ ys)) ≡ true → Stand (suc (length ys)) front (y ∷ ys)
stands front y [] f a k = (both_and (may_follow front y) (not (is_keyword (front ++ y ∷ []))) f k, tt)
stands front y (z ∷ ys) f a k =
    let t = and_both (is_name_byte z) (are_name_bytes ys) a in
    (f, stands (front ++ y ∷ []) z ys (follows front y z t.0) t.1 (subst (λ t. not (is_keyword t) ≡ true) (sym (append_assoc front (y ∷ []) (z ∷ ys))) k))
  where
    follows : (front : List ℕ) (y z : ℕ) → is_name_byte z ≡ true → may_follow (front ++ y ∷ []) z ≡ true
    follows [] y z e = e
    follows (c ∷ front) y z e = e

stands_name : (ys : List ℕ) → is_function_name ys ≡ true → Stand (length ys) [] ys
stands_name [] e = tt
stands_name (y ∷ ys) e =
    let t = and_both (is_lower y && are_name_bytes ys) (not (is_keyword (y ∷ ys))) e in
    let u = and_both (is_lower y) (are_name_bytes ys) t.0 in
    stands [] y ys u.0 u.1 t.1

-- no keyword ends with _
ends_with : (front : List ℕ) (a : ℕ) (word : List ℕ) (b : ℕ) → front ++ a ∷ [] ≡ word ++ b ∷ [] → a ≡ b
ends_with [] a [] b e = cc
ends_with [] a (w ∷ []) b e = cc
ends_with [] a (w ∷ v ∷ word) b e = cc
ends_with (f ∷ []) a [] b e = cc
ends_with (f ∷ g ∷ front) a [] b e = cc
ends_with (f ∷ front) a (w ∷ word) b e = ends_with front a word b (tails e)
  where
    tails : f ∷ (front ++ a ∷ []) ≡ w ∷ (word ++ b ∷ []) → front ++ a ∷ [] ≡ word ++ b ∷ []
    tails e = cc

no_word : (front word : List ℕ) (b : ℕ) → (95 == b) ≡ false → bytes_eq (front ++ 95 ∷ []) (word ++ b ∷ []) ≡ false
no_word front word b f = bytes_eq-other (front ++ 95 ∷ []) (word ++ b ∷ []) (λ e. apart 95 b f (ends_with front 95 word b (sym e)))

no_keyword : (front : List ℕ) → not (is_keyword (front ++ 95 ∷ [])) ≡ true
no_keyword front =
    let data_word = no_word front (codes "dat") 97 refl in
    let fip_word = no_word front (codes "fi") 112 refl in
    let fbip_word = no_word front (codes "fbi") 112 refl in
    let fun_word = no_word front (codes "fu") 110 refl in
    let match_word = no_word front (codes "matc") 104 refl in
    let let_word = no_word front (codes "le") 116 refl in
    let if_word = no_word front (codes "i") 102 refl in
    let else_word = no_word front (codes "els") 101 refl in
    let int_word = no_word front (codes "in") 116 refl in
    rw (data_word, fip_word, fbip_word, fun_word, match_word, let_word, if_word, else_word, int_word) refl

some_follow : (front : List ℕ) → (b : ℕ) × (may_follow front b ≡ true) × (not (is_keyword (front ++ b ∷ [])) ≡ true)
some_follow [] = (97, refl, refl)
some_follow (c ∷ front) = (95, refl, no_keyword (c ∷ front))

on_alive : (n : ℕ) (front : List ℕ) → Alive (name_on n front)
unfolding byte name_on
on_alive zero front = tt
on_alive (suc zero) front =
    let s = some_follow front in
    ((s.0, both_and (may_follow front s.0) (not (is_keyword (front ++ s.0 ∷ []))) s.1 s.2), λ b e. on_alive zero (front ++ b ∷ []))
on_alive (suc (suc n)) front = let s = some_follow front in ((s.0, s.1), λ b e. on_alive (suc n) (front ++ b ∷ []))

name_takes : (bs name rest : List ℕ) → Takes function_name_reader bs name rest → Front (function_name_text name) bs rest
unfolding function_name_reader function_name_text name_text
name_takes bs name rest h =
    let p = bind_takes four_reader (λ n. name_on n []) bs name rest h in
    let k = on_takes p.0 [] p.1 name rest p.3 in
    let f = field_four.takes bs p.0 p.1 p.2 in
    subst (λ name. Front (only (is_function_name name) (four (length name) +++ Some name)) bs rest) (sym k.1)
    (only_front (is_function_name k.0) (four (length k.0) +++ Some k.0) bs rest (name_stands p.0 k.0 k.4)
    (front_join (four (length k.0)) (Some k.0) bs p.1 rest (subst (λ n. Front (four n) bs p.1) (sym k.3) f) k.2))

name_gives : (bs name rest : List ℕ) → Front (function_name_text name) bs rest → Takes function_name_reader bs name rest
unfolding function_name_reader function_name_text name_text
name_gives bs name rest h =
    let k = front_only (is_function_name name) (four (length name) +++ Some name) bs rest h in
    let p = front_split (four (length name)) (Some name) bs rest k.1 in
    bind_gives four_reader (λ n. name_on n []) bs p.0 (length name) name rest (field_four.gives bs (length name) p.0 p.1)
    (subst (λ m. Takes (name_on (length name) []) m name rest) (sym p.2) (on_gives (length name) [] name rest (stands_name name k.0)))

name_alive : Alive function_name_reader
unfolding function_name_reader
name_alive = then_alive four_reader (λ n. name_on n []) field_four.alive (λ n. on_alive n [])

pub field_function_name : IsField function_name_reader function_name_text
field_function_name = record { takes = name_takes; gives = name_gives; alive = name_alive }
