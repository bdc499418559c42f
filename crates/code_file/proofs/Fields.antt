-- Each reader reads just the texts of what it gives: bytes, numbers, lists, names.
use Rattle.std.proofs.Common.{◌≡◌, ℕ, zero, suc, ◌+◌, ◌-◌, ◌/◌, ◌%◌, ◌^◌, ◌<◌, ◌≤◌, ℤ, pos, negsuc, List, [], ◌∷◌, ◌++◌, length, get_or, Option, Some, None, Bool, true, false, refl, sym, ap, ap₂, ◌∙◌, subst, append_assoc, arith, FitsSigned}
use Rattle.std.specs.Prelude.{nat_lt, nat_le, ◌==◌, ◌&&◌, ◌||◌, not, if◌then◌else◌, codes}
use Rattle.std.specs.Int.{w16, w32, w64, to_be_bytes, from_be_bytes, cast_signed, cast_unsigned, is_in_range}
use Rattle.std.specs.Str.{bytes_eq}
use Rattle.std.proofs.lemmas.Bool.{ltb-true, lt-ltb, leb-true, le-leb, eqb-true, eqb-false, eq-eqb}
use Rattle.std.proofs.lemmas.List.{append-nil, length-append}
use Rattle.std.proofs.lemmas.Nat.{be_bytes_2, be_bytes_4, be_bytes_8, from_be_bytes-to_be_bytes_2, from_be_bytes-to_be_bytes_4, from_be_bytes-to_be_bytes_8}
use Rattle.std.proofs.lemmas.Int.{of_z-to_z, to_z-of_z}
use mir.ValLaws.{to_z-Fits, of_z_fits}
use Rattle.code_file.specs.Spelling.{◌+++◌, each, mark, only, one, two, four, eight}
use Rattle.code_file.specs.CodeText.{list_text, arguments_text, types_text, set_text}
use Rattle.code_file.specs.Reading.{Reader, Give, Byte, ◌>>=◌, byte, any, is_byte, two_reader, four_reader, eight_reader, times, counted, list_reader, arguments_reader, set_reader}
use Rattle.code_file.proofs.Numbers.{eight_fits}
use Rattle.code_file.proofs.Readers.{Takes, Alive, Front, IsField, front_join, front_split, field_counted}
pub use Rattle.fip_language.proofs.Facts.{and_both, both_true as both_and}

-- a text that is there where a test holds
pub front_only : (b : Bool) (o : Option (List ℕ)) (bs rest : List ℕ) → Front (only b o) bs rest → (b ≡ true) × Front o bs rest
front_only true o bs rest h = (refl, h)
front_only false o bs rest h = absurd h

pub only_front : (b : Bool) (o : Option (List ℕ)) (bs rest : List ℕ) → b ≡ true → Front o bs rest → Front (only b o) bs rest
only_front true o bs rest e h = h
only_front false o bs rest e h = absurd cc

-- a byte for which a test holds
module _ (may : ℕ → Bool) (some : (b : ℕ) × (may b ≡ true)) where
  test_takes : (bs : List ℕ) (x : ℕ) (rest : List ℕ) → Takes (byte may) bs x rest → Front (only (may x) (mark x)) bs rest
  unfolding byte
  test_takes [] x rest h = absurd h
  test_takes (c ∷ bs) x rest h =
      let k = h.1 in
      only_front (may x) (mark x) (c ∷ bs) rest (subst (λ c. may c ≡ true) k.1 h.0) (ap₂ (λ c bs. c ∷ bs) k.1 k.0)

  test_gives : (bs : List ℕ) (x : ℕ) (rest : List ℕ) → Front (only (may x) (mark x)) bs rest → Takes (byte may) bs x rest
  unfolding byte
  test_gives bs x rest h =
      let k = front_only (may x) (mark x) bs rest h in
      subst (λ bs. Takes (byte may) bs x rest) (sym k.1) (k.0, (refl, refl))

  test_alive : Alive (byte may)
  unfolding byte
  test_alive = (some, λ b e. tt)

  pub field_test : IsField (byte may) (λ x. only (may x) (mark x))
  field_test = record { takes = test_takes; gives = test_gives; alive = test_alive }

pub field_any : IsField any one
unfolding one
field_any = field_test is_byte (0, refl)

-- all of these bytes are bytes
abbrev Small : List ℕ → Type 0
Small [] = Unit {0}
Small (b ∷ bs) = (is_byte b ≡ true) × Small bs

small_at : (bs : List ℕ) → Small bs → (i : ℕ) → get_or bs i 0 < 256
small_at [] s i = omega arith
small_at (b ∷ bs) s zero = ltb-true b 256 s.0
small_at (b ∷ bs) s (suc i) = small_at bs s.1 i

byte_test : (n : ℕ) → is_byte (n % 256) ≡ true
byte_test n = lt-ltb (n % 256) 256 (omega arith)

two_takes : (bs : List ℕ) (n : ℕ) (rest : List ℕ) → Takes two_reader bs n rest → Front (two n) bs rest
unfolding byte two_reader two
two_takes [] n rest h = absurd h
two_takes (a ∷ []) n rest h = absurd h.1
two_takes (a ∷ b ∷ bs) n rest h =
    let k = h.1 in
    let e = k.1 in
    let small : (i : ℕ) → get_or (a ∷ b ∷ []) i 0 < 256 = small_at (a ∷ b ∷ []) (h.0, (k.0, tt)) in
    let n0 = small 0 in
    let n1 = small 1 in
    let is : n ≡ from_be_bytes w16 (a ∷ b ∷ []) = sym e.1 in
    only_front (nat_lt n 65536) (Some (to_be_bytes w16 n)) (a ∷ b ∷ bs) rest (lt-ltb n 65536 (omega arith))
    (ap₂ (λ t r. t ++ r) (sym (be_bytes_2 (a ∷ b ∷ []) n refl small is)) e.0)

two_gives : (bs : List ℕ) (n : ℕ) (rest : List ℕ) → Front (two n) bs rest → Takes two_reader bs n rest
unfolding byte two_reader two
two_gives bs n rest h =
    let k = front_only (nat_lt n 65536) (Some (to_be_bytes w16 n)) bs rest h in
    subst (λ bs. Takes two_reader bs n rest) (sym k.1)
    (byte_test (n / 256), (byte_test n, (refl, from_be_bytes-to_be_bytes_2 n (ltb-true n 65536 k.0))))

two_alive : Alive two_reader
unfolding byte two_reader
two_alive = ((0, refl), λ a e. ((0, refl), λ b f. tt))

pub field_two : IsField two_reader two
field_two = record { takes = two_takes; gives = two_gives; alive = two_alive }

four_takes : (bs : List ℕ) (n : ℕ) (rest : List ℕ) → Takes four_reader bs n rest → Front (four n) bs rest
unfolding byte four_reader four
four_takes [] n rest h = absurd h
four_takes (a ∷ []) n rest h = absurd h.1
four_takes (a ∷ b ∷ []) n rest h = absurd h.1.1
four_takes (a ∷ b ∷ c ∷ []) n rest h = absurd h.1.1.1
four_takes (a ∷ b ∷ c ∷ d ∷ bs) n rest h =
    let k = h.1 in
    let l = k.1 in
    let m = l.1 in
    let e = m.1 in
    let small : (i : ℕ) → get_or (a ∷ b ∷ c ∷ d ∷ []) i 0 < 256 = small_at (a ∷ b ∷ c ∷ d ∷ []) (h.0, (k.0, (l.0, (m.0, tt)))) in
    let n0 = small 0 in
    let n1 = small 1 in
    let n2 = small 2 in
    let n3 = small 3 in
    let is : n ≡ from_be_bytes w32 (a ∷ b ∷ c ∷ d ∷ []) = sym e.1 in
    only_front (nat_lt n 4294967296) (Some (to_be_bytes w32 n)) (a ∷ b ∷ c ∷ d ∷ bs) rest (lt-ltb n 4294967296 (omega arith))
    (ap₂ (λ t r. t ++ r) (sym (be_bytes_4 (a ∷ b ∷ c ∷ d ∷ []) n refl small is)) e.0)

four_gives : (bs : List ℕ) (n : ℕ) (rest : List ℕ) → Front (four n) bs rest → Takes four_reader bs n rest
unfolding byte four_reader four
four_gives bs n rest h =
    let k = front_only (nat_lt n 4294967296) (Some (to_be_bytes w32 n)) bs rest h in
    subst (λ bs. Takes four_reader bs n rest) (sym k.1)
    (byte_test (n / 16777216), (byte_test (n / 65536), (byte_test (n / 256), (byte_test n, (refl, from_be_bytes-to_be_bytes_4 n (ltb-true n 4294967296 k.0))))))

four_alive : Alive four_reader
unfolding byte four_reader
four_alive = ((0, refl), λ a e. ((0, refl), λ b f. ((0, refl), λ c g. ((0, refl), λ d h. tt))))

pub field_four : IsField four_reader four
field_four = record { takes = four_takes; gives = four_gives; alive = four_alive }

eight_front : (z : ℤ) (bs rest : List ℕ) → Front (eight z) bs rest → FitsSigned w64 z × (bs ≡ to_be_bytes w64 (cast_unsigned w64 z) ++ rest)
unfolding eight
eight_front (pos n) bs rest h =
    let k = front_only (nat_lt n (2 ^ 63)) (Some (to_be_bytes w64 n)) bs rest h in
    (record { sfits = ltb-true n (2 ^ 63) k.0 }, k.1)
eight_front (negsuc n) bs rest h =
    let k = front_only (nat_lt n (2 ^ 63)) (Some (to_be_bytes w64 (2 ^ 64 - suc n))) bs rest h in
    (record { sfits = ltb-true n (2 ^ 63) k.0 }, k.1)

-- the text of the int that eight bytes are
eight_of : (t : List ℕ) (z : ℤ) → length t ≡ 8 → ((i : ℕ) → get_or t i 0 < 256) → cast_signed w64 (from_be_bytes w64 t) ≡ z → from_be_bytes w64 t < 2 ^ 64 → eight z ≡ Some t
eight_of t z l small e lt =
    let m = from_be_bytes w64 t in
    let bits : cast_unsigned w64 z ≡ m = ap (cast_unsigned w64) (sym e) ∙ of_z-to_z w64 m lt in
    eight_fits z (subst (FitsSigned w64) e (to_z-Fits w64 m (record { fits = lt })))
    ∙ ap Some (ap (to_be_bytes w64) bits ∙ be_bytes_8 t m l small refl)

eight_takes : (bs : List ℕ) (z : ℤ) (rest : List ℕ) → Takes eight_reader bs z rest → Front (eight z) bs rest
unfolding byte eight_reader
eight_takes [] z rest h = absurd h
eight_takes (a ∷ []) z rest h = absurd h.1
eight_takes (a ∷ b ∷ []) z rest h = absurd h.1.1
eight_takes (a ∷ b ∷ c ∷ []) z rest h = absurd h.1.1.1
eight_takes (a ∷ b ∷ c ∷ d ∷ []) z rest h = absurd h.1.1.1.1
eight_takes (a ∷ b ∷ c ∷ d ∷ e ∷ []) z rest h = absurd h.1.1.1.1.1
eight_takes (a ∷ b ∷ c ∷ d ∷ e ∷ f ∷ []) z rest h = absurd h.1.1.1.1.1.1
eight_takes (a ∷ b ∷ c ∷ d ∷ e ∷ f ∷ g ∷ []) z rest h = absurd h.1.1.1.1.1.1.1
eight_takes (a ∷ b ∷ c ∷ d ∷ e ∷ f ∷ g ∷ y ∷ bs) z rest h =
    let h1 = h.1 in
    let h2 = h1.1 in
    let h3 = h2.1 in
    let h4 = h3.1 in
    let h5 = h4.1 in
    let h6 = h5.1 in
    let h7 = h6.1 in
    let x = h7.1 in
    let t = a ∷ b ∷ c ∷ d ∷ e ∷ f ∷ g ∷ y ∷ [] in
    let small : (i : ℕ) → get_or (a ∷ b ∷ c ∷ d ∷ e ∷ f ∷ g ∷ y ∷ []) i 0 < 256 = small_at (a ∷ b ∷ c ∷ d ∷ e ∷ f ∷ g ∷ y ∷ []) (h.0, (h1.0, (h2.0, (h3.0, (h4.0, (h5.0, (h6.0, (h7.0, tt)))))))) in
    let n0 = small 0 in
    let n1 = small 1 in
    let n2 = small 2 in
    let n3 = small 3 in
    let n4 = small 4 in
    let n5 = small 5 in
    let n6 = small 6 in
    let n7 = small 7 in
    subst (λ o. Front o (a ∷ b ∷ c ∷ d ∷ e ∷ f ∷ g ∷ y ∷ bs) rest) (sym (eight_of (a ∷ b ∷ c ∷ d ∷ e ∷ f ∷ g ∷ y ∷ []) z refl small x.1 (omega arith)))
    (ap (λ r. (a ∷ b ∷ c ∷ d ∷ e ∷ f ∷ g ∷ y ∷ []) ++ r) x.0)

eight_gives : (bs : List ℕ) (z : ℤ) (rest : List ℕ) → Front (eight z) bs rest → Takes eight_reader bs z rest
unfolding byte eight_reader
eight_gives bs z rest h =
    let k = eight_front z bs rest h in
    let m = cast_unsigned w64 z in
    subst (λ bs. Takes eight_reader bs z rest) (sym k.1) (
      byte_test (m / 72057594037927936),
      (
        byte_test (m / 281474976710656),
        (
          byte_test (m / 1099511627776),
          (
            byte_test (m / 4294967296),
            (
              byte_test (m / 16777216),
              (
                byte_test (m / 65536),
                (
                  byte_test (m / 256),
                  (
                    byte_test m,
                    (refl, ap (cast_signed w64) (from_be_bytes-to_be_bytes_8 m (of_z_fits w64 z k.0).fits) ∙ to_z-of_z w64 z k.0),
                  ),
                ),
              ),
            ),
          ),
        ),
      ),
    )

eight_alive : Alive eight_reader
unfolding byte eight_reader
eight_alive = ((0, refl), λ a _. ((0, refl), λ b _. ((0, refl), λ c _. ((0, refl), λ d _. ((0, refl), λ e _. ((0, refl), λ f _. ((0, refl), λ g _. ((0, refl), λ h _. tt))))))))

pub field_eight : IsField eight_reader eight
field_eight = record { takes = eight_takes; gives = eight_gives; alive = eight_alive }

-- lists of numbers
pub field_list : IsField list_reader list_text
unfolding list_reader list_text
field_list = field_counted two_reader two field_two any one field_any

pub field_types : IsField list_reader types_text
unfolding list_reader types_text
field_types = field_counted two_reader two field_two any one field_any

pub field_arguments : IsField arguments_reader arguments_text
unfolding arguments_reader arguments_text
field_arguments = field_counted two_reader two field_two two_reader two field_two

pub field_set : IsField set_reader set_text
unfolding set_reader set_text
field_set = field_counted four_reader four field_four two_reader two field_two
