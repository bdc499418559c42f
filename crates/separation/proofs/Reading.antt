-- What is read by the words of trees: places, constructors, ints and fields.
use Rattle.std.proofs.Common.{◌≡◌, ℕ, zero, suc, ◌+◌, ◌-◌, ◌*◌, ◌/◌, ◌^◌, ◌<◌, ℤ, pos, negsuc, Bool, true, false, List, [], ◌∷◌, length, Option, Some, None, slice_get, refl, sym, ap, ◌∙◌, subst, true≢false, arith, nat_lt, FitsSigned, if◌then◌else◌}
use Rattle.std.specs.Prelude.{option_map, Contains}
use Rattle.std.specs.Int.{w64}
use Rattle.std.proofs.lemmas.Option.{none-some, same_Some}
use Rattle.std.proofs.lemmas.Bool.Decides.{nat_tests}
use Rattle.separation_kinds.specs.fip_language.Table.{Table}
use Rattle.separation_kinds.specs.fip_language.Store.{Cell, Placed, PlacedInt, Bare, At, Parts, NoParts, MoreParts, int_word, word_of, words_of}
use Rattle.separation_kinds.specs.machine_semantics.Words.{place_word, is_place, place_of, half_if, int_of}
use Rattle.separation_kinds.specs.machine_semantics.Cells.{Store, cell_at}
use Rattle.separation_kinds.specs.machine_semantics.Trees.{Stands, StandAll, IsTree}
use Rattle.separation_kinds.specs.machine_semantics.Rows.{cell_if, named, constructor_if, constructor_of}
use Rattle.separation_kinds.specs.machine_semantics.Apart.{Tree, RootIn}
use Rattle.separation_kinds.specs.code_rules.Types.{fields, fields_of}
use Rattle.separation_kinds.specs.Meanings.{part_in, part_of}

pub odd_place : (p : ℕ) → is_place (2 * p + 1) ≡ true
odd_place p = grind (arith, nat_tests)

pub even_place : (c : ℕ) → is_place (2 * c) ≡ false
even_place c = grind (arith, nat_tests)

pub odd_half : (p : ℕ) → (2 * p + 1) / 2 ≡ p
odd_half p = omega arith

pub even_half : (c : ℕ) → (2 * c) / 2 ≡ c
even_half c = omega arith

pub place_is : (p w : ℕ) → place_word p ≡ w → place_of w ≡ Some p
place_is p w e = ap place_of (sym e) ∙ ap (λ b. half_if b (2 * p + 1)) (odd_place p) ∙ ap Some (odd_half p)

pub named_is : (s : Store) (p w : ℕ) → place_word p ≡ w → named s w ≡ cell_at s p
named_is s p w e = ap (cell_if s) (place_is p w e)

-- a tree that is no int has a constructor
abbrev pub constructor_in : Placed → Option ℕ
constructor_in (PlacedInt i) = None
constructor_in (Bare c) = Some c
constructor_in (At p c xs) = Some c

pub constructor_is : (tb : Table) (s : Store) (t w c : ℕ) (x : Placed) → constructor_in x ≡ Some c → IsTree tb s t w x → constructor_of s w ≡ Some c
constructor_is tb s t w c (PlacedInt i) e g = absurd (none-some c e)
constructor_is tb s t w c (Bare d) e g =
    ap (constructor_of s) (sym g.word) ∙ ap (λ b. constructor_if s ((2 * d) / 2) b) (even_place d) ∙ ap Some (even_half d) ∙ e
constructor_is tb s zero w c (At p d xs) e g = absurd g.stands
constructor_is tb s (suc t) w c (At p d xs) e g =
    ap (constructor_of s) (sym g.word) ∙ ap (λ b. constructor_if s ((2 * p + 1) / 2) b) (odd_place p) ∙ ap (λ h. option_map (λ (c : Cell). c.tag) (cell_at s h)) (odd_half p) ∙ ap (option_map (λ (c : Cell). c.tag)) g.stands.0 ∙ e

-- the constructor is one of these
pub root_of_set : (cs : List ℕ) (x : Placed) → RootIn cs (Tree x) → (c : ℕ) × (constructor_in x ≡ Some c) × Contains cs c
root_of_set cs (PlacedInt i) r = absurd r
root_of_set cs (Bare c) r = (c, refl, r)
root_of_set cs (At p c xs) r = (c, refl, r)

pub root_in_set : (cs : List ℕ) (c : ℕ) (x : Placed) → constructor_in x ≡ Some c → Contains cs c → RootIn cs (Tree x)
root_in_set cs c (PlacedInt i) e h = absurd (none-some c e)
root_in_set cs c (Bare d) e h = subst (λ c. Contains cs c) (sym (same_Some d c e)) h
root_in_set cs c (At p d xs) e h = subst (λ c. Contains cs c) (sym (same_Some d c e)) h

-- an int is that of its word
pub int_is : (i : ℤ) → FitsSigned w64 i → int_of (int_word i) ≡ i
int_is (pos n) f = let h : n < 2 ^ 63 = f.sfits in if_small (nat_lt n (2 ^ 63)) (grind (arith, nat_tests))
  where
    if_small : (b : Bool) → b ≡ true → (if b then pos n else negsuc (2 ^ 64 - suc n)) ≡ pos n
    if_small true e = refl
    if_small false e = absurd (true≢false (sym e))
int_is (negsuc n) f =
    let h : n < 2 ^ 63 = f.sfits in
    let e : 2 ^ 64 - suc (2 ^ 64 - suc n) ≡ n = omega arith in
    if_large (nat_lt (2 ^ 64 - suc n) (2 ^ 63)) (grind (arith, nat_tests)) ∙ ap negsuc e
  where
    if_large : (b : Bool) → b ≡ false → (if b then pos (2 ^ 64 - suc n) else negsuc (2 ^ 64 - suc (2 ^ 64 - suc n))) ≡ negsuc (2 ^ 64 - suc (2 ^ 64 - suc n))
    if_large true e = absurd (true≢false e)
    if_large false e = refl

pub int_fits : (tb : Table) (s : Store) (w : ℕ) (x : Placed) → IsTree tb s 0 w x → FitsSigned w64 (int_of w)
int_fits tb s w (PlacedInt i) g = subst (λ i. FitsSigned w64 i) (sym (ap int_of (sym g.word) ∙ int_is i g.stands)) g.stands
int_fits tb s w (Bare c) g = absurd g.stands
int_fits tb s w (At p c xs) g = absurd g.stands

-- ---- fields

pub get_words : (xs : Parts) (i : ℕ) (x : Placed) → part_in xs i ≡ Some x → slice_get (words_of xs) i ≡ Some (word_of x)
get_words NoParts i x e = absurd (none-some x e)
get_words (MoreParts y xs) zero x e = ap (λ y. Some (word_of y)) (same_Some y x e)
get_words (MoreParts y xs) (suc i) x e = get_words xs i x e

pub stand_length : (tb : Table) (s : Store) (ts : List ℕ) (xs : Parts) → StandAll tb s ts xs → length (words_of xs) ≡ length ts
stand_length tb s [] NoParts g = refl
stand_length tb s [] (MoreParts x xs) g = absurd g
stand_length tb s (t ∷ ts) NoParts g = absurd g
stand_length tb s (t ∷ ts) (MoreParts x xs) g = ap suc (stand_length tb s ts xs g.1)

pub stand_part : (tb : Table) (s : Store) (ts : List ℕ) (xs : Parts) (i t : ℕ) → StandAll tb s ts xs → slice_get ts i ≡ Some t → (x : Placed) × (part_in xs i ≡ Some x) × Stands tb s t x
stand_part tb s [] xs i t g e = absurd (none-some t e)
stand_part tb s (u ∷ ts) NoParts i t g e = absurd g
stand_part tb s (u ∷ ts) (MoreParts x xs) zero t g e = (x, refl, subst (λ u. Stands tb s u x) (same_Some u t e) g.0)
stand_part tb s (u ∷ ts) (MoreParts x xs) (suc i) t g e = stand_part tb s ts xs i t g.1 e

-- a tree with this constructor: its parts, of the types of the constructor's fields
pub record HasFields (tb : Table) (s : Store) (w : ℕ) (x : Placed) (ts : List ℕ) : Type 0 where
  pub parts : Parts
  pub part : (i : ℕ) → part_of x i ≡ part_in parts i
  pub stand : StandAll tb s ts parts

pub fields_in : (tb : Table) (s : Store) (t w c : ℕ) (x : Placed) → constructor_in x ≡ Some c → IsTree tb s t w x → HasFields tb s w x (fields tb t c)
fields_in tb s t w c (PlacedInt i) e g = absurd (none-some c e)
fields_in tb s zero w c (Bare d) e g = absurd g.stands
fields_in tb s (suc t) w c (Bare d) e g = record {
  parts = NoParts;
  part = λ i. refl;
  stand = subst (λ ts. StandAll tb s ts NoParts) (sym (ap (λ c. fields tb (suc t) c) (sym (same_Some d c e)) ∙ ap fields_of g.stands.1 ∙ g.stands.2)) tt;
}
fields_in tb s zero w c (At p d xs) e g = absurd g.stands
fields_in tb s (suc t) w c (At p d xs) e g = record {
  parts = xs;
  part = λ i. refl;
  stand = subst (λ ts. StandAll tb s ts xs) (sym (ap (λ c. fields tb (suc t) c) (sym (same_Some d c e)) ∙ ap fields_of g.stands.3)) g.stands.4;
}
