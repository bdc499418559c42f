-- A tree that is read out of a store is one that its word stands for.
-- The idea: a reading of the fields' words that is right makes a right reading of the word; then by the depth.
use Rattle.std.proofs.Common.{◌≡◌, ℕ, zero, suc, ◌+◌, ◌-◌, ◌*◌, ◌/◌, ◌%◌, ◌^◌, ◌<◌, refl, sym, ap, ◌∙◌, List, [], ◌∷◌, Option, Some, None, Bool, true, false, nat_eq, nat_lt, ℤ, pos, negsuc, is_some, true≢false, if◌then◌else◌, arith, subst, slice_get, FitsSigned, length}
use Rattle.std.proofs.lemmas.Bool.Decides.{nat_tests}
use Rattle.std.specs.Int.{w64}
use Rattle.std.specs.Prelude.{option_and_then, option_map, unwrap_or}
use Rattle.cell_code.specs.fip_language.Table.{Shape, Table, shapes}
use Rattle.cell_code.specs.fip_language.Store.{Cell, Placed, PlacedInt, Bare, At, Parts, NoParts, MoreParts, int_word, word_of, words_of}
use Rattle.machine_semantics.specs.Words.{is_place, int_of}
use Rattle.machine_semantics.specs.Cells.{Store, cell_at}
use Rattle.machine_semantics.specs.Trees.{HasPart, Stands, StandAll, IsTree, read_int, read_all_parts, read_bare, read_fields, field_types, read_cell, read_data, read_word, tree_within, tree_of}

same : {A : Type 0} (x y : A) → ◌≡◌ {A = Option A} (Some x) (Some y) → x ≡ y
same x y is = ap (λ o. unwrap_or o x) is

gone : {A : Type 0} {B : Type 0} (x : A) → ◌≡◌ {A = Option A} None (Some x) → B
gone {A} x is = absurd (true≢false (sym (ap (λ (o : Option A). is_some o) is)))

abbrev pub int_if : Bool → ℕ → ℤ
int_if b w = if b then pos w else negsuc (2 ^ 64 - suc w)

word_if : (w : ℕ) (b : Bool) → nat_lt w (2 ^ 63) ≡ b → nat_lt w (2 ^ 64) ≡ true → int_word (int_if b w) ≡ w
word_if w true is below = refl
word_if w false is below = grind (arith, nat_tests)

fits_if : (w : ℕ) (b : Bool) → nat_lt w (2 ^ 63) ≡ b → nat_lt w (2 ^ 64) ≡ true → FitsSigned w64 (int_if b w)
fits_if w true is below = grind (arith, nat_tests)
fits_if w false is below = grind (arith, nat_tests)

odd_word : (w : ℕ) → is_place w ≡ true → 2 * (w / 2) + 1 ≡ w
odd_word w is = grind (arith, nat_tests)

even_word : (w : ℕ) → is_place w ≡ false → 2 * (w / 2) ≡ w
even_word w is = grind (arith, nat_tests)

-- a right reading of words
abbrev pub Reads : Table → Store → (ℕ → ℕ → Option Placed) → Type 0
Reads tb s read = (t w : ℕ) (x : Placed) → read t w ≡ Some x → IsTree tb s t w x

record PartsRead (tb : Table) (s : Store) (ts ws : List ℕ) (xs : Parts) : Type 0 where
  words : words_of xs ≡ ws
  stand : StandAll tb s ts xs

parts_more : (tb : Table) (s : Store) (t w : ℕ) (ts ws : List ℕ) (xs : Parts) (o : Option Placed) (rest : Option Parts) → option_and_then (λ x. option_map (λ ys. MoreParts x ys) rest) o ≡ Some xs → ((x : Placed) → o ≡ Some x → IsTree tb s t w x) → ((ys : Parts) → rest ≡ Some ys → PartsRead tb s ts ws ys) → PartsRead tb s (t ∷ ts) (w ∷ ws) xs
parts_more tb s t w ts ws xs None rest is first others = gone xs is
parts_more tb s t w ts ws xs (Some x) None is first others = gone xs is
parts_more tb s t w ts ws xs (Some x) (Some ys) is first others = subst (λ zs. PartsRead tb s (t ∷ ts) (w ∷ ws) zs) (same (MoreParts x ys) xs is) (record {
  words = ap (λ v. v ∷ words_of ys) (first x refl).word ∙ ap (λ vs. w ∷ vs) (others ys refl).words;
  stand = ((first x refl).stands, (others ys refl).stand);
})

parts_read : (tb : Table) (s : Store) (read : ℕ → ℕ → Option Placed) → Reads tb s read → (ts ws : List ℕ) (xs : Parts) → read_all_parts read ts ws ≡ Some xs → PartsRead tb s ts ws xs
parts_read tb s read right [] [] xs is = subst (λ ys. PartsRead tb s [] [] ys) (same NoParts xs is) (record { words = refl; stand = tt })
parts_read tb s read right [] (w ∷ ws) xs is = gone xs is
parts_read tb s read right (t ∷ ts) [] xs is = gone xs is
parts_read tb s read right (t ∷ ts) (w ∷ ws) xs is = parts_more tb s t w ts ws xs (read t w) (read_all_parts read ts ws) is (λ x. right t w x) (λ ys. parts_read tb s read right ts ws ys)

record HasShape (ks : List Shape) (c : ℕ) (ts : List ℕ) : Type 0 where
  shape : Shape
  is : slice_get ks c ≡ Some shape
  fields : shape.fields ≡ ts

shape_in : (ks : List Shape) (c : ℕ) (ts : List ℕ) (o : Option Shape) → slice_get ks c ≡ o → option_map (λ k. k.fields) o ≡ Some ts → HasShape ks c ts
shape_in ks c ts None at is = gone ts is
shape_in ks c ts (Some k) at is = record { shape = k; is = at; fields = same k.fields ts is }

shape_of : (ks : List Shape) (c : ℕ) (ts : List ℕ) → field_types ks c ≡ Some ts → HasShape ks c ts
shape_of ks c ts is = shape_in ks c ts (slice_get ks c) refl is

has_part : (tb : Table) (s : Store) (t : ℕ) (ts : List ℕ) (xs : Parts) → StandAll tb s (t ∷ ts) xs → HasPart xs
has_part tb s t ts NoParts h = absurd h
has_part tb s t ts (MoreParts x xs) h = tt

cell_is : (tb : Table) (s : Store) (u w p : ℕ) (c : Cell) (t : ℕ) (ts : List ℕ) (xs : Parts) → 2 * p + 1 ≡ w → cell_at s p ≡ Some c → HasShape (shapes tb u) c.tag (t ∷ ts) → PartsRead tb s (t ∷ ts) c.fields xs → IsTree tb s (suc u) w (At p c.tag xs)
cell_is tb s u w p c t ts xs word at k r = record {
  word = word;
  stands = (at ∙ ap (λ vs. Some (record { tag = c.tag; fields = vs })) (sym r.words), has_part tb s t ts xs r.stand, k.shape, k.is, subst (λ us. StandAll tb s us xs) (sym k.fields) r.stand);
}

at_read : (tb : Table) (s : Store) (u w p : ℕ) (c : Cell) (t : ℕ) (ts : List ℕ) (x : Placed) (o : Option Parts) → 2 * p + 1 ≡ w → cell_at s p ≡ Some c → HasShape (shapes tb u) c.tag (t ∷ ts) → ((xs : Parts) → o ≡ Some xs → PartsRead tb s (t ∷ ts) c.fields xs) → option_map (λ xs. At p c.tag xs) o ≡ Some x → IsTree tb s (suc u) w x
at_read tb s u w p c t ts x None word at k parts is = gone x is
at_read tb s u w p c t ts x (Some xs) word at k parts is = subst (λ y. IsTree tb s (suc u) w y) (same (At p c.tag xs) x is) (cell_is tb s u w p c t ts xs word at k (parts xs refl))

fields_read : (tb : Table) (s : Store) (read : ℕ → ℕ → Option Placed) → Reads tb s read → (u w p : ℕ) (c : Cell) (x : Placed) (o : Option (List ℕ)) → 2 * p + 1 ≡ w → cell_at s p ≡ Some c → field_types (shapes tb u) c.tag ≡ o → read_fields read p c o ≡ Some x → IsTree tb s (suc u) w x
fields_read tb s read right u w p c x None word at k is = gone x is
fields_read tb s read right u w p c x (Some []) word at k is = gone x is
fields_read tb s read right u w p c x (Some (t ∷ ts)) word at k is = at_read tb s u w p c t ts x (read_all_parts read (t ∷ ts) c.fields) word at (shape_of (shapes tb u) c.tag (t ∷ ts) k) (λ xs. parts_read tb s read right (t ∷ ts) c.fields xs) is

cell_read : (tb : Table) (s : Store) (read : ℕ → ℕ → Option Placed) → Reads tb s read → (u w p : ℕ) (x : Placed) (o : Option Cell) → 2 * p + 1 ≡ w → cell_at s p ≡ o → read_cell read (shapes tb u) p o ≡ Some x → IsTree tb s (suc u) w x
cell_read tb s read right u w p x None word at is = gone x is
cell_read tb s read right u w p x (Some c) word at is = fields_read tb s read right u w p c x (field_types (shapes tb u) c.tag) word at refl is

bare_read : (tb : Table) (s : Store) (u w c : ℕ) (x : Placed) (o : Option (List ℕ)) → 2 * c ≡ w → field_types (shapes tb u) c ≡ o → read_bare c o ≡ Some x → IsTree tb s (suc u) w x
bare_read tb s u w c x None word k is = gone x is
bare_read tb s u w c x (Some []) word k is = subst (λ y. IsTree tb s (suc u) w y) (same (Bare c) x is) (let h = shape_of (shapes tb u) c [] k in record { word = word; stands = (h.shape, h.is, h.fields) })
bare_read tb s u w c x (Some (t ∷ ts)) word k is = gone x is

data_read : (tb : Table) (s : Store) (read : ℕ → ℕ → Option Placed) → Reads tb s read → (u w : ℕ) (x : Placed) (b : Bool) → is_place w ≡ b → read_data read s (shapes tb u) (w / 2) b ≡ Some x → IsTree tb s (suc u) w x
data_read tb s read right u w x true odd is = cell_read tb s read right u w (w / 2) x (cell_at s (w / 2)) (odd_word w odd) refl is
data_read tb s read right u w x false even is = bare_read tb s u w (w / 2) x (field_types (shapes tb u) (w / 2)) (even_word w even) refl is

int_read : (tb : Table) (s : Store) (w : ℕ) (x : Placed) (b : Bool) → nat_lt w (2 ^ 64) ≡ b → read_int b w ≡ Some x → IsTree tb s 0 w x
int_read tb s w x true below is = subst (λ y. IsTree tb s 0 w y) (same (PlacedInt (int_of w)) x is) (record { word = word_if w (nat_lt w (2 ^ 63)) refl below; stands = fits_if w (nat_lt w (2 ^ 63)) refl below })
int_read tb s w x false below is = gone x is

word_read : (tb : Table) (s : Store) (read : ℕ → ℕ → Option Placed) → Reads tb s read → Reads tb s (λ t w. read_word read tb s t w)
word_read tb s read right zero w x is = int_read tb s w x (nat_lt w (2 ^ 64)) refl is
word_read tb s read right (suc u) w x is = data_read tb s read right u w x (is_place w) refl is

nothing_read : (tb : Table) (s : Store) → Reads tb s (λ t w. None)
nothing_read tb s t w x is = gone x is

within_read : (n : ℕ) (tb : Table) (s : Store) → Reads tb s (λ t w. tree_within n tb s t w)
within_read zero tb s = word_read tb s (λ t w. None) (nothing_read tb s)
within_read (suc n) tb s = word_read tb s (λ t w. tree_within n tb s t w) (within_read n tb s)

pub tree_read : (tb : Table) (s : Store) (t w : ℕ) (x : Placed) → tree_of tb s t w ≡ Some x → IsTree tb s t w x
tree_read tb s = within_read (length s.cells) tb s
