-- A tree whose cells are apart is read from its word: it has no more nodes with cells than there are cells.
use Rattle.std.proofs.Common.{◌≡◌, inl, inr, ℕ, zero, suc, ◌+◌, ◌*◌, ◌/◌, ◌^◌, ◌<◌, ◌≤◌, ℤ, pos, negsuc, true, List, [], ◌∷◌, length, Option, Some, None, slice_get, refl, sym, ap, ◌∙◌, subst, arith, nat_lt, FitsSigned}
use Rattle.std.specs.Prelude.{option_and_then, option_map}
use Rattle.std.specs.Int.{w64}
use Rattle.std.proofs.lemmas.Bool.Decides.{nat_tests}
use Rattle.separation_kinds.specs.fip_language.Table.{Table, Shape, shapes}
use Rattle.separation_kinds.specs.fip_language.Store.{Cell, Placed, PlacedInt, Bare, At, Parts, NoParts, MoreParts, int_word, word_of, words_of, uses, uses_of_all, one_at}
use Rattle.separation_kinds.specs.machine_semantics.Cells.{Store, cell_in, cell_at, one_if_some, there}
use Rattle.separation_kinds.specs.machine_semantics.Trees.{HasPart, StandAll, IsTree, read_int, read_all_parts, read_bare, read_fields, field_types, read_cell, read_data, read_word, tree_within, tree_of}
use Rattle.separation_kinds.specs.Meanings.{sum_from}
use Rattle.separation_kinds.proofs.Basics.{less_or_not}
use Rattle.separation_kinds.proofs.Agree.{one_here, one_apart}
use Rattle.separation.proofs.Reading.{odd_place, even_place, odd_half, even_half, int_is}
use Rattle.separation.proofs.Stores.{same_place, there_few}

-- ---- nodes

abbrev mutual
  pub nodes : Placed → ℕ
  nodes (PlacedInt i) = 0
  nodes (Bare c) = 0
  nodes (At p c xs) = suc (nodes_of_all xs)

  pub nodes_of_all : Parts → ℕ
  nodes_of_all NoParts = 0
  nodes_of_all (MoreParts x xs) = nodes x + nodes_of_all xs

pub sum_zero : (f : ℕ → ℕ) (i n : ℕ) → ((r : ℕ) → i ≤ r → r < i + n → f r ≡ 0) → sum_from f i n ≡ 0
sum_zero f i zero h = refl
sum_zero f i (suc n) h = let a = h i (omega arith) (omega arith) in let b = sum_zero f (suc i) n (λ r low high. h r (omega arith) (omega arith)) in omega arith

pub sum_add : (f g : ℕ → ℕ) (i n : ℕ) → sum_from (λ r. f r + g r) i n ≡ sum_from f i n + sum_from g i n
sum_add f g i zero = refl
sum_add f g i (suc n) = let a = sum_add f g (suc i) n in omega arith

pub sum_one : (p i n : ℕ) → i ≤ p → p < i + n → sum_from (λ q. one_at q p) i n ≡ 1
sum_one p i zero low high = absurd (omega arith)
sum_one p i (suc n) low high = elim (same_place i p) as (λ v. one_at i p + sum_from (λ q. one_at q p) (suc i) n ≡ 1) [
  | inl e ↦
      let a = one_here i p e in
      let b = sum_zero (λ q. one_at q p) (suc i) n (λ r lo hi. one_apart r p (λ z. absurd (omega arith))) in
      omega arith
  | inr off ↦
      let a = one_apart i p off in
      let b = sum_one p (suc i) n (omega arith) (omega arith) in
      omega arith
]

pub sum_ones : (f : ℕ → ℕ) (i n : ℕ) → ((r : ℕ) → f r ≤ 1) → sum_from f i n ≤ n
sum_ones f i zero h = omega arith
sum_ones f i (suc n) h = let a = h i in let b = sum_ones f (suc i) n h in omega arith

cell_past : (os : List (Option Cell)) (p : ℕ) → length os ≤ p → one_if_some (cell_in os p) ≡ 0
cell_past [] p h = refl
cell_past (o ∷ os) zero h = absurd (omega arith)
cell_past (o ∷ os) (suc p) h = cell_past os p (omega arith)

mutual
  sum_uses : (s : Store) (x : Placed) → ((q : ℕ) → uses q x ≤ there s q) → sum_from (λ q. uses q x) 0 (length s.cells) ≡ nodes x
  sum_uses s (PlacedInt i) h = sum_zero (λ q. 0) 0 (length s.cells) (λ r low high. refl)
  sum_uses s (Bare c) h = sum_zero (λ q. 0) 0 (length s.cells) (λ r low high. refl)
  sum_uses s (At p c xs) h =
      let a = sum_add (λ q. one_at q p) (λ q. uses_of_all q xs) 0 (length s.cells) in
      let b = sum_all_uses s xs (λ q. let z = h q in omega arith) in
      let within : p < length s.cells = elim (less_or_not p (length s.cells)) as (λ v. p < length s.cells) [
        | inl y ↦ y
        | inr past ↦ let z = h p in let one = one_here p p refl in let none = cell_past s.cells p past in absurd (omega arith)
      ] in
      let d = sum_one p 0 (length s.cells) (omega arith) (omega arith) in
      omega arith

  sum_all_uses : (s : Store) (xs : Parts) → ((q : ℕ) → uses_of_all q xs ≤ there s q) → sum_from (λ q. uses_of_all q xs) 0 (length s.cells) ≡ nodes_of_all xs
  sum_all_uses s NoParts h = sum_zero (λ q. 0) 0 (length s.cells) (λ r low high. refl)
  sum_all_uses s (MoreParts x xs) h =
      let a = sum_add (λ q. uses q x) (λ q. uses_of_all q xs) 0 (length s.cells) in
      let b = sum_uses s x (λ q. let z = h q in omega arith) in
      let d = sum_all_uses s xs (λ q. let z = h q in omega arith) in
      omega arith

pub few_nodes : (s : Store) (x : Placed) → ((q : ℕ) → uses q x ≤ there s q) → nodes x ≤ length s.cells
few_nodes s x h =
    let a = sum_uses s x h in
    let b = sum_ones (λ q. uses q x) 0 (length s.cells) (λ r. let y = h r in let z = there_few s r in omega arith) in
    omega arith

-- ---- reading

int_below : (i : ℤ) → FitsSigned w64 i → nat_lt (int_word i) (2 ^ 64) ≡ true
int_below (pos n) f = let h : n < 2 ^ 63 = f.sfits in grind (arith, nat_tests)
int_below (negsuc n) f = let h : n < 2 ^ 63 = f.sfits in grind (arith, nat_tests)

types_of : (ks : List Shape) (c : ℕ) (k : Shape) → slice_get ks c ≡ Some k → field_types ks c ≡ Some k.fields
types_of ks c k e = ap (option_map (λ (k : Shape). k.fields)) e

read_bare_empty : (c : ℕ) (ts : List ℕ) → ts ≡ [] → read_bare c (Some ts) ≡ Some (Bare c)
read_bare_empty c ts e = ap (λ ts. read_bare c (Some ts)) e

-- a reading that finds every tree with at most n nodes
abbrev Finds : Table → Store → ℕ → (ℕ → ℕ → Option Placed) → Type 0
Finds tb s n read = (t w : ℕ) (x : Placed) → nodes x ≤ n → IsTree tb s t w x → read t w ≡ Some x

parts_found : (tb : Table) (s : Store) (n : ℕ) (read : ℕ → ℕ → Option Placed) → Finds tb s n read → (ts : List ℕ) (xs : Parts) → nodes_of_all xs ≤ n → StandAll tb s ts xs → read_all_parts read ts (words_of xs) ≡ Some xs
parts_found tb s n read f [] NoParts h g = refl
parts_found tb s n read f [] (MoreParts x xs) h g = absurd g
parts_found tb s n read f (t ∷ ts) NoParts h g = absurd g
parts_found tb s n read f (t ∷ ts) (MoreParts x xs) h g =
    ap (λ o. option_and_then (λ x. option_map (λ xs. MoreParts x xs) (read_all_parts read ts (words_of xs))) o) (f t (word_of x) x (omega arith) (record { word = refl; stands = g.0 }))
    ∙ ap (λ o. option_map (λ xs. MoreParts x xs) o) (parts_found tb s n read f ts xs (omega arith) g.1)

fields_found : (tb : Table) (s : Store) (n : ℕ) (read : ℕ → ℕ → Option Placed) → Finds tb s n read → (p c : ℕ) (ts : List ℕ) (xs : Parts) → HasPart xs → nodes_of_all xs ≤ n → StandAll tb s ts xs → read_fields read p (record { tag = c; fields = words_of xs }) (Some ts) ≡ Some (At p c xs)
fields_found tb s n read f p c [] NoParts has h g = absurd has
fields_found tb s n read f p c [] (MoreParts x xs) has h g = absurd g
fields_found tb s n read f p c (t ∷ ts) xs has h g = ap (λ o. option_map (λ xs. At p c xs) o) (parts_found tb s n read f (t ∷ ts) xs h g)

-- a reading of words, by one of their fields
word_found : (tb : Table) (s : Store) (n : ℕ) (read : ℕ → ℕ → Option Placed) → ((k : ℕ) → n ≡ suc k → Finds tb s k read) → Finds tb s n (λ t w. read_word read tb s t w)
word_found tb s n read f zero w (PlacedInt i) h g =
    ap (λ w. read_word read tb s 0 w) (sym g.word) ∙ ap (λ b. read_int b (int_word i)) (int_below i g.stands) ∙ ap (λ i. Some (PlacedInt i)) (int_is i g.stands)
word_found tb s n read f zero w (Bare c) h g = absurd g.stands
word_found tb s n read f zero w (At p c xs) h g = absurd g.stands
word_found tb s n read f (suc t) w (PlacedInt i) h g = absurd g.stands
word_found tb s n read f (suc t) w (Bare c) h g =
    ap (λ w. read_word read tb s (suc t) w) (sym g.word)
    ∙ ap (λ b. read_data read s (shapes tb t) ((2 * c) / 2) b) (even_place c)
    ∙ ap (λ h. read_bare h (field_types (shapes tb t) h)) (even_half c)
    ∙ ap (read_bare c) (types_of (shapes tb t) c g.stands.0 g.stands.1)
    ∙ read_bare_empty c g.stands.0.fields g.stands.2
word_found tb s zero read f (suc t) w (At p c xs) h g = absurd (let z : ⊥ = omega arith in z)
word_found tb s (suc n) read f (suc t) w (At p c xs) h g =
    ap (λ w. read_word read tb s (suc t) w) (sym g.word)
    ∙ ap (λ b. read_data read s (shapes tb t) ((2 * p + 1) / 2) b) (odd_place p)
    ∙ ap (λ h. read_cell read (shapes tb t) h (cell_at s h)) (odd_half p)
    ∙ ap (read_cell read (shapes tb t) p) g.stands.0
    ∙ ap (read_fields read p (record { tag = c; fields = words_of xs })) (types_of (shapes tb t) c g.stands.2 g.stands.3)
    ∙ fields_found tb s n read (f n refl) p c g.stands.2.fields xs g.stands.1 (omega arith) g.stands.4

within_found : (n : ℕ) (tb : Table) (s : Store) → Finds tb s n (λ t w. tree_within n tb s t w)
within_found zero tb s = word_found tb s 0 (λ t w. None) (λ k e. absurd (omega arith))
within_found (suc n) tb s = word_found tb s (suc n) (λ t w. tree_within n tb s t w) (λ k e. let z : n ≡ k = omega arith in subst (λ k. Finds tb s k (λ t w. tree_within n tb s t w)) z (within_found n tb s))

pub tree_found : (tb : Table) (s : Store) (t w : ℕ) (x : Placed) → ((q : ℕ) → uses q x ≤ there s q) → IsTree tb s t w x → tree_of tb s t w ≡ Some x
tree_found tb s t w x few g = within_found (length s.cells) tb s t w x (few_nodes s x few) g
