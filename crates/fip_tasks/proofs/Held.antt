-- The cells of a tree, size by size: what is counted of the trees that are added for it.
use Rattle.std.proofs.Common.{◌≡◌, ℕ, zero, suc, ◌+◌, ◌-◌, ◌<◌, ◌≤◌, get_or, replicate, Bool, true, false, List, [], ◌∷◌, ◌++◌, length, nat_eq, refl, sym, ap, ◌∙◌, arith}
use Rattle.std.specs.Prelude.{if◌then◌else◌}
use Rattle.std.proofs.lemmas.Bool.Decides.{nat_tests}
use Rattle.fip_language.specs.Store.{Placed, PlacedInt, Bare, At, Parts, NoParts, MoreParts, value_of, values_of, word_of, words_of, places, places_of_all, count, one_at, uses, uses_of_all}
use Rattle.fip_language.specs.Table.{Table}
use Rattle.fip_language.specs.Values.{cells, cells_of_all, count_of, one_of_size}
use Rattle.cell_store.specs.Cells.{Cells, cell_at, size_in}
use Rattle.value_text.specs.Standing.{Stands, StandAll}
use Rattle.store_trees.specs.declared.trees.Tree.{Tree}
use Rattle.store_trees.specs.Added.{places_of, Adds}
use Rattle.fip_machine.specs.machine_cells.Counting.{freed_of, one_of}
use Rattle.fip_tasks.specs.Gauged.{sized}
use Rattle.fip_language.proofs.Facts.{head_same, nat_eq_same as same_at, tail_same}
pub use Rattle.fip_language.proofs.Facts.{true_of_not_false as is_whole}
use Rattle.value_text.proofs.Built.{length-words as count_words}
use Rattle.value_text.proofs.Credits.{count_append}
pub use Rattle.value_text.proofs.Credits.{count_most as few_credits}

pub sized_append : (k : ℕ) (cs : Cells) (ps qs : List ℕ) → sized k cs (ps ++ qs) ≡ sized k cs ps + sized k cs qs
sized_append k cs [] qs = omega arith
sized_append k cs (p ∷ ps) qs = let a = sized_append k cs ps qs in omega (arith, a)

at_most_one : (b : Bool) → (if b then 1 else 0) ≤ 1
at_most_one true = omega arith
at_most_one false = omega arith

sized_few : (k : ℕ) (cs : Cells) (ps : List ℕ) → sized k cs ps ≤ length ps
sized_few k cs [] = omega arith
sized_few k cs (p ∷ ps) = let a = sized_few k cs ps in let b = at_most_one (nat_eq k (size_in (cell_at cs p))) in omega (arith, a, b)

-- a list without one of its elements
record Without (p : ℕ) (k : ℕ) (cs : Cells) (ps : List ℕ) : Type 0 where
  rest : List ℕ
  counts : (q : ℕ) → count q ps ≡ one_at q p + count q rest
  sum : sized k cs ps ≡ one_of k (size_in (cell_at cs p)) + sized k cs rest

without : (p k : ℕ) (cs : Cells) (ps : List ℕ) → 0 < count p ps → Without p k cs ps
without p k cs [] h = absurd (omega (arith, h))
without p k cs (x ∷ ps) h = by (nat_eq p x) refl (λ less. without p k cs ps less)
  where
    by : (b : Bool) → nat_eq p x ≡ b → (0 < count p ps → Without p k cs ps) → Without p k cs (x ∷ ps)
    by true e rest = record {
      rest = ps;
      counts = λ q. ap (λ y. one_at q y + count q ps) (sym (same_at p x e));
      sum = ap (λ y. one_of k (size_in (cell_at cs y)) + sized k cs ps) (sym (same_at p x e));
    }
    by false e rest =
        let none : one_at p x ≡ 0 = ap (λ b. if b then 1 else 0) e in
        let w = rest (omega (arith, none, h)) in
        record {
          rest = x ∷ w.rest;
          counts = λ q. let c = w.counts q in omega (arith, c);
          sum = (let s = w.sum in omega (arith, s));
        }

-- it only matters how often each place is there
pub sized_by_counts : (k : ℕ) (cs : Cells) (ps qs : List ℕ) → ((q : ℕ) → count q ps ≡ count q qs) → sized k cs ps ≡ sized k cs qs
sized_by_counts k cs [] [] h = refl
sized_by_counts k cs [] (q ∷ qs) h =
    let c = h q in
    let one : one_at q q ≡ 1 = grind (arith, nat_tests) in
    absurd (omega (arith, c, one))
sized_by_counts k cs (p ∷ ps) qs h =
    let c = h p in
    let one : one_at p p ≡ 1 = grind (arith, nat_tests) in
    let w = without p k cs qs (omega (arith, c, one)) in
    let rest = sized_by_counts k cs ps w.rest (λ q. let a = h q in let b = w.counts q in omega (arith, a, b)) in
    let s = w.sum in
    omega (arith, rest, s)

some_size : (k n : ℕ) → 1 ≤ k → one_of k n ≡ one_of_size k n
some_size zero zero low = absurd (omega (arith, low))
some_size (suc k) zero low = grind (arith, nat_tests)
some_size k (suc n) low = refl

-- the cells of a tree are those of its value
mutual
  pub sized_tree : (tb : Table) (cs : Cells) (ty k : ℕ) (x : Placed) → 1 ≤ k → Stands tb cs ty x → sized k cs (places x) ≡ cells k (value_of x)
  sized_tree tb cs zero k (PlacedInt i) low h = refl
  sized_tree tb cs zero k (Bare c) low h = absurd h
  sized_tree tb cs zero k (At p c xs) low h = absurd h
  sized_tree tb cs (suc t) k (PlacedInt i) low h = absurd h
  sized_tree tb cs (suc t) k (Bare c) low h = refl
  sized_tree tb cs (suc t) k (At p c xs) low h =
      let size : one_of k (size_in (cell_at cs p)) ≡ one_of_size k (count_of (values_of xs)) = ap (λ o. one_of k (size_in o)) h.0 ∙ ap (one_of k) (count_words xs) ∙ some_size k (count_of (values_of xs)) low in
      let rest = sized_trees tb cs h.1.fields k xs low h.3 in
      (λ i. size i + rest i)

  pub sized_trees : (tb : Table) (cs : Cells) (ts : List ℕ) (k : ℕ) (xs : Parts) → 1 ≤ k → StandAll tb cs ts xs → sized k cs (places_of_all xs) ≡ cells_of_all k (values_of xs)
  sized_trees tb cs [] k NoParts low h = refl
  sized_trees tb cs [] k (MoreParts x xs) low h = absurd h
  sized_trees tb cs (t ∷ ts) k NoParts low h = absurd h
  sized_trees tb cs (t ∷ ts) k (MoreParts x xs) low h =
      let first = sized_tree tb cs t k x low h.0 in
      let rest = sized_trees tb cs ts k xs low h.1 in
      sized_append k cs (places x) (places_of_all xs) ∙ (λ i. first i + rest i)

mutual
  count_places : (q : ℕ) (x : Placed) → count q (places x) ≡ uses q x
  count_places q (PlacedInt i) = refl
  count_places q (Bare c) = refl
  count_places q (At p c xs) = ap (λ n. one_at q p + n) (count_all_places q xs)

  count_all_places : (q : ℕ) (xs : Parts) → count q (places_of_all xs) ≡ uses_of_all q xs
  count_all_places q NoParts = refl
  count_all_places q (MoreParts x xs) = let a = count_append q (places x) (places_of_all xs) in let b = count_places q x in let c = count_all_places q xs in omega (arith, a, b, c)

-- the trees that are added for a value have the cells of the value
pub added_cells : (tb : Table) (cs : Cells) (ty k : ℕ) (x : Placed) (ts : List Tree) → 1 ≤ k → Stands tb cs ty x → Adds [] ts x → sized k cs (places_of ts) ≡ cells k (value_of x)
added_cells tb cs ty k x ts low stands adds =
    ap (λ us. sized k cs (places_of us)) adds.are
    ∙ sized_by_counts k cs (places_of adds.added) (places x) (λ q. adds.each q ∙ sym (count_places q x))
    ∙ sized_tree tb cs ty k x low stands

-- the first of some parts, and the others
pub record FirstPart (tb : Table) (cs : Cells) (t : ℕ) (ts ws more : List ℕ) (w : ℕ) (us : List ℕ) (ys : Parts) : Type 0 where
  pub first : Placed
  pub others : Parts
  pub is : ys ≡ MoreParts first others
  pub stands : Stands tb cs t first
  pub stand : StandAll tb cs ts others
  pub word : word_of first ≡ w
  pub words : us ≡ words_of others ++ more

pub first_part : (tb : Table) (cs : Cells) (t : ℕ) (ts more : List ℕ) (w : ℕ) (us : List ℕ) (ys : Parts) → StandAll tb cs (t ∷ ts) ys → w ∷ us ≡ words_of ys ++ more → FirstPart tb cs t ts (w ∷ us) more w us ys
first_part tb cs t ts more w us NoParts h e = absurd h
first_part tb cs t ts more w us (MoreParts x xs) h e = record {
  first = x;
  others = xs;
  is = refl;
  stands = h.0;
  stand = h.1;
  word = sym (head_same w (word_of x) us (words_of xs ++ more) e);
  words = tail_same w (word_of x) us (words_of xs ++ more) e;
}

-- there are as many words as parts, at least
pub words_enough : (tb : Table) (cs : Cells) (ts ws more : List ℕ) (ys : Parts) → StandAll tb cs ts ys → ws ≡ words_of ys ++ more → length ts ≤ length ws
words_enough tb cs [] ws more ys h e = omega arith
words_enough tb cs (t ∷ ts) ws more NoParts h e = absurd h
words_enough tb cs (t ∷ ts) ws more (MoreParts x xs) h e =
    let rest = words_enough tb cs ts (words_of xs ++ more) more xs h.1 refl in
    let long = ap length e in
    omega (arith, rest, long)

-- no parts have no cells
pub none_left : (tb : Table) (cs : Cells) (k : ℕ) (ys : Parts) → StandAll tb cs [] ys → cells_of_all k (values_of ys) ≡ 0
none_left tb cs k NoParts h = refl
none_left tb cs k (MoreParts x xs) h = absurd h

-- at first nothing is counted
zeros : (n i : ℕ) → ◌≡◌ {A = ℕ} (get_or (replicate n 0) i 0) 0
zeros zero i = refl
zeros (suc n) zero = refl
zeros (suc n) (suc i) = zeros n i

pub none_yet : (k : ℕ) → freed_of (replicate 16 0) k ≡ 0
none_yet k = zeros 16 (k - 1)

-- no more cells than a store has are counted by 64 bits
pub few_cells : (tb : Table) (cs : Cells) (ts : List ℕ) (k : ℕ) (xs : Parts) → 1 ≤ k → StandAll tb cs ts xs → cells_of_all k (values_of xs) ≤ length (places_of_all xs)
few_cells tb cs ts k xs low h =
    let a = sized_trees tb cs ts k xs low h in
    let b = sized_few k cs (places_of_all xs) in
    omega (arith, a, b)
