-- Held cells counted by size are those of the trees, the credits and the kept cells.
-- The idea: each place weighs what uses it, where its cell has the size; the weight of a tree is its number of nodes of
-- that size.
use Rattle.std.proofs.Common.{◌≡◌, ℕ, zero, suc, ◌+◌, Bool, true, false, List, [], ◌∷◌, length, Option, Some, None, slice_get, refl, sym, ap, ◌∙◌, arith, nat_eq, if◌then◌else◌}
use Rattle.std.proofs.lemmas.Bool.Decides.{nat_tests}
use Rattle.separation.specs.fip_language.Table.{Table}
use Rattle.separation.specs.fip_language.Values.{count_of, cells, cells_of_all, one_of_size}
use Rattle.separation.specs.fip_language.Store.{Cell, Placed, PlacedInt, Bare, At, Parts, NoParts, MoreParts, value_of, values_of, words_of, uses, uses_of_all, one_at, count}
use Rattle.separation.specs.machine_semantics.Cells.{Store, IsStore, cell_in, cell_at, size_of, one_if_some, one_if_true, one_held, held_in, count_held}
use Rattle.separation.specs.machine_semantics.Trees.{HasPart, Stands, StandAll}
use Rattle.separation.specs.machine_semantics.States.{Typed, State}
use Rattle.separation.specs.cell_code.Plain.{PlainFunction, PlainCode}
use Rattle.separation.specs.machine_semantics.Apart.{AreTrees, AreSpare, trees_uses, IsGiven, GivesApart}
use Rattle.separation.proofs.separation_kinds.Agree.{one_here, one_apart}
use Rattle.separation_bounds.specs.ByTrees.{cells_of_trees, one_if_sized, cells_at}
use Rattle.separation.proofs.separation_kinds.machine_semantics.cell_code.fip_base.fip_language.Facts.{if_sum as if_add}

abbrev weight : ℕ → Option Cell → ℕ → ℕ
weight k None n = 0
weight k (Some c) n = if nat_eq k (size_of c) then n else 0

-- the weight of all places, by what uses each
abbrev weigh : ℕ → List (Option Cell) → (ℕ → ℕ) → ℕ
weigh k [] f = 0
weigh k (o ∷ os) f = weight k o (f 0) + weigh k os (λ q. f (suc q))

weight_add : (k : ℕ) (o : Option Cell) (m n : ℕ) → weight k o (m + n) ≡ weight k o m + weight k o n
weight_add k None m n = refl
weight_add k (Some c) m n = if_add (nat_eq k (size_of c)) m n

if_none : (b : Bool) → ◌≡◌ {A = ℕ} (if b then 0 else 0) 0
if_none true = refl
if_none false = refl

weight_none : (k : ℕ) (o : Option Cell) → weight k o 0 ≡ 0
weight_none k None = refl
weight_none k (Some c) = if_none (nat_eq k (size_of c))

weigh_add : (k : ℕ) (os : List (Option Cell)) (f g : ℕ → ℕ) → weigh k os (λ q. f q + g q) ≡ weigh k os f + weigh k os g
weigh_add k [] f g = refl
weigh_add k (o ∷ os) f g = let a = weight_add k o (f 0) (g 0) in let b = weigh_add k os (λ q. f (suc q)) (λ q. g (suc q)) in omega arith

weigh_none : (k : ℕ) (os : List (Option Cell)) → weigh k os (λ q. 0) ≡ 0
weigh_none k [] = refl
weigh_none k (o ∷ os) = let a = weight_none k o in let b = weigh_none k os in omega arith

weigh_same : (k : ℕ) (os : List (Option Cell)) (f g : ℕ → ℕ) → ((q : ℕ) → f q ≡ g q) → weigh k os f ≡ weigh k os g
weigh_same k os f g h = let same : ◌≡◌ {A = ℕ → ℕ} f g = λ i q. h q i in ap (weigh k os) same

one_suc : (q p : ℕ) → one_at (suc q) (suc p) ≡ one_at q p
one_suc q p = grind (arith, nat_tests)

weight_one : (k : ℕ) (o : Option Cell) → weight k o 1 ≡ one_if_sized k o
weight_one k None = refl
weight_one k (Some c) = refl

weigh_one : (k : ℕ) (os : List (Option Cell)) (p : ℕ) → weigh k os (λ q. one_at q p) ≡ one_if_sized k (cell_in os p)
weigh_one k [] p = refl
weigh_one k (o ∷ os) zero =
    let a : weight k o (one_at 0 0) ≡ one_if_sized k o = ap (weight k o) (one_here 0 0 refl) ∙ weight_one k o in
    let b : weigh k os (λ q. one_at (suc q) 0) ≡ 0 = weigh_same k os (λ q. one_at (suc q) 0) (λ q. 0) (λ q. one_apart (suc q) 0 (λ e. absurd (omega arith))) ∙ weigh_none k os in
    omega arith
weigh_one k (o ∷ os) (suc p) =
    let a : weight k o (one_at 0 (suc p)) ≡ 0 = ap (weight k o) (one_apart 0 (suc p) (λ e. absurd (omega arith))) ∙ weight_none k o in
    let b : weigh k os (λ q. one_at (suc q) (suc p)) ≡ one_if_sized k (cell_in os p) = weigh_same k os (λ q. one_at (suc q) (suc p)) (λ q. one_at q p) (λ q. one_suc q p) ∙ weigh_one k os p in
    omega arith

-- ---- trees

count_words : (xs : Parts) → count_of (values_of xs) ≡ length (words_of xs)
count_words NoParts = refl
count_words (MoreParts x xs) = ap suc (count_words xs)

one_node : (k : ℕ) (xs : Parts) → HasPart xs → ◌≡◌ {A = ℕ} (if nat_eq k (length (words_of xs)) then 1 else 0) (one_of_size k (count_of (values_of xs)))
one_node k NoParts h = absurd h
one_node k (MoreParts x xs) h = ap (λ n. if nat_eq k (suc n) then 1 else 0) (sym (count_words xs))

mutual
  tree_weight : (k : ℕ) (tb : Table) (s : Store) (t : ℕ) (x : Placed) → Stands tb s t x → weigh k s.cells (λ q. uses q x) ≡ cells k (value_of x)
  tree_weight k tb s t (PlacedInt i) g = weigh_none k s.cells
  tree_weight k tb s t (Bare c) g = weigh_none k s.cells
  tree_weight k tb s zero (At p c xs) g = absurd g
  tree_weight k tb s (suc t) (At p c xs) g =
      let a = weigh_add k s.cells (λ q. one_at q p) (λ q. uses_of_all q xs) in
      let b : weigh k s.cells (λ q. one_at q p) ≡ one_of_size k (count_of (values_of xs)) = weigh_one k s.cells p ∙ ap (one_if_sized k) g.0 ∙ one_node k xs g.1 in
      let d = parts_weight k tb s g.2.fields xs g.4 in
      omega arith

  parts_weight : (k : ℕ) (tb : Table) (s : Store) (ts : List ℕ) (xs : Parts) → StandAll tb s ts xs → weigh k s.cells (λ q. uses_of_all q xs) ≡ cells_of_all k (values_of xs)
  parts_weight k tb s [] NoParts g = weigh_none k s.cells
  parts_weight k tb s [] (MoreParts x xs) g = absurd g
  parts_weight k tb s (t ∷ ts) NoParts g = absurd g
  parts_weight k tb s (t ∷ ts) (MoreParts x xs) g =
      let a = weigh_add k s.cells (λ q. uses q x) (λ q. uses_of_all q xs) in
      let b = tree_weight k tb s t x g.0 in
      let d = parts_weight k tb s ts xs g.1 in
      omega arith

trees_weight : (k : ℕ) (tb : Table) (s : Store) (ts : List Typed) (xs : List Placed) → AreTrees tb s ts xs → weigh k s.cells (λ q. trees_uses q xs) ≡ cells_of_trees k xs
trees_weight k tb s [] [] g = weigh_none k s.cells
trees_weight k tb s [] (x ∷ xs) g = absurd g
trees_weight k tb s (t ∷ ts) [] g = absurd g
trees_weight k tb s (t ∷ ts) (x ∷ xs) g =
    let a = weigh_add k s.cells (λ q. uses q x) (λ q. trees_uses q xs) in
    let b = tree_weight k tb s t.type x g.0.stands in
    let d = trees_weight k tb s ts xs g.1 in
    omega arith

places_weight : (k : ℕ) (s : Store) (ps : List ℕ) → weigh k s.cells (λ q. count q ps) ≡ cells_at k s ps
places_weight k s [] = weigh_none k s.cells
places_weight k s (p ∷ ps) =
    let a = weigh_add k s.cells (λ q. one_at q p) (λ q. count q ps) in
    let b = weigh_one k s.cells p in
    let d = places_weight k s ps in
    omega arith

spares_weight : (k : ℕ) (s : Store) (sizes ps : List ℕ) → AreSpare s sizes ps → cells_at k s ps ≡ count k sizes
spares_weight k s [] [] g = refl
spares_weight k s [] (p ∷ ps) g = absurd g
spares_weight k s (n ∷ ns) [] g = absurd g
spares_weight k s (n ∷ ns) (p ∷ ps) g =
    let a : one_if_sized k (cell_at s p) ≡ one_at k n = ap (one_if_sized k) g.0.1 ∙ ap (one_at k) g.0.2 in
    let b = spares_weight k s ns ps g.1 in
    omega arith

-- ---- what is held

one_held_is : (k : ℕ) (o : Option Cell) (r : Bool) (n : ℕ) → n + one_if_true (Some r) ≡ one_if_some o → one_held k o r ≡ weight k o n
one_held_is k None r n e = refl
one_held_is k (Some c) true n e = let z : n ≡ 0 = omega arith in sym (weight_none k (Some c)) ∙ ap (weight k (Some c)) (sym z)
one_held_is k (Some c) false n e = let z : n ≡ 1 = omega arith in ap (weight k (Some c)) (sym z)

held_is : (k : ℕ) (os : List (Option Cell)) (rs : List Bool) (f : ℕ → ℕ) → length rs ≡ length os → ((q : ℕ) → f q + one_if_true (slice_get rs q) ≡ one_if_some (cell_in os q)) → held_in k os rs ≡ weigh k os f
held_is k [] rs f l h = refl
held_is k (o ∷ os) [] f l h = absurd (let z : ⊥ = omega arith in z)
held_is k (o ∷ os) (r ∷ rs) f l h = let a = one_held_is k o r (f 0) (h 0) in let b = held_is k os rs (λ q. f (suc q)) (omega arith) (λ q. h (suc q)) in omega arith

pub first_held : (tb : Table) (g : PlainFunction) (s : Store) (kept ws : List ℕ) (k : ℕ) → (i : IsGiven tb g s kept ws) → count_held k s ≡ cells_of_all k (values_of i.arguments) + (count k g.credits + cells_at k s kept)
first_held tb g s kept ws k i =
    let f : ℕ → ℕ = λ q. uses_of_all q i.arguments + (count q i.spares + count q kept) in
    let a = held_is k s.cells s.released f i.store.wide (λ q. let o = i.once q in omega arith) in
    let b = weigh_add k s.cells (λ q. uses_of_all q i.arguments) (λ q. count q i.spares + count q kept) in
    let d = weigh_add k s.cells (λ q. count q i.spares) (λ q. count q kept) in
    let x = parts_weight k tb s _ i.arguments i.stand in
    let y = places_weight k s i.spares in
    let z = spares_weight k s g.credits i.spares i.credits in
    let w = places_weight k s kept in
    omega arith

pub last_held : (code : PlainCode) (n : ℕ) (kept : List ℕ) (s : State) (ws : List ℕ) (k : ℕ) → IsStore s.store → (g : GivesApart code n kept s ws) → count_held k s.store ≡ cells_of_trees k g.results + (cells_of_trees k g.lent + cells_at k s.store kept)
last_held code n kept s ws k store g =
    let f : ℕ → ℕ = λ q. trees_uses q g.results + (trees_uses q g.lent + count q kept) in
    let a = held_is k s.store.cells s.store.released f store.wide (λ q. let o = g.once q in omega arith) in
    let b = weigh_add k s.store.cells (λ q. trees_uses q g.results) (λ q. trees_uses q g.lent + count q kept) in
    let d = weigh_add k s.store.cells (λ q. trees_uses q g.lent) (λ q. count q kept) in
    let x = trees_weight k code.types s.store _ g.results g.stand in
    let y = trees_weight k code.types s.store s.lent g.lent g.arguments in
    let w = places_weight k s.store kept in
    omega arith
