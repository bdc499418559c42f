-- What a run leaves of the cells that it was given beside its own, in each state, and what it gives at its end.
use Rattle.std.proofs.Common.{◌≡◌, ◌⊎◌, inl, inr, ℕ, zero, suc, ◌+◌, ◌<◌, Bool, true, false, List, [], ◌∷◌, ◌++◌, map, Option, Some, None, refl, sym, ap, ◌∙◌, subst, arith, if◌then◌else◌}
use Rattle.tree_refinement.specs.fip_base.declared.plain.Param.{Param}
use Rattle.tree_refinement.specs.fip_language.Every.{Every}
use Rattle.tree_refinement.specs.fip_language.Store.{Cell, Placed, PlacedInt, Bare, At, Parts, NoParts, MoreParts, words_of, word_of, count, uses, uses_of_all}
use Rattle.tree_refinement.specs.fip_language.Table.{Shape, Table}
use Rattle.std.proofs.lemmas.Option.{same_Some}
use Rattle.tree_refinement.specs.machine_semantics.Apart.{AreTrees, trees_uses}
use Rattle.tree_refinement.specs.machine_semantics.Cells.{Store, IsSized, cell_at, cell_in, size_in, one_if_some}
use Rattle.tree_refinement.specs.machine_semantics.Words.{place_word}
use Rattle.tree_refinement.specs.machine_semantics.Kept.{Keeps}
use Rattle.tree_refinement.specs.machine_semantics.Runs.{End, Run, Over, Value, state_of, begun, after, lent_words}
use Rattle.tree_refinement.specs.machine_semantics.States.{State, Typed}
use Rattle.tree_refinement.specs.machine_semantics.Steps.{Kinds}
use Rattle.tree_refinement.specs.machine_semantics.Trees.{Stands, StandAll}
use Rattle.separation_bounds.specs.cell_code.Plain.{PlainCode, results}
use Rattle.tree_refinement.specs.separation.Alive.{IsAlive, IsGiven}
use Rattle.tree_refinement.specs.separation.Starts.{IsStart}
use Rattle.tree_refinement.proofs.separation.Loading.{lent_trees, is_lent_tree, loaded_is}
use Rattle.tree_refinement.proofs.separation.Running.{GoodRun, GoodEnd, run_alive, run_good}
use Rattle.tree_refinement.proofs.separation_bounds.Falling.{start_keeps}
use Rattle.tree_refinement.proofs.Lending.{Lends, trees_once, run_lends}
use Rattle.tree_refinement.proofs.separation_kinds.Agree.{one_apart}
use Rattle.tree_refinement.proofs.separation.Stores.{same_place}
use Rattle.session_correctness.specs.Leaving.{Leaves, Gives, lent_uses}
use Rattle.session_correctness.proofs.Keeping.{run_keeps}
use Rattle.tree_refinement.proofs.tree_semantics.machine_semantics.cell_code.fip_base.fip_language.Facts.{head_same, positive_or_zero as some_or, tail_same}

-- ---- the entry's borrowed arguments

pick_two : (P : List Typed → List Placed → Type 0) (b : Bool) (a c : List Typed) (d e : List Placed) → P a d → P c e → P (if b then a else c) (if b then d else e)
pick_two P true a c d e x y = x
pick_two P false a c d e x y = y

lent_words_stand : (tb : Table) (s : Store) (ps : List Param) (xs : Parts) (rest : List ℕ) → StandAll tb s (map (λ p. p.ty) ps) xs → AreTrees tb s (lent_words tb ps (words_of xs ++ rest)) (lent_trees tb ps xs)
lent_words_stand tb s [] NoParts rest g = tt
lent_words_stand tb s [] (MoreParts x xs) rest g = absurd g
lent_words_stand tb s (p ∷ ps) NoParts rest g = absurd g
lent_words_stand tb s (p ∷ ps) (MoreParts x xs) rest g =
    let more = lent_words_stand tb s ps xs rest g.1 in
    pick_two (AreTrees tb s) (is_lent_tree tb p) (record { type = p.ty; word = word_of x } ∷ lent_words tb ps (words_of xs ++ rest)) (lent_words tb ps (words_of xs ++ rest)) (x ∷ lent_trees tb ps xs) (lent_trees tb ps xs) (record { word = refl; stands = g.0 }, more) more

-- ---- cells of trees that are there before and after

mutual
  tree_same : (tb : Table) (s u : Store) (t q : ℕ) (x : Placed) → Stands tb s t x → Stands tb u t x → 0 < uses q x → cell_at u q ≡ cell_at s q
  tree_same tb s u t q (PlacedInt i) g h some = absurd (let z : ⊥ = omega (arith, some) in z)
  tree_same tb s u t q (Bare c) g h some = absurd (let z : ⊥ = omega (arith, some) in z)
  tree_same tb s u zero q (At p c xs) g h some = absurd g
  tree_same tb s u (suc t) q (At p c xs) g h some = elim (same_place p q) as (λ v. cell_at u q ≡ cell_at s q) [
    | inl e ↦ subst (λ r. cell_at u r ≡ cell_at s r) e (h.0 ∙ sym g.0)
    | inr off ↦
        let z = one_apart q p (λ e. off (sym e)) in
        let shape : g.2.fields ≡ h.2.fields = ap (λ (k : Shape). k.fields) (same_Some g.2 h.2 (sym g.3 ∙ h.3)) in
        parts_same tb s u g.2.fields q xs g.4 (subst (λ ks. StandAll tb u ks xs) (sym shape) h.4) (omega (arith, some, z))
  ]

  parts_same : (tb : Table) (s u : Store) (ts : List ℕ) (q : ℕ) (xs : Parts) → StandAll tb s ts xs → StandAll tb u ts xs → 0 < uses_of_all q xs → cell_at u q ≡ cell_at s q
  parts_same tb s u ts q NoParts g h some = absurd (let z : ⊥ = omega (arith, some) in z)
  parts_same tb s u [] q (MoreParts x xs) g h some = absurd g
  parts_same tb s u (t ∷ ts) q (MoreParts x xs) g h some = elim (some_or (uses q x)) as (λ v. cell_at u q ≡ cell_at s q) [
    | inl here ↦ tree_same tb s u t q x g.0 h.0 here
    | inr none ↦ parts_same tb s u ts q xs g.1 h.1 (omega (arith, some, none))
  ]

trees_same : (tb : Table) (s u : Store) (ts : List Typed) (q : ℕ) (xs : List Placed) → AreTrees tb s ts xs → AreTrees tb u ts xs → 0 < trees_uses q xs → cell_at u q ≡ cell_at s q
trees_same tb s u ts q [] g h some = absurd (let z : ⊥ = omega (arith, some) in z)
trees_same tb s u [] q (x ∷ xs) g h some = absurd g
trees_same tb s u (t ∷ ts) q (x ∷ xs) g h some = elim (some_or (uses q x)) as (λ v. cell_at u q ≡ cell_at s q) [
  | inl here ↦ tree_same tb s u t.type q x g.0.stands h.0.stands here
  | inr none ↦ trees_same tb s u ts q xs g.1 h.1 (omega (arith, some, none))
]

-- ---- the same sizes

one_there : (o p : Option Cell) → size_in o ≡ size_in p → IsSized o → IsSized p → one_if_some o ≡ one_if_some p
one_there None None e a b = refl
one_there None (Some c) e a b = let z = b.0 in absurd (let y : ⊥ = omega (arith, e, z) in y)
one_there (Some c) None e a b = let z = a.0 in absurd (let y : ⊥ = omega (arith, e, z) in y)
one_there (Some c) (Some d) e a b = refl

there_same : (os ps : List (Option Cell)) (q : ℕ) → map size_in os ≡ map size_in ps → Every IsSized os → Every IsSized ps → one_if_some (cell_in os q) ≡ one_if_some (cell_in ps q)
there_same [] [] q e a b = refl
there_same [] (p ∷ ps) q e a b = absurd cc
there_same (o ∷ os) [] q e a b = absurd cc
there_same (o ∷ os) (p ∷ ps) zero e a b = one_there o p (head_same (size_in o) (size_in p) (map size_in os) (map size_in ps) e) a.0 b.0
there_same (o ∷ os) (p ∷ ps) (suc q) e a b = there_same os ps q (tail_same (size_in o) (size_in p) (map size_in os) (map size_in ps) e) a.1 b.1

-- how often the trees that are borrowed use a cell
lent_by_trees : (q : ℕ) (tb : Table) (ps : List Param) (xs : Parts) → trees_uses q (lent_trees tb ps xs) ≡ lent_uses tb ps xs q
lent_by_trees q tb [] xs = refl
lent_by_trees q tb (p ∷ ps) NoParts = refl
lent_by_trees q tb (p ∷ ps) (MoreParts x xs) = by (lent_by_trees q tb ps xs) (is_lent_tree tb p)
  where
    by : trees_uses q (lent_trees tb ps xs) ≡ lent_uses tb ps xs q → (b : Bool) → trees_uses q (if b then x ∷ lent_trees tb ps xs else lent_trees tb ps xs) ≡ (if b then uses q x else 0) + lent_uses tb ps xs q
    by more true = ap (λ n. uses q x + n) more
    by more false = omega (arith, more)

module _ (c : PlainCode) (before waits : Kinds) (n : ℕ) (kept : List ℕ) (s : State) (t : IsStart c before waits n kept s) where
  abbrev rest : List ℕ
  rest = map (λ p. place_word p) t.given.spares

  abbrev lent : List Placed
  lent = lent_trees c.types t.function.params t.given.arguments

  lent_are : s.lent ≡ lent_words c.types t.function.params (words_of t.given.arguments ++ rest)
  lent_are = ap (λ (u : State). u.lent) (loaded_is c n t.function s.store t.words t.free s t.is t.loaded) ∙ ap (lent_words c.types t.function.params) t.given.words

  start_lends : AreTrees c.types s.store s.lent lent
  start_lends = subst (λ ts. AreTrees c.types s.store ts lent) (sym lent_are) (lent_words_stand c.types s.store t.function.params t.given.arguments rest t.given.stand)

  -- In each state of the run the kept cells and those of the borrowed arguments are as they were.
  pub run_leaves : (calls k : ℕ) → Leaves c.types t.function.params t.given.arguments kept s.store (state_of (after before c k (begun s calls))).store
  run_leaves calls k =
      let last : State = state_of (after before c k (begun s calls)) in
      let alive : IsAlive c (results c n) kept last = run_alive c before waits n kept s calls k t in
      let lends : Lends c s.lent lent last = run_lends c before waits n kept s calls k lent t start_lends in
      let same : alive.lent ≡ lent = trees_once c.types last.store s.lent alive.lent lent (subst (λ ts. AreTrees c.types last.store ts alive.lent) lends.0 alive.arguments) lends.1 in
      let keeps : Keeps s.store last.store = start_keeps before c k s calls in
      record {
        store = alive.store;
        keeps = keeps;
        begins = λ q. there_same last.store.cells s.store.cells q keeps.sizes alive.store.sized t.given.store.sized;
        cells = λ q some. elim (some_or (count q kept)) as (λ v. cell_at last.store q ≡ cell_at s.store q) [
          | inl here ↦ run_keeps c before waits n kept s calls k q t here
          | inr none ↦ trees_same c.types s.store last.store s.lent q lent start_lends lends.1 (let l = lent_by_trees q c.types t.function.params t.given.arguments in omega (arith, some, none, l))
        ];
        once = λ q. let o = alive.once q in let e = ap (trees_uses q) same in let l = lent_by_trees q c.types t.function.params t.given.arguments in omega (arith, o, e, l);
      }

  end_good : (r : Run) (e : End) (last : State) (left steps : ℕ) → r ≡ Over e last left steps → GoodRun c (results c n) kept r → GoodEnd c (results c n) kept last e
  end_good r e last left steps is g = (subst (GoodRun c (results c n) kept) is g).1

  -- The words that it gives stand for trees, which with these and the released cells are all cells.
  pub run_gives : (calls k : ℕ) (ws : List ℕ) (last : State) (left steps : ℕ) → after before c k (begun s calls) ≡ Over (Value ws) last left steps → Gives c.types t.function.params t.given.arguments kept (results c n) ws last.store
  run_gives calls k ws last left steps is =
      let g : IsGiven c (results c n) kept last ws = end_good (after before c k (begun s calls)) (Value ws) last left steps is (run_good c before waits n kept s calls k t) in
      let lends : Lends c s.lent lent last = subst (λ (r : Run). Lends c s.lent lent (state_of r)) is (run_lends c before waits n kept s calls k lent t start_lends) in
      let same : g.lent ≡ lent = trees_once c.types last.store s.lent g.lent lent (subst (λ ts. AreTrees c.types last.store ts g.lent) lends.0 g.arguments) lends.1 in
      record {
        results = g.results;
        words = g.words;
        stand = g.stand;
        once = λ q. let o = g.once q in let e = ap (trees_uses q) same in let l = lent_by_trees q c.types t.function.params t.given.arguments in omega (arith, o, e, l);
      }
