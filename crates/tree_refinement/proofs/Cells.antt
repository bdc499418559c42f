-- What a gauge reports of cells, by trees.
-- The idea: held cells only fall, so the first state has the most and the last one the least; both are counted by trees.
use Rattle.std.proofs.Common.{◌≡◌, ◌∙◌, ℕ, zero, suc, ◌+◌, ◌≤◌, Bool, true, false, not, ◌&&◌, List, [], ◌∷◌, ◌++◌, map, refl, ap, subst, arith, if◌then◌else◌}
use Rattle.tree_semantics.specs.fip_language.Gauge.{lowest, highest}
use Rattle.tree_semantics.specs.fip_language.Store.{Placed, PlacedInt, Bare, At, Parts, NoParts, MoreParts, value_of, values_of, words_of, word_of, count}
use Rattle.tree_semantics.specs.fip_language.Table.{Table, is_scalar}
use Rattle.tree_semantics.specs.fip_language.Values.{Values, More, cells, cells_of_all}
use Rattle.separation_bounds.specs.fip_base.declared.plain.Param.{Param}
use Rattle.tree_semantics.specs.machine_semantics.Apart.{AreTrees, GivesApart, typed}
use Rattle.tree_semantics.specs.machine_semantics.Cells.{Store, count_held}
use Rattle.tree_semantics.specs.machine_semantics.Gauges.{seen}
use Rattle.tree_semantics.specs.machine_semantics.Runs.{Run, Value, Ends, state_of, begun, after, lent_words}
use Rattle.tree_semantics.specs.machine_semantics.States.{State}
use Rattle.tree_semantics.specs.machine_semantics.Steps.{Kinds}
use Rattle.tree_semantics.specs.machine_semantics.Trees.{Stands, StandAll}
use Rattle.tree_semantics.proofs.machine_semantics.Gauged.{held, lowest_is_last, highest_is_first}
use Rattle.separation_bounds.specs.cell_code.Plain.{PlainCode, results}
use Rattle.separation_bounds.proofs.separation_kinds.Agree.{one_here}
use Rattle.separation_bounds.proofs.separation_kinds.Shapes.{scalar_bare}
use Rattle.separation_bounds.specs.separation.Starts.{IsStart}
use Rattle.separation_bounds.proofs.separation.Loading.{loaded_is, start_alive}
use Rattle.separation_bounds.proofs.separation.Running.{run_gives}
use Rattle.separation_bounds.specs.ByTrees.{cells_of_trees}
use Rattle.separation_bounds.proofs.GivenBack.{start_held, end_held}
use Rattle.tree_refinement.specs.Agreement.{AreWordsOf}
use Rattle.tree_refinement.specs.Runs.{BeginsWith}
use Rattle.tree_refinement.proofs.Loading.{begins_values}
use Rattle.tree_refinement.proofs.Values.{same_placed}
use Rattle.tree_refinement.specs.LentValues.{lent_values}
use Rattle.tree_refinement.proofs.Lending.{run_lends, trees_once}

-- ---- cells of trees

scalar_cells : (k : ℕ) (tb : Table) (s : Store) (t : ℕ) (x : Placed) → is_scalar tb t ≡ true → Stands tb s t x → cells k (value_of x) ≡ 0
scalar_cells k tb s t (PlacedInt i) e g = refl
scalar_cells k tb s t (Bare c) e g = refl
scalar_cells k tb s t (At p c xs) e g = let none = scalar_bare tb s t (At p c xs) e g p in let one = one_here p p refl in absurd (omega (arith, none, one))

-- those of borrowed words are those of the borrowed values
lent_cells : (k : ℕ) (tb : Table) (s : Store) (ps : List Param) (xs : Parts) (rest : List ℕ) (zs : List Placed) → StandAll tb s (map (λ p. p.ty) ps) xs → AreTrees tb s (lent_words tb ps (words_of xs ++ rest)) zs → cells_of_trees k zs ≡ cells_of_all k (lent_values ps (values_of xs))
lent_cells k tb s [] NoParts rest [] g h = refl
lent_cells k tb s [] NoParts rest (z ∷ zs) g h = absurd h
lent_cells k tb s [] (MoreParts x xs) rest zs g h = absurd g
lent_cells k tb s (p ∷ ps) NoParts rest zs g h = absurd g
lent_cells k tb s (p ∷ ps) (MoreParts x xs) rest zs g h = by p.lent (is_scalar tb p.ty) refl zs (λ us. lent_cells k tb s ps xs rest us g.1) h
  where
    by : (l e : Bool) → is_scalar tb p.ty ≡ e → (zs : List Placed) → ((us : List Placed) → AreTrees tb s (lent_words tb ps (words_of xs ++ rest)) us → cells_of_trees k us ≡ cells_of_all k (lent_values ps (values_of xs))) → AreTrees tb s (if l && not e then record { type = p.ty; word = word_of x } ∷ lent_words tb ps (words_of xs ++ rest) else lent_words tb ps (words_of xs ++ rest)) zs → cells_of_trees k zs ≡ cells_of_all k (if l then More (value_of x) (lent_values ps (values_of xs)) else lent_values ps (values_of xs))
    by false e is zs others h = others zs h
    by true true is zs others h = let none = scalar_cells k tb s p.ty x is g.0 in let more = others zs h in omega (arith, none, more)
    by true false is [] others h = absurd h
    by true false is (z ∷ zs) others h =
        let one = ap (λ y. cells k (value_of y)) (same_placed tb s p.ty z x h.0.stands g.0 h.0.word) in
        let more = others zs h.1 in
        omega (arith, one, more)

-- those of words are those of the values that they stand for
word_cells : (k : ℕ) (tb : Table) (s : Store) (ts : List ℕ) (xs : Parts) (zs : List Placed) → StandAll tb s ts xs → AreTrees tb s (typed ts (words_of xs)) zs → cells_of_trees k zs ≡ cells_of_all k (values_of xs)
word_cells k tb s [] NoParts [] g h = refl
word_cells k tb s [] NoParts (z ∷ zs) g h = absurd h
word_cells k tb s [] (MoreParts x xs) zs g h = absurd g
word_cells k tb s (t ∷ ts) NoParts zs g h = absurd g
word_cells k tb s (t ∷ ts) (MoreParts x xs) [] g h = absurd h
word_cells k tb s (t ∷ ts) (MoreParts x xs) (z ∷ zs) g h =
    let one = ap (λ y. cells k (value_of y)) (same_placed tb s t z x h.0.stands g.0 h.0.word) in
    let others = word_cells k tb s ts xs zs g.1 h.1 in
    omega (arith, one, others)

value_cells : (k : ℕ) (tb : Table) (s : Store) (ts ws : List ℕ) (us : Values) (zs : List Placed) → AreWordsOf tb s ts ws us → AreTrees tb s (typed ts ws) zs → cells_of_trees k zs ≡ cells_of_all k us
value_cells k tb s ts ws us zs w h = word_cells k tb s ts w.0 zs w.2 (subst (λ ws. AreTrees tb s (typed ts ws) zs) w.1 h) ∙ ap (cells_of_all k) w.3

-- ---- the first state

begun_held : (k : ℕ) (s : State) (calls : ℕ) → held k (begun s calls) ≡ count_held k s.store
begun_held k s zero = refl
begun_held k s (suc left) = refl

pub highest_by_trees : (c : PlainCode) (before waits : Kinds) (n : ℕ) (s : State) (vs : Values) (calls steps size : ℕ) → (t : IsStart c before waits n [] s) → BeginsWith c n s vs → 1 ≤ size → highest size (seen before c steps (begun s calls)) ≡ cells_of_all size vs + count size t.function.credits
highest_by_trees c before waits n s vs calls steps size t b some =
    let first = highest_is_first before c size some steps (begun s calls) in
    let begins = begun_held size s calls in
    let trees = start_held c before waits n [] s size t in
    let values = ap (cells_of_all size) (begins_values c before waits n [] s t vs b) in
    omega (arith, first, begins, trees, values)

-- ---- the last state

-- the borrowed arguments, as they are at first
lent_first : (c : PlainCode) (before waits : Kinds) (n : ℕ) (s : State) (vs : Values) (size : ℕ) (t : IsStart c before waits n [] s) → BeginsWith c n s vs → (zs : List Placed) → AreTrees c.types s.store s.lent zs → cells_of_trees size zs ≡ cells_of_all size (lent_values t.function.params vs)
lent_first c before waits n s vs size t b zs h =
    let lent : s.lent ≡ lent_words c.types t.function.params t.words = ap (λ (u : State). u.lent) (loaded_is c n t.function s.store t.words t.free s t.is t.loaded) in
    let words : s.lent ≡ lent_words c.types t.function.params (words_of t.given.arguments ++ _) = lent ∙ ap (lent_words c.types t.function.params) t.given.words in
    lent_cells size c.types s.store t.function.params t.given.arguments _ zs t.given.stand (subst (λ ts. AreTrees c.types s.store ts zs) words h)
    ∙ ap (λ us. cells_of_all size (lent_values t.function.params us)) (begins_values c before waits n [] s t vs b)

pub lowest_by_trees : (c : PlainCode) (before waits : Kinds) (n : ℕ) (s : State) (vs us : Values) (calls size : ℕ) (words : List ℕ) (last : State) (left steps : ℕ) → (t : IsStart c before waits n [] s) → BeginsWith c n s vs → 1 ≤ size → (e : Ends before c s calls (Value words) last left steps) → AreWordsOf c.types last.store (results c n) words us → lowest size (seen before c e.enough (begun s calls)) ≡ cells_of_all size us + cells_of_all size (lent_values t.function.params vs)
lowest_by_trees c before waits n s vs us calls size words last left steps t b some e w =
    let least = lowest_is_last before c size some e.enough (begun s calls) in
    let there : held size (after before c e.enough (begun s calls)) ≡ count_held size last.store = ap (held size) e.is in
    let g : GivesApart c n [] last words = run_gives c before waits n [] s calls e.enough words last left steps t e.is in
    let counted = end_held c before waits n [] s calls e.enough words last left steps size t e.is g in
    let given = value_cells size c.types last.store (results c n) words us g.results w g.stand in
    let alive = start_alive c before waits n [] s t in
    let lends = subst (λ (r : Run). (((state_of r).lent ≡ s.lent) × AreTrees c.types (state_of r).store s.lent alive.lent)) e.is (run_lends c before waits n [] s calls e.enough alive.lent t alive.arguments) in
    let same : g.lent ≡ alive.lent = trees_once c.types last.store s.lent g.lent alive.lent (subst (λ ts. AreTrees c.types last.store ts g.lent) lends.0 g.arguments) lends.1 in
    let lent = ap (cells_of_trees size) same ∙ lent_first c before waits n s vs size t b alive.lent alive.arguments in
    omega (arith, least, there, counted, given, lent)
