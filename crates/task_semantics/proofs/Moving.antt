-- Values that are loaded after further places have the same trees, cells and words, with each place moved by the number
-- of these.
use Rattle.std.proofs.Common.{◌≡◌, ◌≢◌, ℕ, zero, suc, ◌+◌, List, [], ◌∷◌, ◌++◌, length, map, Option, Some, None, inl, refl, sym, ap, ap₂, ◌∙◌, subst, arith}
use Rattle.std.specs.Prelude.{replicate}
use Rattle.std.proofs.lemmas.Option.{none-some, same_Some}
use Rattle.run_loading.specs.fip_language.Store.{Cell, At, MoreParts, words_of}
use Rattle.run_loading.specs.fip_language.Values.{Value, Int, Node, Values, End, More}
use Rattle.run_loading.specs.machine_semantics.Cells.{Store, cell_in, cell_at, size_of, credit_cell}
use Rattle.run_loading.specs.Loading.{places_of, value_places, all_places, value_word, all_words, credit_places}
use Rattle.run_loading.proofs.Lengths.{value_length, all_length}
use Rattle.run_loading.proofs.Begins.{placed, placed_all, placed_words, Has, spots}
use Rattle.task_semantics.specs.Projected.{Renaming, renamed, renamed_parts, AreLikeWords, IsLikeCell}
use Rattle.task_semantics.proofs.Renamings.{like_of_parts}
use Rattle.task_semantics.specs.Laid.{Task, task_places}

abbrev pub moved : ℕ → ℕ → ℕ
moved n p = n + p

-- ---- trees

value_long : (m k : ℕ) (v : Value) → length (value_places m v) ≡ length (value_places k v)
value_long m k v = value_length m v ∙ sym (value_length k v)

pub all_long : (m k : ℕ) (vs : Values) → length (all_places m vs) ≡ length (all_places k vs)
all_long m k vs = all_length m vs ∙ sym (all_length k vs)

node_long : (m k : ℕ) (v : Value) (vs : Values) → length (value_places m v ++ all_places (m + length (value_places m v)) vs) ≡ length (value_places k v ++ all_places (k + length (value_places k v)) vs)
node_long m k v vs = all_long m k (More v vs)

mutual
  tree_moved : (n m k : ℕ) (v : Value) → k ≡ n + m → renamed (moved n) (placed m v) ≡ placed k v
  tree_moved n m k (Int i) e = refl
  tree_moved n m k (Node c End) e = refl
  tree_moved n m k (Node c (More v vs)) e =
      let l = node_long m k v vs in
      let z : n + (m + length (value_places m v ++ all_places (m + length (value_places m v)) vs)) ≡ k + length (value_places k v ++ all_places (k + length (value_places k v)) vs) = omega arith in
      ap₂ (λ p xs. At p c xs) z (trees_moved n m k (More v vs) e)

  pub trees_moved : (n m k : ℕ) (vs : Values) → k ≡ n + m → renamed_parts (moved n) (placed_all m vs) ≡ placed_all k vs
  trees_moved n m k End e = refl
  trees_moved n m k (More v vs) e =
      let l = value_long m k v in
      let z : k + length (value_places k v) ≡ n + (m + length (value_places m v)) = omega arith in
      ap₂ (λ x xs. MoreParts x xs) (tree_moved n m k v e) (trees_moved n (m + length (value_places m v)) (k + length (value_places k v)) vs z)

words_moved : (n m k : ℕ) (vs : Values) → k ≡ n + m → AreLikeWords (moved n) (all_words m vs) (all_words k vs)
words_moved n m k vs e =
    subst (λ us. AreLikeWords (moved n) us (all_words k vs)) (placed_words m vs)
    (subst (λ us. AreLikeWords (moved n) (words_of (placed_all m vs)) us) (ap words_of (trees_moved n m k vs e) ∙ placed_words k vs)
    (like_of_parts (moved n) (placed_all m vs)))

pub spots_moved : (n m k : ℕ) (ks : List ℕ) → k ≡ n + m → map (moved n) (spots m ks) ≡ spots k ks
spots_moved n m k [] e = refl
spots_moved n m k (s ∷ ks) e = ap₂ (λ p ps. p ∷ ps) (sym e) (spots_moved n (m + suc s) (k + suc s) ks (omega arith))

-- ---- cells

-- The same places, with the words of cells moved.
abbrev pub AreMoved : ℕ → List (Option Cell) → List (Option Cell) → Type 0
AreMoved n [] [] = Unit {0}
AreMoved n [] (u ∷ us) = ⊥
AreMoved n (o ∷ os) [] = ⊥
AreMoved n (None ∷ os) (None ∷ us) = AreMoved n os us
AreMoved n (None ∷ os) (Some d ∷ us) = ⊥
AreMoved n (Some a ∷ os) (None ∷ us) = ⊥
AreMoved n (Some a ∷ os) (Some d ∷ us) = ((d.tag ≡ a.tag) × AreLikeWords (moved n) a.fields d.fields) × AreMoved n os us

moved_append : (n : ℕ) (os us ps qs : List (Option Cell)) → AreMoved n os us → AreMoved n ps qs → AreMoved n (os ++ ps) (us ++ qs)
moved_append n [] [] ps qs h k = k
moved_append n [] (u ∷ us) ps qs h k = absurd h
moved_append n (o ∷ os) [] ps qs h k = absurd h
moved_append n (None ∷ os) (None ∷ us) ps qs h k = moved_append n os us ps qs h k
moved_append n (None ∷ os) (Some d ∷ us) ps qs h k = absurd h
moved_append n (Some a ∷ os) (None ∷ us) ps qs h k = absurd h
moved_append n (Some a ∷ os) (Some d ∷ us) ps qs h k = (h.0, moved_append n os us ps qs h.1 k)

moved_none : (n k : ℕ) → AreMoved n (replicate k None) (replicate k None)
moved_none n zero = tt
moved_none n (suc k) = moved_none n k

words_even : (f : Renaming) (ws vs : List ℕ) → AreLikeWords f ws vs → length ws ≡ length vs
words_even f [] [] h = refl
words_even f [] (v ∷ vs) h = absurd h
words_even f (w ∷ ws) [] h = absurd h
words_even f (w ∷ ws) (v ∷ vs) h = ap suc (words_even f ws vs h.1)

moved_cell : (n : ℕ) (a d : Cell) → d.tag ≡ a.tag → AreLikeWords (moved n) a.fields d.fields → AreMoved n (places_of a) (places_of d)
moved_cell n a d t h = ((t, h), subst (λ k. AreMoved n (replicate (size_of a) None) (replicate k None)) (words_even (moved n) a.fields d.fields h) (moved_none n (size_of a)))

mutual
  value_moved : (n m k : ℕ) (v : Value) → k ≡ n + m → AreMoved n (value_places m v) (value_places k v)
  value_moved n m k (Int i) e = tt
  value_moved n m k (Node c End) e = tt
  value_moved n m k (Node c (More v vs)) e =
      let i : ℕ = m + length (value_places m v) in
      let j : ℕ = k + length (value_places k v) in
      let own : Cell = record { tag = c; fields = value_word m v ∷ all_words i vs } in
      let mate : Cell = record { tag = c; fields = value_word k v ∷ all_words j vs } in
      moved_append n (value_places m v ++ all_places i vs) (value_places k v ++ all_places j vs) (places_of own) (places_of mate)
      (values_moved n m k (More v vs) e) (moved_cell n own mate refl (words_moved n m k (More v vs) e))

  values_moved : (n m k : ℕ) (vs : Values) → k ≡ n + m → AreMoved n (all_places m vs) (all_places k vs)
  values_moved n m k End e = tt
  values_moved n m k (More v vs) e =
      let i : ℕ = m + length (value_places m v) in
      let j : ℕ = k + length (value_places k v) in
      let l = value_long m k v in
      let z : j ≡ n + i = omega arith in
      moved_append n (value_places m v) (value_places k v) (all_places i vs) (all_places j vs) (value_moved n m k v e) (values_moved n i j vs z)

pub like_same : (f : Renaming) (ws : List ℕ) → AreLikeWords f ws ws
like_same f [] = tt
like_same f (w ∷ ws) = (inl refl, like_same f ws)

credits_moved : (n : ℕ) (ks : List ℕ) → AreMoved n (credit_places ks) (credit_places ks)
credits_moved n [] = tt
credits_moved n (k ∷ ks) = moved_append n (places_of (credit_cell k)) (places_of (credit_cell k)) (credit_places ks) (credit_places ks) (moved_cell n (credit_cell k) (credit_cell k) refl (like_same (moved n) (credit_cell k).fields)) (credits_moved n ks)

pub task_moved : (n : ℕ) (t : Task) → AreMoved n (task_places 0 t) (task_places n t)
task_moved n t = moved_append n (all_places 0 t.arguments) (all_places n t.arguments) (credit_places t.header.credits) (credit_places t.header.credits) (values_moved n 0 n t.arguments (omega arith)) (credits_moved n t.header.credits)

-- ---- the cells of a store

record HasMate (n : ℕ) (us : List (Option Cell)) (p : ℕ) (a : Cell) : Type 0 where
  cell : Cell
  is : cell_in us p ≡ Some cell
  like : (cell.tag ≡ a.tag) × AreLikeWords (moved n) a.fields cell.fields

mate_of : (n : ℕ) (os us : List (Option Cell)) (p : ℕ) (a : Cell) → AreMoved n os us → cell_in os p ≡ Some a → HasMate n us p a
mate_of n [] us p a h e = absurd (none-some a e)
mate_of n (o ∷ os) [] p a h e = absurd h
mate_of n (None ∷ os) (None ∷ us) zero a h e = absurd (none-some a e)
mate_of n (None ∷ os) (None ∷ us) (suc p) a h e = let m = mate_of n os us p a h e in record { cell = m.cell; is = m.is; like = m.like }
mate_of n (None ∷ os) (Some d ∷ us) p a h e = absurd h
mate_of n (Some b ∷ os) (None ∷ us) p a h e = absurd h
mate_of n (Some b ∷ os) (Some d ∷ us) zero a h e = record { cell = d; is = refl; like = subst (λ (a : Cell). (d.tag ≡ a.tag) × AreLikeWords (moved n) a.fields d.fields) (same_Some b a e) h.0 }
mate_of n (Some b ∷ os) (Some d ∷ us) (suc p) a h e = let m = mate_of n os us p a h.1 e in record { cell = m.cell; is = m.is; like = m.like }

-- what is in a store from place n on is like what is in a store of its own
pub cell_moved : (n : ℕ) (os us : List (Option Cell)) (shared : Store) (p : ℕ) → AreMoved n os us → Has shared n us → cell_in os p ≢ None → IsLikeCell (moved n) (cell_in os p) (cell_at shared (n + p))
cell_moved n os us shared p h k there = by (cell_in os p) refl there
  where
    by : (o : Option Cell) → cell_in os p ≡ o → o ≢ None → IsLikeCell (moved n) o (cell_at shared (n + p))
    by None e some = absurd (some refl)
    by (Some a) e some =
        let m = mate_of n os us p a h e in
        subst (IsLikeCell (moved n) (Some a)) (sym (k p m.cell m.is)) m.like
