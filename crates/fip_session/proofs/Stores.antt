-- A session's cells as the store of a run.
-- Idea: a cell of a store has a field, so a node with a cell has a part; and each cell is live or released.
use Rattle.std.proofs.Common.{◌≡◌, ◌≢◌, ◌∙◌, ◌<◌, ◌≤◌, ◌+◌, ℕ, zero, suc, Bool, true, false, List, [], ◌∷◌, length, map, Option, Some, None, slice_get, refl, sym, ap, subst, arith}
use Rattle.std.specs.Prelude.{replicate}
use Rattle.std.proofs.lemmas.List.{length-replicate}
use Rattle.std.proofs.lemmas.Option.{none-some}
use Rattle.fip_language.proofs.Search.{slice_get_there}
use Rattle.fip_language.specs.Every.{Every}
use Rattle.fip_language.specs.Store.{Cell, Placed, PlacedInt, Bare, At, Parts, NoParts, MoreParts, words_of}
use Rattle.fip_language.specs.Table.{Table}
use Rattle.cell_store.specs.Cells as L
use Rattle.cell_store.specs.Made.{Loading}
use Rattle.fip_machine.specs.machine_cells.Small.{store_of}
use Rattle.session_correctness.specs.tree_refinement.machine_semantics.Apart.{AreSpare}
use Rattle.session_correctness.specs.tree_refinement.machine_semantics.Cells.{Store, IsSized, IsStore, cell_in, cell_at, size_of, there, released_at, one_if_some, one_if_true}
use Rattle.session_correctness.specs.tree_refinement.machine_semantics.Trees as C
use Rattle.session_correctness.specs.tree_refinement.machine_semantics.Words.{place_word}
use Rattle.session_correctness.proofs.tree_refinement.separation.Stores.{there_few}
use Rattle.session_correctness.specs.Called.{AllStand, IsHeld}
use Rattle.session_correctness.specs.Lodging.{Lodged, lodged_uses}
use Rattle.value_text.specs.Loaded.{live_in, live, AreZero, cell_words}
use Rattle.value_text.specs.Standing as V
use Rattle.fip_session.specs.Readied.{Lie}

pub same_cell : (cs : List (Option Cell)) (p : ℕ) → L.cell_at cs p ≡ cell_in cs p
same_cell [] p = refl
same_cell (o ∷ os) zero = refl
same_cell (o ∷ os) (suc p) = same_cell os p

cell_within : (cs : List (Option Cell)) (p : ℕ) (c : Cell) → cell_in cs p ≡ Some c → p < length cs
cell_within [] p c e = absurd (none-some c e)
cell_within (o ∷ os) zero c e = omega arith
cell_within (o ∷ os) (suc p) c e = (let r = cell_within os p c e in omega (arith, r))

-- ---- what a loader or a sealed store says of its cells

every_sized : (cs : L.Cells) → ((p : ℕ) (c : Cell) → L.cell_at cs p ≡ Some c → (0 < L.size_of c) × (L.size_of c ≤ 16)) → Every IsSized cs
every_sized [] h = tt
every_sized (None ∷ os) h = (tt, every_sized os (λ p. h (suc p)))
every_sized (Some c ∷ os) h = (h 0 c refl, every_sized os (λ p. h (suc p)))

one_at_most : (o : Option Cell) (r : Option Bool) → (r ≡ Some true → o ≢ None) → one_if_true r ≤ one_if_some o
one_at_most o None h = omega arith
one_at_most o (Some false) h = omega arith
one_at_most None (Some true) h = absurd (h refl refl)
one_at_most (Some c) (Some true) h = omega arith

pub is_store : (l : Loading) → length l.released ≡ length l.cells → ((p : ℕ) (c : Cell) → L.cell_at l.cells p ≡ Some c → (0 < L.size_of c) × (L.size_of c ≤ 16)) → ((p : ℕ) → slice_get l.released p ≡ Some true → L.cell_at l.cells p ≢ None) → IsStore (store_of l.cells l.released)
is_store l flags each cells = record {
  sized = every_sized l.cells each;
  wide = flags;
  of_cells = λ p. subst (λ o. one_if_true (slice_get l.released p) ≤ one_if_some o) (same_cell l.cells p) (one_at_most (L.cell_at l.cells p) (slice_get l.released p) (cells p));
}

live_or_released : (o : Option Cell) (r : Option Bool) → one_if_true r ≤ one_if_some o → ((c : Cell) → o ≡ Some c → (b : Bool) × (r ≡ Some b)) → live_in o r + one_if_true r ≡ one_if_some o
live_or_released None None h k = refl
live_or_released None (Some true) h k = omega (arith, h)
live_or_released None (Some false) h k = refl
live_or_released (Some c) None h k = (let r = k c refl in absurd (none-some r.0 r.1))
live_or_released (Some c) (Some true) h k = refl
live_or_released (Some c) (Some false) h k = refl

pub live_there : (l : Loading) (p : ℕ) → IsStore (store_of l.cells l.released) → live l p + released_at (store_of l.cells l.released) p ≡ there (store_of l.cells l.released) p
live_there l p st =
    let flag : (c : Cell) → cell_in l.cells p ≡ Some c → (b : Bool) × (slice_get l.released p ≡ Some b) =
    λ c e. slice_get_there l.released p (subst (λ m. p < m) (sym st.wide) (cell_within l.cells p c e)) in
    subst (λ o. live_in o (slice_get l.released p) + released_at (store_of l.cells l.released) p ≡ there (store_of l.cells l.released) p) (sym (same_cell l.cells p))
    (live_or_released (cell_in l.cells p) (slice_get l.released p) (st.of_cells p) flag)

-- ---- trees

some_field : (cs : List (Option Cell)) (p : ℕ) (c : Cell) → Every IsSized cs → cell_in cs p ≡ Some c → 0 < size_of c
some_field [] p c h e = absurd (none-some c e)
some_field (o ∷ os) zero c h e = (subst IsSized e h.0).0
some_field (o ∷ os) (suc p) c h e = some_field os p c h.1 e

has_part : (xs : Parts) → 0 < length (words_of xs) → C.HasPart xs
has_part NoParts h = absurd (let z : ⊥ = omega (arith, h) in z)
has_part (MoreParts x xs) h = tt

module _ (tb : Table) (s : Store) (sized : Every IsSized s.cells) where
  mutual
    pub stands : (t : ℕ) (x : Placed) → V.Stands tb s.cells t x → C.Stands tb s t x
    stands zero (PlacedInt i) h = h
    stands zero (Bare c) h = absurd h
    stands zero (At p c xs) h = absurd h
    stands (suc t) (PlacedInt i) h = absurd h
    stands (suc t) (Bare c) h = h
    stands (suc t) (At p c xs) h =
        let cell : cell_at s p ≡ Some (record { tag = c; fields = words_of xs }) = sym (same_cell s.cells p) ∙ h.0 in
        (cell, has_part xs (some_field s.cells p (record { tag = c; fields = words_of xs }) sized cell), h.1, h.2, stand_all h.1.fields xs h.3)

    pub stand_all : (ts : List ℕ) (xs : Parts) → V.StandAll tb s.cells ts xs → C.StandAll tb s ts xs
    stand_all [] NoParts h = tt
    stand_all [] (MoreParts x xs) h = absurd h
    stand_all (t ∷ ts) NoParts h = absurd h
    stand_all (t ∷ ts) (MoreParts x xs) h = (stands t x h.0, stand_all ts xs h.1)

module _ (tb : Table) (s : Store) where
  mutual
    pub lies : (t : ℕ) (x : Placed) → C.Stands tb s t x → V.Stands tb s.cells t x
    lies zero (PlacedInt i) h = h
    lies zero (Bare c) h = absurd h
    lies zero (At p c xs) h = absurd h
    lies (suc t) (PlacedInt i) h = absurd h
    lies (suc t) (Bare c) h = h
    lies (suc t) (At p c xs) h = (same_cell s.cells p ∙ h.0, h.2, h.3, all_lie h.2.fields xs h.4)

    pub all_lie : (ts : List ℕ) (xs : Parts) → C.StandAll tb s ts xs → V.StandAll tb s.cells ts xs
    all_lie [] NoParts h = tt
    all_lie [] (MoreParts x xs) h = absurd h
    all_lie (t ∷ ts) NoParts h = absurd h
    all_lie (t ∷ ts) (MoreParts x xs) h = (lies t x h.0, all_lie ts xs h.1)

  pub lodged_lie : (ls : List Lodged) → AllStand tb s ls → Every (λ h. V.Stands tb s.cells h.type h.tree) ls
  lodged_lie [] h = tt
  lodged_lie (l ∷ ls) h = (lies l.type l.tree h.0, lodged_lie ls h.1)

-- What is held lies in the cells of a store.
pub lie_there : (tb : Table) (ls : List Lodged) (l : Loading) → IsHeld tb ls (store_of l.cells l.released) → Lie tb ls l
lie_there tb ls l h = record {
  stand = lodged_lie tb (store_of l.cells l.released) ls h.stand;
  alive = λ p some. (
      let o = h.once p in
      let t = live_there l p h.store in
      let few = there_few (store_of l.cells l.released) p in
      omega (arith, o, t, few, some)
      );
}

-- ---- credits

pub spare : (s : Store) (ks ps : List ℕ) → AreZero s.cells ps ks → AreSpare s ks ps
spare s [] [] h = tt
spare s [] (p ∷ ps) h = absurd h
spare s (k ∷ ks) [] h = absurd h
spare s (k ∷ ks) (p ∷ ps) h = ((record { tag = 0; fields = replicate k 0 }, sym (same_cell s.cells p) ∙ h.0, length-replicate k 0), spare s ks ps h.1)

pub names : (ps : List ℕ) → cell_words ps ≡ map (λ p. place_word p) ps
names [] = refl
names (p ∷ ps) = ap (λ ws. place_word p ∷ ws) (names ps)
