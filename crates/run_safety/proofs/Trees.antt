-- What was loaded from a text is what the entry of a run is given: trees of its parameters' types, a cell for each
-- credit, and beside them the cells that were live before, which are kept.
-- Idea: a cell of the store has a field, so a node with a cell has a part; and each cell that isn't released is one of
-- the values', of the credits' or of the kept cells, once.
use Rattle.std.proofs.Common.{◌≡◌, ◌<◌, ◌≤◌, ◌+◌, ℕ, zero, suc, Bool, true, false, List, [], ◌∷◌, ◌++◌, length, map, Option, Some, None, slice_get, refl, sym, ap, ◌∙◌, subst, arith}
use Rattle.std.proofs.lemmas.Bool.Decides.{nat_tests}
use Rattle.std.proofs.lemmas.List.{length-replicate}
use Rattle.std.proofs.lemmas.Option.{none-some}
use Rattle.std.specs.Prelude.{replicate, if◌then◌else◌, nat_eq}
use Rattle.fip_machine.proofs.fip_language.Search.{slice_get_there}
use Rattle.fip_machine.specs.fip_language.Every.{Every}
use Rattle.fip_machine.specs.fip_language.Store.{Cell, Placed, PlacedInt, Bare, At, Parts, NoParts, MoreParts, words_of, count, one_at}
use Rattle.fip_machine.specs.fip_language.Table.{Table}
use Rattle.fip_machine.specs.cell_store.Cells as L
use Rattle.fip_machine.specs.cell_store.Made.{Loading}
use Rattle.value_text.proofs.Taken.{one_here as one_same, one_other}
use Rattle.fip_machine.specs.machine_cells.Small.{store_of}
use Rattle.separation.specs.machine_semantics.Cells.{Store, IsSized, IsStore, cell_in, cell_at, size_of, there, released_at, one_if_some, one_if_true}
use Rattle.separation.specs.machine_semantics.Given.{AreSpare, IsGiven}
use Rattle.separation.specs.machine_semantics.Trees as C
use Rattle.separation.specs.machine_semantics.Trees.{HasPart}
use Rattle.separation.specs.machine_semantics.Words.{place_word}
use Rattle.separation.specs.cell_code.Plain.{PlainFunction}
use Rattle.value_text.specs.Loaded.{types_of, live_in, live, AreZero, cell_words, IsLoaded}
use Rattle.value_text.specs.Standing as V
use Rattle.run_safety.proofs.Stores.{same_cell}

-- ---- cells

cell_within : (cs : List (Option Cell)) (p : ℕ) (c : Cell) → cell_in cs p ≡ Some c → p < length cs
cell_within [] p c e = absurd (none-some c e)
cell_within (o ∷ os) zero c e = omega arith
cell_within (o ∷ os) (suc p) c e = let r = cell_within os p c e in omega (arith, r)

some_field : (cs : List (Option Cell)) (p : ℕ) (c : Cell) → Every IsSized cs → cell_in cs p ≡ Some c → 0 < size_of c
some_field [] p c h e = absurd (none-some c e)
some_field (o ∷ os) zero c h e = (subst IsSized e h.0).0
some_field (o ∷ os) (suc p) c h e = some_field os p c h.1 e

-- ---- trees

has_part : (xs : Parts) → 0 < length (words_of xs) → HasPart xs
has_part NoParts h = absurd (omega (arith, h))
has_part (MoreParts x xs) h = tt

module _ (tb : Table) (s : Store) (sized : Every IsSized s.cells) where
  mutual
    stands : (t : ℕ) (x : Placed) → V.Stands tb s.cells t x → C.Stands tb s t x
    stands zero (PlacedInt i) h = h
    stands zero (Bare c) h = absurd h
    stands zero (At p c xs) h = absurd h
    stands (suc t) (PlacedInt i) h = absurd h
    stands (suc t) (Bare c) h = h
    stands (suc t) (At p c xs) h =
        let cell : cell_at s p ≡ Some (record { tag = c; fields = words_of xs }) = sym (same_cell s.cells p) ∙ h.0 in
        (cell, has_part xs (some_field s.cells p (record { tag = c; fields = words_of xs }) sized cell), h.1, h.2, stand_all h.1.fields xs h.3)

    stand_all : (ts : List ℕ) (xs : Parts) → V.StandAll tb s.cells ts xs → C.StandAll tb s ts xs
    stand_all [] NoParts h = tt
    stand_all [] (MoreParts x xs) h = absurd h
    stand_all (t ∷ ts) NoParts h = absurd h
    stand_all (t ∷ ts) (MoreParts x xs) h = (stands t x h.0, stand_all ts xs h.1)

-- ---- credits

spare : (s : Store) (ks ps : List ℕ) → AreZero s.cells ps ks → AreSpare s ks ps
spare s [] [] h = tt
spare s [] (p ∷ ps) h = absurd h
spare s (k ∷ ks) [] h = absurd h
spare s (k ∷ ks) (p ∷ ps) h = ((record { tag = 0; fields = replicate k 0 }, sym (same_cell s.cells p) ∙ h.0, length-replicate k 0), spare s ks ps h.1)

names : (ps : List ℕ) → cell_words ps ≡ map (λ p. place_word p) ps
names [] = refl
names (p ∷ ps) = ap (λ ws. place_word p ∷ ws) (names ps)

-- ---- each cell is one of them

live_or_released : (o : Option Cell) (r : Option Bool) → one_if_true r ≤ one_if_some o → ((c : Cell) → o ≡ Some c → (b : Bool) × (r ≡ Some b)) → live_in o r + one_if_true r ≡ one_if_some o
live_or_released None None h k = refl
live_or_released None (Some true) h k = omega (arith, h)
live_or_released None (Some false) h k = refl
live_or_released (Some c) None h k = let r = k c refl in absurd (none-some r.0 r.1)
live_or_released (Some c) (Some true) h k = refl
live_or_released (Some c) (Some false) h k = refl

live_there : (l : Loading) (p : ℕ) → IsStore (store_of l.cells l.released) → live l p + released_at (store_of l.cells l.released) p ≡ there (store_of l.cells l.released) p
live_there l p st =
    let flag : (c : Cell) → cell_in l.cells p ≡ Some c → (b : Bool) × (slice_get l.released p ≡ Some b) =
    λ c e. slice_get_there l.released p (subst (λ m. p < m) (sym st.wide) (cell_within l.cells p c e)) in
    subst (λ o. live_in o (slice_get l.released p) + released_at (store_of l.cells l.released) p ≡ there (store_of l.cells l.released) p) (sym (same_cell l.cells p))
    (live_or_released (cell_in l.cells p) (slice_get l.released p) (st.of_cells p) flag)

-- ---- the cells that were live before

abbrev first_place : ℕ → List ℕ → List ℕ
first_place zero ps = ps
first_place (suc n) ps = 0 ∷ ps

-- the places with a live cell
abbrev live_places : L.Cells → List Bool → List ℕ
live_places [] rs = []
live_places (o ∷ os) [] = []
live_places (o ∷ os) (r ∷ rs) = first_place (live_in o (Some r)) (map (λ p. suc p) (live_places os rs))

none_first : (ps : List ℕ) → count 0 (map (λ p. suc p) ps) ≡ 0
none_first [] = refl
none_first (p ∷ ps) =
    let z : one_at 0 (suc p) ≡ 0 = one_other 0 (suc p) (λ x. absurd (omega (arith, x))) in
    let h = none_first ps in
    omega (arith, z, h)

same_next : (q l : ℕ) → nat_eq (suc q) (suc l) ≡ nat_eq q l
same_next q l = grind (arith, nat_tests)

next_same : (q : ℕ) (ps : List ℕ) → count (suc q) (map (λ p. suc p) ps) ≡ count q ps
next_same q [] = refl
next_same q (p ∷ ps) =
    let z : one_at (suc q) (suc p) ≡ one_at q p = ap (λ (t : Bool). if t then 1 else 0) (same_next q p) in
    let h = next_same q ps in
    omega (arith, z, h)

count_first : (n : ℕ) (ps : List ℕ) → n ≤ 1 → count 0 ps ≡ 0 → count 0 (first_place n ps) ≡ n
count_first zero ps h z = z
count_first (suc zero) ps h z = let one : one_at 0 0 ≡ 1 = one_same 0 in omega (arith, z, one)
count_first (suc (suc n)) ps h z = absurd (omega (arith, h))

count_next : (n q : ℕ) (ps : List ℕ) → count (suc q) (first_place n ps) ≡ count (suc q) ps
count_next zero q ps = refl
count_next (suc n) q ps = let z : one_at (suc q) 0 ≡ 0 = one_other (suc q) 0 (λ x. absurd (omega (arith, x))) in omega (arith, z)

one_live : (o : Option Cell) (r : Option Bool) → live_in o r ≤ 1
one_live None r = omega arith
one_live (Some c) None = omega arith
one_live (Some c) (Some true) = omega arith
one_live (Some c) (Some false) = omega arith

no_flag : (o : Option Cell) → live_in o None ≡ 0
no_flag None = refl
no_flag (Some c) = refl

count_live : (cs : L.Cells) (rs : List Bool) (q : ℕ) → count q (live_places cs rs) ≡ live_in (L.cell_at cs q) (slice_get rs q)
count_live [] rs q = refl
count_live (o ∷ os) [] q = sym (no_flag (L.cell_at (o ∷ os) q))
count_live (o ∷ os) (r ∷ rs) zero = count_first (live_in o (Some r)) (map (λ p. suc p) (live_places os rs)) (one_live o (Some r)) (none_first (live_places os rs))
count_live (o ∷ os) (r ∷ rs) (suc q) = count_next (live_in o (Some r)) q (map (λ p. suc p) (live_places os rs)) ∙ next_same q (live_places os rs) ∙ count_live os rs q

-- ---- the start

abbrev pub kept_in : Loading → List ℕ
kept_in l = live_places l.cells l.released

pub given_of : (tb : Table) (f : PlainFunction) (bytes : List ℕ) (old new : Loading) (words : List ℕ) → IsStore (store_of new.cells new.released) → IsLoaded tb (types_of f.params) f.credits bytes old new words → IsGiven tb f (store_of new.cells new.released) (kept_in old) words
given_of tb f bytes old new words st l = record {
  store = st;
  arguments = l.trees;
  spares = l.places;
  words = l.named ∙ ap (λ ws. words_of l.trees ++ ws) (names l.places);
  stand = stand_all tb (store_of new.cells new.released) st.sized (types_of f.params) l.trees l.stand;
  credits = spare (store_of new.cells new.released) f.credits l.places l.zero;
  once = λ q.
      let all = l.once q in
      let kept : count q (kept_in old) ≡ live old q = count_live old.cells old.released q in
      let now = live_there new q st in
      omega (arith, all, kept, now);
}
