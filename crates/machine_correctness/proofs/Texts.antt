-- What was loaded from a text into an empty store begins a run on the values that the text encodes.
-- Idea: a cell of the store has a field, so a node with a cell has a part; and each cell that isn't released is one of
-- the values' or of the credits' cells, once.
use Rattle.std.proofs.Common.{◌≡◌, ◌<◌, ◌≤◌, ◌+◌, ℕ, zero, suc, Bool, true, false, List, [], ◌∷◌, ◌++◌, length, map, Option, Some, None, slice_get, refl, sym, ap, ◌∙◌, subst, arith}
use Rattle.std.proofs.lemmas.List.{length-replicate}
use Rattle.std.proofs.lemmas.Option.{none-some}
use Rattle.std.specs.Prelude.{replicate}
use Rattle.fip_machine.proofs.fip_language.Search.{slice_get_there}
use Rattle.fip_machine.specs.fip_language.Every.{Every}
use Rattle.fip_machine.specs.fip_language.Store.{Cell, Placed, PlacedInt, Bare, At, Parts, NoParts, MoreParts, values_of, words_of}
use Rattle.fip_machine.specs.fip_language.Table.{Table}
use Rattle.fip_machine.specs.fip_language.Values.{Values}
use Rattle.fip_machine.specs.cell_code.declared.code.Code.{Code}
use Rattle.fip_machine.specs.cell_store.Cells as L
use Rattle.fip_machine.specs.cell_store.Made.{Loading}
use Rattle.compiler_correctness.specs.machine_semantics.Apart.{AreSpare, IsGiven}
use Rattle.compiler_correctness.specs.machine_semantics.Cells.{Store, IsSized, IsStore, cell_in, cell_at, size_of, there, released_at, one_if_some, one_if_true}
use Rattle.fip_machine.specs.cell_code.Plain.{PlainFunction, plain, function_at}
use Rattle.compiler_correctness.specs.machine_semantics.Runs.{loaded, lent_words}
use Rattle.compiler_correctness.specs.machine_semantics.States.{State}
use Rattle.compiler_correctness.specs.machine_semantics.Steps.{first_frame}
use Rattle.compiler_correctness.specs.machine_semantics.Trees as C
use Rattle.compiler_correctness.specs.machine_semantics.Trees.{HasPart}
use Rattle.compiler_correctness.specs.machine_semantics.Words.{place_word}
use Rattle.run_loading.proofs.separation.Loading.{loaded_is}
use Rattle.run_loading.specs.tree_refinement.Agreement.{AreWordsOf}
use Rattle.fip_machine.specs.machine_cells.Small.{store_of}
use Rattle.value_text.specs.Loaded.{types_of, live_in, live, AreZero, cell_words, IsLoaded}
use Rattle.value_text.specs.Standing as V
use Rattle.machine_correctness.specs.Meant.{ArePrintable}
use Rattle.machine_correctness.specs.Starts.{Begins}

-- ---- cells

pub same_cell : (cs : List (Option Cell)) (p : ℕ) → L.cell_at cs p ≡ cell_in cs p
same_cell [] p = refl
same_cell (o ∷ os) zero = refl
same_cell (o ∷ os) (suc p) = same_cell os p

cell_within : (cs : List (Option Cell)) (p : ℕ) (c : Cell) → cell_in cs p ≡ Some c → p < length cs
cell_within [] p c e = absurd (none-some c e)
cell_within (o ∷ os) zero c e = omega arith
cell_within (o ∷ os) (suc p) c e = let r = cell_within os p c e in omega (arith, r)

some_field : (cs : List (Option Cell)) (p : ℕ) (c : Cell) → Every IsSized cs → cell_in cs p ≡ Some c → 0 < size_of c
some_field [] p c h e = absurd (none-some c e)
some_field (o ∷ os) zero c h e = (subst IsSized e h.0).0
some_field (o ∷ os) (suc p) c h e = some_field os p c h.1 e

-- ---- trees

has_part : (xs : Parts) → 0 < length (words_of xs) → HasPart xs
has_part NoParts h = absurd (omega (arith, h))
has_part (MoreParts x xs) h = tt

module _ (tb : Table) (s : Store) (sized : Every IsSized s.cells) where
  mutual
    stands : (t : ℕ) (x : Placed) → V.Stands tb s.cells t x → C.Stands tb s t x
    stands zero (PlacedInt i) h = h
    stands zero (Bare c) h = absurd h
    stands zero (At p c xs) h = absurd h
    stands (suc t) (PlacedInt i) h = absurd h
    stands (suc t) (Bare c) h = h
    stands (suc t) (At p c xs) h =
        let cell : cell_at s p ≡ Some (record { tag = c; fields = words_of xs }) = sym (same_cell s.cells p) ∙ h.0 in
        (cell, has_part xs (some_field s.cells p (record { tag = c; fields = words_of xs }) sized cell), h.1, h.2, stand_all h.1.fields xs h.3)

    stand_all : (ts : List ℕ) (xs : Parts) → V.StandAll tb s.cells ts xs → C.StandAll tb s ts xs
    stand_all [] NoParts h = tt
    stand_all [] (MoreParts x xs) h = absurd h
    stand_all (t ∷ ts) NoParts h = absurd h
    stand_all (t ∷ ts) (MoreParts x xs) h = (stands t x h.0, stand_all ts xs h.1)

-- the printer requires no more of a tree
module _ (tb : Table) (s : Store) where
  mutual
    lies : (t : ℕ) (x : Placed) → C.Stands tb s t x → V.Stands tb s.cells t x
    lies zero (PlacedInt i) h = h
    lies zero (Bare c) h = absurd h
    lies zero (At p c xs) h = absurd h
    lies (suc t) (PlacedInt i) h = absurd h
    lies (suc t) (Bare c) h = h
    lies (suc t) (At p c xs) h = (same_cell s.cells p ∙ h.0, h.2, h.3, all_lie h.2.fields xs h.4)

    all_lie : (ts : List ℕ) (xs : Parts) → C.StandAll tb s ts xs → V.StandAll tb s.cells ts xs
    all_lie [] NoParts h = tt
    all_lie [] (MoreParts x xs) h = absurd h
    all_lie (t ∷ ts) NoParts h = absurd h
    all_lie (t ∷ ts) (MoreParts x xs) h = (lies t x h.0, all_lie ts xs h.1)

pub printable : (tb : Table) (s : Store) (ts ws : List ℕ) (vs : Values) → AreWordsOf tb s ts ws vs → ArePrintable tb s.cells ts ws vs
printable tb s ts ws vs h = record { trees = h.0; are = h.1; stand = all_lie tb s ts h.0 h.2; values = h.3 }

-- ---- credits

spare : (s : Store) (ks ps : List ℕ) → AreZero s.cells ps ks → AreSpare s ks ps
spare s [] [] h = tt
spare s [] (p ∷ ps) h = absurd h
spare s (k ∷ ks) [] h = absurd h
spare s (k ∷ ks) (p ∷ ps) h = ((record { tag = 0; fields = replicate k 0 }, sym (same_cell s.cells p) ∙ h.0, length-replicate k 0), spare s ks ps h.1)

names : (ps : List ℕ) → cell_words ps ≡ map (λ p. place_word p) ps
names [] = refl
names (p ∷ ps) = ap (λ ws. place_word p ∷ ws) (names ps)

-- ---- each cell is one of them

live_or_released : (o : Option Cell) (r : Option Bool) → one_if_true r ≤ one_if_some o → ((c : Cell) → o ≡ Some c → (b : Bool) × (r ≡ Some b)) → live_in o r + one_if_true r ≡ one_if_some o
live_or_released None None h k = refl
live_or_released None (Some true) h k = omega (arith, h)
live_or_released None (Some false) h k = refl
live_or_released (Some c) None h k = let r = k c refl in absurd (none-some r.0 r.1)
live_or_released (Some c) (Some true) h k = refl
live_or_released (Some c) (Some false) h k = refl

live_there : (l : Loading) (p : ℕ) → IsStore (store_of l.cells l.released) → live l p + released_at (store_of l.cells l.released) p ≡ there (store_of l.cells l.released) p
live_there l p st =
    let flag : (c : Cell) → cell_in l.cells p ≡ Some c → (b : Bool) × (slice_get l.released p ≡ Some b) =
    λ c e. slice_get_there l.released p (subst (λ m. p < m) (sym st.wide) (cell_within l.cells p c e)) in
    subst (λ o. live_in o (slice_get l.released p) + released_at (store_of l.cells l.released) p ≡ there (store_of l.cells l.released) p) (sym (same_cell l.cells p))
    (live_or_released (cell_in l.cells p) (slice_get l.released p) (st.of_cells p) flag)

-- ---- the start

abbrev given_of : (code : Code) (f : PlainFunction) (bytes : List ℕ) (old new : Loading) (words : List ℕ) → old.cells ≡ [] → IsStore (store_of new.cells new.released) → (l : IsLoaded code.types (types_of f.params) f.credits bytes old new words) → IsGiven code.types f (store_of new.cells new.released) [] words
given_of code f bytes old new words empty st l = record {
  store = st;
  arguments = l.trees;
  spares = l.places;
  words = l.named ∙ ap (λ ws. words_of l.trees ++ ws) (names l.places);
  stand = stand_all code.types (store_of new.cells new.released) st.sized (types_of f.params) l.trees l.stand;
  credits = spare (store_of new.cells new.released) f.credits l.places l.zero;
  once = λ q.
      let all = l.once q in
      let none : live old q ≡ 0 = ap (λ cs. live_in (L.cell_at cs q) (slice_get old.released q)) empty in
      let now = live_there new q st in
      omega (arith, all, none, now);
}

abbrev first_state : Code → ℕ → PlainFunction → Store → List ℕ → ℕ → State
first_state code n f store words frames = record {
  store = store;
  running = first_frame n f words;
  waiting = [];
  free = frames;
  lent = lent_words code.types f.params words;
}

pub text_begins : (code : Code) (n : ℕ) (f : PlainFunction) (bytes : List ℕ) (old new : Loading) (words : List ℕ) (frames : ℕ) (s : State) → function_at (plain code) n ≡ Some f → old.cells ≡ [] → IsStore (store_of new.cells new.released) → (l : IsLoaded code.types (types_of f.params) f.credits bytes old new words) → loaded (plain code) n (store_of new.cells new.released) words frames ≡ Some s → Begins code n f (values_of l.trees) frames s
text_begins code n f bytes old new words frames s is empty st l loads =
    let store : Store = store_of new.cells new.released in
    let same : s ≡ first_state code n f store words frames = loaded_is (plain code) n f store words frames s is loads in
    subst (λ (u : State). Begins code n f (values_of l.trees) frames u) (sym same)
    (record {
      is = is;
      words = words;
      given = given_of code f bytes old new words empty st l;
      values = refl;
      loaded = loads ∙ ap (λ u. Some u) same;
    })
