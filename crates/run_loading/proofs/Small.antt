-- The store in which a run begins can be written down: by induction on the values.
use Rattle.std.proofs.Common.{◌≡◌, ℕ, zero, suc, ◌+◌, ◌^◌, ◌<◌, false, List, [], ◌∷◌, ◌++◌, length, Option, Some, None, slice_get, refl, subst, arith, length-append}
use Rattle.std.specs.Prelude.{replicate}
use Rattle.std.proofs.lemmas.Option.{none-some}
use Rattle.tree_refinement.specs.fip_language.Every.{Every}
use Rattle.tree_refinement.specs.fip_language.Table.{Shape, Table, constructors, HasType, HaveTypes}
use Rattle.tree_refinement.specs.fip_language.Values.{Value, Int, Node, Values, End, More}
use Rattle.tree_refinement.specs.fip_language.Store.{Cell}
use Rattle.tree_refinement.specs.machine_semantics.Cells.{cell_in, size_of, credit_cell, one_if_true}
use Rattle.tree_refinement.proofs.separation_kinds.Basics.{get_within}
use Rattle.run_loading.specs.Loading.{places_of, value_places, all_places, value_word, all_words, credit_places, first_store}
use Rattle.run_loading.specs.TraceText.{IsWord}
use Rattle.run_loading.specs.Writable.{HaveFewConstructors, IsWritable}
use Rattle.run_loading.proofs.StepChanges.{int_word_small}
use Rattle.run_loading.proofs.Begins.{none_released}

abbrev IsSmall : Option Cell → Type 0
IsSmall None = Unit {0}
IsSmall (Some c) = (c.tag < 2 ^ 32) × Every IsWord c.fields

every_append : (os us : List (Option Cell)) → Every IsSmall os → Every IsSmall us → Every IsSmall (os ++ us)
every_append [] us h k = k
every_append (o ∷ os) us h k = (h.0, every_append os us h.1 k)

no_cells : (n : ℕ) → Every IsSmall (replicate n None)
no_cells zero = tt
no_cells (suc n) = (tt, no_cells n)

places_small : (c : Cell) → IsSmall (Some c) → Every IsSmall (places_of c)
places_small c h = (h, no_cells (size_of c))

-- ---- arguments

-- a constructor of a type
tag_small : (tb : Table) (t c : ℕ) (s : Shape) → HaveFewConstructors tb → slice_get (constructors tb (suc t)) c ≡ Some s → c < 2 ^ 32
tag_small tb t c s few e = let a = get_within (constructors tb (suc t)) c s e in let b = few (suc t) in omega arith

word_small : (tb : Table) (t n : ℕ) (v : Value) → HaveFewConstructors tb → HasType tb t v → n + length (value_places n v) < 2 ^ 32 → value_word n v < 2 ^ 64
word_small tb zero n (Int i) few h k = int_word_small i h
word_small tb zero n (Node c vs) few h k = absurd h
word_small tb (suc t) n (Int i) few h k = absurd h
word_small tb (suc t) n (Node c End) few h k = let a = tag_small tb t c h.0 few h.1 in omega arith
word_small tb (suc t) n (Node c (More v vs)) few h k =
    let m : ℕ = n + length (value_places n v) in
    let cell : Cell = record { tag = c; fields = value_word n v ∷ all_words m vs } in
    let a = length-append (value_places n v ++ all_places m vs) (places_of cell) in
    omega arith

words_small : (tb : Table) (ts : List ℕ) (n : ℕ) (vs : Values) → HaveFewConstructors tb → HaveTypes tb ts vs → n + length (all_places n vs) < 2 ^ 32 → Every IsWord (all_words n vs)
words_small tb [] n End few h k = tt
words_small tb [] n (More v vs) few h k = absurd h
words_small tb (t ∷ ts) n End few h k = absurd h
words_small tb (t ∷ ts) n (More v vs) few h k =
    let m : ℕ = n + length (value_places n v) in
    let a = length-append (value_places n v) (all_places m vs) in
    (word_small tb t n v few h.0 (omega arith), words_small tb ts m vs few h.1 (omega arith))

-- the first value's type, and those of the others
record AreBoth (tb : Table) (v : Value) (vs : Values) : Type 0 where
  type : ℕ
  types : List ℕ
  first : HasType tb type v
  others : HaveTypes tb types vs

both_types : (tb : Table) (ts : List ℕ) (v : Value) (vs : Values) → HaveTypes tb ts (More v vs) → AreBoth tb v vs
both_types tb [] v vs h = absurd h
both_types tb (t ∷ ts) v vs h = record { type = t; types = ts; first = h.0; others = h.1 }

mutual
  value_small : (tb : Table) (t n : ℕ) (v : Value) → HaveFewConstructors tb → HasType tb t v → n + length (value_places n v) < 2 ^ 32 → Every IsSmall (value_places n v)
  value_small tb zero n (Int i) few h k = tt
  value_small tb zero n (Node c vs) few h k = absurd h
  value_small tb (suc t) n (Int i) few h k = absurd h
  value_small tb (suc t) n (Node c End) few h k = tt
  value_small tb (suc t) n (Node c (More v vs)) few h k =
      let m : ℕ = n + length (value_places n v) in
      let cell : Cell = record { tag = c; fields = value_word n v ∷ all_words m vs } in
      let g = both_types tb h.0.fields v vs h.2 in
      let a = length-append (value_places n v ++ all_places m vs) (places_of cell) in
      let b = length-append (value_places n v) (all_places m vs) in
      every_append (value_places n v ++ all_places m vs) (places_of cell)
      (every_append (value_places n v) (all_places m vs) (value_small tb g.type n v few g.first (omega arith)) (all_small tb g.types m vs few g.others (omega arith)))
      (places_small cell (tag_small tb t c h.0 few h.1, (word_small tb g.type n v few g.first (omega arith), words_small tb g.types m vs few g.others (omega arith))))

  all_small : (tb : Table) (ts : List ℕ) (n : ℕ) (vs : Values) → HaveFewConstructors tb → HaveTypes tb ts vs → n + length (all_places n vs) < 2 ^ 32 → Every IsSmall (all_places n vs)
  all_small tb [] n End few h k = tt
  all_small tb [] n (More v vs) few h k = absurd h
  all_small tb (t ∷ ts) n End few h k = absurd h
  all_small tb (t ∷ ts) n (More v vs) few h k =
      let m : ℕ = n + length (value_places n v) in
      let a = length-append (value_places n v) (all_places m vs) in
      every_append (value_places n v) (all_places m vs) (value_small tb t n v few h.0 (omega arith)) (all_small tb ts m vs few h.1 (omega arith))

-- ---- credits

zeros_small : (k : ℕ) → Every IsWord (replicate k 0)
zeros_small zero = tt
zeros_small (suc k) = (omega arith, zeros_small k)

credits_small : (ks : List ℕ) → Every IsSmall (credit_places ks)
credits_small [] = tt
credits_small (k ∷ ks) = every_append (places_of (credit_cell k)) (credit_places ks) (places_small (credit_cell k) (omega arith, zeros_small k)) (credits_small ks)

-- ---- the store

at_small : (os : List (Option Cell)) (p : ℕ) (c : Cell) → Every IsSmall os → cell_in os p ≡ Some c → IsSmall (Some c)
at_small [] p c h e = absurd (none-some c e)
at_small (o ∷ os) zero c h e = subst IsSmall e h.0
at_small (o ∷ os) (suc p) c h e = at_small os p c h.1 e

pub first_writable : (tb : Table) (ts : List ℕ) (vs : Values) (credits : List ℕ) → HaveFewConstructors tb → HaveTypes tb ts vs → length (first_store vs credits).cells < 2 ^ 32 → IsWritable (first_store vs credits)
first_writable tb ts vs credits few h k =
    let a = length-append (all_places 0 vs) (credit_places credits) in
    let small : Every IsSmall (all_places 0 vs ++ credit_places credits) = every_append (all_places 0 vs) (credit_places credits) (all_small tb ts 0 vs few h (omega arith)) (credits_small credits) in
    record {
      places = k;
      tags = λ p c e. (at_small (all_places 0 vs ++ credit_places credits) p c small e).0;
      words = λ p c e. (at_small (all_places 0 vs ++ credit_places credits) p c small e).1;
      unreleased = λ p. none_released (length (all_places 0 vs ++ credit_places credits)) p;
    }
