-- A run that is loaded with arguments begins: each argument is a tree whose cells are those that were laid out for it,
-- and with the credits' cells these are all cells.
-- The idea: how often a place is one of a list of places is one sum, over the arguments as over their trees.
use Rattle.std.proofs.Common.{◌≡◌, inl, inr, ℕ, zero, suc, ◌+◌, ◌<◌, ◌≤◌, true, false, not, List, [], ◌∷◌, ◌++◌, length, map, Option, Some, None, slice_get, refl, sym, ap, ap₂, ◌∙◌, subst, arith, nat_lt, ◌==◌}
use Rattle.std.specs.Prelude.{replicate}
use Rattle.std.proofs.lemmas.Option.{none-some}
use Rattle.std.proofs.lemmas.List.{length-replicate}
use Rattle.tree_refinement.specs.fip_language.Every.{Every}
use Rattle.tree_refinement.specs.fip_language.Table.{Shape, Table, shapes, HasType, HaveTypes}
use Rattle.tree_refinement.specs.fip_language.Values.{Value, Int, Node, Values, End, More}
use Rattle.tree_refinement.specs.fip_language.Store.{Cell, Placed, PlacedInt, Bare, At, Parts, NoParts, MoreParts, word_of, words_of, value_of, values_of, uses, uses_of_all, one_at, count}
use Rattle.tree_refinement.specs.machine_semantics.Words.{place_word}
use Rattle.tree_refinement.specs.machine_semantics.Cells.{Store, IsSized, cell_in, cell_at, size_of, credit_cell, one_if_some, one_if_true}
use Rattle.tree_refinement.specs.machine_semantics.Trees.{Stands, StandAll}
use Rattle.tree_refinement.specs.machine_semantics.States.{State}
use Rattle.tree_refinement.specs.machine_semantics.Steps.{Kinds, first_frame}
use Rattle.tree_refinement.specs.machine_semantics.Runs.{loaded, loaded_in, lent_words}
use Rattle.tree_refinement.specs.machine_semantics.Apart.{AreSpare, IsGiven}
use Rattle.tree_refinement.specs.cell_code.Plain.{PlainFunction, PlainCode, function_at}
use Rattle.tree_refinement.specs.code_rules.Limits.{most_fields, most_registers, most_results, most_credits}
use Rattle.tree_refinement.specs.code_rules.Headers.{is_size, are_sizes, are_params, is_formed}
use Rattle.tree_refinement.specs.code_rules.declared.rule.SoundRule.TheVariants.{S0}
use Rattle.tree_refinement.specs.code_rules.Breaks.{IsSound}
use Rattle.tree_refinement.proofs.separation_kinds.Basics.{both, below, less_or_not}
use Rattle.tree_refinement.proofs.separation_kinds.Agree.{one_here, one_apart}
use Rattle.tree_refinement.specs.separation.Codes.{HasLiterals, AreKinds}
use Rattle.tree_refinement.specs.separation.Starts.{IsStart}
use Rattle.tree_refinement.proofs.separation.Sound.{never, formed}
use Rattle.tree_refinement.proofs.separation.Loading.{loaded_is}
use Rattle.tree_refinement.specs.Runs.{BeginsWith}
use Rattle.tree_refinement.proofs.Loading.{begins_values, begins_with}
use Rattle.run_loading.specs.Loading.{places_of, value_places, all_places, value_word, all_words, credit_places, credit_words, first_store, first_words}

-- ---- the trees of arguments

abbrev mutual
  pub placed : ℕ → Value → Placed
  placed n (Int i) = PlacedInt i
  placed n (Node c End) = Bare c
  placed n (Node c (More v vs)) = At (n + length (value_places n v ++ all_places (n + length (value_places n v)) vs)) c (MoreParts (placed n v) (placed_all (n + length (value_places n v)) vs))

  pub placed_all : ℕ → Values → Parts
  placed_all n End = NoParts
  placed_all n (More v vs) = MoreParts (placed n v) (placed_all (n + length (value_places n v)) vs)

placed_word : (n : ℕ) (v : Value) → word_of (placed n v) ≡ value_word n v
placed_word n (Int i) = refl
placed_word n (Node c End) = refl
placed_word n (Node c (More v vs)) = refl

pub placed_words : (n : ℕ) (vs : Values) → words_of (placed_all n vs) ≡ all_words n vs
placed_words n End = refl
placed_words n (More v vs) = ap₂ (λ w ws. w ∷ ws) (placed_word n v) (placed_words (n + length (value_places n v)) vs)

mutual
  placed_value : (n : ℕ) (v : Value) → value_of (placed n v) ≡ v
  placed_value n (Int i) = refl
  placed_value n (Node c End) = refl
  placed_value n (Node c (More v vs)) = ap (λ us. Node c us) (ap₂ More (placed_value n v) (placed_values (n + length (value_places n v)) vs))

  placed_values : (n : ℕ) (vs : Values) → values_of (placed_all n vs) ≡ vs
  placed_values n End = refl
  placed_values n (More v vs) = ap₂ More (placed_value n v) (placed_values (n + length (value_places n v)) vs)

-- ---- they are in a store that has their places

-- the store has these places from number n on
abbrev pub Has : Store → ℕ → List (Option Cell) → Type 0
Has s n os = (j : ℕ) (c : Cell) → cell_in os j ≡ Some c → cell_at s (n + j) ≡ Some c

cell_left : (os us : List (Option Cell)) (j : ℕ) (c : Cell) → cell_in os j ≡ Some c → cell_in (os ++ us) j ≡ Some c
cell_left [] us j c e = absurd (none-some c e)
cell_left (o ∷ os) us zero c e = e
cell_left (o ∷ os) us (suc j) c e = cell_left os us j c e

cell_right : (os us : List (Option Cell)) (j : ℕ) (c : Cell) → cell_in us j ≡ Some c → cell_in (os ++ us) (length os + j) ≡ Some c
cell_right [] us j c e = let z : j ≡ 0 + j = omega arith in subst (λ j. cell_in us j ≡ Some c) z e
cell_right (o ∷ os) us j c e = let z : suc (length os + j) ≡ suc (length os) + j = omega arith in subst (λ i. cell_in ((o ∷ os) ++ us) i ≡ Some c) z (cell_right os us j c e)

pub has_left : (s : Store) (n : ℕ) (os us : List (Option Cell)) → Has s n (os ++ us) → Has s n os
has_left s n os us h j c e = h j c (cell_left os us j c e)

pub has_right : (s : Store) (n : ℕ) (os us : List (Option Cell)) → Has s n (os ++ us) → Has s (n + length os) us
has_right s n os us h j c e = let z : n + (length os + j) ≡ (n + length os) + j = omega arith in subst (λ i. cell_at s i ≡ Some c) z (h (length os + j) c (cell_right os us j c e))

mutual
  placed_stands : (tb : Table) (s : Store) (t n : ℕ) (v : Value) → HasType tb t v → Has s n (value_places n v) → Stands tb s t (placed n v)
  placed_stands tb s zero n (Int i) h k = h
  placed_stands tb s zero n (Node c vs) h k = absurd h
  placed_stands tb s (suc t) n (Int i) h k = absurd h
  placed_stands tb s (suc t) n (Node c End) h k = (h.0, h.1, no_fields h.0.fields h.2)
    where
      no_fields : (ts : List ℕ) → HaveTypes tb ts End → ts ≡ []
      no_fields [] h = refl
      no_fields (t ∷ ts) h = absurd h
  placed_stands tb s (suc t) n (Node c (More v vs)) h k =
      let m : ℕ = n + length (value_places n v) in
      let front : List (Option Cell) = value_places n v ++ all_places m vs in
      let cell : Cell = record { tag = c; fields = value_word n v ∷ all_words m vs } in
      let mate : Cell = record { tag = c; fields = words_of (placed_all n (More v vs)) } in
      let same : cell ≡ mate = ap (λ (ws : List ℕ). record { tag = c; fields = ws }) (sym (placed_words n (More v vs))) in
      let parts = has_left s n front (places_of cell) k in
      let own = has_right s n front (places_of cell) k 0 cell refl in
      let z : (n + length front) + 0 ≡ n + length front = omega arith in (
        subst (λ i. cell_at s i ≡ Some cell) z own ∙ ap Some same,
        tt,
        h.0,
        h.1,
        placed_stand tb s h.0.fields n (More v vs) h.2 parts,
      )

  pub placed_stand : (tb : Table) (s : Store) (ts : List ℕ) (n : ℕ) (vs : Values) → HaveTypes tb ts vs → Has s n (all_places n vs) → StandAll tb s ts (placed_all n vs)
  placed_stand tb s [] n End h k = tt
  placed_stand tb s [] n (More v vs) h k = absurd h
  placed_stand tb s (t ∷ ts) n End h k = absurd h
  placed_stand tb s (t ∷ ts) n (More v vs) h k =
      let m : ℕ = n + length (value_places n v) in
      (placed_stands tb s t n v h.0 (has_left s n (value_places n v) (all_places m vs) k), placed_stand tb s ts m vs h.1 (has_right s n (value_places n v) (all_places m vs) k))

-- ---- how often a place is that of a cell

abbrev one_if : ℕ → ℕ → Option Cell → ℕ
one_if q n None = 0
one_if q n (Some c) = one_at q n

-- of places from number n on
abbrev cells_at : ℕ → ℕ → List (Option Cell) → ℕ
cells_at q n [] = 0
cells_at q n (o ∷ os) = one_if q n o + cells_at q (suc n) os

at_append : (q n : ℕ) (os us : List (Option Cell)) → cells_at q n (os ++ us) ≡ cells_at q n os + cells_at q (n + length os) us
at_append q n [] us = let z : n ≡ n + 0 = omega arith in let e = ap (λ n. cells_at q n us) z in omega arith
at_append q n (o ∷ os) us =
    let a = at_append q (suc n) os us in
    let z : suc n + length os ≡ n + suc (length os) = omega arith in
    let e = ap (λ n. cells_at q n us) z in
    omega arith

at_none : (q n k : ℕ) → cells_at q n (replicate k None) ≡ 0
at_none q n zero = refl
at_none q n (suc k) = let a = at_none q (suc n) k in omega arith

at_places : (q n : ℕ) (c : Cell) → cells_at q n (places_of c) ≡ one_at q n
at_places q n c = let a = at_none q (suc n) (size_of c) in omega arith

mutual
  uses_placed : (q n : ℕ) (v : Value) → uses q (placed n v) ≡ cells_at q n (value_places n v)
  uses_placed q n (Int i) = refl
  uses_placed q n (Node c End) = refl
  uses_placed q n (Node c (More v vs)) =
      let m : ℕ = n + length (value_places n v) in
      let front : List (Option Cell) = value_places n v ++ all_places m vs in
      let cell : Cell = record { tag = c; fields = value_word n v ∷ all_words m vs } in
      let a = at_append q n front (places_of cell) in
      let b = at_append q n (value_places n v) (all_places m vs) in
      let d = at_places q (n + length front) cell in
      let x = uses_placed q n v in
      let y = uses_all_placed q m vs in
      omega arith

  uses_all_placed : (q n : ℕ) (vs : Values) → uses_of_all q (placed_all n vs) ≡ cells_at q n (all_places n vs)
  uses_all_placed q n End = refl
  uses_all_placed q n (More v vs) =
      let m : ℕ = n + length (value_places n v) in
      let b = at_append q n (value_places n v) (all_places m vs) in
      let x = uses_placed q n v in
      let y = uses_all_placed q m vs in
      omega arith

at_before : (q n : ℕ) (os : List (Option Cell)) → q < n → cells_at q n os ≡ 0
at_before q n [] h = refl
at_before q n (None ∷ os) h = let a = at_before q (suc n) os (omega arith) in omega arith
at_before q n (Some c ∷ os) h =
    let a = at_before q (suc n) os (omega arith) in
    let b = one_apart q n (λ e. absurd (let z : ⊥ = omega arith in z)) in
    omega arith

at_index : (q n j : ℕ) (os : List (Option Cell)) → q ≡ n + j → cells_at q n os ≡ one_if_some (cell_in os j)
at_index q n j [] e = refl
at_index q n zero (None ∷ os) e = let a = at_before q (suc n) os (omega arith) in omega arith
at_index q n zero (Some c ∷ os) e = let a = at_before q (suc n) os (omega arith) in let b = one_here q n (omega arith) in omega arith
at_index q n (suc j) (None ∷ os) e = let a = at_index q (suc n) j os (omega arith) in omega arith
at_index q n (suc j) (Some c ∷ os) e =
    let a = at_index q (suc n) j os (omega arith) in
    let b = one_apart q n (λ z. absurd (let y : ⊥ = omega arith in y)) in
    omega arith

-- ---- credits

-- the places of their cells
abbrev pub spots : ℕ → List ℕ → List ℕ
spots n [] = []
spots n (k ∷ ks) = n ∷ spots (n + suc k) ks

credit_long : (k : ℕ) → length (places_of (credit_cell k)) ≡ suc k
credit_long k = ap suc (length-replicate (size_of (credit_cell k)) None ∙ length-replicate k 0)

pub spot_words : (n : ℕ) (ks : List ℕ) → map (λ p. place_word p) (spots n ks) ≡ credit_words n ks
spot_words n [] = refl
spot_words n (k ∷ ks) = ap (λ ws. place_word n ∷ ws) (spot_words (n + suc k) ks)

spots_spare : (s : Store) (n : ℕ) (ks : List ℕ) → Has s n (credit_places ks) → AreSpare s ks (spots n ks)
spots_spare s n [] h = tt
spots_spare s n (k ∷ ks) h =
    let first = has_left s n (places_of (credit_cell k)) (credit_places ks) h 0 (credit_cell k) refl in
    let z : n + 0 ≡ n = omega arith in
    let rest = has_right s n (places_of (credit_cell k)) (credit_places ks) h in (
      (credit_cell k, subst (λ i. cell_at s i ≡ Some (credit_cell k)) z first, length-replicate k 0),
      spots_spare s (n + suc k) ks (subst (λ m. Has s (n + m) (credit_places ks)) (credit_long k) rest),
    )

spots_count : (q n : ℕ) (ks : List ℕ) → count q (spots n ks) ≡ cells_at q n (credit_places ks)
spots_count q n [] = refl
spots_count q n (k ∷ ks) =
    let a = at_append q n (places_of (credit_cell k)) (credit_places ks) in
    let b = at_places q n (credit_cell k) in
    let c = ap (λ m. cells_at q (n + m) (credit_places ks)) (credit_long k) in
    let d = spots_count q (n + suc k) ks in
    omega arith

-- ---- sizes

pub sized_append : (os us : List (Option Cell)) → Every IsSized os → Every IsSized us → Every IsSized (os ++ us)
sized_append [] us h k = k
sized_append (o ∷ os) us h k = (h.0, sized_append os us h.1 k)

sized_none : (n : ℕ) → Every IsSized (replicate n None)
sized_none zero = tt
sized_none (suc n) = (tt, sized_none n)

places_sized : (c : Cell) → IsSized (Some c) → Every IsSized (places_of c)
places_sized c h = (h, sized_none (size_of c))

shapes_within : (tb : Table) (t k : ℕ) (s : Shape) → slice_get (shapes tb t) k ≡ Some s → t < length tb
shapes_within [] t k s e = absurd (none-some s e)
shapes_within (row ∷ rows) zero k s e = omega arith
shapes_within (row ∷ rows) (suc t) k s e = let h = shapes_within rows t k s e in omega arith

-- a constructor of sound code has few fields
abbrev pub HaveFewFields : Table → Type 0
HaveFewFields tb = (t k : ℕ) (s : Shape) → slice_get (shapes tb t) k ≡ Some s → length s.fields ≤ most_fields

pub few_fields : (c : PlainCode) → IsSound c → HaveFewFields c.types
few_fields c sound t k s e = elim (less_or_not most_fields (length s.fields)) as (λ v. length s.fields ≤ most_fields) [
  | inl more ↦ never c 0 0 S0 sound (λ tables. absurd (
      let within = shapes_within c.types t k s e in
      let few = ((tables.types (suc t) (omega arith) (omega arith)).shapes k s e).few in
      let z : ⊥ = omega arith in
      z))
  | inr few ↦ few
]

words_number : (tb : Table) (ts : List ℕ) (n : ℕ) (vs : Values) → HaveTypes tb ts vs → length (all_words n vs) ≡ length ts
words_number tb [] n End h = refl
words_number tb [] n (More v vs) h = absurd h
words_number tb (t ∷ ts) n End h = absurd h
words_number tb (t ∷ ts) n (More v vs) h = ap suc (words_number tb ts (n + length (value_places n v)) vs h.1)

-- the first value's type, and those of the others
record AreBoth (tb : Table) (v : Value) (vs : Values) : Type 0 where
  type : ℕ
  types : List ℕ
  first : HasType tb type v
  others : HaveTypes tb types vs

both_types : (tb : Table) (ts : List ℕ) (v : Value) (vs : Values) → HaveTypes tb ts (More v vs) → AreBoth tb v vs
both_types tb [] v vs h = absurd h
both_types tb (t ∷ ts) v vs h = record { type = t; types = ts; first = h.0; others = h.1 }

mutual
  value_sized : (tb : Table) (t n : ℕ) (v : Value) → HaveFewFields tb → HasType tb t v → Every IsSized (value_places n v)
  value_sized tb zero n (Int i) few h = tt
  value_sized tb zero n (Node c vs) few h = absurd h
  value_sized tb (suc t) n (Int i) few h = absurd h
  value_sized tb (suc t) n (Node c End) few h = tt
  value_sized tb (suc t) n (Node c (More v vs)) few h =
      let m : ℕ = n + length (value_places n v) in
      let cell : Cell = record { tag = c; fields = value_word n v ∷ all_words m vs } in
      let g = both_types tb h.0.fields v vs h.2 in
      let number : suc (length (all_words m vs)) ≡ length h.0.fields = words_number tb h.0.fields n (More v vs) h.2 in
      let most = few t c h.0 h.1 in
      sized_append (value_places n v ++ all_places m vs) (places_of cell)
      (sized_append (value_places n v) (all_places m vs) (value_sized tb g.type n v few g.first) (all_sized tb g.types m vs few g.others))
      (places_sized cell (omega arith, omega arith))

  pub all_sized : (tb : Table) (ts : List ℕ) (n : ℕ) (vs : Values) → HaveFewFields tb → HaveTypes tb ts vs → Every IsSized (all_places n vs)
  all_sized tb [] n End few h = tt
  all_sized tb [] n (More v vs) few h = absurd h
  all_sized tb (t ∷ ts) n End few h = absurd h
  all_sized tb (t ∷ ts) n (More v vs) few h = sized_append (value_places n v) (all_places (n + length (value_places n v)) vs) (value_sized tb t n v few h.0) (all_sized tb ts (n + length (value_places n v)) vs few h.1)

pub credits_sized : (ks : List ℕ) → are_sizes ks ≡ true → Every IsSized (credit_places ks)
credits_sized [] e = tt
credits_sized (k ∷ ks) e =
    let a = both (is_size k) (are_sizes ks) e in
    let b = both (nat_lt 0 k) (nat_lt k (suc most_fields)) a.0 in
    let low = below 0 k b.0 in
    let high = below k (suc most_fields) b.1 in
    let size : size_of (credit_cell k) ≡ k = length-replicate k 0 in
    sized_append (places_of (credit_cell k)) (credit_places ks) (places_sized (credit_cell k) (omega arith, omega arith)) (credits_sized ks a.1)

pub sizes_formed : (c : PlainCode) (f : PlainFunction) → is_formed c f ≡ true → are_sizes f.credits ≡ true
sizes_formed c f e =
    let a = both (not (length f.instrs == 0)) _ e in
    let b = both (not (nat_lt f.registers (length f.params + length f.credits))) _ a.1 in
    let d = both (nat_lt f.registers (suc most_registers)) _ b.1 in
    let g = both (not (length f.results == 0)) _ d.1 in
    let h = both (nat_lt (length f.results) (suc most_results)) _ g.1 in
    let i = both (nat_lt (length f.credits) (suc most_credits)) _ h.1 in
    let j = both (are_params c.types f.params) _ i.1 in
    (both (are_sizes f.credits) _ j.1).0

-- ---- the store, and the start

pub none_released : (n p : ℕ) → one_if_true (slice_get (replicate n false) p) ≡ 0
none_released zero p = refl
none_released (suc n) zero = refl
none_released (suc n) (suc p) = none_released n p

pub has_all : (s : Store) → Has s 0 s.cells
has_all s j c e = let z : j ≡ 0 + j = omega arith in subst (λ i. cell_at s i ≡ Some c) z e

abbrev given : (c : PlainCode) (n : ℕ) (f : PlainFunction) (vs : Values) → IsSound c → function_at c n ≡ Some f → HaveTypes c.types (map (λ p. p.ty) f.params) vs → IsGiven c.types f (first_store vs f.credits) [] (first_words vs f.credits)
given c n f vs sound is h =
    let front : List (Option Cell) = all_places 0 vs in
    let back : List (Option Cell) = credit_places f.credits in
    let s : Store = first_store vs f.credits in
    let all : Has s 0 (front ++ back) = has_all s in
    let z : 0 + length front ≡ length front = omega arith in
    let following : Has s (length front) back = subst (λ m. Has s m back) z (has_right s 0 front back all) in
    record {
      store = record {
        sized = sized_append front back (all_sized c.types (map (λ p. p.ty) f.params) 0 vs (few_fields c sound) h) (credits_sized f.credits (sizes_formed c f (formed c n f sound is)));
        wide = length-replicate (length (front ++ back)) false;
        of_cells = λ p. let e = none_released (length (front ++ back)) p in omega arith;
      };
      arguments = placed_all 0 vs;
      spares = spots (length front) f.credits;
      words = ap₂ (λ us ws. us ++ ws) (sym (placed_words 0 vs)) (sym (spot_words (length front) f.credits));
      stand = placed_stand c.types s (map (λ p. p.ty) f.params) 0 vs h (has_left s 0 front back all);
      credits = spots_spare s (length front) f.credits following;
      once = λ q.
          let a = uses_all_placed q 0 vs in
          let b = spots_count q (length front) f.credits in
          let d = at_append q 0 front back in
          let e = ap (λ m. cells_at q m back) z in
          let i = at_index q 0 q (front ++ back) (omega arith) in
          let r = none_released (length (front ++ back)) q in
          omega arith;
    }

-- the state in which it begins
abbrev first_state : PlainFunction → PlainCode → ℕ → Values → ℕ → State
first_state f c n vs frames = record {
  store = first_store vs f.credits;
  running = first_frame n f (first_words vs f.credits);
  waiting = [];
  free = frames;
  lent = lent_words c.types f.params (first_words vs f.credits);
}

first_begins : (c : PlainCode) (before waits : Kinds) (n : ℕ) (f : PlainFunction) (vs : Values) (frames : ℕ) → IsSound c → HasLiterals c → AreKinds c before waits → function_at c n ≡ Some f → HaveTypes c.types (map (λ p. p.ty) f.params) vs → loaded c n (first_store vs f.credits) (first_words vs f.credits) frames ≡ Some (first_state f c n vs frames) → IsStart c before waits n [] (first_state f c n vs frames) × BeginsWith c n (first_state f c n vs frames) vs
first_begins c before waits n f vs frames sound literals kinds is h e =
    let start : IsStart c before waits n [] (first_state f c n vs frames) = record {
      sound = sound;
      literals = literals;
      kinds = kinds;
      function = f;
      is = is;
      words = first_words vs f.credits;
      given = given c n f vs sound is h;
      free = frames;
      loaded = e;
    } in
    let some = begins_with c before waits n [] (first_state f c n vs frames) start in
    let same : values_of start.given.arguments ≡ some.0 = begins_values c before waits n [] (first_state f c n vs frames) start some.0 some.1 in
    let own : values_of start.given.arguments ≡ vs = placed_values 0 vs in
    (start, subst (λ us. BeginsWith c n (first_state f c n vs frames) us) (sym same ∙ own) some.1)

pub begins : (c : PlainCode) (before waits : Kinds) (n : ℕ) (f : PlainFunction) (vs : Values) (frames : ℕ) (s : State) → IsSound c → HasLiterals c → AreKinds c before waits → function_at c n ≡ Some f → HaveTypes c.types (map (λ p. p.ty) f.params) vs → loaded c n (first_store vs f.credits) (first_words vs f.credits) frames ≡ Some s → IsStart c before waits n [] s × BeginsWith c n s vs
begins c before waits n f vs frames s sound literals kinds is h e =
    let same : s ≡ first_state f c n vs frames = loaded_is c n f (first_store vs f.credits) (first_words vs f.credits) frames s is e in
    subst (λ s. IsStart c before waits n [] s × BeginsWith c n s vs) (sym same) (first_begins c before waits n f vs frames sound literals kinds is h (e ∙ ap Some same))

pub is_loaded : (c : PlainCode) (n : ℕ) (f : PlainFunction) (vs : Values) (frames : ℕ) → function_at c n ≡ Some f → (s : State) × (loaded c n (first_store vs f.credits) (first_words vs f.credits) frames ≡ Some s)
is_loaded c n f vs frames is = (first_state f c n vs frames, ap (λ o. loaded_in c.types n o (first_store vs f.credits) (first_words vs f.credits) frames) is)
