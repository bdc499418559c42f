-- What is released after a call, one tree after another.
use Rattle.std.proofs.Common.{◌≡◌, ◌⊎◌, inl, inr, ◌∙◌, ℕ, zero, suc, ◌+◌, ◌/◌, ◌*◌, ◌<◌, ◌≤◌, Bool, true, false, List, [], ◌∷◌, ◌++◌, length, map, drop, take, get_or, Option, Some, None, refl, sym, ap, subst, arith, append-nil, if◌then◌else◌}
use Rattle.std.proofs.lemmas.Option.{none-some, same_Some}
use Rattle.fip_base.specs.declared.plain.Param.{Param}
use Rattle.fip_language.specs.Core.{Name}
use Rattle.fip_language.specs.Every.{Every}
use Rattle.fip_language.specs.Store.{Cell, Placed, Parts, NoParts, MoreParts, word_of, uses, uses_of_all, count, places}
use Rattle.fip_language.specs.Table.{Table, is_scalar}
use Rattle.cell_store.specs.Cells as L
use Rattle.fip_machine.specs.machine_cells.Small.{store_of}
use Rattle.session_correctness.specs.tree_refinement.machine_semantics.Cells.{Store, IsSized, IsStore, cell_in, cell_at, there, released_at, one_if_some, one_if_true}
use Rattle.session_correctness.proofs.tree_refinement.separation.Stores.{there_few}
use Rattle.session_correctness.specs.Called.{AllStand, IsHeld, IsGivenUp}
use Rattle.session_correctness.specs.Lodging.{Lodged, lodged_as, lodged_uses, lodged_places, AreTrees, fresh_uses, lent_fresh_uses, used_uses, AreBare}
use Rattle.session_correctness.proofs.Few.{few_places}
use Rattle.session_correctness.proofs.Releasing.{AllGivenUp, all_up, still_apart}
use Rattle.session_correctness.proofs.Sharing.{lodged_count}
use Rattle.session_correctness.proofs.Calls.{all_stand_on}
use Rattle.session_lines.specs.session_semantics.Lines.{Given as Written, Held as Named, Fresh as New}
use Rattle.session_lines.specs.session_semantics.Talk.{named_by, used_by}
use Rattle.store_trees.specs.Added.{Adds, places_of}
use Rattle.store_trees.specs.GivenUp.{all_given_up}
use Rattle.store_trees.specs.declared.trees.Tree.{Tree}
use Rattle.value_text.specs.Loaded.{types_of}
use Rattle.value_text.specs.Standing.{Stands, StandAll}
use Rattle.fip_session.specs.Gone.{fresh_trees, AreStanding, IsAny, IsLent, all_uses, lent_of, uses_in, named_uses}
use Rattle.fip_session.specs.Readied.{fresh_one, fresh_list}
use Rattle.fip_session.specs.declared.ready.Fresh.{Fresh}
use Rattle.fip_session.proofs.Stores.{same_cell}
use Rattle.fip_language.proofs.Facts.{length_join, positive_or_zero as some_or}
use Rattle.session_correctness.proofs.Calls.{there_at as there_same}
use Rattle.value_text.proofs.Credits.{count_append as count_join}

-- ---- one after another

pub up_none : (s : Store) → IsGivenUp (λ q. 0) s s
up_none s = record { cells = refl; wide = refl; here = λ q some. absurd (let z : ⊥ = omega (arith, some) in z); other = λ q none. refl }

pub up_both : (f g h : ℕ → ℕ) (s t u : Store) → ((q : ℕ) → h q ≡ f q + g q) → IsGivenUp f s t → IsGivenUp g t u → IsGivenUp h s u
up_both f g h s t u e a b = record {
  cells = b.cells ∙ a.cells;
  wide = b.wide ∙ a.wide;
  here = λ q some. elim (some_or (g q)) as (λ v. released_at u q ≡ there s q) [
    | inl here ↦ b.here q here ∙ there_same s t q a.cells
    | inr none ↦ b.other q none ∙ a.here q (let z = e q in omega (arith, z, some, none))
  ];
  other = λ q none. b.other q (let z = e q in omega (arith, z, none)) ∙ a.other q (let z = e q in omega (arith, z, none));
}

pub up_same : (f g : ℕ → ℕ) (s t : Store) → ((q : ℕ) → g q ≡ f q) → IsGivenUp f s t → IsGivenUp g s t
up_same f g s t e a = record {
  cells = a.cells;
  wide = a.wide;
  here = λ q some. a.here q (let z = e q in omega (arith, z, some));
  other = λ q none. a.other q (let z = e q in omega (arith, z, none));
}

pub store_up : (f : ℕ → ℕ) (s u : Store) → IsStore s → IsGivenUp f s u → IsStore u
store_up f s u st up = record {
  sized = subst (Every IsSized) (sym up.cells) st.sized;
  wide = up.wide ∙ st.wide ∙ ap length (sym up.cells);
  of_cells = λ q.
      let t = there_same s u q up.cells in
      let f' = st.of_cells q in
      elim (some_or (f q)) as (λ v. released_at u q ≤ there u q) [
        | inl some ↦ let h = up.here q some in omega (arith, h, t)
        | inr none ↦ let o = up.other q none in omega (arith, o, t, f')
      ];
}

-- cells at places are given up
pub up_places : (cs : L.Cells) (rs new : List Bool) (ps : List ℕ) → IsStore (store_of cs rs) → new ≡ all_given_up cs ps rs → IsGivenUp (λ q. count q ps) (store_of cs rs) (store_of cs new)
up_places cs rs new ps st is =
    let cell : (q : ℕ) → one_if_some (L.cell_at cs q) ≡ one_if_some (cell_in cs q) = λ q. ap one_if_some (same_cell cs q) in
    let all : AllGivenUp cs ps rs (all_given_up cs ps rs) = all_up cs ps rs st.wide (λ q. (let c = cell q in let o = st.of_cells q in omega (arith, c, o))) in
    let by : IsGivenUp (λ q. count q ps) (store_of cs rs) (store_of cs (all_given_up cs ps rs)) = record {
      cells = refl;
      wide = all.long;
      here = λ q some. all.here q some ∙ cell q;
      other = all.other;
    } in
    subst (λ n. IsGivenUp (λ q. count q ps) (store_of cs rs) (store_of cs n)) (sym is) by

pub up_tree : (cs ds : L.Cells) (rs new : List Bool) (ps : List ℕ) (f : ℕ → ℕ) → IsStore (store_of cs rs) → ds ≡ cs → new ≡ all_given_up cs ps rs → ((q : ℕ) → f q ≡ count q ps) → IsGivenUp f (store_of cs rs) (store_of ds new)
up_tree cs ds rs new ps f st same is e = subst (λ es. IsGivenUp f (store_of cs rs) (store_of es new)) (sym same) (up_same (λ q. count q ps) f (store_of cs rs) (store_of cs new) e (up_places cs rs new ps st is))

-- ---- a tree that stands in a store has no more places than it

cell_within : (cs : List (Option Cell)) (q : ℕ) → 0 < one_if_some (cell_in cs q) → q < length cs
cell_within [] q h = absurd (let z : ⊥ = omega (arith, h) in z)
cell_within (o ∷ os) zero h = omega arith
cell_within (o ∷ os) (suc q) h = (let r = cell_within os q h in omega (arith, r))

places_use : (x : Placed) (q : ℕ) → count q (places x) ≡ uses q x
places_use x q =
    let l : Lodged = record { name = []; type = 0; tree = x } in
    let c = lodged_count (l ∷ []) q in
    let e = ap (count q) (append-nil (places x)) in
    omega (arith, c, e)

pub few_in : (s : Store) (ps : List ℕ) → ((q : ℕ) → count q ps ≤ there s q) → length ps ≤ length s.cells
few_in s ps h = few_places (length s.cells) ps (λ q. (let a = h q in let b = there_few s q in omega (arith, a, b))) (λ q some. cell_within s.cells q (let a = h q in omega (arith, a, some)))

pub few_of : (s : Store) (x : Placed) → ((q : ℕ) → uses q x ≤ there s q) → length (places x) ≤ length s.cells
few_of s x h = few_in s (places x) (λ q. (let a = h q in let b = places_use x q in omega (arith, a, b)))

length_places : (ts : List Tree) → length (places_of ts) ≡ length ts
length_places [] = refl
length_places (t ∷ ts) = (let h = length_places ts in omega (arith, h))

places_join : (ts us : List Tree) → places_of (ts ++ us) ≡ places_of ts ++ places_of us
places_join [] us = refl
places_join (t ∷ ts) us = ap (λ ps. t.place ∷ ps) (places_join ts us)

-- a list of trees with one more is no longer than the store
pub few_more : (s : Store) (ts : List Tree) (x : Placed) → ((q : ℕ) → count q (places_of ts) + uses q x ≤ there s q) → length ts + length (places x) ≤ length s.cells
few_more s ts x h =
    let f = few_in s (places_of ts ++ places x) (λ q. (let a = h q in let b = places_use x q in let c = count_join q (places_of ts) (places x) in omega (arith, a, b, c))) in
    let a = length_join (places_of ts) (places x) in
    let b = length_places ts in
    omega (arith, f, a, b)

pub added_more : (old new : List Tree) (x : Placed) (q : ℕ) → Adds old new x → count q (places_of new) ≡ count q (places_of old) + uses q x
added_more old new x q a =
    let e = ap (λ ts. count q (places_of ts)) a.are in
    let p = ap (count q) (places_join old a.added) in
    let j = count_join q (places_of old) (places_of a.added) in
    let u = a.each q in
    omega (arith, e, p, j, u)

-- ---- the values of a line, as trees

standing_of : (Asked : Fresh → Type 0) (tb : Table) (cs : L.Cells) (qs : List Param) (gs : List Written) (xs : Parts) (ls : List Lodged) (before : List Name) → ((q : Param) (x : Placed) → Asked (record { held = record { ty = q.ty; word = word_of x }; is_lent = q.lent }) → Stands tb cs q.ty x → Stands tb cs q.ty x) → StandAll tb cs (types_of qs) xs → AreTrees tb ls before qs gs xs → AreStanding Asked tb cs (fresh_list qs gs xs) (fresh_trees gs xs)
standing_of Asked tb cs [] [] NoParts ls before k h t = tt
standing_of Asked tb cs [] [] (MoreParts x xs) ls before k h t = absurd t
standing_of Asked tb cs [] (g ∷ gs) xs ls before k h t = absurd t
standing_of Asked tb cs (q ∷ qs) [] xs ls before k h t = absurd t
standing_of Asked tb cs (q ∷ qs) (g ∷ gs) NoParts ls before k h t = absurd t
standing_of Asked tb cs (q ∷ qs) (New w ∷ gs) (MoreParts x xs) ls before k h t = (λ a. k q x a h.0, refl, standing_of Asked tb cs qs gs xs ls (before ++ named_by tb q (New w)) k h.1 t.1)
standing_of Asked tb cs (q ∷ qs) (Named n ∷ gs) (MoreParts x xs) ls before k h t = standing_of Asked tb cs qs gs xs ls (before ++ named_by tb q (Named n)) k h.1 t.1

pub all_standing : (tb : Table) (cs : L.Cells) (qs : List Param) (gs : List Written) (xs : Parts) (ls : List Lodged) → StandAll tb cs (types_of qs) xs → AreTrees tb ls [] qs gs xs → AreStanding IsAny tb cs (fresh_list qs gs xs) (fresh_trees gs xs)
all_standing tb cs qs gs xs ls h t = standing_of IsAny tb cs qs gs xs ls [] (λ q x a s. s) h t

pub fresh_are : (gs : List Written) (xs : Parts) (q : ℕ) → all_uses (fresh_trees gs xs) q ≡ fresh_uses gs xs q
fresh_are [] xs q = refl
fresh_are (New w ∷ gs) NoParts q = refl
fresh_are (Named n ∷ gs) NoParts q = refl
fresh_are (New w ∷ gs) (MoreParts x xs) q = (let r = fresh_are gs xs q in omega (arith, r))
fresh_are (Named n ∷ gs) (MoreParts x xs) q = (let r = fresh_are gs xs q in omega (arith, r))

pub lent_are : (qs : List Param) (gs : List Written) (xs : Parts) (q : ℕ) → lent_of (fresh_list qs gs xs) (fresh_trees gs xs) q ≡ lent_fresh_uses qs gs xs q
lent_are [] [] xs q = refl
lent_are [] (New w ∷ gs) NoParts q = refl
lent_are [] (Named n ∷ gs) NoParts q = refl
lent_are [] (New w ∷ gs) (MoreParts x xs) q = refl
lent_are [] (Named n ∷ gs) (MoreParts x xs) q = refl
lent_are (p ∷ qs) [] xs q = refl
lent_are (p ∷ qs) (New w ∷ gs) NoParts q = refl
lent_are (p ∷ qs) (Named n ∷ gs) NoParts q = refl
lent_are (p ∷ qs) (New w ∷ gs) (MoreParts x xs) q = ap (λ n. (if p.lent then uses q x else 0) + n) (lent_are qs gs xs q)
lent_are (p ∷ qs) (Named n ∷ gs) (MoreParts x xs) q = by p.lent (lent_are qs gs xs q)
  where
    by : (b : Bool) → lent_of (fresh_list qs gs xs) (fresh_trees gs xs) q ≡ lent_fresh_uses qs gs xs q → lent_of (fresh_list qs gs xs) (fresh_trees gs xs) q ≡ (if b then 0 else 0) + lent_fresh_uses qs gs xs q
    by true r = omega (arith, r)
    by false r = omega (arith, r)

-- lent values stand still where lent trees do
pub lent_standing : (tb : Table) (cs ds : L.Cells) (qs : List Param) (gs : List Written) (xs : Parts) (ls : List Lodged) (before : List Name) → ((q : ℕ) → 0 < lent_fresh_uses qs gs xs q → L.cell_at ds q ≡ L.cell_at cs q) → ((t : ℕ) (x : Placed) → ((q : ℕ) → 0 < uses q x → L.cell_at ds q ≡ L.cell_at cs q) → Stands tb cs t x → Stands tb ds t x) → StandAll tb cs (types_of qs) xs → AreTrees tb ls before qs gs xs → AreStanding IsLent tb ds (fresh_list qs gs xs) (fresh_trees gs xs)
lent_standing tb cs ds [] [] NoParts ls before same on h t = tt
lent_standing tb cs ds [] [] (MoreParts x xs) ls before same on h t = absurd t
lent_standing tb cs ds [] (g ∷ gs) xs ls before same on h t = absurd t
lent_standing tb cs ds (q ∷ qs) [] xs ls before same on h t = absurd t
lent_standing tb cs ds (q ∷ qs) (g ∷ gs) NoParts ls before same on h t = absurd t
lent_standing tb cs ds (q ∷ qs) (New w ∷ gs) (MoreParts x xs) ls before same on h t = (
  λ a. on q.ty x (λ y some. same y (let z : (if q.lent then uses y x else 0) ≡ uses y x = ap (λ (b : Bool). if b then uses y x else 0) a in omega (arith, some, z))) h.0,
  refl,
  lent_standing tb cs ds qs gs xs ls (before ++ named_by tb q (New w)) (λ y some. same y (omega (arith, some))) on h.1 t.1,
)
lent_standing tb cs ds (q ∷ qs) (Named n ∷ gs) (MoreParts x xs) ls before same on h t = lent_standing tb cs ds qs gs xs ls (before ++ named_by tb q (Named n)) (λ y some. same y (let z = none q.lent in omega (arith, some, z))) on h.1 t.1
  where
    none : (b : Bool) → ◌≡◌ {A = ℕ} (if b then 0 else 0) 0
    none true = refl
    none false = refl

-- ---- the values that are lent, one after another

pub record Releasing (tb : Table) (fs : List Fresh) (xs : List Placed) (first now : Store) (fs' : List Fresh) : Type 0 where
  pub done : ℕ → ℕ
  pub left : List Placed
  pub are : AreStanding IsLent tb first.cells fs' left
  pub sums : (q : ℕ) → lent_of fs xs q ≡ done q + lent_of fs' left q
  pub up : IsGivenUp done first now

pub releasing_starts : (tb : Table) (fs : List Fresh) (xs : List Placed) (first : Store) → AreStanding IsLent tb first.cells fs xs → Releasing tb fs xs first first fs
releasing_starts tb fs xs first h = record { done = λ q. 0; left = xs; are = h; sums = λ q. omega arith; up = up_none first }

module _ (tb : Table) (fs : List Fresh) (xs : List Placed) (first now : Store) (f : Fresh) (fs' : List Fresh) (r : Releasing tb fs xs first now (f ∷ fs')) where
  pub record IsFirst : Type 0 where
    pub tree : Placed
    pub rest : List Placed
    pub left : r.left ≡ tree ∷ rest
    pub stands : f.is_lent ≡ true → Stands tb first.cells f.held.ty tree
    pub word : word_of tree ≡ f.held.word
    pub are : AreStanding IsLent tb first.cells fs' rest

  pub first_is : IsFirst
  first_is = by r.left refl r.are
    where
      by : (ys : List Placed) → r.left ≡ ys → AreStanding IsLent tb first.cells (f ∷ fs') ys → IsFirst
      by [] e h = absurd h
      by (y ∷ ys) e h = record { tree = y; rest = ys; left = e; stands = h.0; word = h.1; are = h.2 }

  pub kept_on : (i : IsFirst) → f.is_lent ≡ false → Releasing tb fs xs first now fs'
  kept_on i not = record {
    done = r.done;
    left = i.rest;
    are = i.are;
    sums = λ q. (
        let s = r.sums q in
        let e = ap (λ ys. lent_of (f ∷ fs') ys q) i.left in
        let z : (if f.is_lent then uses q i.tree else 0) ≡ 0 = ap (λ (b : Bool). if b then uses q i.tree else 0) not in
        omega (arith, s, e, z)
        );
    up = r.up;
  }

  lent_here : (i : IsFirst) → f.is_lent ≡ true → (q : ℕ) → lent_of fs xs q ≡ (r.done q + uses q i.tree) + lent_of fs' i.rest q
  lent_here i is_so q =
      let s = r.sums q in
      let e = ap (λ ys. lent_of (f ∷ fs') ys q) i.left in
      let z : (if f.is_lent then uses q i.tree else 0) ≡ uses q i.tree = ap (λ (b : Bool). if b then uses q i.tree else 0) is_so in
      omega (arith, s, e, z)

  pub few_here : (i : IsFirst) → f.is_lent ≡ true → ((q : ℕ) → lent_of fs xs q ≤ there first q) → length (places i.tree) ≤ length first.cells
  few_here i is_so apart = few_of first i.tree (λ q. (let s = lent_here i is_so q in let a = apart q in omega (arith, s, a)))

  pub released_on : (i : IsFirst) → f.is_lent ≡ true → (next : Store) (ps : List ℕ) → ((q : ℕ) → count q ps ≡ uses q i.tree) → IsGivenUp (λ q. count q ps) now next → Releasing tb fs xs first next fs'
  released_on i is_so next ps each up = record {
    done = λ q. r.done q + uses q i.tree;
    left = i.rest;
    are = i.are;
    sums = lent_here i is_so;
    up = up_both r.done (λ q. count q ps) (λ q. r.done q + uses q i.tree) first now next (λ q. (let e = each q in omega (arith, e))) r.up up;
  }

none_lent : (tb : Table) (cs : L.Cells) (xs : List Placed) (q : ℕ) → AreStanding IsLent tb cs [] xs → lent_of [] xs q ≡ 0
none_lent tb cs [] q h = refl
none_lent tb cs (x ∷ xs) q h = absurd h

pub releasing_ends : (tb : Table) (fs : List Fresh) (xs : List Placed) (first now : Store) → Releasing tb fs xs first now [] → IsGivenUp (lent_of fs xs) first now
releasing_ends tb fs xs first now r = up_same r.done (lent_of fs xs) first now (λ q. (let s = r.sums q in let z = none_lent tb first.cells r.left q r.are in omega (arith, s, z))) r.up

-- ---- names that are used up

pub named_join : (ls : List Lodged) (ms ns : List Name) (q : ℕ) → named_uses ls (ms ++ ns) q ≡ named_uses ls ms q + named_uses ls ns q
named_join ls [] ns q = omega arith
named_join ls (m ∷ ms) ns q = (let r = named_join ls ms ns q in omega (arith, r))

-- The trees of names that are used up are those that these names hold.
pub used_are : (tb : Table) (ls : List Lodged) (before : List Name) (qs : List Param) (gs : List Written) (xs : Parts) (y : ℕ) → AreTrees tb ls before qs gs xs → AreBare tb qs xs → used_uses qs gs xs y ≡ named_uses ls (used_by tb qs gs) y
used_are tb ls before [] [] xs y t b = refl
used_are tb ls before [] (g ∷ gs) xs y t b = absurd t
used_are tb ls before (q ∷ qs) [] xs y t b = absurd t
used_are tb ls before (q ∷ qs) (g ∷ gs) NoParts y t b = absurd t
used_are tb ls before (q ∷ qs) (New w ∷ gs) (MoreParts x xs) y t b =
    let r = used_are tb ls (before ++ named_by tb q (New w)) qs gs xs y t.1 b.1 in
    let j = named_join ls (if q.lent then [] else []) (used_by tb qs gs) y in
    by q.lent r
  where
    by : (l : Bool) → used_uses qs gs xs y ≡ named_uses ls (used_by tb qs gs) y → (if l then 0 else 0) + used_uses qs gs xs y ≡ named_uses ls ((if l then [] else []) ++ used_by tb qs gs) y
    by true r = omega (arith, r)
    by false r = omega (arith, r)
used_are tb ls before (q ∷ qs) (Named n ∷ gs) (MoreParts x xs) y t b =
    let r = used_are tb ls (before ++ named_by tb q (Named n)) qs gs xs y t.1 b.1 in
    let l = t.0 in
    let here : uses_in (lodged_as n ls) y ≡ uses y x = ap (λ o. uses_in o y) l.1 ∙ ap (uses y) (sym l.3) in
    by q.lent (is_scalar tb q.ty) refl r here
  where
    by : (l s : Bool) → is_scalar tb q.ty ≡ s → used_uses qs gs xs y ≡ named_uses ls (used_by tb qs gs) y → uses_in (lodged_as n ls) y ≡ uses y x → (if l then 0 else uses y x) + used_uses qs gs xs y ≡ named_uses ls ((if l then [] else (if s then [] else n ∷ [])) ++ used_by tb qs gs) y
    by true s e r here = omega (arith, r)
    by false true e r here = (let z = b.0 e y in omega (arith, r, z))
    by false false e r here = omega (arith, r, here)

-- ---- what is held once something is given up

pub held_up : (tb : Table) (ls ms : List Lodged) (gone : ℕ → ℕ) (s u : Store) → IsHeld tb ls s → AllStand tb s ms → ((q : ℕ) → lodged_uses ls q ≡ gone q + lodged_uses ms q) → IsGivenUp gone s u → IsHeld tb ms u
held_up tb ls ms gone s u h stand sums up = record {
  store = store_up gone s u h.store up;
  stand = all_stand_on tb s u ms (λ q some. ap (λ os. cell_in os q) up.cells) stand;
  once = λ q.
      let o = h.once q in
      let e = sums q in
      let t = there_same s u q up.cells in
      let a = still_apart (gone q) (lodged_uses ms q) (released_at s q) (released_at u q) (there s q) (there_few s q) (omega (arith, o, e)) (up.here q) (up.other q) in
      omega (arith, a, t);
}

-- ---- one value of a line

module _ (tb : Table) (fs : List Fresh) (xs : List Placed) (first now : Store) (f : Fresh) (fs' : List Fresh) (r : Releasing tb fs xs first now (f ∷ fs')) (i : IsFirst tb fs xs first now f fs' r) where
  first_sum : (q : ℕ) → lent_of fs xs q ≡ r.done q + (lent_of (f ∷ []) (i.tree ∷ []) q + lent_of fs' i.rest q)
  first_sum q =
      let s = r.sums q in
      let e = ap (λ ys. lent_of (f ∷ fs') ys q) i.left in
      omega (arith, s, e)

  -- in the store as it is then it is apart still
  pub first_apart : ((q : ℕ) → lent_of fs xs q ≤ there first q) → (q : ℕ) → lent_of (f ∷ []) (i.tree ∷ []) q ≤ there now q
  first_apart apart q =
      let a = apart q in
      let s = first_sum q in
      let t = there_same first now q r.up.cells in
      omega (arith, a, s, t)

  pub releasing_next : (next : Store) → IsGivenUp (lent_of (f ∷ []) (i.tree ∷ [])) now next → Releasing tb fs xs first next fs'
  releasing_next next up = record {
    done = λ q. r.done q + lent_of (f ∷ []) (i.tree ∷ []) q;
    left = i.rest;
    are = i.are;
    sums = λ q. (let s = first_sum q in omega (arith, s));
    up = up_both r.done (lent_of (f ∷ []) (i.tree ∷ [])) (λ q. r.done q + lent_of (f ∷ []) (i.tree ∷ []) q) first now next (λ q. refl) r.up up;
  }

pub lent_one : (f : Fresh) (x : Placed) (q : ℕ) → f.is_lent ≡ true → lent_of (f ∷ []) (x ∷ []) q ≡ uses q x
lent_one f x q is_so = (let z : (if f.is_lent then uses q x else 0) ≡ uses q x = ap (λ (b : Bool). if b then uses q x else 0) is_so in omega (arith, z))

pub lent_no : (f : Fresh) (x : Placed) (q : ℕ) → f.is_lent ≡ false → lent_of (f ∷ []) (x ∷ []) q ≡ 0
lent_no f x q not = (let z : (if f.is_lent then uses q x else 0) ≡ 0 = ap (λ (b : Bool). if b then uses q x else 0) not in omega (arith, z))

item_at : (fs : List Fresh) (i : ℕ) (d : Fresh) → i < length fs → drop i fs ≡ get_or fs i d ∷ drop (i + 1) fs
item_at fs i d lt = by fs i lt ∙ ap (λ n. get_or fs i d ∷ drop n fs) (let z : suc i ≡ i + 1 = omega arith in z)
  where
    by : (fs : List Fresh) (i : ℕ) → i < length fs → drop i fs ≡ get_or fs i d ∷ drop (suc i) fs
    by [] i lt = absurd (let z : ⊥ = omega (arith, lt) in z)
    by (f ∷ fs) zero lt = refl
    by (f ∷ fs) (suc i) lt = by fs i (omega (arith, lt))

nothing_left : (fs : List Fresh) (i : ℕ) → length fs ≤ i → drop i fs ≡ []
nothing_left [] zero le = refl
nothing_left [] (suc i) le = refl
nothing_left (f ∷ fs) zero le = absurd (let z : ⊥ = omega (arith, le) in z)
nothing_left (f ∷ fs) (suc i) le = nothing_left fs i (omega (arith, le))

pub releasing_at : (tb : Table) (fs : List Fresh) (xs : List Placed) (first now next : Store) (i : ℕ) (d : Fresh) → i < length fs → length first.cells ≤ 16777216 → IsStore first → ((q : ℕ) → lent_of fs xs q ≤ there first q) → Releasing tb fs xs first now (drop i fs) → (length now.cells ≤ 16777216 → IsStore now → (x : Placed) → ((get_or fs i d).is_lent ≡ true → Stands tb now.cells (get_or fs i d).held.ty x) → word_of x ≡ (get_or fs i d).held.word → ((q : ℕ) → lent_of (get_or fs i d ∷ []) (x ∷ []) q ≤ there now q) → IsGivenUp (lent_of (get_or fs i d ∷ []) (x ∷ [])) now next) → Releasing tb fs xs first next (drop (i + 1) fs)
releasing_at tb fs xs first now next i d lt small st apart r gone =
    let f = get_or fs i d in
    let r' : Releasing tb fs xs first now (f ∷ drop (i + 1) fs) = subst (λ gs. Releasing tb fs xs first now gs) (item_at fs i d lt) r in
    let k = first_is tb fs xs first now f (drop (i + 1) fs) r' in
    let same = r'.up.cells in
    releasing_next tb fs xs first now f (drop (i + 1) fs) r' k next
    (gone (let e = ap length same in omega (arith, e, small)) (store_up r'.done first now st r'.up) k.tree (λ is_so. subst (λ cs. Stands tb cs f.held.ty k.tree) (sym same) (k.stands is_so)) k.word (first_apart tb fs xs first now f (drop (i + 1) fs) r' k apart))

pub releasing_over : (tb : Table) (fs : List Fresh) (xs : List Placed) (first now : Store) (i : ℕ) → length fs ≤ i → Releasing tb fs xs first now (drop i fs) → IsGivenUp (lent_of fs xs) first now
releasing_over tb fs xs first now i le r = releasing_ends tb fs xs first now (subst (λ gs. Releasing tb fs xs first now gs) (nothing_left fs i le) r)
