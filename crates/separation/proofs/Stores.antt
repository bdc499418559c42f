-- What a write and releases do to a store.
use Rattle.std.proofs.Common.{◌≡◌, ◌⊎◌, inl, inr, ℕ, zero, suc, ◌+◌, ◌<◌, ◌≤◌, Bool, true, false, List, [], ◌∷◌, ◌++◌, length, map, Option, Some, None, slice_get, slice_set, refl, sym, ap, ap₂, ◌∙◌, subst, arith, nat_eq}
use Rattle.std.specs.Prelude.{option_and_then}
use Rattle.std.proofs.lemmas.Option.{none-some}
use Rattle.std.proofs.lemmas.Bool.Decides.{nat_tests}
use Rattle.separation_kinds.specs.fip_language.Every.{Every}
use Rattle.separation_kinds.specs.fip_language.Store.{Cell, Placed, PlacedInt, Bare, At, Parts, NoParts, MoreParts, places, places_of_all, uses, uses_of_all, one_at, count}
use Rattle.separation_kinds.specs.machine_semantics.Cells.{Store, IsStore, IsSized, Write, Release, cell_in, cell_at, size_of, one_if_some, there, one_if_true, released_at, written, given_up, changed_by}
use Rattle.separation_kinds.proofs.Basics.{chosen, equal_is}
use Rattle.separation_kinds.proofs.Agree.{one_here, one_apart}
use Rattle.separation_kinds.proofs.machine_semantics.cell_code.fip_base.fip_language.Facts.{get_set_flag as flag_set_other}
pub use Rattle.separation_kinds.proofs.machine_semantics.cell_code.fip_base.fip_language.Facts.{length_set, same_or_apart as same_place}

pub there_few : (s : Store) (q : ℕ) → there s q ≤ 1
there_few s q = few (cell_at s q)
  where
    few : (o : Option Cell) → one_if_some o ≤ 1
    few None = omega arith
    few (Some c) = omega arith

pub there_cell : (s : Store) (q : ℕ) → 0 < there s q → (c : Cell) × (cell_at s q ≡ Some c)
there_cell s q h = by (cell_at s q) refl h
  where
    by : (o : Option Cell) → cell_at s q ≡ o → 0 < one_if_some o → (c : Cell) × (cell_at s q ≡ Some c)
    by None e n = absurd (omega arith)
    by (Some c) e n = (c, e)

cell_in_within : (os : List (Option Cell)) (p : ℕ) (c : Cell) → cell_in os p ≡ Some c → p < length os
cell_in_within [] p c e = absurd (none-some c e)
cell_in_within (o ∷ os) zero c e = omega arith
cell_in_within (o ∷ os) (suc p) c e = let h = cell_in_within os p c e in omega arith

pub sized_at : (os : List (Option Cell)) (p : ℕ) (c : Cell) → Every IsSized os → cell_in os p ≡ Some c → IsSized (Some c)
sized_at [] p c e h = absurd (none-some c h)
sized_at (o ∷ os) zero c e h = subst IsSized h e.0
sized_at (o ∷ os) (suc p) c e h = sized_at os p c e.1 h

-- ---- a write

cell_set_here : (os : List (Option Cell)) (p : ℕ) (c new : Cell) → cell_in os p ≡ Some c → cell_in (slice_set os p (Some new)) p ≡ Some new
cell_set_here [] p c new e = absurd (none-some c e)
cell_set_here (o ∷ os) zero c new e = refl
cell_set_here (o ∷ os) (suc p) c new e = cell_set_here os p c new e

cell_set_other : (os : List (Option Cell)) (p q : ℕ) (new : Option Cell) → (p ≡ q → ⊥) → cell_in (slice_set os p new) q ≡ cell_in os q
cell_set_other [] p q new off = refl
cell_set_other (o ∷ os) zero zero new off = absurd (off refl)
cell_set_other (o ∷ os) zero (suc q) new off = refl
cell_set_other (o ∷ os) (suc p) zero new off = refl
cell_set_other (o ∷ os) (suc p) (suc q) new off = cell_set_other os p q new (λ e. off (ap suc e))

sized_set : (os : List (Option Cell)) (p : ℕ) (new : Cell) → Every IsSized os → IsSized (Some new) → Every IsSized (slice_set os p (Some new))
sized_set [] p new e h = tt
sized_set (o ∷ os) zero new e h = (h, e.1)
sized_set (o ∷ os) (suc p) new e h = (e.0, sized_set os p new e.1 h)

pub record IsWritten (s : Store) (p : ℕ) (new : Cell) : Type 0 where
  pub store : Store
  pub is : changed_by (Write p new.tag new.fields ∷ []) s ≡ Some store
  pub good : IsStore store
  pub here : cell_at store p ≡ Some new
  pub other : (q : ℕ) → (p ≡ q → ⊥) → cell_at store q ≡ cell_at s q
  pub cells : (q : ℕ) → there store q ≡ there s q
  pub released : (q : ℕ) → released_at store q ≡ released_at s q

pub is_written : (s : Store) (p : ℕ) (old new : Cell) → IsStore s → cell_at s p ≡ Some old → size_of old ≡ size_of new → IsWritten s p new
is_written s p old new g at same =
    let next : Store = record s { cells = slice_set s.cells p (Some new) } in
    let here : cell_at next p ≡ Some new = cell_set_here s.cells p old new at in
    let other : (q : ℕ) → (p ≡ q → ⊥) → cell_at next q ≡ cell_at s q = λ q off. cell_set_other s.cells p q (Some new) off in
    let cells : (q : ℕ) → there next q ≡ there s q = λ q. elim (same_place p q) as (λ v. there next q ≡ there s q) [
      | inl e ↦ subst (λ q. there next q ≡ there s q) e (ap one_if_some here ∙ sym (ap one_if_some at))
      | inr off ↦ ap one_if_some (other q off)
    ] in
    record {
      store = next;
      is = ap (λ o. option_and_then (λ t. changed_by [] t) (written s p new o)) at ∙ ap (λ o. option_and_then (λ t. changed_by [] t) o) (chosen (nat_eq (size_of old) (size_of new)) (Some next) None (equal_is (size_of old) (size_of new) same));
      good = record {
        sized = sized_set s.cells p new g.sized (let z = sized_at s.cells p old g.sized at in ((let a = z.0 in omega arith), (let b = z.1 in omega arith)));
        wide = g.wide ∙ sym (length_set s.cells p (Some new));
        of_cells = λ q. let a = g.of_cells q in let b = cells q in omega arith;
      };
      here = here;
      other = other;
      cells = cells;
      released = λ q. refl;
    }

-- ---- releases

flag_set_here : (rs : List Bool) (p : ℕ) → p < length rs → slice_get (slice_set rs p true) p ≡ Some true
flag_set_here [] p h = absurd (omega arith)
flag_set_here (r ∷ rs) zero h = refl
flag_set_here (r ∷ rs) (suc p) h = flag_set_here rs p (omega arith)

flag_false : (rs : List Bool) (p : ℕ) → p < length rs → one_if_true (slice_get rs p) ≡ 0 → slice_get rs p ≡ Some false
flag_false [] p h e = absurd (let z : ⊥ = omega arith in z)
flag_false (true ∷ rs) zero h e = absurd (let z : ⊥ = omega arith in z)
flag_false (false ∷ rs) zero h e = refl
flag_false (r ∷ rs) (suc p) h e = flag_false rs p (omega arith) e

pub record AreReleased (s : Store) (ps : List ℕ) : Type 0 where
  pub store : Store
  pub is : changed_by (map (λ p. Release p) ps) s ≡ Some store
  pub good : IsStore store
  pub same : (q : ℕ) → cell_at store q ≡ cell_at s q
  pub released : (q : ℕ) → released_at store q ≡ count q ps + released_at s q

pub are_released : (s : Store) (ps : List ℕ) → IsStore s → ((q : ℕ) → count q ps + released_at s q ≤ there s q) → AreReleased s ps
are_released s [] g few = record { store = s; is = refl; good = g; same = λ q. refl; released = λ q. omega arith }
are_released s (p ∷ ps) g few =
    let most = there_few s p in
    let one : one_at p p ≡ 1 = one_here p p refl in
    let bound = few p in
    let cell = there_cell s p (omega arith) in
    let inside = cell_in_within s.cells p cell.0 cell.1 in
    let wide = g.wide in
    let within : p < length s.released = omega arith in
    let none : released_at s p ≡ 0 = omega arith in
    let clear : slice_get s.released p ≡ Some false = flag_false s.released p within none in
    let next : Store = record s { released = slice_set s.released p true } in
    let up : (q : ℕ) → released_at next q ≡ one_at q p + released_at s q = λ q. elim (same_place p q) as (λ v. released_at next q ≡ one_at q p + released_at s q) [
      | inl e ↦
          let now : released_at next q ≡ 1 = subst (λ q. released_at next q ≡ 1) e (ap one_if_true (flag_set_here s.released p within)) in
          let before : released_at s q ≡ 0 = subst (λ q. released_at s q ≡ 0) e none in
          let here : one_at q p ≡ 1 = one_here q p (sym e) in
          omega arith
      | inr off ↦
          let now : released_at next q ≡ released_at s q = ap one_if_true (flag_set_other s.released p q off) in
          let away : one_at q p ≡ 0 = one_apart q p (λ e. off (sym e)) in
          omega arith
    ] in
    let good : IsStore next = record {
      sized = g.sized;
      wide = length_set s.released p true ∙ g.wide;
      of_cells = λ q. let a = up q in let b = few q in omega arith;
    } in
    let rest = are_released next ps good (λ q. let a = up q in let b = few q in omega arith) in
    record {
      store = rest.store;
      is = ap₂ (λ o r. option_and_then (λ t. changed_by (map (λ p. Release p) ps) t) (given_up s p o r)) cell.1 clear ∙ rest.is;
      good = rest.good;
      same = λ q. rest.same q;
      released = λ q. let a = up q in let b = rest.released q in omega arith;
    }

pub count_append : (q : ℕ) (xs ys : List ℕ) → count q (xs ++ ys) ≡ count q xs + count q ys
count_append q [] ys = omega arith
count_append q (x ∷ xs) ys = let a = count_append q xs ys in omega arith

mutual
  pub count_places : (q : ℕ) (x : Placed) → count q (places x) ≡ uses q x
  count_places q (PlacedInt i) = refl
  count_places q (Bare c) = refl
  count_places q (At p c xs) = ap (λ n. one_at q p + n) (count_all_places q xs)

  pub count_all_places : (q : ℕ) (xs : Parts) → count q (places_of_all xs) ≡ uses_of_all q xs
  count_all_places q NoParts = refl
  count_all_places q (MoreParts x xs) = let a = count_append q (places x) (places_of_all xs) in let b = count_places q x in let c = count_all_places q xs in omega arith
