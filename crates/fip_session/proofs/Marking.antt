-- The places of roots that are marked.
use Rattle.std.proofs.lemmas.Bool.Decides.{nat_tests}
use Rattle.std.proofs.Common.{◌≡◌, ◌⊎◌, inl, inr, ◌∙◌, ℕ, zero, suc, ◌+◌, ◌<◌, ◌≤◌, Bool, true, false, List, [], ◌∷◌, length, drop, get_or, Option, Some, None, refl, sym, ap, subst, arith, slice_get, slice_set, replicate, nat_eq}
use Rattle.std.proofs.lemmas.Option.{none-some, same_Some}
use Rattle.fip_language.specs.Store.{count, one_at}
use Rattle.store_trees.specs.Added.{places_of}
use Rattle.store_trees.specs.declared.trees.Tree.{Tree}
use Rattle.std.specs.Prelude.{IfSome}
use Rattle.cell_store.specs.Cells as L
use Rattle.cell_store.specs.Cells.{IsAfter}
use Rattle.fip_machine.specs.machine_cells.Small.{store_of}
use Rattle.session_correctness.specs.tree_refinement.machine_semantics.Cells.{Store, IsStore}
use Rattle.store_trees.specs.GivenUp.{given_up}
use Rattle.fip_session.specs.Swept.{IsMarked}
use Rattle.fip_session.proofs.GivingUp.{up_none, up_places}
use Rattle.fip_session.proofs.Sweeping.{Sweeping, sweeping_on, sweeping_store, after_of, IsNextCell}
use Rattle.fip_language.proofs.Facts.{replicate_length as length_replicate, same_or_apart as same_place}

one_here : (p q : ℕ) → p ≡ q → one_at q p ≡ 1
one_here p q e = grind (arith, nat_tests)

one_apart : (p q : ℕ) → (p ≡ q → ⊥) → one_at q p ≡ 0
one_apart p q off = grind (arith, nat_tests)

pub set_beyond : (xs : List Bool) (i : ℕ) (x : Bool) → length xs ≤ i → slice_set xs i x ≡ xs
set_beyond [] i x le = refl
set_beyond (z ∷ zs) zero x le = absurd (let e : ⊥ = omega (arith, le) in e)
set_beyond (z ∷ zs) (suc i) x le = ap (λ ys. z ∷ ys) (set_beyond zs i x (omega (arith, le)))

set_other : (xs : List Bool) (i : ℕ) (x : Bool) (j : ℕ) → (j ≡ i → ⊥) → slice_get (slice_set xs i x) j ≡ slice_get xs j
set_other [] i x j h = refl
set_other (z ∷ zs) zero x zero h = absurd (h refl)
set_other (z ∷ zs) zero x (suc j) h = refl
set_other (z ∷ zs) (suc i) x zero h = refl
set_other (z ∷ zs) (suc i) x (suc j) h = set_other zs i x j (λ e. h (ap suc e))

set_there : (xs : List Bool) (i : ℕ) (x : Bool) → i < length xs → slice_get (slice_set xs i x) i ≡ Some x
set_there [] i x h = absurd (let e : ⊥ = omega (arith, h) in e)
set_there (z ∷ zs) zero x h = refl
set_there (z ∷ zs) (suc i) x h = set_there zs i x (omega (arith, h))

set_long : (xs : List Bool) (i : ℕ) (x : Bool) → length (slice_set xs i x) ≡ length xs
set_long [] i x = refl
set_long (z ∷ zs) zero x = refl
set_long (z ∷ zs) (suc i) x = ap suc (set_long zs i x)

no_true : (n p : ℕ) → slice_get (replicate n false) p ≡ Some true → ⊥
no_true zero p e = none-some true e
no_true (suc n) zero e = (let z = same_Some false true e in absurd (cc))
no_true (suc n) (suc p) e = no_true n p e

root_at : (ts : List Tree) (i : ℕ) (d : Tree) → i < length ts → drop i ts ≡ get_or ts i d ∷ drop (i + 1) ts
root_at ts i d lt = by ts i lt ∙ ap (λ n. get_or ts i d ∷ drop n ts) (let z : suc i ≡ i + 1 = omega arith in z)
  where
    by : (ts : List Tree) (i : ℕ) → i < length ts → drop i ts ≡ get_or ts i d ∷ drop (suc i) ts
    by [] i lt = absurd (let z : ⊥ = omega (arith, lt) in z)
    by (t ∷ ts) zero lt = refl
    by (t ∷ ts) (suc i) lt = by ts i (omega (arith, lt))

no_root : (ts : List Tree) (i : ℕ) → length ts ≤ i → drop i ts ≡ []
no_root [] zero le = refl
no_root [] (suc i) le = refl
no_root (t ∷ ts) zero le = absurd (let z : ⊥ = omega (arith, le) in z)
no_root (t ∷ ts) (suc i) le = no_root ts i (omega (arith, le))

count_root : (ts : List Tree) (i : ℕ) (d : Tree) → i < length ts → 0 < count ((get_or ts i d).place) (places_of ts)
count_root [] i d lt = absurd (let z : ⊥ = omega (arith, lt) in z)
count_root (t ∷ ts) zero d lt = (let e = one_here t.place t.place refl in omega (arith, e))
count_root (t ∷ ts) (suc i) d lt = (let r = count_root ts i d (omega (arith, lt)) in omega (arith, r))

-- the roots but these are marked, and no places but roots
pub record Marking (list rest : List Tree) (marks : List Bool) : Type 0 where
  pub within : (p : ℕ) → 0 < count p (places_of list) → p < length marks
  pub only : (p : ℕ) → slice_get marks p ≡ Some true → 0 < count p (places_of list)
  pub all : (p : ℕ) → 0 < count p (places_of list) → (slice_get marks p ≡ Some true) ⊎ (0 < count p (places_of rest))

pub marking_starts : (list items : List Tree) (marks : List Bool) (n : ℕ) → items ≡ list → marks ≡ replicate n false → ((p : ℕ) → 0 < count p (places_of list) → p < n) → Marking list items marks
marking_starts list items marks n same are within =
    let long : length marks ≡ n = ap length are ∙ length_replicate n in
    record {
      within = λ p some. (let w = within p some in omega (arith, w, long));
      only = λ p is. absurd (no_true n p (subst (λ ms. slice_get ms p ≡ Some true) are is));
      all = λ p some. inr (subst (λ ts. 0 < count p (places_of ts)) (sym same) some);
    }

pub marking_on : (list items : List Tree) (i : ℕ) (d : Tree) (old new : List Bool) → items ≡ list → i < length items → new ≡ slice_set old ((get_or items i d).place) true → Marking list (drop i items) old → Marking list (drop (i + 1) items) new
marking_on list items i d old new same lt set m =
    let r = (get_or items i d).place in
    let there : 0 < count r (places_of list) = subst (λ ts. 0 < count r (places_of ts)) same (count_root items i d lt) in
    let long : length new ≡ length old = ap length set ∙ set_long old r true in
    let here : slice_get new r ≡ Some true = ap (λ ms. slice_get ms r) set ∙ set_there old r true (m.within r there) in
    let other : (p : ℕ) → (p ≡ r → ⊥) → slice_get new p ≡ slice_get old p = λ p off. ap (λ ms. slice_get ms p) set ∙ set_other old r true p off in
    record {
      within = λ p some. (let w = m.within p some in omega (arith, w, long));
      only = λ p is. elim (same_place p r) as (λ v. 0 < count p (places_of list)) [
        | inl e ↦ subst (λ k. 0 < count k (places_of list)) (sym e) there
        | inr off ↦ m.only p (sym (other p off) ∙ is)
      ];
      all = λ p some. elim (same_place p r) as (λ v. (slice_get new p ≡ Some true) ⊎ (0 < count p (places_of (drop (i + 1) items)))) [
        | inl e ↦ inl (ap (slice_get new) e ∙ here)
        | inr off ↦ elim (m.all p some) as (λ v. (slice_get new p ≡ Some true) ⊎ (0 < count p (places_of (drop (i + 1) items)))) [
          | inl is ↦ inl (other p off ∙ is)
          | inr left ↦ inr (
              let a = subst (λ ts. 0 < count p (places_of ts)) (root_at items i d lt) left in
              let z = one_apart r p (λ k. off (sym k)) in
              omega (arith, a, z)
              )
        ]
      ];
    }

pub marking_ends : (list items : List Tree) (i : ℕ) (marks : List Bool) → length items ≤ i → Marking list (drop i items) marks → IsMarked list marks
marking_ends list items i marks le m = record {
  yes = m.only;
  all = λ p some. elim (m.all p some) as (λ v. slice_get marks p ≡ Some true) [
    | inl is ↦ is
    | inr left ↦ absurd (let a = subst (λ ts. 0 < count p (places_of ts)) (no_root items i le) left in let z : ⊥ = omega (arith, a) in z)
  ];
}

-- a place is marked, or it isn't
pub marked_or : (marks : List Bool) (p : ℕ) → (slice_get marks p ≡ Some true) ⊎ (slice_get marks p ≡ Some true → ⊥)
marked_or marks p = by (slice_get marks p)
  where
    by : (o : Option Bool) → (o ≡ Some true) ⊎ (o ≡ Some true → ⊥)
    by None = inr (λ e. none-some true e)
    by (Some true) = inl refl
    by (Some false) = inr (λ e. (let z = same_Some false true e in absurd (cc)))

-- one cell is looked at
pub swept_on : (list : List Tree) (marks : List Bool) (first : Store) (cs ds : L.Cells) (rs new : List Bool) (p : ℕ) (next : Option ℕ) → IsMarked list marks → IsStore first → Sweeping (λ q. count q (places_of list)) first (store_of cs rs) (Some p) → ds ≡ cs → (slice_get marks p ≡ Some true → new ≡ rs) → ((slice_get marks p ≡ Some true → ⊥) → new ≡ given_up (L.cell_at cs p) p rs) → IfSome next (IsAfter (Some p)) → IsNextCell (Some p) next first.cells → Sweeping (λ q. count q (places_of list)) first (store_of ds new) next
swept_on list marks first cs ds rs new p next m st w same marked unmarked following empty =
    let held : ℕ → ℕ = λ q. count q (places_of list) in
    subst (λ es. Sweeping held first (store_of es new) next) (sym same) (elim (marked_or marks p) as (λ v. Sweeping held first (store_of cs new) next) [
      | inl is ↦
          subst (λ ns. Sweeping held first (store_of cs ns) next) (sym (marked is))
          (sweeping_on held first (store_of cs rs) (store_of cs rs) p next [] st w (up_none (store_of cs rs)) (λ q some. absurd (let z : ⊥ = omega (arith, some) in z)) (λ none. (let y = m.yes p is in absurd (let z : ⊥ = omega (arith, y, none) in z))) (λ some q. refl) (after_of p next following) empty)
      | inr not ↦
          sweeping_on held first (store_of cs rs) (store_of cs new) p next (p ∷ []) st w (up_places cs rs new (p ∷ []) (sweeping_store held first (store_of cs rs) (Some p) st w) (unmarked not))
          (λ q some. alone q some)
          (λ none. (let e = one_here p p refl in omega (arith, e)))
          (λ some q. absurd (not (m.all p some)))
          (after_of p next following) empty
    ])
  where
    alone : (q : ℕ) → 0 < count q (p ∷ []) → q ≡ p
    alone q some = elim (same_place p q) as (λ v. q ≡ p) [
      | inl e ↦ sym e
      | inr off ↦ (let e = one_apart p q off in absurd (let z : ⊥ = omega (arith, e, some) in z))
    ]
