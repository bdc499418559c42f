-- The store of a task's own cells: what is there, what is there, and that the shared store has it too.
use Rattle.std.proofs.Common.{◌≡◌, ◌≢◌, ℕ, zero, suc, ◌+◌, ◌<◌, ◌≤◌, false, List, [], ◌∷◌, Option, Some, None, refl, sym, ap, ap₂, ◌∙◌, subst, length, map, inl, arith}
use Rattle.std.proofs.lemmas.List.{length-replicate}
use Rattle.run_loading.specs.fip_base.declared.plain.Param.{Param}
use Rattle.run_loading.specs.fip_language.Every.{Every}
use Rattle.run_loading.specs.fip_language.Store.{Cell, Placed, PlacedInt, Bare, At, Parts, NoParts, MoreParts, count, one_at}
use Rattle.run_loading.specs.machine_semantics.Apart.{AreSpare, IsGiven}
use Rattle.run_loading.specs.machine_semantics.Cells.{Store, IsSized, IsStore, cell_in, cell_at, there, one_if_some, released_at}
use Rattle.run_loading.specs.cell_code.Plain.{PlainCode}
use Rattle.run_loading.proofs.separation_kinds.Agree.{SameAt, stand_all_agree, one_here}
use Rattle.run_loading.proofs.Begins.{none_released}
use Rattle.task_semantics.specs.Projected.{Renaming, renamed, renamed_parts, IsThere, IsLikeCell, AreLikeWords, AreRenamed}
use Rattle.task_semantics.specs.Lying.{Lying, LiesIn, uses_by, cell_if, cells_used, own_store, call_words}
pub use Rattle.task_semantics.proofs.Moving.{like_same as words_alike}

-- ---- cells by place

kept_none : (n : ℕ) → cell_if n None ≡ None
kept_none zero = refl
kept_none (suc n) = refl

pub used_at : (u : ℕ → ℕ) (os : List (Option Cell)) (p : ℕ) → cell_in (cells_used u os) p ≡ cell_if (u p) (cell_in os p)
used_at u [] p = sym (kept_none (u p))
used_at u (o ∷ os) zero = refl
used_at u (o ∷ os) (suc p) = used_at (λ q. u (suc q)) os p

pub used_number : (u : ℕ → ℕ) (os : List (Option Cell)) → length (cells_used u os) ≡ length os
used_number u [] = refl
used_number u (o ∷ os) = ap suc (used_number (λ q. u (suc q)) os)

kept_sized : (n : ℕ) (o : Option Cell) → IsSized o → IsSized (cell_if n o)
kept_sized zero o h = tt
kept_sized (suc n) o h = h

pub used_sized : (u : ℕ → ℕ) (os : List (Option Cell)) → Every IsSized os → Every IsSized (cells_used u os)
used_sized u [] h = tt
used_sized u (o ∷ os) h = (kept_sized (u 0) o h.0, used_sized (λ q. u (suc q)) os h.1)

kept_if : (n : ℕ) (o : Option Cell) → 0 < n → cell_if n o ≡ o
kept_if zero o h = absurd (omega (arith, h))
kept_if (suc n) o h = refl

-- a cell that is there is used
kept_used : (n : ℕ) (o : Option Cell) → cell_if n o ≢ None → 0 < n
kept_used zero o h = absurd (h refl)
kept_used (suc n) o h = omega arith

pub same_at : (s : Store) (l : Lying) (p : ℕ) → 0 < uses_by l p → cell_at (own_store s l) p ≡ cell_at s p
same_at s l p h = used_at (uses_by l) s.cells p ∙ kept_if (uses_by l p) (cell_at s p) h

pub is_used : (s : Store) (l : Lying) (p : ℕ) → IsThere (own_store s l) p → 0 < uses_by l p
is_used s l p h = kept_used (uses_by l p) (cell_at s p) (λ e. h (used_at (uses_by l) s.cells p ∙ e))

-- ---- what is there

pub spares_own : (s u : Store) (ks ps : List ℕ) → SameAt s u (λ q. count q ps) → AreSpare s ks ps → AreSpare u ks ps
spares_own s u [] [] h g = tt
spares_own s u [] (p ∷ ps) h g = g
spares_own s u (k ∷ ks) [] h g = g
spares_own s u (k ∷ ks) (p ∷ ps) h g =
    let here : one_at p p ≡ 1 = one_here p p refl in
    ((g.0.0, h p (omega (arith, here)) ∙ g.0.1, g.0.2), spares_own s u ks ps (λ q m. h q (omega (arith, m))) g.1)

-- how often a place is a cell's, where what uses it is that often
pub use_of : (n r : ℕ) (o : Option Cell) → n + r ≤ one_if_some o → n ≡ one_if_some (cell_if n o)
use_of zero r o h = refl
use_of (suc n) r None h = absurd (omega (arith, h))
use_of (suc n) r (Some c) h = omega (arith, h)

abbrev pub own_given : (c : PlainCode) (s : Store) (l : Lying) → IsStore s → LiesIn c s l → ((p : ℕ) → uses_by l p + released_at s p ≤ there s p) → IsGiven c.types l.task.header (own_store s l) [] (call_words l)
own_given c s l store lies once = record {
  store = record {
    sized = used_sized (uses_by l) s.cells store.sized;
    wide = length-replicate (length s.cells) false ∙ sym (used_number (uses_by l) s.cells);
    of_cells = λ p. let e = none_released (length s.cells) p in omega (arith, e);
  };
  arguments = l.trees;
  spares = l.spares;
  words = refl;
  stand = stand_all_agree c.types s (own_store s l) (map (λ (p : Param). p.ty) l.task.header.params) l.trees (λ q h. same_at s l q (omega (arith, h))) lies.stand;
  credits = spares_own s (own_store s l) l.task.header.credits l.spares (λ q h. same_at s l q (omega (arith, h))) lies.credits;
  once = λ q.
      let e = none_released (length s.cells) q in
      let a = use_of (uses_by l q) (released_at s q) (cell_at s q) (once q) in
      let b = ap one_if_some (used_at (uses_by l) s.cells q) in
      omega (arith, a, b, e);
}

-- ---- the same places

cells_alike : (f : Renaming) (a b : Option Cell) → a ≢ None → a ≡ b → IsLikeCell f a b
cells_alike f None b h e = absurd (h refl)
cells_alike f (Some x) b h e = subst (λ o. IsLikeCell f (Some x) o) e (refl, words_alike f x.fields)

pub own_renamed : (s : Store) (l : Lying) → ((p : ℕ) → uses_by l p + released_at s p ≤ there s p) → AreRenamed (λ p. p) (own_store s l) s
own_renamed s l once = record {
  rises = λ p q h k m. m;
  cells = λ p h. cells_alike (λ q. q) (cell_at (own_store s l) p) (cell_at s p) h (same_at s l p (is_used s l p h));
  released = λ p h.
      let used = is_used s l p h in
      let o = once p in
      let e = none_released (length s.cells) p in
      let one = at_most (cell_at s p) in
      omega (arith, used, o, e, one);
}
  where
    at_most : (o : Option Cell) → one_if_some o ≤ 1
    at_most None = omega arith
    at_most (Some c) = omega arith

mutual
  pub tree_stays : (x : Placed) → renamed (λ p. p) x ≡ x
  tree_stays (PlacedInt i) = refl
  tree_stays (Bare c) = refl
  tree_stays (At p c xs) = ap (λ ys. At p c ys) (trees_stay xs)

  pub trees_stay : (xs : Parts) → renamed_parts (λ p. p) xs ≡ xs
  trees_stay NoParts = refl
  trees_stay (MoreParts x xs) = ap₂ (λ y ys. MoreParts y ys) (tree_stays x) (trees_stay xs)

pub places_stay : (ps : List ℕ) → map (λ p. p) ps ≡ ps
places_stay [] = refl
places_stay (p ∷ ps) = ap (λ qs. p ∷ qs) (places_stay ps)
