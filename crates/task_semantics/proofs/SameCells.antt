-- A task's own cells are renamed in the shared store after the same change of both: a write, or releases. No other cell
-- of the shared store changes.
use Rattle.std.proofs.Common.{◌≡◌, ◌≢◌, ◌⊎◌, inl, inr, ℕ, suc, ◌+◌, ◌<◌, ◌≤◌, List, [], ◌∷◌, length, map, Option, Some, None, refl, sym, ap, ◌∙◌, subst, arith}
use Rattle.run_loading.specs.fip_language.Store.{Cell, one_at, count}
use Rattle.run_loading.specs.machine_semantics.Cells.{Store, IsStore, cell_at, size_of, one_if_some, there, released_at}
use Rattle.run_loading.proofs.separation_kinds.Basics.{less_or_not}
use Rattle.run_loading.proofs.separation_kinds.Agree.{one_here, one_apart}
use Rattle.run_loading.proofs.separation.Stores.{same_place, there_cell, IsWritten, AreReleased}
use Rattle.task_semantics.specs.Projected.{Renaming, IsThere, AreLikeWords, IsLikeCell, AreRenamed, IsSameAt}
use Rattle.task_semantics.proofs.Renamings.{some_there}

-- ---- places

pub one_place : (f : Renaming) (own shared : Store) (p q : ℕ) → AreRenamed f own shared → IsThere own p → IsThere own q → f p ≡ f q → p ≡ q
one_place f own shared p q h a b e = elim (less_or_not p q) as (λ v. p ≡ q) [
  | inl less ↦ let z = h.rises p q a b less in absurd (let y : ⊥ = omega arith in y)
  | inr rest ↦ elim (less_or_not q p) as (λ v. p ≡ q) [
    | inl less ↦ let z = h.rises q p b a less in absurd (let y : ⊥ = omega arith in y)
    | inr also ↦ omega arith
  ]
]

pub there_some : (s : Store) (q : ℕ) → 0 < there s q → IsThere s q
there_some s q h = let c = there_cell s q h in some_there c.0 (cell_at s q) c.1

pub there_one : (s : Store) (q : ℕ) → IsThere s q → there s q ≡ 1
there_one s q h = by (cell_at s q) h
  where
    by : (o : Option Cell) → o ≢ None → one_if_some o ≡ 1
    by None h = absurd (h refl)
    by (Some c) h = refl

pub there_like : (s t : Store) (q : ℕ) → there t q ≡ there s q → IsThere t q → IsThere s q
there_like s t q e h = let one = there_one t q h in there_some s q (omega arith)

pub words_even : (f : Renaming) (ws vs : List ℕ) → AreLikeWords f ws vs → length vs ≡ length ws
words_even f [] [] h = refl
words_even f [] (v ∷ vs) h = absurd h
words_even f (w ∷ ws) [] h = absurd h
words_even f (w ∷ ws) (v ∷ vs) h = ap suc (words_even f ws vs h.1)

-- the cell of the shared store
pub record HasMate (s : Store) (p : ℕ) (old : Cell) : Type 0 where
  pub cell : Cell
  pub is : cell_at s p ≡ Some cell
  pub size : size_of cell ≡ size_of old

mate_by : (f : Renaming) (shared : Store) (q : ℕ) (old : Cell) (o : Option Cell) → cell_at shared q ≡ o → IsLikeCell f (Some old) o → HasMate shared q old
mate_by f shared q old None e l = absurd l
mate_by f shared q old (Some b) e l = record { cell = b; is = e; size = words_even f old.fields b.fields l.1 }

pub mate_of : (f : Renaming) (own shared : Store) (p : ℕ) (old : Cell) → AreRenamed f own shared → cell_at own p ≡ Some old → HasMate shared (f p) old
mate_of f own shared p old h e = mate_by f shared (f p) old (cell_at shared (f p)) refl (subst (λ o. IsLikeCell f o (cell_at shared (f p))) e (h.cells p (some_there old (cell_at own p) e)))

pub renamed_there : (f : Renaming) (own shared : Store) (p : ℕ) → AreRenamed f own shared → IsThere own p → IsThere shared (f p)
renamed_there f own shared p h there =
    let one = there_one own p there in
    let c = there_cell own p (omega arith) in
    let m = mate_of f own shared p c.0 h c.1 in
    some_there m.cell (cell_at shared (f p)) m.is

-- Only the task's own cells changed.
abbrev pub Beyond : Renaming → Store → Store → Store → Type 0
Beyond f own shared other = (q : ℕ) → ((p : ℕ) → IsThere own p → f p ≡ q → ⊥) → IsSameAt other shared q

-- ---- a write

pub written_renamed : (f : Renaming) (own shared : Store) (p : ℕ) (old new mate : Cell) → AreRenamed f own shared → cell_at own p ≡ Some old → (a : IsWritten own p new) → (b : IsWritten shared (f p) mate) → mate.tag ≡ new.tag → AreLikeWords f new.fields mate.fields → AreRenamed f a.store b.store
written_renamed f own shared p old new mate h at a b tag words = record {
  rises = λ q r x y l. h.rises q r (back q x) (back r y) l;
  cells = λ q x. elim (same_place p q) as (λ v. IsLikeCell f (cell_at a.store q) (cell_at b.store (f q))) [
    | inl e ↦ subst (λ q. IsLikeCell f (cell_at a.store q) (cell_at b.store (f q))) e (subst (λ o. IsLikeCell f o (cell_at b.store (f p))) (sym a.here) (subst (λ o. IsLikeCell f (Some new) o) (sym b.here) (tag, words)))
    | inr off ↦
        let away : f p ≡ f q → ⊥ = λ z. off (one_place f own shared p q h (some_there old (cell_at own p) at) (back q x) z) in
        subst (λ o. IsLikeCell f o (cell_at b.store (f q))) (sym (a.other q off)) (subst (λ o. IsLikeCell f (cell_at own q) o) (sym (b.other (f q) away)) (h.cells q (back q x)))
  ];
  released = λ q x. b.released (f q) ∙ h.released q (back q x) ∙ sym (a.released q);
}
  where
    back : (q : ℕ) → IsThere a.store q → IsThere own q
    back q x = there_like own a.store q (a.cells q) x

pub written_beyond : (f : Renaming) (own shared : Store) (p : ℕ) (mate : Cell) → IsThere own p → (b : IsWritten shared (f p) mate) → Beyond f own shared b.store
written_beyond f own shared p mate there b q none = (b.other q (none p there), b.released q)

-- ---- releases

pub image : (f : Renaming) (ps : List ℕ) (q : ℕ) → (count q (map f ps) ≡ 0) ⊎ ((p : ℕ) × (f p ≡ q) × (0 < count p ps))
image f [] q = inl refl
image f (p ∷ ps) q = elim (same_place q (f p)) as (λ v. (count q (map f (p ∷ ps)) ≡ 0) ⊎ ((r : ℕ) × (f r ≡ q) × (0 < count r (p ∷ ps)))) [
  | inl e ↦
      let here : one_at p p ≡ 1 = one_here p p refl in
      let z : 0 < one_at p p + count p ps = omega arith in
      inr (p, sym e, z)
  | inr off ↦
      let away : one_at q (f p) ≡ 0 = one_apart q (f p) off in
      elim (image f ps q) as (λ v. (count q (map f (p ∷ ps)) ≡ 0) ⊎ ((r : ℕ) × (f r ≡ q) × (0 < count r (p ∷ ps)))) [
        | inl none ↦ inl (omega arith)
        | inr r ↦ let more = r.2 in let z : 0 < one_at r.0 p + count r.0 ps = omega arith in inr (r.0, r.1, z)
      ]
]

count_image : (f : Renaming) (ps : List ℕ) (q : ℕ) → ((r : ℕ) → 0 < count r ps → f r ≡ f q → r ≡ q) → count (f q) (map f ps) ≡ count q ps
count_image f [] q h = refl
count_image f (p ∷ ps) q h =
    let here : one_at p p ≡ 1 = one_here p p refl in
    let rest : count (f q) (map f ps) ≡ count q ps = count_image f ps q (λ r some e. h r (omega arith) e) in
    elim (same_place q p) as (λ v. one_at (f q) (f p) + count (f q) (map f ps) ≡ one_at q p + count q ps) [
      | inl e ↦
          let a : one_at q p ≡ 1 = one_here q p e in
          let b : one_at (f q) (f p) ≡ 1 = one_here (f q) (f p) (ap f e) in
          omega arith
      | inr off ↦
          let a : one_at q p ≡ 0 = one_apart q p off in
          let some : 0 < one_at p p + count p ps = omega arith in
          let b : one_at (f q) (f p) ≡ 0 = one_apart (f q) (f p) (λ z. off (sym (h p some (sym z)))) in
          omega arith
    ]

-- own places are counted alike
pub count_renamed : (f : Renaming) (own shared : Store) (ps : List ℕ) (q : ℕ) → AreRenamed f own shared → ((r : ℕ) → 0 < count r ps → IsThere own r) → IsThere own q → count (f q) (map f ps) ≡ count q ps
count_renamed f own shared ps q h there here = count_image f ps q (λ r some e. one_place f own shared r q h (there r some) here e)

pub few_renamed : (f : Renaming) (own shared : Store) (ps : List ℕ) → AreRenamed f own shared → IsStore shared → ((q : ℕ) → count q ps + released_at own q ≤ there own q) → (q : ℕ) → count q (map f ps) + released_at shared q ≤ there shared q
few_renamed f own shared ps h good few q = elim (image f ps q) as (λ v. count q (map f ps) + released_at shared q ≤ there shared q) [
  | inl none ↦ let g = good.of_cells q in omega arith
  | inr r ↦
      let all : (p : ℕ) → 0 < count p ps → IsThere own p = λ p some. there_some own p (let z = few p in omega arith) in
      let at : IsThere own r.0 = all r.0 r.2 in
      let same = count_renamed f own shared ps r.0 h all at in
      let flags = h.released r.0 at in
      let one = there_one shared (f r.0) (renamed_there f own shared r.0 h at) in
      let also = there_one own r.0 at in
      let bound = few r.0 in
      let z : count (f r.0) (map f ps) + released_at shared (f r.0) ≤ there shared (f r.0) = omega arith in
      subst (λ q. count q (map f ps) + released_at shared q ≤ there shared q) r.1 z
]

pub released_renamed : (f : Renaming) (own shared : Store) (ps : List ℕ) → AreRenamed f own shared → ((q : ℕ) → 0 < count q ps → IsThere own q) → (a : AreReleased own ps) → (b : AreReleased shared (map f ps)) → AreRenamed f a.store b.store
released_renamed f own shared ps h all a b = record {
  rises = λ q r x y l. h.rises q r (back q x) (back r y) l;
  cells = λ q x. subst (λ o. IsLikeCell f o (cell_at b.store (f q))) (sym (a.same q)) (subst (λ o. IsLikeCell f (cell_at own q) o) (sym (b.same (f q))) (h.cells q (back q x)));
  released = λ q x.
      let m = a.released q in
      let n = b.released (f q) in
      let flags = h.released q (back q x) in
      let same = count_renamed f own shared ps q h all (back q x) in
      omega arith;
}
  where
    back : (q : ℕ) → IsThere a.store q → IsThere own q
    back q x none = x (a.same q ∙ none)

pub released_beyond : (f : Renaming) (own shared : Store) (ps : List ℕ) → ((q : ℕ) → 0 < count q ps → IsThere own q) → (b : AreReleased shared (map f ps)) → Beyond f own shared b.store
released_beyond f own shared ps all b q none = (
  b.same q,
  elim (image f ps q) as (λ v. released_at b.store q ≡ released_at shared q) [
    | inl none_is ↦ let n = b.released q in omega arith
    | inr r ↦ absurd (none r.0 (all r.0 r.2) r.1)
  ],
)
