-- In a turn of a task the shared store loses as many held cells of each size as the store that the task has alone.
-- The idea: held cells are sums over places. Of a place that is no renamed one of the task's own cells nothing changes, and
-- of the others each is renamed from one place.
use Rattle.std.proofs.Common.{◌≡◌, ◌≢◌, ◌⊎◌, inl, inr, ℕ, zero, suc, ◌+◌, ◌<◌, ◌≤◌, Bool, true, false, List, [], ◌∷◌, length, Option, Some, None, refl, sym, ap, subst, ◌∙◌, arith}
use Rattle.std.specs.Prelude.{slice_get}
use Rattle.fip_tasks.specs.fip_language.Store.{Cell, one_at}
use Rattle.machine_correctness.specs.machine_semantics.Cells.{Store, IsStore, cell_in, cell_at, there, released_at, one_if_some, one_if_true, one_held, held_in, count_held}
use Rattle.machine_correctness.proofs.separation_kinds.Agree.{one_here, one_apart}
use Rattle.machine_correctness.proofs.separation.Stores.{same_place}
use Rattle.fip_tasks.specs.task_semantics.Projected.{Renaming, IsThere, AreRenamed, one_among, held_among_from}
use Rattle.fip_tasks.proofs.task_semantics.Renamings.{some_there}
use Rattle.fip_tasks.proofs.task_semantics.SameCells.{Beyond, renamed_there}
use Rattle.fip_tasks.proofs.task_semantics.Seen.{held_are}

-- ---- sums over the first places

abbrev sums : ℕ → (ℕ → ℕ) → ℕ
sums zero g = 0
sums (suc n) g = g 0 + sums n (λ q. g (suc q))

abbrev times : ℕ → ℕ → ℕ
times zero x = 0
times (suc m) x = x + times m x

no_sums : (n : ℕ) (g : ℕ → ℕ) → ((q : ℕ) → g q ≡ 0) → sums n g ≡ 0
no_sums zero g h = refl
no_sums (suc n) g h = (let a = h 0 in let b = no_sums n (λ q. g (suc q)) (λ q. h (suc q)) in omega (arith, a, b))

same_sums : (n : ℕ) (f g : ℕ → ℕ) → ((q : ℕ) → f q ≡ g q) → sums n f ≡ sums n g
same_sums zero f g h = refl
same_sums (suc n) f g h = (let a = h 0 in let b = same_sums n (λ q. f (suc q)) (λ q. g (suc q)) (λ q. h (suc q)) in omega (arith, a, b))

add_sums : (n : ℕ) (f g : ℕ → ℕ) → sums n (λ q. f q + g q) ≡ sums n f + sums n g
add_sums zero f g = refl
add_sums (suc n) f g = (let b = add_sums n (λ q. f (suc q)) (λ q. g (suc q)) in omega (arith, b))

times_none : (m x : ℕ) → m ≡ 0 → times m x ≡ 0
times_none zero x h = refl
times_none (suc m) x h = absurd (omega (arith, h))

times_one : (m x : ℕ) → m ≡ 1 → times m x ≡ x
times_one zero x h = absurd (omega (arith, h))
times_one (suc m) x h = (let a = times_none m x (omega (arith, h)) in omega (arith, a))

zero_plus : (n : ℕ) → 0 + n ≡ n
zero_plus n = omega arith

suc_plus : (m n : ℕ) → suc m + n ≡ suc (m + n)
suc_plus m n = omega arith

times_add : (m n x : ℕ) → times (m + n) x ≡ times m x + times n x
times_add zero n x = (let a : times (0 + n) x ≡ times n x = ap (λ j. times j x) (zero_plus n) in omega (arith, a))
times_add (suc m) n x =
    let a : times (suc m + n) x ≡ x + times (m + n) x = ap (λ j. times j x) (suc_plus m n) in
    let b = times_add m n x in
    omega (arith, a, b)

one_next : (q a : ℕ) → one_at (suc q) (suc a) ≡ one_at q a
one_next q a = elim (same_place q a) [
  | inl e ↦ one_here (suc q) (suc a) (ap suc e) ∙ sym (one_here q a e)
  | inr n ↦ one_apart (suc q) (suc a) (λ e. n (let z : q ≡ a = omega (arith, e) in z)) ∙ sym (one_apart q a n)
]

-- the one place of a sum
pick : (n a : ℕ) (g : ℕ → ℕ) → a < n → sums n (λ q. times (one_at q a) (g q)) ≡ g a
pick zero a g h = absurd (omega (arith, h))
pick (suc n) zero g h =
    let first = times_one (one_at 0 0) (g 0) (one_here 0 0 refl) in
    let rest = no_sums n (λ q. times (one_at (suc q) 0) (g (suc q))) (λ q. times_none (one_at (suc q) 0) (g (suc q)) (one_apart (suc q) 0 (λ e. let z : ⊥ = omega (arith, e) in z))) in
    omega (arith, first, rest)
pick (suc n) (suc a) g h =
    let first = times_none (one_at 0 (suc a)) (g 0) (one_apart 0 (suc a) (λ e. let z : ⊥ = omega (arith, e) in z)) in
    let same = same_sums n (λ q. times (one_at (suc q) (suc a)) (g (suc q))) (λ q. times (one_at q a) (g (suc q))) (λ q. ap (λ m. times m (g (suc q))) (one_next q a)) in
    let rest = pick n a (λ q. g (suc q)) (omega (arith, h)) in
    omega (arith, first, same, rest)

-- ---- held cells as sums

-- 1 where a cell of size k is held
abbrev held_at : ℕ → Store → ℕ → ℕ
held_at k s q = one_among k (cell_at s q) (released_at s q)

one_is : (k : ℕ) (o : Option Cell) (r : Bool) → one_held k o r ≡ one_among k o (one_if_true (Some r))
one_is k None r = refl
one_is k (Some c) true = refl
one_is k (Some c) false = refl

held_sums : (k n : ℕ) (os : List (Option Cell)) (rs : List Bool) → length rs ≡ length os → length os ≤ n → held_in k os rs ≡ sums n (λ q. one_among k (cell_in os q) (one_if_true (slice_get rs q)))
held_sums k n [] rs even few = sym (no_sums n (λ q. one_among k (cell_in [] q) (one_if_true (slice_get rs q))) (λ q. refl))
held_sums k n (o ∷ os) [] even few = absurd (omega (arith, even))
held_sums k zero (o ∷ os) (r ∷ rs) even few = absurd (omega (arith, few))
held_sums k (suc n) (o ∷ os) (r ∷ rs) even few =
    let first = one_is k o r in
    let rest = held_sums k n os rs (omega (arith, even)) (omega (arith, few)) in
    omega (arith, first, rest)

-- how many of a task's cells, from place p on, are renamed to place q
abbrev renamed_to : Renaming → ℕ → List (Option Cell) → ℕ → ℕ
renamed_to f p [] q = 0
renamed_to f p (None ∷ os) q = renamed_to f (suc p) os q
renamed_to f p (Some c ∷ os) q = one_at q (f p) + renamed_to f (suc p) os q

-- the cells of a list, from this place on
abbrev Each : ℕ → List (Option Cell) → (ℕ → Type 0) → Type 0
Each p os P = (j q : ℕ) (c : Cell) → q ≡ p + j → cell_in os j ≡ Some c → P q

further : (p j q : ℕ) → q ≡ suc p + j → q ≡ p + suc j
further p j q h = omega (arith, h)

here : (p : ℕ) → p ≡ p + 0
here p = omega arith

following : (p : ℕ) (o : Option Cell) (os : List (Option Cell)) (P : ℕ → Type 0) → Each p (o ∷ os) P → Each (suc p) os P
following p o os P h j q c e at = h (suc j) q c (further p j q e) at

among_sums : (k n : ℕ) (f : Renaming) (s : Store) (p : ℕ) (os : List (Option Cell)) → Each p os (λ q. f q < n) → held_among_from k f s p os ≡ sums n (λ q. times (renamed_to f p os q) (held_at k s q))
among_sums k n f s p [] h = sym (no_sums n (λ q. times 0 (held_at k s q)) (λ q. times_none 0 (held_at k s q) refl))
among_sums k n f s p (None ∷ os) h = among_sums k n f s (suc p) os (following p None os (λ q. f q < n) h)
among_sums k n f s p (Some c ∷ os) h =
    let first = pick n (f p) (held_at k s) (h 0 p c (here p) refl) in
    let rest = among_sums k n f s (suc p) os (following p (Some c) os (λ q. f q < n) h) in
    let both = add_sums n (λ q. times (one_at q (f p)) (held_at k s q)) (λ q. times (renamed_to f (suc p) os q) (held_at k s q)) in
    let same = same_sums n (λ q. times (one_at q (f p) + renamed_to f (suc p) os q) (held_at k s q)) (λ q. times (one_at q (f p)) (held_at k s q) + times (renamed_to f (suc p) os q) (held_at k s q)) (λ q. times_add (one_at q (f p)) (renamed_to f (suc p) os q) (held_at k s q)) in
    omega (arith, first, rest, both, same)

-- ---- a place is renamed from one place at most

none_to : (f : Renaming) (p : ℕ) (os : List (Option Cell)) (q : ℕ) → Each p os (λ r. f r ≢ q) → renamed_to f p os q ≡ 0
none_to f p [] q h = refl
none_to f p (None ∷ os) q h = none_to f (suc p) os q (following p None os (λ r. f r ≢ q) h)
none_to f p (Some c ∷ os) q h =
    let first = one_apart q (f p) (λ e. h 0 p c (here p) refl (sym e)) in
    let rest = none_to f (suc p) os q (following p (Some c) os (λ r. f r ≢ q) h) in
    omega (arith, first, rest)

-- it rises
abbrev Rises : Renaming → ℕ → List (Option Cell) → Type 0
Rises f p os = (i j q r : ℕ) (c d : Cell) → q ≡ p + i → r ≡ p + j → cell_in os i ≡ Some c → cell_in os j ≡ Some d → q < r → f q < f r

rises_after : (f : Renaming) (p : ℕ) (o : Option Cell) (os : List (Option Cell)) → Rises f p (o ∷ os) → Rises f (suc p) os
rises_after f p o os h i j q r c d a b x y less = h (suc i) (suc j) q r c d (further p i q a) (further p j r b) x y less

one_to : (f : Renaming) (p : ℕ) (os : List (Option Cell)) (q : ℕ) → Rises f p os → renamed_to f p os q ≤ 1
one_to f p [] q h = omega arith
one_to f p (None ∷ os) q h = one_to f (suc p) os q (rises_after f p None os h)
one_to f p (Some c ∷ os) q h = elim (same_place q (f p)) [
  | inl e ↦ (
      let first = one_here q (f p) e in
      let rest = none_to f (suc p) os q (λ j r d is at z. (
      let less = h 0 (suc j) p r c d (here p) (further p j r is) refl at (omega (arith, is)) in
      let y : ⊥ = omega (arith, less, z, e) in y
      )) in
      omega (arith, first, rest))
  | inr n ↦ (
      let first = one_apart q (f p) n in
      let rest = one_to f (suc p) os q (rises_after f p (Some c) os h) in
      omega (arith, first, rest))
]

-- a place to which none is renamed
none_there : (f : Renaming) (p : ℕ) (os : List (Option Cell)) (q : ℕ) → renamed_to f p os q ≡ 0 → Each p os (λ r. f r ≢ q)
none_there f p [] q none j r c is at e = absurd (let z : None ≡ Some c = at in cc)
none_there f p (None ∷ os) q none zero r c is at e = absurd (let z : None ≡ Some c = at in cc)
none_there f p (None ∷ os) q none (suc j) r c is at e = none_there f (suc p) os q none j r c (omega (arith, is)) at e
none_there f p (Some d ∷ os) q none zero r c is at e =
    let same : f r ≡ f p = ap f (let z : r ≡ p = omega (arith, is) in z) in
    let one = one_here q (f p) (sym e ∙ same) in
    absurd (omega (arith, one, none))
none_there f p (Some d ∷ os) q none (suc j) r c is at e = none_there f (suc p) os q (omega (arith, none)) j r c (omega (arith, is)) at e

-- ---- two stores that differ in renamed places alone

exchange : (m x y : ℕ) → m ≤ 1 → (m ≡ 0 → x ≡ y) → x + times m y ≡ y + times m x
exchange zero x y few same = (let e = same refl in let a = times_none 0 y refl in let b = times_none 0 x refl in omega (arith, e, a, b))
exchange (suc m) x y few same =
    let a = times_one (suc m) y (omega (arith, few)) in
    let b = times_one (suc m) x (omega (arith, few)) in
    omega (arith, a, b)

within : (os : List (Option Cell)) (q : ℕ) → cell_in os q ≢ None → q < length os
within [] q h = absurd (h refl)
within (o ∷ os) zero h = omega arith
within (o ∷ os) (suc q) h = (let a = within os q h in omega (arith, a))

-- the same places of cells
abbrev AreSame : List (Option Cell) → List (Option Cell) → Type 0
AreSame os us = (j : ℕ) → one_if_some (cell_in os j) ≡ one_if_some (cell_in us j)

among_none : (k : ℕ) (f : Renaming) (s : Store) (p : ℕ) (os : List (Option Cell)) → AreSame [] os → held_among_from k f s p os ≡ 0
among_none k f s p [] h = refl
among_none k f s p (None ∷ os) h = among_none k f s (suc p) os (λ j. h (suc j))
among_none k f s p (Some c ∷ os) h = absurd (let z = h 0 in omega (arith, z))

among_same : (k : ℕ) (f : Renaming) (s : Store) (p : ℕ) (os us : List (Option Cell)) → AreSame os us → held_among_from k f s p os ≡ held_among_from k f s p us
among_same k f s p [] us h = sym (among_none k f s p us h)
among_same k f s p os [] h = among_none k f s p os (λ j. sym (h j))
among_same k f s p (None ∷ os) (None ∷ us) h = among_same k f s (suc p) os us (λ j. h (suc j))
among_same k f s p (Some c ∷ os) (Some d ∷ us) h = ap (λ n. one_among k (cell_at s (f p)) (released_at s (f p)) + n) (among_same k f s (suc p) os us (λ j. h (suc j)))
among_same k f s p (None ∷ os) (Some d ∷ us) h = absurd (let z = h 0 in omega (arith, z))
among_same k f s p (Some c ∷ os) (None ∷ us) h = absurd (let z = h 0 in omega (arith, z))

module _ (k : ℕ) (f : Renaming) (own own' shared shared' : Store) (here_own : IsStore own) (here_own' : IsStore own') (good : IsStore shared) (good' : IsStore shared') (first : AreRenamed f own shared) (then' : AreRenamed f own' shared') (same : (p : ℕ) → there own' p ≡ there own p) (beyond : Beyond f own shared shared') where
  abbrev most : ℕ
  most = length shared.cells + length shared'.cells

  own_there : (p q : ℕ) (c : Cell) → q ≡ 0 + p → cell_in own.cells p ≡ Some c → IsThere own q
  own_there p q c e at = some_there c (cell_at own q) (subst (λ n. cell_in own.cells n ≡ Some c) (let z : p ≡ q = omega (arith, e) in z) at)

  within_most : Each 0 own.cells (λ q. f q < most)
  within_most j q c e at = (let a = within shared.cells (f q) (renamed_there f own shared q first (own_there j q c e at)) in omega (arith, a))

  rises : Rises f 0 own.cells
  rises i j q r c d a b x y less = first.rises q r (own_there i q c a x) (own_there j r d b y) less

  there_place : (p q : ℕ) → IsThere own p → f p ≡ q → renamed_to f 0 own.cells q ≡ 0 → ⊥
  there_place p q at e none = by (cell_at own p) refl
    where
      by : (o : Option Cell) → cell_at own p ≡ o → ⊥
      by None z = at z
      by (Some c) z = none_there f 0 own.cells q none p p c (omega arith) z e

  held_same : (q : ℕ) → renamed_to f 0 own.cells q ≡ 0 → held_at k shared q ≡ held_at k shared' q
  held_same q none =
      let b = beyond q (λ p at e. there_place p q at e none) in
      sym (ap (λ o. one_among k o (released_at shared' q)) b.0 ∙ ap (λ n. one_among k (cell_at shared q) n) b.1)

  sides : sums most (held_at k shared) + sums most (λ q. times (renamed_to f 0 own.cells q) (held_at k shared' q)) ≡ sums most (held_at k shared') + sums most (λ q. times (renamed_to f 0 own.cells q) (held_at k shared q))
  sides =
      let a = add_sums most (held_at k shared) (λ q. times (renamed_to f 0 own.cells q) (held_at k shared' q)) in
      let b = add_sums most (held_at k shared') (λ q. times (renamed_to f 0 own.cells q) (held_at k shared q)) in
      let e = same_sums most (λ q. held_at k shared q + times (renamed_to f 0 own.cells q) (held_at k shared' q)) (λ q. held_at k shared' q + times (renamed_to f 0 own.cells q) (held_at k shared q)) (λ q. exchange (renamed_to f 0 own.cells q) (held_at k shared q) (held_at k shared' q) (one_to f 0 own.cells q rises) (held_same q)) in
      omega (arith, a, b, e)

  -- the cells that are held no more are the task's own
  pub loses_same : count_held k shared + count_held k own' ≡ count_held k shared' + count_held k own
  loses_same =
      let x = held_sums k most shared.cells shared.released good.wide (omega arith) in
      let y = held_sums k most shared'.cells shared'.released good'.wide (omega arith) in
      let a = among_sums k most f shared 0 own.cells within_most in
      let b = among_sums k most f shared' 0 own.cells within_most in
      let c = held_are f own shared k here_own first in
      let d = held_are f own' shared' k here_own' then' in
      let e = among_same k f shared' 0 own'.cells own.cells same in
      let s = sides in
      omega (arith, x, y, a, b, c, d, e, s)
