-- Stacks of released cells follow what is done to the cells.
use Rattle.std.proofs.Common.{◌≡◌, ◌≢◌, ℕ, zero, suc, ◌+◌, ◌<◌, ◌≤◌, Bool, true, false, List, [], ◌∷◌, ◌++◌, length, length-append, slice_get, slice_set, Some, None, Option, inl, inr, nat_eq, refl, sym, ap, ◌∙◌, subst, arith, cond}
use Rattle.std.specs.Prelude.{replicate}
use Rattle.std.proofs.lemmas.Option.{none-some, same_Some}
use Rattle.std.proofs.lemmas.Bool.{cases_eq}
use Rattle.std.proofs.lemmas.Bool.Decides.{nat_tests}
use Rattle.fip_language.specs.Store.{Cell, count, one_at}
use Rattle.cell_store.specs.Cells.{Cells, cell_at, size_of, one_free, count_live, count_free}
use Rattle.cell_store.specs.Free.{Stack, IsFree, free_at, one_free_in}
use Rattle.cell_store.proofs.Parsed.{count_set, count_flag, count_append, count_gap}

-- cells and flags at other places

pub cell_at_set : (cs : Cells) (p : ℕ) (o : Option Cell) (c : Cell) → cell_at cs p ≡ Some c → cell_at (slice_set cs p o) p ≡ o
cell_at_set [] p o c e = absurd (none-some c e)
cell_at_set (x ∷ cs) zero o c e = refl
cell_at_set (x ∷ cs) (suc p) o c e = cell_at_set cs p o c e

pub cell_at_other : (cs : Cells) (p : ℕ) (o : Option Cell) (q : ℕ) → q ≢ p → cell_at (slice_set cs p o) q ≡ cell_at cs q
cell_at_other [] p o q d = refl
cell_at_other (x ∷ cs) zero o zero d = absurd (d refl)
cell_at_other (x ∷ cs) zero o (suc q) d = refl
cell_at_other (x ∷ cs) (suc p) o zero d = refl
cell_at_other (x ∷ cs) (suc p) o (suc q) d = cell_at_other cs p o q (λ e. d (ap suc e))

pub flag_set : (rs : List Bool) (p : ℕ) (r s : Bool) → slice_get rs p ≡ Some s → slice_get (slice_set rs p r) p ≡ Some r
flag_set [] p r s e = absurd (none-some s e)
flag_set (x ∷ rs) zero r s e = refl
flag_set (x ∷ rs) (suc p) r s e = flag_set rs p r s e

pub flag_other : (rs : List Bool) (p : ℕ) (r : Bool) (q : ℕ) → q ≢ p → slice_get (slice_set rs p r) q ≡ slice_get rs q
flag_other [] p r q d = refl
flag_other (x ∷ rs) zero r zero d = absurd (d refl)
flag_other (x ∷ rs) zero r (suc q) d = refl
flag_other (x ∷ rs) (suc p) r zero d = refl
flag_other (x ∷ rs) (suc p) r (suc q) d = flag_other rs p r q (λ e. d (ap suc e))

pub count_more : (q : ℕ) (ps : List ℕ) (p : ℕ) → count q (ps ++ p ∷ []) ≡ count q ps + one_at q p
count_more q [] p = omega arith
count_more q (x ∷ ps) p = let h = count_more q ps p in omega (arith, h)

-- numbers of released cells

one_free_size : (k : ℕ) (c d : Cell) (r : Bool) → size_of c ≡ size_of d → one_free k c r ≡ one_free k d r
one_free_size k c d false e = refl
one_free_size k c d true e = ap (λ n. cond (nat_eq k n) 1 0) e

pub free_set : (k : ℕ) (cs : Cells) (rs : List Bool) (p : ℕ) (c d : Cell) → cell_at cs p ≡ Some c → size_of d ≡ size_of c → count_free k (slice_set cs p (Some d)) rs ≡ count_free k cs rs
free_set k [] rs p c d e h = refl
free_set k (o ∷ cs) [] zero c d e h = refl
free_set k (o ∷ cs) [] (suc p) c d e h = refl
free_set k (None ∷ cs) (r ∷ rs) zero c d e h = absurd (none-some c e)
free_set k (Some b ∷ cs) (r ∷ rs) zero c d e h = ap (λ n. n + count_free k cs rs) (one_free_size k d b r (h ∙ ap size_of (sym (same_Some b c e))))
free_set k (None ∷ cs) (r ∷ rs) (suc p) c d e h = free_set k cs rs p c d e h
free_set k (Some b ∷ cs) (r ∷ rs) (suc p) c d e h = ap (λ n. one_free k b r + n) (free_set k cs rs p c d e h)

-- 1 where k is the size of this cell
abbrev pub one_size : ℕ → Cell → ℕ
one_size k c = cond (nat_eq k (size_of c)) 1 0

pub free_flag : (k : ℕ) (cs : Cells) (rs : List Bool) (p : ℕ) (c : Cell) → cell_at cs p ≡ Some c → slice_get rs p ≡ Some false → count_free k cs (slice_set rs p true) ≡ count_free k cs rs + one_size k c
free_flag k [] rs p c e h = absurd (none-some c e)
free_flag k (o ∷ cs) [] p c e h = absurd (none-some false h)
free_flag k (None ∷ cs) (r ∷ rs) zero c e h = absurd (none-some c e)
free_flag k (Some b ∷ cs) (true ∷ rs) zero c e h = absurd cc
free_flag k (Some b ∷ cs) (false ∷ rs) zero c e h = let s : one_size k b ≡ one_size k c = ap (one_size k) (same_Some b c e) in omega (arith, s)
free_flag k (None ∷ cs) (r ∷ rs) (suc p) c e h = free_flag k cs rs p c e h
free_flag k (Some b ∷ cs) (r ∷ rs) (suc p) c e h = let l = free_flag k cs rs p c e h in omega (arith, l)

-- a released cell that is taken again: another cell of its size, not released
pub free_taken : (k : ℕ) (cs : Cells) (rs : List Bool) (p : ℕ) (c d : Cell) → cell_at cs p ≡ Some c → size_of d ≡ size_of c → slice_get rs p ≡ Some true → count_free k (slice_set cs p (Some d)) (slice_set rs p false) + one_size k c ≡ count_free k cs rs
free_taken k [] rs p c d e s h = absurd (none-some c e)
free_taken k (o ∷ cs) [] p c d e s h = absurd (none-some true h)
free_taken k (None ∷ cs) (r ∷ rs) zero c d e s h = absurd (none-some c e)
free_taken k (Some b ∷ cs) (false ∷ rs) zero c d e s h = absurd cc
free_taken k (Some b ∷ cs) (true ∷ rs) zero c d e s h = let s : one_size k b ≡ one_size k c = ap (one_size k) (same_Some b c e) in omega (arith, s)
free_taken k (None ∷ cs) (r ∷ rs) (suc p) c d e s h = free_taken k cs rs p c d e s h
free_taken k (Some b ∷ cs) (r ∷ rs) (suc p) c d e s h = let l = free_taken k cs rs p c d e s h in omega (arith, l)

pub live_taken : (k : ℕ) (cs : Cells) (rs : List Bool) (p : ℕ) (c d : Cell) → cell_at cs p ≡ Some c → size_of d ≡ size_of c → slice_get rs p ≡ Some true → count_live k (slice_set cs p (Some d)) (slice_set rs p false) ≡ count_live k cs rs + one_size k c
live_taken k [] rs p c d e s h = absurd (none-some c e)
live_taken k (o ∷ cs) [] p c d e s h = absurd (none-some true h)
live_taken k (None ∷ cs) (r ∷ rs) zero c d e s h = absurd (none-some c e)
live_taken k (Some b ∷ cs) (false ∷ rs) zero c d e s h = absurd cc
live_taken k (Some b ∷ cs) (true ∷ rs) zero c d e s h = let t : one_size k d ≡ one_size k c = ap (λ n. cond (nat_eq k n) 1 0) s in omega (arith, t)
live_taken k (None ∷ cs) (r ∷ rs) (suc p) c d e s h = live_taken k cs rs p c d e s h
live_taken k (Some b ∷ cs) (r ∷ rs) (suc p) c d e s h = let l = live_taken k cs rs p c d e s h in omega (arith, l)

pub free_append : (k : ℕ) (cs ds : Cells) (rs qs : List Bool) → length rs ≡ length cs → count_free k (cs ++ ds) (rs ++ qs) ≡ count_free k cs rs + count_free k ds qs
free_append k [] ds [] qs e = omega arith
free_append k [] ds (r ∷ rs) qs e = absurd (omega arith)
free_append k (o ∷ cs) ds [] qs e = absurd (omega arith)
free_append k (None ∷ cs) ds (r ∷ rs) qs e = free_append k cs ds rs qs (omega arith)
free_append k (Some c ∷ cs) ds (r ∷ rs) qs e = let h = free_append k cs ds rs qs (omega arith) in omega (arith, h)

pub free_gap : (k n : ℕ) → count_free k (replicate n None) (replicate n false) ≡ 0
free_gap k zero = refl
free_gap k (suc n) = free_gap k n

no_free_gap : (k n : ℕ) (r : List Bool) (q : ℕ) → free_at k (replicate n None) r q ≡ 0
no_free_gap k zero r q = refl
no_free_gap k (suc n) r zero = refl
no_free_gap k (suc n) [] (suc q) = no_free_gap k n [] q
no_free_gap k (suc n) (r ∷ rs) (suc q) = no_free_gap k n rs q

-- what is at a place

free_at_append : (k : ℕ) (cs ds : Cells) (rs qs : List Bool) → length rs ≡ length cs → ((q : ℕ) → free_at k ds qs q ≡ 0) → (q : ℕ) → free_at k (cs ++ ds) (rs ++ qs) q ≡ free_at k cs rs q
free_at_append k [] ds [] qs e z q = z q
free_at_append k [] ds (r ∷ rs) qs e z q = absurd (omega arith)
free_at_append k (o ∷ cs) ds [] qs e z q = absurd (omega arith)
free_at_append k (o ∷ cs) ds (r ∷ rs) qs e z zero = refl
free_at_append k (o ∷ cs) ds (r ∷ rs) qs e z (suc q) = free_at_append k cs ds rs qs (omega arith) z q

-- the cell that a place in a stack names
pub record Named (k : ℕ) (cs : Cells) (rs : List Bool) (p : ℕ) : Type 0 where
  pub cell : Cell
  pub is : cell_at cs p ≡ Some cell
  pub released : slice_get rs p ≡ Some true
  pub size : size_of cell ≡ k

named_in : (k : ℕ) (o : Option Cell) (r : Option Bool) → 0 < one_free_in k o r → (c : Cell) × (o ≡ Some c) × (r ≡ Some true) × (size_of c ≡ k)
named_in k None r h = absurd (omega arith)
named_in k (Some c) None h = absurd (omega arith)
named_in k (Some c) (Some false) h = absurd (omega arith)
named_in k (Some c) (Some true) h = (c, refl, refl, grind (arith, nat_tests))

pub named : (k : ℕ) (cs : Cells) (rs : List Bool) (p : ℕ) → 0 < free_at k cs rs p → Named k cs rs p
named k cs rs p h = let n = named_in k (cell_at cs p) (slice_get rs p) h in record { cell = n.0; is = n.1; released = n.2; size = n.3 }

pub one_same : (p : ℕ) → one_at p p ≡ 1
one_same p = grind (arith, nat_tests)

pub one_other : (q p : ℕ) → q ≢ p → one_at q p ≡ 0
one_other q p d = grind (arith, nat_tests)

-- the place on top of a stack is that of a released cell
pub top_named : (k : ℕ) (cs : Cells) (rs : List Bool) (s : Stack) (ps : List ℕ) (p : ℕ) → IsFree cs rs k s → s.places ≡ ps ++ p ∷ [] → Named k cs rs p
top_named k cs rs s ps p f e = named k cs rs p (let a = f.once p in let b = ap (count p) e in let c = count_more p ps p in let d = one_same p in omega (arith, a, b, c, d))

-- what is at a place, where the cell and the flag there are known
pub free_here : (k : ℕ) (cs : Cells) (rs : List Bool) (p : ℕ) (c : Cell) (r : Bool) → cell_at cs p ≡ Some c → slice_get rs p ≡ Some r → free_at k cs rs p ≡ one_free k c r
free_here k cs rs p c r e f = λ i. one_free_in k (e i) (f i)

pub free_there : (k : ℕ) (cs ds : Cells) (rs qs : List Bool) (q : ℕ) → cell_at ds q ≡ cell_at cs q → slice_get qs q ≡ slice_get rs q → free_at k ds qs q ≡ free_at k cs rs q
free_there k cs ds rs qs q e f = λ i. one_free_in k (e i) (f i)

one_free_same : (k : ℕ) (c : Cell) → k ≡ size_of c → one_free k c true ≡ 1
one_free_same k c e = grind (arith, nat_tests)

one_free_else : (k : ℕ) (c : Cell) (r : Bool) → k ≢ size_of c → one_free k c r ≡ 0
one_free_else k c false d = refl
one_free_else k c true d = grind (arith, nat_tests)

one_size_same : (k : ℕ) (c : Cell) → k ≡ size_of c → one_size k c ≡ 1
one_size_same k c e = grind (arith, nat_tests)

one_size_else : (k : ℕ) (c : Cell) → k ≢ size_of c → one_size k c ≡ 0
one_size_else k c d = grind (arith, nat_tests)

-- a cell of this size is released
pub freed : (cs : Cells) (rs : List Bool) (k p : ℕ) (c : Cell) (s t : Stack) → IsFree cs rs k s → cell_at cs p ≡ Some c → slice_get rs p ≡ Some false → k ≡ size_of c → t.places ≡ s.places ++ p ∷ [] → s.room ≤ t.room → IsFree cs (slice_set rs p true) k t
freed cs rs k p c s t f e r k_is places room = record {
  once = λ q. elim (cases_eq q p) [
    | inl same ↦ subst (λ n. count n t.places ≡ free_at k cs (slice_set rs p true) n) (sym same) (
        let here = free_here k cs rs p c false e r in
        let now = free_here k cs (slice_set rs p true) p c true e (flag_set rs p true false r) in
        let one = one_free_same k c k_is in
        let more = ap (count p) places ∙ count_more p s.places p in
        let once = f.once p in
        let own = one_same p in
        omega (arith, here, now, one, more, once, own))
    | inr other ↦ (
        let there = free_there k cs cs rs (slice_set rs p true) q refl (flag_other rs p true q other) in
        let more = ap (count q) places ∙ count_more q s.places p in
        let once = f.once q in
        let own = one_other q p other in
        omega (arith, there, more, once, own))
  ];
  total = (
      let l = ap length places ∙ length-append s.places (p ∷ []) in
      let n = free_flag k cs rs p c e r in
      let o = one_size_same k c k_is in
      let t = f.total in
      omega (arith, l, n, o, t));
  room = (
      let n = free_flag k cs rs p c e r in
      let l = count_flag k cs rs p c e r in
      let t = f.room in
      omega (arith, n, l, t, room));
}

-- a cell of another size is released
pub freed_other : (cs : Cells) (rs : List Bool) (k p : ℕ) (c : Cell) (s : Stack) → IsFree cs rs k s → cell_at cs p ≡ Some c → slice_get rs p ≡ Some false → k ≢ size_of c → IsFree cs (slice_set rs p true) k s
freed_other cs rs k p c s f e r d = record {
  once = λ q. elim (cases_eq q p) [
    | inl same ↦ subst (λ n. count n s.places ≡ free_at k cs (slice_set rs p true) n) (sym same) (
        f.once p ∙ free_here k cs rs p c false e r ∙ sym (one_free_else k c true d) ∙ sym (free_here k cs (slice_set rs p true) p c true e (flag_set rs p true false r)))
    | inr other ↦ f.once q ∙ sym (free_there k cs cs rs (slice_set rs p true) q refl (flag_other rs p true q other))
  ];
  total = (let n = free_flag k cs rs p c e r in let o = one_size_else k c d in let t = f.total in omega (arith, n, o, t));
  room = (
      let n = free_flag k cs rs p c e r in
      let l = count_flag k cs rs p c e r in
      let t = f.room in
      omega (arith, n, l, t));
}

-- a released cell of this size is taken again
pub taken : (cs : Cells) (rs : List Bool) (k p : ℕ) (c d : Cell) (s t : Stack) → IsFree cs rs k s → cell_at cs p ≡ Some c → size_of d ≡ size_of c → slice_get rs p ≡ Some true → k ≡ size_of c → s.places ≡ t.places ++ p ∷ [] → t.room ≡ s.room → IsFree (slice_set cs p (Some d)) (slice_set rs p false) k t
taken cs rs k p c d s t f e size r k_is places room = record {
  once = λ q. elim (cases_eq q p) [
    | inl same ↦ subst (λ n. count n t.places ≡ free_at k (slice_set cs p (Some d)) (slice_set rs p false) n) (sym same) (
        let here = free_here k cs rs p c true e r in
        let now = free_here k (slice_set cs p (Some d)) (slice_set rs p false) p d false (cell_at_set cs p (Some d) c e) (flag_set rs p false true r) in
        let one = one_free_same k c k_is in
        let more = ap (count p) places ∙ count_more p t.places p in
        let once = f.once p in
        let own = one_same p in
        omega (arith, here, now, one, more, once, own))
    | inr other ↦ (
        let there = free_there k cs (slice_set cs p (Some d)) rs (slice_set rs p false) q (cell_at_other cs p (Some d) q other) (flag_other rs p false q other) in
        let more = ap (count q) places ∙ count_more q t.places p in
        let once = f.once q in
        let own = one_other q p other in
        omega (arith, there, more, once, own))
  ];
  total = (
      let l = ap length places ∙ length-append t.places (p ∷ []) in
      let n = free_taken k cs rs p c d e size r in
      let o = one_size_same k c k_is in
      let h = f.total in
      omega (arith, l, n, o, h));
  room = (
      let n = free_taken k cs rs p c d e size r in
      let l = live_taken k cs rs p c d e size r in
      let h = f.room in
      omega (arith, n, l, h, room));
}

-- a released cell of another size is taken again
pub taken_other : (cs : Cells) (rs : List Bool) (k p : ℕ) (c d : Cell) (s : Stack) → IsFree cs rs k s → cell_at cs p ≡ Some c → size_of d ≡ size_of c → slice_get rs p ≡ Some true → k ≢ size_of c → IsFree (slice_set cs p (Some d)) (slice_set rs p false) k s
taken_other cs rs k p c d s f e size r o = record {
  once = λ q. elim (cases_eq q p) [
    | inl same ↦ subst (λ n. count n s.places ≡ free_at k (slice_set cs p (Some d)) (slice_set rs p false) n) (sym same) (
        f.once p ∙ free_here k cs rs p c true e r ∙ one_free_else k c true o ∙ sym (free_here k (slice_set cs p (Some d)) (slice_set rs p false) p d false (cell_at_set cs p (Some d) c e) (flag_set rs p false true r)))
    | inr other ↦ f.once q ∙ sym (free_there k cs (slice_set cs p (Some d)) rs (slice_set rs p false) q (cell_at_other cs p (Some d) q other) (flag_other rs p false q other))
  ];
  total = (let n = free_taken k cs rs p c d e size r in let z = one_size_else k c o in let t = f.total in omega (arith, n, z, t));
  room = (
      let n = free_taken k cs rs p c d e size r in
      let l = live_taken k cs rs p c d e size r in
      let h = f.room in
      omega (arith, n, l, h));
}

-- a cell is overwritten
pub rewritten : (cs : Cells) (rs : List Bool) (k p : ℕ) (c d : Cell) (s : Stack) → IsFree cs rs k s → cell_at cs p ≡ Some c → size_of d ≡ size_of c → IsFree (slice_set cs p (Some d)) rs k s
rewritten cs rs k p c d s f e size = record {
  once = λ q. f.once q ∙ elim (cases_eq q p) [
    | inl same ↦ subst (λ n. free_at k cs rs n ≡ free_at k (slice_set cs p (Some d)) rs n) (sym same) (
        (λ i. one_free_in k (e i) (slice_get rs p)) ∙ one_free_in_size k c d (slice_get rs p) (sym size) ∙ (λ i. one_free_in k (sym (cell_at_set cs p (Some d) c e) i) (slice_get rs p)))
    | inr other ↦ sym (free_there k cs (slice_set cs p (Some d)) rs rs q (cell_at_other cs p (Some d) q other) refl)
  ];
  total = f.total ∙ sym (free_set k cs rs p c d e size);
  room = (let n = free_set k cs rs p c d e size in let l = count_set k cs rs p c d e size in let h = f.room in omega (arith, n, l, h));
}
  where
    one_free_in_size : (k : ℕ) (c d : Cell) (r : Option Bool) → size_of c ≡ size_of d → one_free_in k (Some c) r ≡ one_free_in k (Some d) r
    one_free_in_size k c d None e = refl
    one_free_in_size k c d (Some r) e = one_free_size k c d r e

-- a cell is put after the others, and its stack has room for one more
pub put_after : (cs : Cells) (rs : List Bool) (k : ℕ) (c : Cell) (s t : Stack) → length rs ≡ length cs → IsFree cs rs k s → t.places ≡ s.places → count_live k cs rs + count_free k cs rs + one_size k c ≤ t.room → IsFree (cs ++ Some c ∷ replicate (size_of c) None) (rs ++ false ∷ replicate (size_of c) false) k t
put_after cs rs k c s t long f places room = record {
  once = λ q. ap (count q) places ∙ f.once q ∙ sym (free_at_append k cs (Some c ∷ replicate (size_of c) None) rs (false ∷ replicate (size_of c) false) long none q);
  total = ap length places ∙ f.total ∙ (
      let n = free_append k cs (Some c ∷ replicate (size_of c) None) rs (false ∷ replicate (size_of c) false) long in
      let g = free_gap k (size_of c) in
      omega (arith, n, g));
  room = (
      let n = free_append k cs (Some c ∷ replicate (size_of c) None) rs (false ∷ replicate (size_of c) false) long in
      let g = free_gap k (size_of c) in
      let l = count_append k cs (Some c ∷ replicate (size_of c) None) rs (false ∷ replicate (size_of c) false) long in
      let h = count_gap k (size_of c) in
      omega (arith, n, g, l, h, room));
}
  where
    none : (q : ℕ) → free_at k (Some c ∷ replicate (size_of c) None) (false ∷ replicate (size_of c) false) q ≡ 0
    none zero = refl
    none (suc q) = no_free_gap k (size_of c) (replicate (size_of c) false) q

-- stacks with more room
pub same_places : (cs : Cells) (rs : List Bool) (k : ℕ) (s t : Stack) → IsFree cs rs k s → t.places ≡ s.places → s.room ≤ t.room → IsFree cs rs k t
same_places cs rs k s t f places room = record {
  once = λ q. ap (count q) places ∙ f.once q;
  total = ap length places ∙ f.total;
  room = (let h = f.room in omega (arith, h, room));
}
