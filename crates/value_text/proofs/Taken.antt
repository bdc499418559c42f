-- What the making of a cell does to the cells that were made or taken, and to the words that are left.
use Rattle.std.proofs.Common.{◌≡◌, ◌≢◌, ◌⊎◌, inl, inr, ℕ, zero, suc, ◌+◌, ◌-◌, ◌*◌, ◌<◌, ◌≤◌, List, [], ◌∷◌, ◌++◌, length, Option, Some, None, Bool, true, false, refl, sym, ap, ap₂, ◌∙◌, subst, arith, length-append}
use Rattle.std.specs.Prelude.{replicate, option_map, slice_get, slice_set, nat_eq, if◌then◌else◌}
use Rattle.std.proofs.lemmas.Bool.{eqb-true, eq-eqb}
use Rattle.std.proofs.lemmas.Bool.Decides.{nat_tests}
use Rattle.std.proofs.lemmas.Option.{none-some}
use Rattle.std.proofs.lemmas.List.{length-replicate}
use Rattle.std.proofs.Math.Nat.{mul-suc}
use Rattle.fip_language.specs.Store.{Cell, Placed, PlacedInt, Bare, At, Parts, NoParts, MoreParts, one_at, uses, uses_of_all}
use Rattle.cell_store.specs.Cells.{Cells, cell_at, size_of, count_free}
use Rattle.cell_store.specs.Made.{Loading, IsRetaken, IsAppended}
use Rattle.cell_store.proofs.Freed.{cell_at_set, cell_at_other, flag_set, flag_other, one_size, free_taken, free_append}
use Rattle.value_text.specs.Loaded.{live_in, live, words_up_to, free_in}
use Rattle.value_text.specs.Standing.{Holds, HoldAll}
use Rattle.value_text.specs.Building.{IsMade, IsTaken}
use Rattle.fip_language.proofs.Facts.{length_set as length-put}
use Rattle.cell_store.proofs.Freed.{free_gap as gap_free}
use Rattle.cell_store.proofs.Marked.{none_past as gap}
pub use Rattle.cell_store.proofs.Freed.{one_other, one_same as one_here}

pub unlike_of : (q p : ℕ) → one_at q p ≡ 0 → q ≢ p
unlike_of q p z e = let h = one_here p in let k : one_at q p ≡ one_at p p = ap (λ q. one_at q p) e in absurd (omega (arith, z, h, k))

-- which way a place is
pub record Sized (o : Option Cell) (n : ℕ) : Type 0 where
  pub cell : Cell
  pub is : o ≡ Some cell
  pub size : size_of cell ≡ n

some_size : (o : Option Cell) (n : ℕ) → option_map size_of o ≡ Some n → Sized o n
some_size None n e = absurd (none-some n e)
some_size (Some b) n e = record { cell = b; is = refl; size = cc }

append_here : (cs ds : Cells) (o : Option Cell) → cell_at (cs ++ o ∷ ds) (length cs) ≡ o
append_here [] ds o = refl
append_here (x ∷ cs) ds o = append_here cs ds o

append_other : (cs : Cells) (c : Cell) (n q : ℕ) → q ≢ length cs → cell_at (cs ++ Some c ∷ replicate n None) q ≡ cell_at cs q
append_other [] c n zero u = absurd (u refl)
append_other [] c n (suc q) u = gap n q
append_other (x ∷ cs) c n zero u = refl
append_other (x ∷ cs) c n (suc q) u = append_other cs c n q (λ e. u (ap suc e))

same_next : (q l : ℕ) → nat_eq (suc q) (suc l) ≡ nat_eq q l
same_next q l = grind (arith, nat_tests)

append_live : (cs : Cells) (rs : List Bool) (c : Cell) (n q : ℕ) → length rs ≡ length cs → live_in (cell_at (cs ++ Some c ∷ replicate n None) q) (slice_get (rs ++ false ∷ replicate n false) q) ≡ live_in (cell_at cs q) (slice_get rs q) + one_at q (length cs)
append_live [] [] c n zero e = refl
append_live [] [] c n (suc q) e =
    let a : live_in (cell_at (replicate n None) q) (slice_get (replicate n false) q) ≡ 0 = ap (λ o. live_in o (slice_get (replicate n false) q)) (gap n q) in
    let z : one_at (suc q) 0 ≡ 0 = one_other (suc q) 0 (λ x. absurd (omega (arith, x))) in
    omega (arith, a, z)
append_live [] (r ∷ rs) c n q e = absurd (omega arith)
append_live (o ∷ cs) [] c n q e = absurd (omega arith)
append_live (o ∷ cs) (r ∷ rs) c n zero e =
    let z : one_at 0 (suc (length cs)) ≡ 0 = one_other 0 (suc (length cs)) (λ x. absurd (omega (arith, x))) in
    omega (arith, z)
append_live (o ∷ cs) (r ∷ rs) c n (suc q) e =
    let h = append_live cs rs c n q (omega arith) in
    let z : one_at (suc q) (suc (length cs)) ≡ one_at q (length cs) = ap (λ (t : Bool). if t then 1 else 0) (same_next q (length cs)) in
    omega (arith, h, z)

past_dead : (cs : Cells) (r : Option Bool) → live_in (cell_at cs (length cs)) r ≡ 0
past_dead [] r = refl
past_dead (o ∷ cs) r = past_dead cs r

-- a released cell served, or the cell took its words
abbrev pub Served : Loading → Loading → Cell → Type 0
Served old new c = (new.left ≡ old.left) × ((k : ℕ) → free_in new k + one_size k c ≡ free_in old k)

abbrev pub Took : Loading → Loading → Cell → Type 0
Took old new c = (new.left + (size_of c + 1) ≡ old.left) × (free_in old (size_of c) ≡ 0) × ((k : ℕ) → free_in new k ≡ free_in old k)

-- what follows from the making of a cell
pub record Made (old new : Loading) (p : ℕ) (c : Cell) : Type 0 where
  pub here : cell_at new.cells p ≡ Some c
  pub others : (q : ℕ) → q ≢ p → cell_at new.cells q ≡ cell_at old.cells q
  pub dead : live old p ≡ 0
  pub living : (q : ℕ) → live new q ≡ live old q + one_at q p
  pub flags : length new.released ≡ length new.cells
  pub room : Served old new c ⊎ Took old new c

retaken_made : (old new : Loading) (p : ℕ) (c : Cell) → length old.released ≡ length old.cells → IsRetaken old new p c → Made old new p c
retaken_made old new p c l r =
    let b = some_size (cell_at old.cells p) (size_of c) r.size in
    let dead : live old p ≡ 0 = ap₂ live_in b.is r.free in
    record {
      here = ap (λ cs. cell_at cs p) r.cells ∙ cell_at_set old.cells p (Some c) b.cell b.is;
      others = λ q n. ap (λ cs. cell_at cs q) r.cells ∙ cell_at_other old.cells p (Some c) q n;
      dead = dead;
      living = λ q. by_place q (nat_eq q p) refl;
      flags = ap length r.released ∙ length-put old.released p false ∙ l ∙ sym (ap length r.cells ∙ length-put old.cells p (Some c));
      room = inl (r.left, λ k. ap₂ (λ cs rs. count_free k cs rs + one_size k c) r.cells r.released ∙ ap (λ n. count_free k (slice_set old.cells p (Some c)) (slice_set old.released p false) + n) (ap (λ n. if nat_eq k n then 1 else 0) (sym b.size)) ∙ free_taken k old.cells old.released p b.cell c b.is (sym b.size) r.free);
    } where
      by_place : (q : ℕ) (t : Bool) → nat_eq q p ≡ t → live new q ≡ live old q + one_at q p
      by_place q true e =
          let b = some_size (cell_at old.cells p) (size_of c) r.size in
          let same : q ≡ p = eqb-true q p e in
          let now : live new p ≡ 1 = ap₂ live_in (ap (λ cs. cell_at cs p) r.cells ∙ cell_at_set old.cells p (Some c) b.cell b.is) (ap (λ rs. slice_get rs p) r.released ∙ flag_set old.released p false true r.free) in
          let was : live old p ≡ 0 = ap₂ live_in b.is r.free in
          let one = one_here p in
          subst (λ q. live new q ≡ live old q + one_at q p) (sym same) (omega (arith, now, was, one))
      by_place q false e =
          let n : q ≢ p = λ s. (let z : nat_eq q p ≡ true = eq-eqb q p s in cc) in
          let none = one_other q p n in
          let same : live new q ≡ live old q = ap₂ live_in (ap (λ cs. cell_at cs q) r.cells ∙ cell_at_other old.cells p (Some c) q n) (ap (λ rs. slice_get rs q) r.released ∙ flag_other old.released p false q n) in
          omega (arith, same, none)

appended_made : (old new : Loading) (p : ℕ) (c : Cell) → length old.released ≡ length old.cells → free_in old (size_of c) ≡ 0 → IsAppended old new p c → Made old new p c
appended_made old new p c l z a =
    let n = size_of c in
    record {
      here = ap₂ cell_at a.cells a.place ∙ append_here old.cells (replicate n None) (Some c);
      others = λ q u. ap (λ cs. cell_at cs q) a.cells ∙ append_other old.cells c n q (λ e. u (e ∙ sym a.place));
      dead = ap (live old) a.place ∙ past_dead old.cells (slice_get old.released (length old.cells));
      living = λ q. ap₂ (λ cs rs. live_in (cell_at cs q) (slice_get rs q)) a.cells a.released ∙ append_live old.cells old.released c n q l ∙ ap (λ p. live old q + one_at q p) (sym a.place);
      flags =
          let x = length-append old.released (false ∷ replicate n false) in
          let y = length-append old.cells (Some c ∷ replicate n None) in
          let u = length-replicate {A = Bool} n false in
          let v = length-replicate {A = Option Cell} n None in
          let lr = ap length a.released in
          let lc = ap length a.cells in
          omega (arith, x, y, u, v, l, lr, lc);
      room = inr (a.left, z, λ k. ap₂ (λ cs rs. count_free k cs rs) a.cells a.released ∙ free_append k old.cells (Some c ∷ replicate n None) old.released (false ∷ replicate n false) l ∙ (let g = gap_free k n in omega (arith, g)));
    }

pub made : (old new : Loading) (p : ℕ) (c : Cell) → length old.released ≡ length old.cells → IsMade old new p c → Made old new p c
made old new p c l (inl h) = retaken_made old new p c l h.1
made old new p c l (inr h) = appended_made old new p c l h.0 h.1

-- words of sizes up to n
pub words_zero : (want free : ℕ → ℕ) → words_up_to 0 want free ≡ 0
unfolding words_up_to
words_zero want free = refl

pub words_suc : (n : ℕ) (want free : ℕ → ℕ) → words_up_to (suc n) want free ≡ words_up_to n want free + (suc n + 1) * (want (suc n) - free (suc n))
unfolding words_up_to
words_suc n want free = refl

pub words_same : (n : ℕ) (want want' free free' : ℕ → ℕ) → ((k : ℕ) → k ≤ n → want' k - free' k ≡ want k - free k) → words_up_to n want' free' ≡ words_up_to n want free
words_same zero want want' free free' e = words_zero want' free' ∙ sym (words_zero want free)
words_same (suc n) want want' free free' e = words_suc n want' free' ∙ ap₂ (λ a d. a + (suc n + 1) * d) (words_same n want want' free free' (λ k le. e k (omega (arith, le)))) (e (suc n) (omega arith)) ∙ sym (words_suc n want free)

pub times_suc : (a d : ℕ) → a * suc d ≡ a * d + a
times_suc a d = mul-suc a d

one_by : (n s : ℕ) (want want' free free' : ℕ → ℕ) → want s - free s ≡ suc (want' s - free' s) → ((k : ℕ) → k ≤ suc n → k ≢ s → want' k - free' k ≡ want k - free k) → (s ≤ n → words_up_to n want free ≡ words_up_to n want' free' + (s + 1)) → s ≤ suc n → (t : Bool) → nat_eq s (suc n) ≡ t → words_up_to (suc n) want free ≡ words_up_to (suc n) want' free' + (s + 1)
one_by n s want want' free free' one e rest le true t =
    let same : s ≡ suc n = eqb-true s (suc n) t in
    let low : words_up_to n want' free' ≡ words_up_to n want free = words_same n want want' free free' (λ k l. e k (omega (arith, l)) (λ q. absurd (omega (arith, q, same, l)))) in
    let top : want (suc n) - free (suc n) ≡ suc (want' (suc n) - free' (suc n)) = subst (λ s. want s - free s ≡ suc (want' s - free' s)) same one in
    let d : (suc n + 1) * (want (suc n) - free (suc n)) ≡ (suc n + 1) * (want' (suc n) - free' (suc n)) + (suc n + 1) = ap (λ d. (suc n + 1) * d) top ∙ times_suc (suc n + 1) (want' (suc n) - free' (suc n)) in
    sum_one (words_up_to n want free) (words_up_to n want' free') ((suc n + 1) * (want (suc n) - free (suc n))) ((suc n + 1) * (want' (suc n) - free' (suc n))) (suc n) s (words_up_to (suc n) want free) (words_up_to (suc n) want' free') low d same (words_suc n want free) (words_suc n want' free') where
      sum_one : (a b x y m s p q : ℕ) → b ≡ a → x ≡ y + (m + 1) → s ≡ m → p ≡ a + x → q ≡ b + y → p ≡ q + (s + 1)
      sum_one a b x y m s p q e f g h i = omega (arith, e, f, g, h, i)
one_by n s want want' free free' one e rest le false t =
    let less : s ≤ n = grind (arith, nat_tests) in
    let low = rest less in
    let d : (suc n + 1) * (want' (suc n) - free' (suc n)) ≡ (suc n + 1) * (want (suc n) - free (suc n)) = ap (λ d. (suc n + 1) * d) (e (suc n) (omega arith) (λ q. absurd (omega (arith, q, less)))) in
    sum_rest (words_up_to n want free) (words_up_to n want' free') ((suc n + 1) * (want (suc n) - free (suc n))) ((suc n + 1) * (want' (suc n) - free' (suc n))) s (words_up_to (suc n) want free) (words_up_to (suc n) want' free') low d (words_suc n want free) (words_suc n want' free') where
      sum_rest : (a b x y s p q : ℕ) → a ≡ b + (s + 1) → y ≡ x → p ≡ a + x → q ≡ b + y → p ≡ q + (s + 1)
      sum_rest a b x y s p q e f g h = omega (arith, e, f, g, h)

pub words_one : (n s : ℕ) (want want' free free' : ℕ → ℕ) → 0 < s → s ≤ n → want s - free s ≡ suc (want' s - free' s) → ((k : ℕ) → k ≤ n → k ≢ s → want' k - free' k ≡ want k - free k) → words_up_to n want free ≡ words_up_to n want' free' + (s + 1)
words_one zero s want want' free free' z le one e = absurd (omega (arith, z, le))
words_one (suc n) s want want' free free' z le one e = one_by n s want want' free free' one e (λ less. words_one n s want want' free free' z less one (λ k l. e k (omega (arith, l)))) le (nat_eq s (suc n)) refl

-- where more of a size are wanted than are free, there is a cell's room at least
some_words : (a d : ℕ) → 0 < d → a ≤ a * d
some_words a zero p = absurd (omega (arith, p))
some_words a (suc d) p = let t = times_suc a d in omega (arith, t)

room_by : (n s : ℕ) (want free : ℕ → ℕ) → s ≤ suc n → free s < want s → (s ≤ n → s + 1 ≤ words_up_to n want free) → (t : Bool) → nat_eq s (suc n) ≡ t → s + 1 ≤ words_up_to (suc n) want free
room_by n s want free le lt rest true t =
    let same : s ≡ suc n = eqb-true s (suc n) t in
    let top : free (suc n) < want (suc n) = subst (λ s. free s < want s) same lt in
    let d = some_words (suc n + 1) (want (suc n) - free (suc n)) (omega (arith, top)) in
    let w = words_suc n want free in
    omega (arith, same, d, w)
room_by n s want free le lt rest false t =
    let less : s ≤ n = grind (arith, nat_tests) in
    let r = rest less in
    let w = words_suc n want free in
    omega (arith, r, w)

pub words_room : (n s : ℕ) (want free : ℕ → ℕ) → 0 < s → s ≤ n → free s < want s → s + 1 ≤ words_up_to n want free
words_room zero s want free z le lt = absurd (omega (arith, z, le))
words_room (suc n) s want free z le lt = room_by n s want free le lt (λ less. words_room n s want free z less lt) (nat_eq s (suc n)) refl

-- what was made or taken, one cell more
module _ (want done done' uses uses' : ℕ → ℕ) (first now new : Loading) (p : ℕ) (c : Cell) (h : IsTaken want done uses first now) (m : Made now new p c) (some : 0 < size_of c) (few : size_of c ≤ 16) (more : (k : ℕ) → k ≤ 16 → done' k ≡ done k + one_size k c) (in_want : done' (size_of c) ≤ want (size_of c)) (used : (q : ℕ) → uses' q ≡ uses q + one_at q p) where
  size_here : one_size (size_of c) c ≡ 1
  size_here = ap (λ (t : Bool). if t then 1 else 0) (eq-eqb (size_of c) (size_of c) refl)

  size_other : (k : ℕ) → k ≢ size_of c → one_size k c ≡ 0
  size_other k n = one_other k (size_of c) n

  left_on : Served now new c ⊎ Took now new c → new.left + words_up_to 16 want (free_in first) ≡ first.left + words_up_to 16 (λ k. want k - done' k) (free_in new)
  left_on (inl s) =
      let w = words_same 16 (λ k. want k - done k) (λ k. want k - done' k) (free_in now) (free_in new) (λ k le. let a = more k le in let b = s.1 k in omega (arith, a, b)) in
      omega (arith, w, s.0, h.left)
  left_on (inr t) =
      let s = size_of c in
      let z : free_in now s ≡ 0 = t.1 in
      let y : free_in new s ≡ free_in now s = t.2 s in
      let a = more s few in
      let w = words_one 16 s (λ k. want k - done k) (λ k. want k - done' k) (free_in now) (free_in new) some few (omega (arith, z, y, a, size_here, in_want)) (λ k le n. let b = more k le in let d = size_other k n in let f = t.2 k in omega (arith, b, d, f)) in
      omega (arith, w, t.0, h.left)

  free_other : ((k : ℕ) → free_in new k ≡ free_in now k) → (k : ℕ) → k ≤ 16 → k ≢ size_of c → free_in new k ≡ free_in first k - done' k
  free_other t k le off = let f = h.free k le in let a = more k le in let b = t k in let z = size_other k off in omega (arith, f, a, b, z)

  free_on : Served now new c ⊎ Took now new c → (k : ℕ) → k ≤ 16 → free_in new k ≡ free_in first k - done' k
  free_on (inl s) k le = let f = h.free k le in let a = more k le in let b = s.1 k in omega (arith, f, a, b)
  free_on (inr t) k le = by (nat_eq k (size_of c)) refl
    where
      by : (b : Bool) → nat_eq k (size_of c) ≡ b → free_in new k ≡ free_in first k - done' k
      by true e =
          let same : k ≡ size_of c = eqb-true k (size_of c) e in
          let f = h.free k le in
          let a = more k le in
          let b = t.2 k in
          let z : free_in now k ≡ 0 = subst (λ n. free_in now n ≡ 0) (sym same) t.1 in
          omega (arith, f, a, b, z)
      by false e = free_other t.2 k le (λ q. (let x : nat_eq k (size_of c) ≡ true = eq-eqb k (size_of c) q in cc))

  pub taken_on : IsTaken want done' uses' first new
  taken_on = record {
    once = λ q. let a = h.once q in let b = used q in let d = m.living q in omega (arith, a, b, d);
    kept = λ q l.
        let a = h.once q in
        let n : q ≢ p = λ e. (let d = m.dead in let s : live now q ≡ live now p = ap (live now) e in absurd (omega (arith, a, l, d, s))) in
        m.others q n ∙ h.kept q l;
    flags = m.flags;
    left = left_on m.room;
    free = free_on m.room;
  }

-- there is a released cell or room for a further cell
pub room_for : (want done uses : ℕ → ℕ) (first now : Loading) (n : ℕ) → IsTaken want done uses first now → words_up_to 16 want (free_in first) ≤ first.left → 0 < n → n ≤ 16 → done n < want n → free_in now n ≡ 0 → n + 1 ≤ now.left
room_for want done uses first now n h fits some few less z =
    let r = words_room 16 n (λ k. want k - done k) (free_in now) some few (omega (arith, less, z)) in
    let l = h.left in
    omega (arith, r, l, fits)

-- trees stay in cells that change elsewhere
mutual
  pub holds_on : (cs cs' : Cells) (p : ℕ) (x : Placed) → ((q : ℕ) → q ≢ p → cell_at cs' q ≡ cell_at cs q) → uses p x ≡ 0 → Holds cs x → Holds cs' x
  holds_on cs cs' p (PlacedInt i) e z h = tt
  holds_on cs cs' p (Bare c) e z h = tt
  holds_on cs cs' p (At q c xs) e z h =
      let n : p ≢ q = unlike_of p q (omega (arith, z)) in
      (e q (λ s. n (sym s)) ∙ h.0, hold_all_on cs cs' p xs e (omega (arith, z)) h.1)

  pub hold_all_on : (cs cs' : Cells) (p : ℕ) (xs : Parts) → ((q : ℕ) → q ≢ p → cell_at cs' q ≡ cell_at cs q) → uses_of_all p xs ≡ 0 → HoldAll cs xs → HoldAll cs' xs
  hold_all_on cs cs' p NoParts e z h = tt
  hold_all_on cs cs' p (MoreParts x xs) e z h = (holds_on cs cs' p x e (omega (arith, z)) h.0, hold_all_on cs cs' p xs e (omega (arith, z)) h.1)
