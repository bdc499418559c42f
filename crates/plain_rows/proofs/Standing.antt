-- Rows that are put after others, and what was there before is there still.
use Rattle.std.proofs.Common.{Iter, ◌≡◌, ◌⊎◌, inl, inr, ℕ, zero, suc, ◌+◌, ◌<◌, ◌≤◌, List, [], ◌∷◌, ◌++◌, length, take, drop, Some, refl, sym, ap, ap₂, ◌∙◌, subst, arith, length-append, length-drop}
use Rattle.std.specs.Prelude.{Bool, false, ◌==◌, Result, Ok, Err, IfOk, OnOk, slice_get}
use Rattle.std.proofs.lemmas.List.{drop_at, drop-append-le, take-append-le}
use Rattle.fip_base.specs.fip_language.Values.{Value as Tree, Int, Node, Values, End, More as Further}
use Rattle.plain_rows.specs.declared.store.Value.{Value}
use Rattle.plain_rows.specs.declared.store.Value.TheVariants as V
use Rattle.plain_rows.specs.declared.store.Head.{Head}
use Rattle.plain_rows.specs.declared.store.Store.{Store}
use Rattle.plain_rows.specs.Rows.{count_rows, IsRow, Holds, HoldAll, Stands, StandAll, More}
pub use Rattle.fip_base.proofs.fip_language.Facts.{get_last, get_more as get_left}

part_left : (xs ys : List Value) (m n : ℕ) → m + n ≤ length xs → take n (drop m (xs ++ ys)) ≡ take n (drop m xs)
part_left xs ys m n l =
    let d = length-drop m xs in
    ap (take n) (drop-append-le m xs ys (omega (arith, l))) ∙ take-append-le n (drop m xs) ys (omega (arith, l, d))

take_all : (xs : List Value) → take (length xs) xs ≡ xs
take_all [] = refl
take_all (x ∷ xs) = ap (λ l. x ∷ l) (take_all xs)

pub row_new : (s t : Store) (h : Head) (fs : List Value) → t.heads.items ≡ s.heads.items ++ h ∷ [] → t.fields.items ≡ s.fields.items ++ fs → h.first ≡ length s.fields.items → h.size ≡ length fs → IsRow t (count_rows s) h.tag fs
row_new s t h fs hs fields first size =
    let n : length t.fields.items ≡ length s.fields.items + length fs = ap length fields ∙ length-append s.fields.items fs in
    let d : drop h.first t.fields.items ≡ fs = ap₂ (λ n l. drop n l) first fields ∙ drop_at s.fields.items fs (length s.fields.items) refl in
    record {
      head = h;
      there = ap (λ l. slice_get l (length s.heads.items)) hs ∙ get_last s.heads.items h;
      tag = refl;
      within = omega (arith, n, first, size);
      fields = ap₂ (λ n l. take n l) size d ∙ take_all fs;
    }

row_kept : (s t : Store) (h : Head) (fs : List Value) → t.heads.items ≡ s.heads.items ++ h ∷ [] → t.fields.items ≡ s.fields.items ++ fs → (r c : ℕ) (xs : List Value) → IsRow s r c xs → IsRow t r c xs
row_kept s t h fs hs fields r c xs k =
    let n : length t.fields.items ≡ length s.fields.items + length fs = ap length fields ∙ length-append s.fields.items fs in
    let w = k.within in
    record {
      head = k.head;
      there = ap (λ l. slice_get l r) hs ∙ get_left s.heads.items (h ∷ []) r k.head k.there;
      tag = k.tag;
      within = omega (arith, n, w);
      fields = ap (λ l. take (k.head).size (drop (k.head).first l)) fields ∙ part_left s.fields.items fs (k.head).first (k.head).size w ∙ k.fields;
    }

pub pushed_more : (s t : Store) (h : Head) (fs : List Value) → t.heads.items ≡ s.heads.items ++ h ∷ [] → t.fields.items ≡ s.fields.items ++ fs → More s t
pushed_more s t h fs hs fields =
    let n : length t.heads.items ≡ length s.heads.items + 1 = ap length hs ∙ length-append s.heads.items (h ∷ []) in
    record { rows = omega (arith, n); kept = row_kept s t h fs hs fields }

pub more_same : (s : Store) → More s s
more_same s = record { rows = omega arith; kept = λ r c xs k. k }

pub more_on : (s t u : Store) → More s t → More t u → More s u
more_on s t u h k = let a = h.rows in let b = k.rows in record { rows = omega (arith, a, b); kept = λ r c xs i. k.kept r c xs (h.kept r c xs i) }

pub wide : (s : Store) (m n : ℕ) (w : Value) (v : Tree) → m ≤ n → Holds s m w v → Holds s n w v
wide s m n w (Int i) l h = h
wide s m n w (Node c End) l h = h
wide s m n w (Node c (Further v vs)) l h = let k = h.3 in (h.0, h.1, h.2, omega (arith, l, k), h.4, h.5)

pub wide_all : (s : Store) (m n : ℕ) (ws : List Value) (vs : Values) → m ≤ n → HoldAll s m ws vs → HoldAll s n ws vs
wide_all s m n [] End l h = h
wide_all s m n [] (Further v vs) l h = h
wide_all s m n (w ∷ ws) End l h = h
wide_all s m n (w ∷ ws) (Further v vs) l h = (wide s m n w v l h.0, wide_all s m n ws vs l h.1)

mutual
  more_holds : (s t : Store) → More s t → (n : ℕ) (w : Value) (v : Tree) → Holds s n w v → Holds t n w v
  more_holds s t m n w (Int i) h = h
  more_holds s t m n w (Node c End) h = h
  more_holds s t m n w (Node c (Further v vs)) h = (h.0, h.1, h.2, h.3, m.kept h.0 c h.1 h.4, more_hold_all s t m h.0 h.1 (Further v vs) h.5)

  more_hold_all : (s t : Store) → More s t → (n : ℕ) (ws : List Value) (vs : Values) → HoldAll s n ws vs → HoldAll t n ws vs
  more_hold_all s t m n [] End h = h
  more_hold_all s t m n [] (Further v vs) h = h
  more_hold_all s t m n (w ∷ ws) End h = h
  more_hold_all s t m n (w ∷ ws) (Further v vs) h = (more_holds s t m n w v h.0, more_hold_all s t m n ws vs h.1)

pub more_stands : (s t : Store) (w : Value) (v : Tree) → More s t → Stands s w v → Stands t w v
more_stands s t w v m h = wide t (count_rows s) (count_rows t) w v m.rows (more_holds s t m (count_rows s) w v h)

pub more_stand_all : (s t : Store) (ws : List Value) (vs : Values) → More s t → StandAll s ws vs → StandAll t ws vs
more_stand_all s t ws vs m h = wide_all t (count_rows s) (count_rows t) ws vs m.rows (more_hold_all s t m (count_rows s) ws vs h)

-- a row that is a tree's node
row_is_node : (s t : Store) (c : ℕ) (fs : List Value) (vs : Values) → More s t → 0 < length fs → IsRow t (count_rows s) c fs → count_rows t ≡ count_rows s + 1 → StandAll s fs vs → Stands t (V.Row (count_rows s)) (Node c vs)
row_is_node s t c [] vs m l r n h = absurd (omega arith)
row_is_node s t c (f ∷ fs) End m l r n h = absurd h
row_is_node s t c (f ∷ fs) (Further v vs) m l r n h = (count_rows s, f ∷ fs, refl, omega (arith, n), r, more_hold_all s t m (count_rows s) (f ∷ fs) (Further v vs) h)

pub row_stands : (s t : Store) (w : Value) (c : ℕ) (fs : List Value) (vs : Values) → More s t → 0 < length fs → w ≡ V.Row (count_rows s) → IsRow t (count_rows s) c fs → count_rows t ≡ count_rows s + 1 → StandAll s fs vs → Stands t w (Node c vs)
row_stands s t w c fs vs m l e r n h = subst (λ w. Stands t w (Node c vs)) (sym e) (row_is_node s t c fs vs m l r n h)

pub bare_stands : (s : Store) (c : ℕ) (fs : List Value) (vs : Values) → length fs ≡ 0 → StandAll s fs vs → Stands s (V.Bare c) (Node c vs)
bare_stands s c [] End l h = refl
bare_stands s c [] (Further v vs) l h = absurd h
bare_stands s c (f ∷ fs) vs l h = absurd (omega arith)

some_of : (xs : List Value) (b : Bool) → b ≡ (length xs == 0) → b ≡ false → 0 < length xs
some_of [] b e f = cc
some_of (x ∷ xs) b e f = omega arith

pub made_row : {E : Type 0} (s t : Store) (c : ℕ) (fs : List Value) (b : Bool) (r : Result Value E) → b ≡ (length fs == 0) → b ≡ false → IfOk r (λ w. w ≡ V.Row (count_rows s)) → OnOk r (IsRow t (count_rows s) c fs) → OnOk r (More s t) → OnOk r (count_rows t ≡ count_rows s + 1) → IfOk r (λ w. (vs : Values) → StandAll s fs vs → Stands t w (Node c vs))
made_row s t c fs b (Ok w) e f n r k m = λ vs h. row_stands s t w c fs vs k (some_of fs b e f) n r m h
made_row s t c fs b (Err x) e f n r k m = tt

-- which of two lists that are gone over together has ended
pub sides : {A B : Type 0} (i : Iter A) (j : Iter B) → ((x : Iter A) × ((length i.rest.now ≡ 0) × (x ≡ i))) ⊎ ((y : Iter B) × ((length j.rest.now ≡ 0) × (y ≡ j))) → (length i.rest.now ≡ 0) ⊎ (length j.rest.now ≡ 0)
sides i j (inl h) = inl (h.1).0
sides i j (inr h) = inr (h.1).0
