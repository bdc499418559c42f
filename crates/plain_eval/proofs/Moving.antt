-- Rows that are reached, and where they go.
use Rattle.std.proofs.Common.{◌≡◌, ◌⊎◌, inl, inr, ℕ, zero, suc, ◌+◌, ◌<◌, ◌≤◌, Bool, true, List, [], ◌∷◌, ◌++◌, map, length, take, drop, get_or, set, Some, None, refl, sym, ap, ◌∙◌, subst, arith}
use Rattle.std.specs.Prelude.{slice_get, option_map}
use Rattle.std.proofs.lemmas.Option.{slice_get_within, slice_get-map}
use Rattle.fip_trees.specs.fip_language.Values.{Value as Tree, Int, Node, Values, End, More as Further}
use Rattle.plain_rows.specs.declared.store.Value.{Value}
use Rattle.plain_rows.specs.declared.store.Value.TheVariants as V
use Rattle.plain_rows.specs.declared.store.Store.{Store}
use Rattle.plain_rows.specs.Rows.{count_rows, IsRow, Holds, HoldAll, Stands, More}
use Rattle.plain_rows.proofs.Standing.{get_left, more_stands, row_stands}
use Rattle.plain_eval.specs.Slots.{KeepsAll}
use Rattle.plain_eval.specs.Moving.{Marked, MarkedBelow, ClosedFrom, or_same, placed, MovedBelow}

-- ---- marks

split_le : (k r : ℕ) → k ≤ r → (r ≡ k) ⊎ (suc k ≤ r)
split_le zero zero l = inl refl
split_le zero (suc r) l = inr (omega arith)
split_le (suc k) zero l = absurd (omega arith)
split_le (suc k) (suc r) l = up (split_le k r (omega arith)) where
  up : (r ≡ k) ⊎ (suc k ≤ r) → (suc r ≡ suc k) ⊎ (suc (suc k) ≤ suc r)
  up (inl e) = inl (ap suc e)
  up (inr h) = inr (omega (arith, h))

pub closed_step : (k : ℕ) (s : Store) (m m' : List Bool) (xs : List Value) → ((c : ℕ) (ys : List Value) → IsRow s k c ys → xs ≡ ys) → length m' ≡ length m → MarkedBelow k m' xs → ((r : ℕ) → Marked m r → Marked m' r) → ((r : ℕ) → k ≤ r → Marked m' r → Marked m r) → ClosedFrom (suc k) s m → ClosedFrom k s m'
closed_step k s m m' xs f n h keeps others closed r c ys l mark row i q e b w = by (split_le k r l) where
  same_row : r ≡ k → Marked m' q
  same_row z = h i q (ap (λ l. slice_get l i) (f c ys (subst (λ r. IsRow s r c ys) z row)) ∙ e) (subst (λ r. q < r) z b) w

  other : suc k ≤ r → Marked m' q
  other g = keeps q (closed r c ys g (others r l mark) row i q e b (subst (λ n. q < n) n w))

  by : (r ≡ k) ⊎ (suc k ≤ r) → Marked m' q
  by (inl z) = same_row z
  by (inr g) = other g

get_push : (ws : List Value) (w v : Value) (i : ℕ) → slice_get (ws ++ w ∷ []) i ≡ Some v → (slice_get ws i ≡ Some v) ⊎ (w ≡ v)
get_push [] w v zero e = inr (let z : Some w ≡ Some v = e in cc)
get_push [] w v (suc i) e = cc
get_push (x ∷ ws) w v zero e = inl e
get_push (x ∷ ws) w v (suc i) e = get_push ws w v i e

-- the values that were marked, and one more
pub marked_push : (limit : ℕ) (m m' : List Bool) (ws : List Value) (w : Value) → MarkedBelow limit m ws → ((r : ℕ) → w ≡ V.Row r → r < limit → r < length m → Marked m' r) → ((r : ℕ) → Marked m r → Marked m' r) → length m' ≡ length m → MarkedBelow limit m' (ws ++ w ∷ [])
marked_push limit m m' ws w h f keeps n i r e l b = by (get_push ws w (V.Row r) i e) where
  b' : r < length m
  b' = subst (λ n. r < n) n b

  by : (slice_get ws i ≡ Some (V.Row r)) ⊎ (w ≡ V.Row r) → Marked m' r
  by (inl g) = keeps r (h i r g l b')
  by (inr g) = f r g l b'

pub none_marked : (limit : ℕ) (m : List Bool) → MarkedBelow limit m []
none_marked limit m i r e = cc

pub all_below : (s : Store) (m : List Bool) (n : ℕ) → n ≡ count_rows s → length m ≡ count_rows s → ClosedFrom n s m
all_below s m n e f r c xs l mark row i q = absurd (let w = slice_get_within m r true mark in omega (arith, w, l, e, f))

-- ---- a row is moved

-- the fields of a row that is moved stand for the same trees
fields_moved : (s t : Store) (m : List Bool) (places : List ℕ) (r : ℕ) → MovedBelow r s m t places → (ws : List Value) → ((i q : ℕ) → slice_get ws i ≡ Some (V.Row q) → q < r → Marked m q) → (vs : Values) → HoldAll s r ws vs → HoldAll t (count_rows t) (map (placed places) ws) vs
fields_moved s t m places r move [] f End h = h
fields_moved s t m places r move [] f (Further v vs) h = h
fields_moved s t m places r move (w ∷ ws) f End h = h
fields_moved s t m places r move (w ∷ ws) f (Further v vs) h = (one v h.0, fields_moved s t m places r move ws (λ i q e. f (suc i) q e) vs h.1) where
  one : (v : Tree) → Holds s r w v → Holds t (count_rows t) (placed places w) v
  one (Int i) k = ap (placed places) k
  one (Node c End) k = ap (placed places) k
  one (Node c (Further u us)) k =
      let q = k.0 in
      let node = Node c (Further u us) in
      let mark = f zero q (ap Some k.2) k.3 in
      let new = move q node k.3 mark (q, k.1, refl, omega arith, k.4, k.5) in
      subst (λ w. Holds t (count_rows t) w node) (sym (ap (placed places) k.2 ∙ ap (λ o. or_same o (V.Row q)) new.1)) new.2

pub row_moves : (s t t' : Store) (m : List Bool) (places : List ℕ) (r tag : ℕ) (fields : List Value) (v : Tree) → More t t' → count_rows t' ≡ count_rows t + 1 → IsRow t' (count_rows t) tag (map (placed places) fields) → ((c : ℕ) (xs : List Value) → IsRow s r c xs → Some tag ≡ Some c) → ((c : ℕ) (xs : List Value) → IsRow s r c xs → fields ≡ xs) → ClosedFrom 0 s m → Marked m r → MovedBelow r s m t places → Holds s (suc r) (V.Row r) v → Stands t' (V.Row (count_rows t)) v
row_moves s t t' m places r tag fields (Int i) more n row tags same closed mark move h = cc
row_moves s t t' m places r tag fields (Node c End) more n row tags same closed mark move h = cc
row_moves s t t' m places r tag fields (Node c (Further v vs)) more n row tags same closed mark move h =
    let r_is : r ≡ h.0 = let z = h.2 in cc in
    let row_s = subst (λ r. IsRow s r c h.1) (sym r_is) h.4 in
    let tag_is : tag ≡ c = let z = tags c h.1 row_s in cc in
    let fields_are : fields ≡ h.1 = same c h.1 row_s in
    let held : HoldAll s r fields (Further v vs) = subst (λ r. HoldAll s r fields (Further v vs)) (sym r_is) (subst (λ ws. HoldAll s h.0 ws (Further v vs)) (sym fields_are) h.5) in
    let marks : (i q : ℕ) → slice_get fields i ≡ Some (V.Row q) → q < r → Marked m q = λ i q e l. let row_q = subst (λ ws. IsRow s r c ws) (sym fields_are) row_s in closed r c fields (omega arith) mark row_q i q e l (let w = slice_get_within m r true mark in omega (arith, w, l)) in
    let new = fields_moved s t m places r move fields marks (Further v vs) held in
    row_stands t t' (V.Row (count_rows t)) c (map (placed places) fields) (Further v vs) more (some fields held) refl (subst (λ c. IsRow t' (count_rows t) c (map (placed places) fields)) tag_is row) n new where
      some : (ws : List Value) → HoldAll s r ws (Further v vs) → 0 < length (map (placed places) ws)
      some [] h = absurd h
      some (w ∷ ws) h = omega arith

pub no_row_moves : (s t : Store) (r : ℕ) (w : Value) (v : Tree) → ((c : ℕ) (xs : List Value) → IsRow s r c xs → None ≡ Some c) → Holds s (suc r) (V.Row r) v → ⊥
no_row_moves s t r w (Int i) f h = cc
no_row_moves s t r w (Node c End) f h = cc
no_row_moves s t r w (Node c (Further v vs)) f h = let r_is : r ≡ h.0 = let z = h.2 in cc in let z = f c h.1 (subst (λ r. IsRow s r c h.1) (sym r_is) h.4) in cc

-- ---- rows are moved one after another

pub moved_none : (s t : Store) (m : List Bool) (places : List ℕ) → MovedBelow 0 s m t places
moved_none s t m places r v l = absurd (omega arith)

pub moved_more : (k : ℕ) (s t t' : Store) (m : List Bool) (places : List ℕ) (p : ℕ) → More t t' → MovedBelow k s m t places → MovedBelow k s m t' (places ++ p ∷ [])
moved_more k s t t' m places p more h r v l mark held =
    let a = h r v l mark held in
    (a.0, get_left places (p ∷ []) r a.0 a.1, more_stands t t' (V.Row a.0) v more a.2)

pub moved_step : (k : ℕ) (s t : Store) (m : List Bool) (places : List ℕ) (p : ℕ) → length places ≡ suc k → slice_get places k ≡ Some p → ((v : Tree) → Marked m k → Holds s (suc k) (V.Row k) v → Stands t (V.Row p) v) → MovedBelow k s m t places → MovedBelow (suc k) s m t places
moved_step k s t m places p n e f h r v l mark held = by (split_le r k (omega arith)) where
  by : (k ≡ r) ⊎ (suc r ≤ k) → (q : ℕ) × (slice_get places r ≡ Some q) × Stands t (V.Row q) v
  by (inl z) = (p, ap (slice_get places) (sym z) ∙ e, f v (subst (Marked m) (sym z) mark) (subst (λ r. Holds s (suc r) (V.Row r) v) (sym z) held))
  by (inr g) = h r v (omega (arith, g)) mark held

-- ---- all values are moved

pub collected : (s t : Store) (m : List Bool) (places : List ℕ) (ws us : List Value) → length m ≡ count_rows s → MarkedBelow (count_rows s) m ws → MovedBelow (length m) s m t places → us ≡ map (placed places) ws → KeepsAll s ws t us
collected s t m places ws us n roots move e i v h = (placed places h.0, ap (λ l. slice_get l i) e ∙ slice_get-map (placed places) ws i ∙ ap (option_map (placed places)) h.1, one v h.2) where
  one : (v : Tree) → Stands s h.0 v → Stands t (placed places h.0) v
  one (Int j) k = ap (placed places) k
  one (Node c End) k = ap (placed places) k
  one (Node c (Further u us)) k =
      let q = k.0 in
      let node = Node c (Further u us) in
      let below : q < count_rows s = k.3 in
      let in_m : q < length m = omega (arith, below, n) in
      let mark = roots i q (h.1 ∙ ap Some k.2) below in_m in
      let new = move q node in_m mark (q, k.1, refl, omega arith, k.4, k.5) in
      subst (λ w. Stands t w node) (sym (ap (placed places) k.2 ∙ ap (λ o. or_same o (V.Row q)) new.1)) new.2

pub take_all : (ws : List Value) (i : ℕ) → length ws ≤ i → take i ws ≡ ws
take_all [] zero h = refl
take_all [] (suc i) h = refl
take_all (w ∷ ws) zero h = absurd (omega arith)
take_all (w ∷ ws) (suc i) h = ap (λ l. w ∷ l) (take_all ws i (omega arith))

pub closed_skip : (k : ℕ) (s : Store) (m : List Bool) → (Marked m k → ⊥) → ClosedFrom (suc k) s m → ClosedFrom k s m
closed_skip k s m f closed r c ys l mark = by (split_le k r l) where
  by : (r ≡ k) ⊎ (suc k ≤ r) → IsRow s r c ys → MarkedBelow r m ys
  by (inl z) = absurd (f (subst (Marked m) z mark))
  by (inr g) = closed r c ys g mark

pub roots_keep : (limit : ℕ) (m m' : List Bool) (ws : List Value) → ((r : ℕ) → Marked m r → Marked m' r) → length m' ≡ length m → MarkedBelow limit m ws → MarkedBelow limit m' ws
roots_keep limit m m' ws keeps n h i r e l b = keeps r (h i r e l (subst (λ n. r < n) n b))

pub closed_all : (k : ℕ) (s : Store) (m : List Bool) → k ≤ 0 → ClosedFrom k s m → ClosedFrom 0 s m
closed_all k s m z h r c xs l = h r c xs (omega (arith, z, l))

pub place_step : (f : Value → Value) (old : List Value) (i : ℕ) (x y : Value) → i < length old → x ≡ get_or (map f (take i old) ++ drop i old) i x → y ≡ f x → set (map f (take i old) ++ drop i old) i y ≡ map f (take (suc i) old) ++ drop (suc i) old
place_step f [] i x y l e g = absurd (omega arith)
place_step f (z ∷ zs) zero x y l e g = ap (λ v. v ∷ zs) (g ∙ ap f e)
place_step f (z ∷ zs) (suc i) x y l e g = ap (λ l. f z ∷ l) (place_step f zs i x y (omega arith) e g)

pub moved_same : (k : ℕ) (s t : Store) (m : List Bool) (places places' : List ℕ) (p : ℕ) → places' ≡ places ++ p ∷ [] → MovedBelow k s m t places → MovedBelow k s m t places'
moved_same k s t m places places' p e h r v l mark held = let a = h r v l mark held in (a.0, ap (λ l. slice_get l r) e ∙ get_left places (p ∷ []) r a.0 a.1, a.2)
