-- Where no cell is released, cells are made after all others: those of values lie in the order of their ).
-- The idea: the places and words of values in a row are those of the first, then those of the rest after them.
use Rattle.std.proofs.Common.{◌≡◌, ◌⊎◌, inl, inr, ℕ, zero, suc, ◌+◌, ◌-◌, ◌*◌, ◌<◌, ◌≤◌, List, [], ◌∷◌, ◌++◌, length, take, drop, Some, None, Bool, false, refl, sym, ap, ap₂, ◌∙◌, subst, arith, length-append, append_assoc, append-nil}
use Rattle.std.specs.Prelude.{replicate}
use Rattle.std.proofs.lemmas.List.{length-replicate}
use Rattle.std.proofs.Math.Seq.{take-append_seam, drop-append_seam}
use Rattle.fip_language.specs.Values.{Value, Node, Values, End, More, count_of}
use Rattle.fip_language.specs.Store.{Cell}
use Rattle.cell_store.specs.Cells.{Cells, size_of, count_free}
use Rattle.cell_store.specs.Made.{Loading, IsAppended}
use Rattle.cell_store.proofs.Freed.{free_append}
use Rattle.value_text.specs.Machine.{join, snoc}
use Rattle.value_text.specs.declared.read.Event.TheVariants as E
use Rattle.value_text.specs.FirstStore.{places_of, place_word, value_places, all_places, value_word, all_words, credit_cell, credit_places, credit_words, loaded_places, loaded_words, IsAfter}
use Rattle.value_text.specs.Loaded.{free_in, HasNoFree}
use Rattle.value_text.specs.Building.{IsMade, Lie, LieWith}
use Rattle.value_text.proofs.Counted.{Grows}

-- ---- values in a row

after_value : (n : ℕ) (v : Value) (vs : Values) → (n + length (value_places n v)) + length (all_places (n + length (value_places n v)) vs) ≡ n + length (value_places n v ++ all_places (n + length (value_places n v)) vs)
after_value n v vs = let a = length-append (value_places n v) (all_places (n + length (value_places n v)) vs) in omega (arith, a)

pub places_join : (n : ℕ) (xs ys : Values) → all_places n (join xs ys) ≡ all_places n xs ++ all_places (n + length (all_places n xs)) ys
places_join n End ys = ap (λ n. all_places n ys) (let z : n ≡ n + 0 = omega arith in z)
places_join n (More v vs) ys =
    let m : ℕ = n + length (value_places n v) in
    ap (λ os. value_places n v ++ os) (places_join m vs ys)
    ∙ sym (append_assoc (value_places n v) (all_places m vs) (all_places (m + length (all_places m vs)) ys))
    ∙ ap (λ k. (value_places n v ++ all_places m vs) ++ all_places k ys) (after_value n v vs)

pub words_join_at : (n : ℕ) (xs ys : Values) → all_words n (join xs ys) ≡ all_words n xs ++ all_words (n + length (all_places n xs)) ys
words_join_at n End ys = ap (λ n. all_words n ys) (let z : n ≡ n + 0 = omega arith in z)
words_join_at n (More v vs) ys =
    let m : ℕ = n + length (value_places n v) in
    ap (λ ws. value_word n v ∷ ws) (words_join_at m vs ys ∙ ap (λ k. all_words m vs ++ all_words k ys) (after_value n v vs))

pub words_counted : (n : ℕ) (vs : Values) → length (all_words n vs) ≡ count_of vs
words_counted n End = refl
words_counted n (More v vs) = ap suc (words_counted (n + length (value_places n v)) vs)

-- ---- a node over the values before it

node_places : (n c : ℕ) (vs : Values) → 0 < count_of vs → value_places n (Node c vs) ≡ all_places n vs ++ places_of (record { tag = c; fields = all_words n vs })
node_places n c End p = absurd (omega (arith, p))
node_places n c (More v vs) p = refl

node_word : (n c : ℕ) (vs : Values) → 0 < count_of vs → value_word n (Node c vs) ≡ place_word (n + length (all_places n vs))
node_word n c End p = absurd (omega (arith, p))
node_word n c (More v vs) p = refl

-- ---- a cell after all others

replicate_join : (m n : ℕ) → replicate m false ++ replicate n false ≡ replicate (m + n) false
replicate_join zero n = ap (λ k. replicate k false) (let z : n ≡ 0 + n = omega arith in z)
replicate_join (suc m) n = ap (λ (rs : List Bool). false ∷ rs) (replicate_join m n) ∙ ap (λ k. replicate k false) (let z : suc (m + n) ≡ suc m + n = omega arith in z)

row_free : (k : ℕ) (row : Cells) → count_free k row (replicate (length row) false) ≡ 0
row_free k [] = refl
row_free k (None ∷ os) = row_free k os
row_free k (Some c ∷ os) = let h = row_free k os in omega (arith, h)

none_free : (first now : Loading) (row : Cells) → HasNoFree first → length now.released ≡ length now.cells → IsAfter first now row → HasNoFree now
none_free first now row h flags b k =
    let long : length first.released ≡ length first.cells =
    let a = ap length b.cells ∙ length-append first.cells row in
    let d = ap length b.released ∙ length-append first.released (replicate (length row) false) in
    let e = length-replicate {A = Bool} (length row) false in
    omega (arith, a, d, e, flags) in
    let z = h k in
    let y = row_free k row in
    ap₂ (λ cs rs. count_free k cs rs) b.cells b.released ∙ free_append k first.cells row first.released (replicate (length row) false) long ∙ (let w : count_free k first.cells first.released + count_free k row (replicate (length row) false) ≡ 0 = omega (arith, z, y) in w)

appended_of : (now new : Loading) (p : ℕ) (c : Cell) → HasNoFree now → IsMade now new p c → IsAppended now new p c
appended_of now new p c h (inl m) = absurd (let z = h (size_of c) in let l = m.0 in omega (arith, z, l))
appended_of now new p c h (inr m) = m.1

after_on : (first now new : Loading) (row : Cells) (p : ℕ) (c : Cell) → IsAfter first now row → IsAppended now new p c → IsAfter first new (row ++ places_of c)
after_on first now new row p c b a = record {
  cells = a.cells ∙ ap (λ cs. cs ++ places_of c) b.cells ∙ append_assoc first.cells row (places_of c);
  released = a.released ∙ ap (λ rs. rs ++ replicate (suc (size_of c)) false) b.released ∙ append_assoc first.released (replicate (length row) false) (replicate (suc (size_of c)) false) ∙ ap (λ rs. first.released ++ rs) (replicate_join (length row) (suc (size_of c)) ∙ ap (λ n. replicate n false) long);
}
  where
    long : length row + suc (size_of c) ≡ length (row ++ places_of c)
    long =
        let x = length-append row (places_of c) in
        let y = ap suc (length-replicate (size_of c) None) in
        let z : length (places_of c) ≡ suc (size_of c) = y in
        omega (arith, x, z)

-- ---- what each event does

pub lies_leaf : (first now : Loading) (vs vs' : Values) (ws ws' : List ℕ) (v : Value) (w : ℕ) → ((n : ℕ) → value_places n v ≡ []) → ((n : ℕ) → value_word n v ≡ w) → vs' ≡ snoc vs v → ws' ≡ ws ++ w ∷ [] → Lie first now vs ws → Lie first now vs' ws'
lies_leaf first now vs vs' ws ws' v w none word e f h =
    let n : ℕ = length first.cells in
    let m : ℕ = n + length (all_places n vs) in
    let same : all_places n vs ≡ all_places n vs' = sym (ap (all_places n) e ∙ places_join n vs (More v End) ∙ ap (λ os. all_places n vs ++ (os ++ [])) (none m) ∙ append-nil (all_places n vs)) in (
      subst (IsAfter first now) same h.0,
      f ∙ ap₂ (λ ws w. ws ++ w ∷ []) h.1 (sym (word m)) ∙ sym (ap (all_words n) e ∙ words_join_at n vs (More v End)),
    )

module _ (first now new : Loading) (vs vs' : Values) (ws ws' : List ℕ) (c n p : ℕ) (h : Lie first now vs ws) (g : Grows (E.Closed c n) vs vs') (w : ws' ≡ take (length ws - n) ws ++ (2 * p + 1) ∷ []) (a : IsAppended now new p (record { tag = c; fields = drop (length ws - n) ws })) where
  abbrev start : ℕ
  start = length first.cells

  abbrev mid : ℕ
  mid = start + length (all_places start g.0)

  joined : ws ≡ all_words start g.0 ++ all_words mid g.1
  joined = h.1 ∙ ap (all_words start) g.2 ∙ words_join_at start g.0 g.1

  seam : length ws - n ≡ length (all_words start g.0)
  seam =
      let x = ap length joined ∙ length-append (all_words start g.0) (all_words mid g.1) in
      let y = words_counted mid g.1 in
      let z = g.3 in
      omega (arith, x, y, z)

  front : take (length ws - n) ws ≡ all_words start g.0
  front = ap₂ take seam joined ∙ take-append_seam (all_words start g.0) (all_words mid g.1)

  back : drop (length ws - n) ws ≡ all_words mid g.1
  back = ap₂ drop seam joined ∙ drop-append_seam (all_words start g.0) (all_words mid g.1)

  some : 0 < count_of g.1
  some = let x = g.3 in let y = g.4 in omega (arith, x, y)

  row : all_places start vs ≡ all_places start g.0 ++ all_places mid g.1
  row = ap (all_places start) g.2 ∙ places_join start g.0 g.1

  abbrev own : Cell
  own = record { tag = c; fields = all_words mid g.1 }

  places : all_places start vs' ≡ all_places start vs ++ places_of own
  places = ap (all_places start) g.5 ∙ places_join start g.0 (More (Node c g.1) End) ∙ ap (λ os. all_places start g.0 ++ os) (append-nil (value_places mid (Node c g.1)) ∙ node_places mid c g.1 some) ∙ sym (append_assoc (all_places start g.0) (all_places mid g.1) (places_of own)) ∙ ap (λ os. os ++ places_of own) (sym row)

  place : p ≡ mid + length (all_places mid g.1)
  place =
      let x = a.place in
      let y = ap length (h.0).cells ∙ length-append first.cells (all_places start vs) in
      let z = ap length row ∙ length-append (all_places start g.0) (all_places mid g.1) in
      omega (arith, x, y, z)

  pub lies_node : Lie first new vs' ws'
  lies_node = (
    subst (IsAfter first new) (sym places) (after_on first now new (all_places start vs) p own h.0 (subst (λ (fs : List ℕ). IsAppended now new p (record { tag = c; fields = fs })) back a)),
    w ∙ ap₂ (λ ws k. ws ++ k ∷ []) front (ap place_word place ∙ sym (node_word mid c g.1 some)) ∙ sym (ap (all_words start) g.5 ∙ words_join_at start g.0 (More (Node c g.1) End)),
  )

pub lies_closed : (first now new : Loading) (vs vs' : Values) (ws ws' : List ℕ) (c n p : ℕ) → (HasNoFree first → Lie first now vs ws) → length now.released ≡ length now.cells → Grows (E.Closed c n) vs vs' → ws' ≡ take (length ws - n) ws ++ (2 * p + 1) ∷ [] → IsMade now new p (record { tag = c; fields = drop (length ws - n) ws }) → HasNoFree first → Lie first new vs' ws'
lies_closed first now new vs vs' ws ws' c n p h flags g w m free =
    let l = h free in
    lies_node first now new vs vs' ws ws' c n p l g w (appended_of now new p (record { tag = c; fields = drop (length ws - n) ws }) (none_free first now (all_places (length first.cells) vs) free flags l.0) m)

pub lies_starts : (first now : Loading) (vs : Values) (ws : List ℕ) → now ≡ first → vs ≡ End → ws ≡ [] → Lie first now vs ws
lies_starts first now vs ws e v w = subst (λ now. Lie first now vs ws) (sym e) (subst (λ vs. Lie first first vs ws) (sym v) (subst (λ ws. Lie first first End ws) (sym w) (
  record { cells = sym (append-nil first.cells); released = sym (append-nil first.released) },
  refl,
)))

-- ---- the credits' cells after them

credit_long : (k : ℕ) → length (places_of (credit_cell k)) ≡ suc k
credit_long k = ap suc (length-replicate (size_of (credit_cell k)) None ∙ length-replicate {A = ℕ} k 0)

credit_places_on : (ks : List ℕ) (s : ℕ) → credit_places (ks ++ s ∷ []) ≡ credit_places ks ++ places_of (credit_cell s)
credit_places_on [] s = append-nil (places_of (credit_cell s))
credit_places_on (k ∷ ks) s = ap (λ os. places_of (credit_cell k) ++ os) (credit_places_on ks s) ∙ sym (append_assoc (places_of (credit_cell k)) (credit_places ks) (places_of (credit_cell s)))

credit_words_on : (n : ℕ) (ks : List ℕ) (s : ℕ) → credit_words n (ks ++ s ∷ []) ≡ credit_words n ks ++ place_word (n + length (credit_places ks)) ∷ []
credit_words_on n [] s = ap (λ k. place_word k ∷ []) (let z : n ≡ n + 0 = omega arith in z)
credit_words_on n (k ∷ ks) s = ap (λ ws. place_word n ∷ ws) (credit_words_on (n + suc k) ks s ∙ ap (λ m. credit_words (n + suc k) ks ++ place_word m ∷ []) long)
  where
    long : (n + suc k) + length (credit_places ks) ≡ n + length (places_of (credit_cell k) ++ credit_places ks)
    long =
        let a = length-append (places_of (credit_cell k)) (credit_places ks) in
        let b = credit_long k in
        omega (arith, a, b)

pub lies_credited : (first now : Loading) (vs : Values) (ws : List ℕ) → Lie first now vs ws → LieWith [] first now vs ws
lies_credited first now vs ws h = (
  subst (IsAfter first now) (sym (append-nil (all_places (length first.cells) vs))) h.0,
  h.1 ∙ sym (append-nil (all_words (length first.cells) vs)),
)

pub lies_credit : (ks : List ℕ) (s : ℕ) (first now new : Loading) (vs : Values) (ws ws' : List ℕ) (p : ℕ) → (HasNoFree first → LieWith ks first now vs ws) → length now.released ≡ length now.cells → ws' ≡ ws ++ (2 * p + 1) ∷ [] → IsMade now new p (record { tag = 0; fields = replicate s 0 }) → HasNoFree first → LieWith (ks ++ s ∷ []) first new vs ws'
lies_credit ks s first now new vs ws ws' p h flags w m free =
    let n : ℕ = length first.cells in
    let l = h free in
    let a = appended_of now new p (credit_cell s) (none_free first now (loaded_places n vs ks) free flags l.0) m in
    let places : loaded_places n vs (ks ++ s ∷ []) ≡ loaded_places n vs ks ++ places_of (credit_cell s) = ap (λ os. all_places n vs ++ os) (credit_places_on ks s) ∙ sym (append_assoc (all_places n vs) (credit_places ks) (places_of (credit_cell s))) in
    let place : p ≡ (n + length (all_places n vs)) + length (credit_places ks) =
    let x = a.place in
    let y = ap length (l.0).cells ∙ length-append first.cells (loaded_places n vs ks) in
    let z = length-append (all_places n vs) (credit_places ks) in
    omega (arith, x, y, z) in (
      subst (IsAfter first new) (sym places) (after_on first now new (loaded_places n vs ks) p (credit_cell s) l.0 a),
      w ∙ ap₂ (λ ws k. ws ++ place_word k ∷ []) l.1 place ∙ append_assoc (all_words n vs) (credit_words (n + length (all_places n vs)) ks) (place_word ((n + length (all_places n vs)) + length (credit_places ks)) ∷ []) ∙ ap (λ ws. all_words n vs ++ ws) (sym (credit_words_on (n + length (all_places n vs)) ks s)),
    )
