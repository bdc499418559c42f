-- What each task makes.
use Rattle.std.proofs.Common.{◌≡◌, ◌≢◌, ◌⊎◌, inl, inr, ℕ, zero, suc, ◌+◌, ◌-◌, ◌*◌, ◌<◌, ◌≤◌, ◌/◌, ◌%◌, ◌^◌, List, [], ◌∷◌, ◌++◌, length, take, drop, Option, Some, None, refl, sym, ap, ap₂, ◌∙◌, subst, append_assoc, append-nil, take-append-drop, length-append, length-drop, arith}
use Rattle.std.specs.Prelude.{Result, Ok, Err, OnOk, slice_get, ℤ, FitsSigned, option_map}
use Rattle.std.specs.Int.{w64}
use Rattle.std.specs.Borrow.{Bor}
use Rattle.fip_base.specs.fip_language.Values.{Value as Tree, Node, Values, End, More as Further}
use Rattle.fip_base.specs.fip_language.Table.{Shape, Table, constructors}
use Rattle.fip_base.specs.fip_language.Store.{Cell, Placed, PlacedInt, Bare, At, Parts, NoParts, MoreParts, int_word, value_of, values_of, word_of, words_of}
use Rattle.cell_store.specs.Cells.{Cells, cell_at, size_of}
use Rattle.value_text.specs.Standing.{Stands as CellStands, StandAll as CellsStand}
use Rattle.value_text.specs.Printing.{AreLast}
use Rattle.value_text.specs.Loaded.{types_of}
use Rattle.fip_base.specs.declared.plain.Param.{Param}
use Rattle.value_text.proofs.Printing.{bits_same, stand_length, odd_cell, node_of, node_last, node_none, node_shape}
use Rattle.value_text.proofs.Fields.{size_is, tag_is}
use Rattle.plain_rows.specs.declared.store.Value.{Value}
use Rattle.plain_rows.specs.declared.store.Value.TheVariants as V
use Rattle.plain_rows.specs.declared.store.Store.{Store}
use Rattle.plain_rows.specs.declared.load.Rows.{Rows}
use Rattle.plain_rows.specs.declared.load.Task.{Task}
use Rattle.plain_rows.specs.declared.load.Task.TheVariants as T
use Rattle.plain_rows.specs.Rows.{count_rows, Holds, HoldAll, Stands, StandAll, More}
use Rattle.plain_rows.specs.Loading.{all_of, each_of, last_first, Makes, Loads}
use Rattle.plain_rows.proofs.Standing.{more_stand_all}
use Rattle.fip_base.proofs.fip_language.Facts.{drop_cons}
use Rattle.value_text.proofs.Printing.{last_fewer}

pub last_push : (ts : List Task) (t : Task) → last_first (ts ++ t ∷ []) ≡ t ∷ last_first ts
unfolding last_first
last_push [] t = refl
last_push (u ∷ ts) t = ap (λ l. l ++ u ∷ []) (last_push ts t)

pub last_empty : last_first [] ≡ []
unfolding last_first
last_empty = refl

pub none_left : (ts : List Task) → length ts ≡ 0 → last_first ts ≡ []
none_left [] e = last_empty
none_left (t ∷ ts) e = absurd (omega arith)

all_each : (vs : Values) → all_of (each_of vs) ≡ vs
all_each End = refl
all_each (Further v vs) = ap (Further v) (all_each vs)

-- ---- values that stand for trees

pub all_push : (s : Store) (n : ℕ) (ws : List Value) (vs : List Tree) (w : Value) (v : Tree) → HoldAll s n ws (all_of vs) → Holds s n w v → HoldAll s n (ws ++ w ∷ []) (all_of (vs ++ v ∷ []))
all_push s n [] [] w v h k = (k, tt)
all_push s n [] (u ∷ vs) w v h k = absurd h
all_push s n (x ∷ ws) [] w v h k = absurd h
all_push s n (x ∷ ws) (u ∷ vs) w v h k = (h.0, all_push s n ws vs w v h.1 k)

all_split : (s : Store) (n : ℕ) (ws : List Value) (bs vs : List Tree) → HoldAll s n ws (all_of (bs ++ vs)) → HoldAll s n (take (length bs) ws) (all_of bs) × HoldAll s n (drop (length bs) ws) (all_of vs)
all_split s n ws [] vs h = (tt, h)
all_split s n [] (b ∷ bs) vs h = absurd h
all_split s n (w ∷ ws) (b ∷ bs) vs h = let k = all_split s n ws bs vs h.1 in ((h.0, k.0), k.1)

all_length : (s : Store) (n : ℕ) (ws : List Value) (vs : List Tree) → HoldAll s n ws (all_of vs) → length ws ≡ length vs
all_length s n [] [] h = refl
all_length s n [] (v ∷ vs) h = absurd h
all_length s n (w ∷ ws) [] h = absurd h
all_length s n (w ∷ ws) (v ∷ vs) h = ap suc (all_length s n ws vs h.1)

-- ---- a word

-- the value stands for whatever the word stands for
abbrev pub IsOf : Table → Cells → ℕ → ℕ → Store → Value → Type 0
IsOf tb cs ty w s v = (x : Placed) → CellStands tb cs ty x → word_of x ≡ w → Stands s v (value_of x)

pub leaf_loads : (tb : Table) (cs : Cells) (ty w : ℕ) (ts : List Task) (rows rows' : Rows) (v : Value) (whole : List Tree) → rows'.store ≡ rows.store → rows'.values.items ≡ rows.values.items ++ v ∷ [] → IsOf tb cs ty w rows.store v → Loads tb cs (T.Whole ty w ∷ ts) rows whole → Loads tb cs ts rows' whole
leaf_loads tb cs ty w ts rows rows' v whole es ev f h =
    let k = h.2 in
    let x = k.0 in
    let made = h.0 ++ value_of x ∷ [] in
    let stand = all_push rows.store (count_rows rows.store) rows.values.items h.0 v (value_of x) h.1 (f x k.1 k.2) in
    (made, subst (λ s. StandAll s rows'.values.items (all_of made)) (sym es) (subst (λ l. StandAll rows.store l (all_of made)) (sym ev) stand), k.3)

pub leaf_result : {E : Type 0} (tb : Table) (cs : Cells) (ty w : ℕ) (ts : List Task) (rows rows' : Rows) (v : Value) (r : Result (Unit {0}) E) → rows'.store ≡ rows.store → OnOk r (rows'.values.items ≡ rows.values.items ++ v ∷ []) → IsOf tb cs ty w rows.store v → OnOk r ((whole : List Tree) → Loads tb cs (T.Whole ty w ∷ ts) rows whole → Loads tb cs ts rows' whole)
leaf_result tb cs ty w ts rows rows' v (Ok u) es ev f = λ whole. leaf_loads tb cs ty w ts rows rows' v whole es ev f
leaf_result tb cs ty w ts rows rows' v (Err x) es ev f = tt

pub int_is : (tb : Table) (cs : Cells) (ty w : ℕ) (s : Store) (j : ℤ) → ty ≡ 0 → int_word j ≡ w → FitsSigned w64 j → IsOf tb cs ty w s (V.Int j)
int_is tb cs zero w s j z e f (PlacedInt i) h q = ap V.Int (bits_same j i f h (e ∙ sym q))
int_is tb cs zero w s j z e f (Bare c) h q = absurd h
int_is tb cs zero w s j z e f (At p c xs) h q = absurd h
int_is tb cs (suc t) w s j z e f x h q = cc

pub even_is : (tb : Table) (cs : Cells) (ty w : ℕ) (s : Store) → 0 < ty → w % 2 ≡ 0 → IsOf tb cs ty w s (V.Bare (w / 2))
even_is tb cs zero w s z e x h q = absurd (omega (arith, z))
even_is tb cs (suc t) w s z e (PlacedInt i) h q = absurd h
even_is tb cs (suc t) w s z e (Bare c) h q = let n : w / 2 ≡ c = let k : 2 * c ≡ w = q in omega (arith, k) in ap V.Bare n
even_is tb cs (suc t) w s z e (At p c xs) h q = absurd (let k : 2 * p + 1 ≡ w = q in omega (arith, k, e))

pub far_is : (tb : Table) (cs : Cells) (ty w : ℕ) (s : Store) (v : Value) → 0 < ty → w % 2 ≢ 0 → length cs ≤ 2 ^ 32 → 4294967295 < w / 2 → IsOf tb cs ty w s v
far_is tb cs ty w s v z e few big x h q = let n = odd_cell tb cs ty w x z e h q in let l = n.4 in absurd (omega (arith, few, l, big))

pub none_is : (tb : Table) (cs : Cells) (ty w : ℕ) (s : Store) (v : Value) → 0 < ty → w % 2 ≢ 0 → (cell_at cs (w / 2) ≢ None → ⊥) → IsOf tb cs ty w s v
none_is tb cs ty w s v z e f x h q = let n = odd_cell tb cs ty w x z e h q in absurd (f n.5)

pub unnamed_is : (tb : Table) (cs : Cells) (ty w tag : ℕ) (s : Store) (v : Value) → 0 < ty → w % 2 ≢ 0 → option_map (λ (c : Cell). c.tag) (cell_at cs (w / 2)) ≡ Some tag → slice_get (constructors tb ty) tag ≡ None → IsOf tb cs ty w s v
unnamed_is tb cs ty w tag s v z e t f x h q =
    let n = odd_cell tb cs ty w x z e h q in
    let k = node_of tb cs ty (w / 2) n.0 n.1 n.2 in
    absurd (node_none tb cs ty (w / 2) n.0 tag n.1 k (tag_is cs (w / 2) tag _ k.cell t) f)

-- a cell is begun
pub cell_begins : (tb : Table) (cs : Cells) (ty w tag : ℕ) (shape : Shape) (types : Bor (List ℕ)) (ts : List Task) (rows : Rows) (whole : List Tree) → 0 < ty → w % 2 ≢ 0 → option_map (λ (c : Cell). c.tag) (cell_at cs (w / 2)) ≡ Some tag → slice_get (constructors tb ty) tag ≡ Some shape → types.now ≡ shape.fields → Loads tb cs (T.Whole ty w ∷ ts) rows whole → Loads tb cs (T.Fields types (w / 2) ∷ ts) rows whole
cell_begins tb cs ty w tag shape types ts rows whole z e t f g h =
    let k = h.2 in
    let n = odd_cell tb cs ty w k.0 z e k.1 k.2 in
    let c = n.0 in
    let xs = n.1 in
    let node = node_of tb cs ty (w / 2) c xs n.2 in
    let same = node_shape tb cs ty (w / 2) c tag xs node shape (tag_is cs (w / 2) tag _ node.cell t) f in
    let fields : types.now ≡ (node.s).fields = g ∙ ap (λ (r : Shape). r.fields) same in
    let cell : Cell = record { tag = c; fields = words_of xs } in
    let tree : value_of k.0 ≡ Node c (all_of (each_of (values_of xs))) = ap value_of n.3 ∙ ap (Node c) (sym (all_each (values_of xs))) in (
      h.0,
      h.1,
      (
        cell,
        xs,
        subst (λ ks. AreLast tb cs ks (w / 2) cell xs) (sym fields) (node_last tb cs ty (w / 2) c xs node),
        h.0,
        [],
        sym (append-nil h.0),
        (let q = ap length fields ∙ stand_length tb cs (node.s).fields xs node.stand in omega (arith, q)),
        subst (λ (v : Tree). Makes tb cs ts (h.0 ++ v ∷ []) whole) tree k.3,
      ),
    )

-- ---- the fields of a cell

-- the word that was found is the first field's
abbrev IsFirst : Cells → ℕ → List ℕ → Option ℕ → Type 0
IsFirst cs p types o = (c : Cell) → cell_at cs p ≡ Some c → 0 < length types → length types ≤ length c.fields → o ≡ slice_get c.fields (length c.fields - length types)

fields_by : (tb : Table) (cs : Cells) (k : ℕ) (ks : Bor (List ℕ)) (p : ℕ) (w : ℕ) (ts : List Task) (made whole : List Tree) (c : Cell) (xs : Parts) (before vs : List Tree) → AreLast tb cs (k ∷ ks.now) p c xs → made ≡ before ++ vs → length vs + suc (length ks.now) ≡ length c.fields → Makes tb cs ts (before ++ Node c.tag (all_of (vs ++ each_of (values_of xs))) ∷ []) whole → IsFirst cs p (k ∷ ks.now) (Some w) → Makes tb cs (T.Whole k w ∷ T.Fields ks p ∷ ts) made whole
fields_by tb cs k ks p w ts made whole c NoParts before vs l e n m f = absurd l.stand
fields_by tb cs k ks p w ts made whole c (MoreParts x xs) before vs l e n m f =
    let d = last_fewer tb cs k ks.now p c x xs l in
    let le = d.2 in
    let same : word_of x ≡ w = let q = f c l.there (omega arith) le ∙ d.0 in cc in (
      x,
      (l.stand).0,
      same,
      (
        c,
        xs,
        d.1,
        before,
        vs ++ value_of x ∷ [],
        ap (λ m. m ++ value_of x ∷ []) e ∙ append_assoc before vs (value_of x ∷ []),
        (let z = length-append vs (value_of x ∷ []) in omega (arith, n, z)),
        subst (λ l. Makes tb cs ts (before ++ Node c.tag (all_of l) ∷ []) whole) (sym (append_assoc vs (value_of x ∷ []) (each_of (values_of xs)))) m,
      ),
    )

pub fields_go_on : (tb : Table) (cs : Cells) (types : Bor (List ℕ)) (k : ℕ) (ks : Bor (List ℕ)) (p w : ℕ) (ts ts' : List Task) (rows : Rows) (whole : List Tree) → types.now ≡ k ∷ ks.now → IsFirst cs p types.now (Some w) → ts' ≡ T.Whole k w ∷ T.Fields ks p ∷ ts → Loads tb cs (T.Fields types p ∷ ts) rows whole → Loads tb cs ts' rows whole
fields_go_on tb cs types k ks p w ts ts' rows whole e f t h =
    let m = h.2 in
    let n : length m.4 + suc (length ks.now) ≡ length (m.0).fields = ap (λ l. length m.4 + length l) (sym e) ∙ m.6 in
    (h.0, h.1, subst (λ ts. Makes tb cs ts h.0 whole) (sym t) (fields_by tb cs k ks p w ts h.0 whole m.0 m.1 m.3 m.4 (subst (λ l. AreLast tb cs l p m.0 m.1) e m.2) m.5 n m.7 (subst (λ l. IsFirst cs p l (Some w)) e f)))

-- a field that is there is found
no_first : (tb : Table) (cs : Cells) (k : ℕ) (ks : List ℕ) (p : ℕ) (c : Cell) (xs : Parts) → AreLast tb cs (k ∷ ks) p c xs → IsFirst cs p (k ∷ ks) None → ⊥
no_first tb cs k ks p c NoParts l f = l.stand
no_first tb cs k ks p c (MoreParts x xs) l f =
    let d = last_fewer tb cs k ks p c x xs l in
    let le = d.2 in
    let q : None ≡ Some (word_of x) = f c l.there (omega arith) le ∙ d.0 in cc

pub no_field : (tb : Table) (cs : Cells) (types : Bor (List ℕ)) (k : ℕ) (ks : List ℕ) (p : ℕ) (ts : List Task) (rows : Rows) (whole : List Tree) → types.now ≡ k ∷ ks → IsFirst cs p types.now None → Loads tb cs (T.Fields types p ∷ ts) rows whole → ⊥
no_field tb cs types k ks p ts rows whole e f h =
    let m = h.2 in
    no_first tb cs k ks p m.0 m.1 (subst (λ l. AreLast tb cs l p m.0 m.1) e m.2) (subst (λ l. IsFirst cs p l None) e f)

-- the cell's value is made
no_parts : (tb : Table) (cs : Cells) (types : List ℕ) (xs : Parts) → types ≡ [] → CellsStand tb cs types xs → each_of (values_of xs) ≡ []
no_parts tb cs [] NoParts e h = refl
no_parts tb cs [] (MoreParts x xs) e h = absurd h
no_parts tb cs (k ∷ ks) xs e h = cc

-- what folding the last values does
abbrev Folds : Store → Store → ℕ → ℕ → List Value → List Value → Type 0
Folds s t tag size old new = (before fields : List Value) (vs : Values) → old ≡ before ++ fields → length fields ≡ size → StandAll s fields vs → (w : Value) × (new ≡ before ++ w ∷ []) × Stands t w (Node tag vs)

end_by : (tb : Table) (cs : Cells) (ts : List Task) (rows rows' : Rows) (tag size : ℕ) (before vs : List Tree) (whole : List Tree) → More rows.store rows'.store → Folds rows.store rows'.store tag size rows.values.items rows'.values.items → StandAll rows.store rows.values.items (all_of (before ++ vs)) → length vs ≡ size → Makes tb cs ts (before ++ Node tag (all_of vs) ∷ []) whole → Loads tb cs ts rows' whole
end_by tb cs ts rows rows' tag size before vs whole more f a n m =
    let ws = rows.values.items in
    let i = length before in
    let k = all_split rows.store (count_rows rows.store) ws before vs a in
    let g = f (take i ws) (drop i ws) (all_of vs) (sym (take-append-drop i ws)) (all_length rows.store (count_rows rows.store) (drop i ws) vs k.1 ∙ n) k.1 in
    let made = before ++ Node tag (all_of vs) ∷ [] in
    let stand = all_push rows'.store (count_rows rows'.store) (take i ws) before g.0 (Node tag (all_of vs)) (more_stand_all rows.store rows'.store (take i ws) (all_of before) more k.0) g.2 in
    (made, subst (λ l. StandAll rows'.store l (all_of made)) (sym g.1) stand, m)

pub end_loads : (tb : Table) (cs : Cells) (types : Bor (List ℕ)) (p tag size : ℕ) (ts : List Task) (rows rows' : Rows) (whole : List Tree) → types.now ≡ [] → option_map (λ (c : Cell). c.tag) (cell_at cs p) ≡ Some tag → option_map size_of (cell_at cs p) ≡ Some size → More rows.store rows'.store → Folds rows.store rows'.store tag size rows.values.items rows'.values.items → Loads tb cs (T.Fields types p ∷ ts) rows whole → Loads tb cs ts rows' whole
end_loads tb cs types p tag size ts rows rows' whole e t z more f h =
    let m = h.2 in
    let c = m.0 in
    let l = m.2 in
    let vs = m.4 in
    let tags : tag ≡ c.tag = tag_is cs p tag c l.there t in
    let none : vs ++ each_of (values_of m.1) ≡ vs = ap (λ l. vs ++ l) (no_parts tb cs types.now m.1 e l.stand) ∙ append-nil vs in
    let size_of : size ≡ length c.fields = size_is cs p size c l.there z in
    let zero : length types.now ≡ 0 = ap length e in
    let n : length vs ≡ size = let q = m.6 in omega (arith, q, zero, size_of) in
    let tree : Node c.tag (all_of (vs ++ each_of (values_of m.1))) ≡ Node tag (all_of vs) = ap₂ (λ c l. Node c (all_of l)) (sym tags) none in
    end_by tb cs ts rows rows' tag size m.3 vs whole more f (subst (λ l. StandAll rows.store rows.values.items (all_of l)) m.5 h.1) n (subst (λ (v : Tree). Makes tb cs ts (m.3 ++ v ∷ []) whole) tree m.7)

-- ---- what calls answer

pub on_ok : {A E P Q : Type 0} (r : Result A E) → (P → Q) → OnOk r P → OnOk r Q
on_ok (Ok a) f h = f h
on_ok (Err e) f h = tt

pub on_both : {A E P P' Q : Type 0} (r : Result A E) → (P → P' → Q) → OnOk r P → OnOk r P' → OnOk r Q
on_both (Ok a) f h k = f h k
on_both (Err e) f h k = tt

pub begun : (tb : Table) (cs : Cells) (ty w : ℕ) (ts : List Task) (rows : Rows) (made whole : List Tree) (x : Placed) → CellStands tb cs ty x → word_of x ≡ w → Loads tb cs [] rows whole → ts ≡ T.Whole ty w ∷ [] → Loads tb cs ts rows (whole ++ value_of x ∷ [])
begun tb cs ty w ts rows made whole x h e l t = subst (λ ts. Loads tb cs ts rows (whole ++ value_of x ∷ [])) (sym t) (l.0, l.1, (x, h, e, ap (λ m. m ++ value_of x ∷ []) l.2))

-- ---- all words

-- what is made and what the other words stand for are all trees
pub record AreLeft (tb : Table) (cs : Cells) (types words : List ℕ) (rows : Rows) (trees : Parts) : Type 0 where
  pub rest : Parts
  pub stand : CellsStand tb cs types rest
  pub named : words ≡ words_of rest
  pub made : List Tree
  pub loaded : Loads tb cs [] rows made
  pub all : made ++ each_of (values_of rest) ≡ each_of (values_of trees)

pub left_first : (tb : Table) (cs : Cells) (ty w : ℕ) (types words : List ℕ) (rows rows' : Rows) (trees : Parts) → AreLeft tb cs (ty ∷ types) (w ∷ words) rows trees → ((whole : List Tree) (x : Placed) → CellStands tb cs ty x → word_of x ≡ w → Loads tb cs [] rows whole → Loads tb cs [] rows' (whole ++ value_of x ∷ [])) → AreLeft tb cs types words rows' trees
left_first tb cs ty w types words rows rows' trees h f = by_rest h.rest h.stand h.named h.all where
  by_rest : (rest : Parts) → CellsStand tb cs (ty ∷ types) rest → w ∷ words ≡ words_of rest → h.made ++ each_of (values_of rest) ≡ each_of (values_of trees) → AreLeft tb cs types words rows' trees
  by_rest NoParts s e a = absurd s
  by_rest (MoreParts x xs) s e a =
      let same : word_of x ≡ w = cc in
      let others : words ≡ words_of xs = cc in
      record {
        rest = xs;
        stand = s.1;
        named = others;
        made = h.made ++ value_of x ∷ [];
        loaded = f h.made x s.0 same h.loaded;
        all = append_assoc h.made (value_of x ∷ []) (each_of (values_of xs)) ∙ a;
      }

none_rest : (tb : Table) (cs : Cells) (types words : List ℕ) (rest : Parts) → CellsStand tb cs types rest → words ≡ words_of rest → (length types ≡ 0) ⊎ (length words ≡ 0) → each_of (values_of rest) ≡ []
none_rest tb cs types words NoParts h e o = refl
none_rest tb cs [] words (MoreParts x xs) h e o = absurd h
none_rest tb cs (k ∷ ks) words (MoreParts x xs) h e (inl z) = absurd (omega arith)
none_rest tb cs (k ∷ ks) words (MoreParts x xs) h e (inr z) = absurd (let n : length words ≡ suc (length (words_of xs)) = ap length e in omega (arith, n, z))

pub left_none : (tb : Table) (cs : Cells) (types words : List ℕ) (rows : Rows) (trees : Parts) → AreLeft tb cs types words rows trees → (length types ≡ 0) ⊎ (length words ≡ 0) → StandAll rows.store rows.values.items (values_of trees)
left_none tb cs types words rows trees h o =
    let none = none_rest tb cs types words h.rest h.stand h.named o in
    let made : (h.loaded).0 ≡ each_of (values_of trees) = (h.loaded).2 ∙ sym (append-nil h.made) ∙ ap (λ l. h.made ++ l) (sym none) ∙ h.all in
    subst (λ vs. StandAll rows.store rows.values.items vs) (ap all_of made ∙ all_each (values_of trees)) (h.loaded).1

pub types_side : (ps : List Param) (ws : List ℕ) → (length ps ≡ 0) ⊎ (length ws ≡ 0) → (length (types_of ps) ≡ 0) ⊎ (length ws ≡ 0)
types_side [] ws h = inl refl
types_side (p ∷ ps) ws (inl e) = absurd (omega arith)
types_side (p ∷ ps) ws (inr e) = inr e
