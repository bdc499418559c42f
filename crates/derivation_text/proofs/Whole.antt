-- What is read of the bytes of a text.
use Rattle.std.proofs.Common.{◌≡◌, ℕ, suc, ◌+◌, List, [], ◌∷◌, ◌++◌, length, map, Some, Result, Ok, Err, refl, sym, ap, ap₂, ◌∙◌, subst, append_assoc, length-append, arith}
use Rattle.std.specs.Prelude.{slice_get, MatchResult}
use Rattle.std.specs.declared.vec.Vec.{Vec}
use Rattle.std.specs.declared.alloc.Global.{Global}
use Rattle.std.proofs.lemmas.List.{append-nil}
use Rattle.fip_language.specs.Prefix.{Accepted, IsPlace}
use Rattle.derivation_trees.specs.declared.derivation.Line.{Line}
use Rattle.derivation_trees.specs.Trees.{Tree, Missing, Branch, Trees, NoTrees, MoreTrees, Head, count, size, size_all, flat, flat_all, span_of, row, tree_at, Entry, entry}
use Rattle.derivation_trees.proofs.Places.{tree_is}
use Rattle.derivation_text.specs.declared.error.ProofError.{ProofError}
use Rattle.derivation_text.specs.declared.error.ProofError.TheVariants.{BadProof, NoMemory}
use Rattle.derivation_trees.specs.WholeTrees.{IsWhole, AreWhole, IsTree, AreTrees}
use Rattle.derivation_text.specs.ProofText.{IsNode, AreNodes, AreEntries, IsProofText}
use Rattle.derivation_text.specs.Machine.{Made, flats, start}
use Rattle.derivation_text.specs.Reading.{line_made, lines_made, runs, Runs}
use Rattle.derivation_text.proofs.Residual.{made_of, mades}
use Rattle.derivation_text.proofs.Exact.{stops, accepts_texts, texts_accepted}
use Rattle.derivation_text.proofs.Flat.{flat_length, starts_same}

-- ---- trees of lists

get_after : (xs : List Head) (h : Head) (ys : List Head) → slice_get (xs ++ h ∷ ys) (length xs) ≡ Some h
get_after [] h ys = refl
get_after (x ∷ xs) h ys = get_after xs h ys

node_span : (d : ℕ) (t : Tree) (hs xs ys : List Head) (i : ℕ) → IsNode d t → hs ≡ xs ++ (flat t ++ ys) → i ≡ length xs → span_of (slice_get hs i) ≡ size t
node_span d Missing hs xs ys i v e k = absurd v
node_span d (Branch r vs cs ts) hs xs ys i v e k =
    let h : Head = record { rule = r; variables = vs; credits = cs; parts = count ts; span = suc (size_all ts) } in
    ap span_of (ap₂ (λ hs i. slice_get hs i) e k ∙ get_after xs h (flat_all ts ++ ys))

mutual
  tree_back : (d : ℕ) (t : Tree) (hs xs ys : List Head) (i : ℕ) → IsNode d t → hs ≡ xs ++ (flat t ++ ys) → i ≡ length xs → tree_at hs i ≡ t
  tree_back d Missing hs xs ys i v e k = absurd v
  tree_back d (Branch r vs cs ts) hs xs ys i v e k =
      let h : Head = record { rule = r; variables = vs; credits = cs; parts = count ts; span = suc (size_all ts) } in
      let l = length-append xs (h ∷ []) in
      tree_is hs i h (ap₂ (λ hs i. slice_get hs i) e k ∙ get_after xs h (flat_all ts ++ ys))
      ∙ ap (Branch r vs cs) (row_back (suc d) ts hs (xs ++ h ∷ []) ys (suc i) v.3 (e ∙ sym (append_assoc xs (h ∷ []) (flat_all ts ++ ys))) (omega (arith, k, l)))

  row_back : (d : ℕ) (ts : Trees) (hs xs ys : List Head) (i : ℕ) → AreNodes d ts → hs ≡ xs ++ (flat_all ts ++ ys) → i ≡ length xs → row (tree_at hs) hs i (count ts) ≡ ts
  row_back d NoTrees hs xs ys i v e k = refl
  row_back d (MoreTrees t ts) hs xs ys i v e k =
      let f : hs ≡ xs ++ (flat t ++ (flat_all ts ++ ys)) = e ∙ ap (λ zs. xs ++ zs) (append_assoc (flat t) (flat_all ts) ys) in
      let s = node_span d t hs xs (flat_all ts ++ ys) i v.0 f k in
      let l = length-append xs (flat t) in
      let m = flat_length t in
      ap₂ MoreTrees (tree_back d t hs xs (flat_all ts ++ ys) i v.0 f k)
      (row_back d ts hs (xs ++ flat t) ys (i + span_of (slice_get hs i)) v.1 (f ∙ sym (append_assoc xs (flat t) (flat_all ts ++ ys))) (omega (arith, k, s, l, m)))

entry_back : (d : ℕ) (e : Entry) (l : Line) → IsNode d e.tree → line_made l ≡ made_of e → entry l ≡ e
entry_back d e l v h =
    ap₂ (λ i t. record { instance = i; tree = t }) (ap (λ (m : Made). m.instance) h)
    (ap (λ (m : Made). tree_at m.nodes 0) h ∙ tree_back d e.tree (flat e.tree) [] [] 0 v (sym (append-nil (flat e.tree))) refl)

mutual
  node_whole : (d : ℕ) (t : Tree) → IsNode d t → IsWhole t
  node_whole d Missing v = v
  node_whole d (Branch r vs cs ts) v = nodes_whole (suc d) ts v.3

  nodes_whole : (d : ℕ) (ts : Trees) → AreNodes d ts → AreWhole ts
  nodes_whole d NoTrees v = tt
  nodes_whole d (MoreTrees t ts) v = (node_whole d t v.0, nodes_whole d ts v.1)

line_tree : (d : ℕ) (e : Entry) (l : Line) → IsNode d e.tree → line_made l ≡ made_of e → IsTree l
line_tree d e l v h =
    let t = ap (λ (e : Entry). e.tree) (entry_back d e l v h) in
    (subst IsWhole (sym t) (node_whole d e.tree v), ap (λ (m : Made). m.nodes) h ∙ ap flat (sym t))

cons_both : {A : Type 0} (x y : A) (xs ys : List A) → x ∷ xs ≡ y ∷ ys → (x ≡ y) × (xs ≡ ys)
cons_both x y xs ys e = (cc, cc)

entries_back : (least : ℕ) (es : List Entry) (ls : List Line) → AreEntries least es → lines_made ls ≡ mades es → map entry ls ≡ es
entries_back least [] [] v h = refl
entries_back least [] (l ∷ ls) v h = cc
entries_back least (e ∷ es) [] v h = cc
entries_back least (e ∷ es) (l ∷ ls) v h =
    let p = cons_both (line_made l) (made_of e) (lines_made ls) (mades es) h in
    ap₂ (λ x xs. x ∷ xs) (entry_back 1 e l v.2 p.0) (entries_back (suc e.instance) es ls v.3 p.1)

lines_trees : (least : ℕ) (es : List Entry) (ls : List Line) → AreEntries least es → lines_made ls ≡ mades es → AreTrees ls
lines_trees least [] [] v h = tt
lines_trees least [] (l ∷ ls) v h = cc
lines_trees least (e ∷ es) [] v h = cc
lines_trees least (e ∷ es) (l ∷ ls) v h =
    let p = cons_both (line_made l) (made_of e) (lines_made ls) (mades es) h in
    (line_tree 1 e l v.2 p.0, lines_trees (suc e.instance) es ls v.3 p.1)

same_mades : (least : ℕ) (es fs : List Entry) → AreEntries least es → AreEntries least fs → mades es ≡ mades fs → es ≡ fs
same_mades least [] [] v w h = refl
same_mades least [] (f ∷ fs) v w h = cc
same_mades least (e ∷ es) [] v w h = cc
same_mades least (e ∷ es) (f ∷ fs) v w h =
    let p = cons_both (made_of e) (made_of f) (mades es) (mades fs) h in
    let back : (g : Entry) → IsNode 1 g.tree → tree_at (flat g.tree) 0 ≡ g.tree = λ g v. tree_back 1 g.tree (flat g.tree) [] [] 0 v (sym (append-nil (flat g.tree))) refl in
    let i : e.instance ≡ f.instance = ap (λ (m : Made). m.instance) p.0 in
    let t : e.tree ≡ f.tree = sym (back e v.2) ∙ ap (λ (m : Made). tree_at m.nodes 0) p.0 ∙ back f w.2 in
    ap₂ (λ x xs. x ∷ xs) (ap₂ (λ i t. record { instance = i; tree = t }) i t)
    (same_mades (suc e.instance) es fs v.3 (subst (λ k. AreEntries (suc k) fs) (sym i) w.3) p.1)

-- ---- what is read

same_accepted : {V : Type 0} (x y : V) → Accepted x ≡ Accepted y → x ≡ y
same_accepted x y e = cc

pub read_spelt : (bs : List ℕ) (lines : Vec Line Global) → Runs (Ok lines) (runs (start flats) bs 0) → IsProofText bs (map entry lines.items)
read_spelt bs lines h =
    let p = accepts_texts bs (lines_made lines.items) (sym (starts_same bs) ∙ h) in
    let t = p.1 in
    subst (IsProofText bs) (sym (entries_back 0 p.0 lines.items t.0 p.2)) p.1

pub read_trees : (bs : List ℕ) (lines : Vec Line Global) → Runs (Ok lines) (runs (start flats) bs 0) → AreTrees lines.items
read_trees bs lines h =
    let p = accepts_texts bs (lines_made lines.items) (sym (starts_same bs) ∙ h) in
    let t = p.1 in
    lines_trees 0 p.0 lines.items t.0 p.2

pub spelt_read : (bs : List ℕ) (r : Result (Vec Line Global) ProofError) (es : List Entry) → Runs r (runs (start flats) bs 0) → IsProofText bs es → MatchResult r (λ lines. map entry lines.items ≡ es) (λ e. e ≡ NoMemory)
spelt_read bs (Ok lines) es h t = entries_back 0 es lines.items t.0 (same_accepted (lines_made lines.items) (mades es) (sym h ∙ starts_same bs ∙ texts_accepted bs es t))
spelt_read bs (Err (BadProof at)) es h t = (let e = sym h ∙ starts_same bs ∙ texts_accepted bs es t in cc)
spelt_read bs (Err NoMemory) es h t = refl

pub read_place : (bs : List ℕ) (at : ℕ) → Runs (Err (BadProof at)) (runs (start flats) bs 0) → IsPlace IsProofText bs at
read_place bs at h = stops bs at (sym (starts_same bs) ∙ h)

-- ---- one text, one derivation

pub one_text : (es : List Entry) (text other : List ℕ) → IsProofText text es → IsProofText other es → text ≡ other
one_text es text other h k = h.1 ∙ sym k.1

pub one_derivation : (text : List ℕ) (es fs : List Entry) → IsProofText text es → IsProofText text fs → es ≡ fs
one_derivation text es fs h k = same_mades 0 es fs h.0 k.0 (same_accepted (mades es) (mades fs) (sym (texts_accepted text es h) ∙ texts_accepted text fs k))
