-- What is opened, gets its parts and is closed is a tree.
use Rattle.std.proofs.Common.{◌≡◌, ℕ, zero, suc, ◌≤◌, ◌+◌, ◌-◌, ◌&&◌, ◌==◌, refl, sym, ap, ap₂, subst, ◌∙◌, List, [], ◌∷◌, ◌++◌, length, take, slice_get, Option, Some, None, true, false, arith}
use Rattle.std.proofs.lemmas.List.{length-append, append-nil}
use Rattle.derivation_trees.specs.declared.derivation.RuleName.{RuleName}
use Rattle.derivation_trees.specs.declared.derivation.RuleName.TheVariants as R
use Rattle.derivation_trees.specs.declared.derivation.Credit.{Credit}
use Rattle.derivation_trees.specs.Trees.{Tree, Missing, Branch, Trees, NoTrees, MoreTrees, Head, heads, count, size, size_all, flat, flat_all, span_of, row, tree_at}
use Rattle.derivation_trees.specs.declared.derivation.Line.{Line}
use Rattle.derivation_trees.specs.WholeTrees.{IsWhole, AreWhole, IsTree, AreTrees}
use Rattle.derivation_trees.proofs.Places.{tree_is}
use Rattle.derivation_trees.specs.Building.{Built, alter, alter_at, innermost, with_part, with_span, opened, closed, closed_at, nothing_built}
use Rattle.derivation_walk.specs.Growing.{grown, grown_all, closed_times, Awaits, AwaitsOne}
use Rattle.derivation_walk.specs.Walked.{Owned, credits, same_from, weakened, node}
use Rattle.fip_language.proofs.Facts.{append_associates as append_assoc, take_last as without_last}
use Rattle.derivation_trees.proofs.Altering.{alter_length as alter_at_length}

-- ---- lists

alter_seam : (f : Head → Head) (xs : List Head) (h : Head) (ys : List Head) (i : ℕ) → i ≡ length xs → alter f i (xs ++ h ∷ ys) ≡ xs ++ f h ∷ ys
alter_seam f [] h ys zero e = refl
alter_seam f [] h ys (suc i) e = absurd (omega arith)
alter_seam f (x ∷ xs) h ys zero e = absurd (omega arith)
alter_seam f (x ∷ xs) h ys (suc i) e = ap (λ (zs : List Head). x ∷ zs) (alter_seam f xs h ys i (omega arith))

alter_length : (f : Head → Head) (i : ℕ) (hs : List Head) → length (alter f i hs) ≡ length hs
alter_length f i [] = refl
alter_length f zero (h ∷ hs) = refl
alter_length f (suc i) (h ∷ hs) = ap suc (alter_length f i hs)

last_of : (xs : List ℕ) (y : ℕ) → slice_get (xs ++ y ∷ []) (length (xs ++ y ∷ []) - 1) ≡ Some y
last_of xs y = let e : length (xs ++ y ∷ []) - 1 ≡ length xs = (let h = length-append xs (y ∷ []) in omega arith) in ap (slice_get (xs ++ y ∷ [])) e ∙ at xs
  where
    at : (zs : List ℕ) → slice_get (zs ++ y ∷ []) (length zs) ≡ Some y
    at [] = refl
    at (z ∷ zs) = at zs

mutual
  flat_length : (t : Tree) → length (flat t) ≡ size t
  flat_length Missing = refl
  flat_length (Branch r xs cs ts) = ap suc (flat_all_length ts)

  flat_all_length : (ts : Trees) → length (flat_all ts) ≡ size_all ts
  flat_all_length NoTrees = refl
  flat_all_length (MoreTrees t ts) = let a = length-append (flat t) (flat_all ts) in let b = flat_length t in let c = flat_all_length ts in omega arith

-- ---- a node and its parts

abbrev node_of : RuleName → List ℕ → List Credit → ℕ → ℕ → Head
node_of r xs cs n m = record { rule = r; variables = xs; credits = cs; parts = n; span = m }

-- the open node h after xs, with more parts after those in ys
parts_come : (xs : List Head) (r : RuleName) (vs : List ℕ) (cs : List Credit) (n : ℕ) (ys : List Head) (os : List ℕ) (ts : Trees) → grown_all (record { nodes = xs ++ node_of r vs cs n 1 ∷ ys; open_at = os ++ length xs ∷ [] }) ts ≡ record { nodes = xs ++ node_of r vs cs (n + count ts) 1 ∷ (ys ++ flat_all ts); open_at = os ++ length xs ∷ [] }
parts_come xs r vs cs n ys os NoTrees =
    let e : n ≡ n + 0 = omega arith in
    ap₂ (λ m zs. record { nodes = xs ++ node_of r vs cs m 1 ∷ zs; open_at = os ++ length xs ∷ [] }) e (sym (append-nil ys))
parts_come xs r vs cs n ys os (MoreTrees t ts) =
    let os1 = os ++ length xs ∷ [] in
    let hs = xs ++ node_of r vs cs n 1 ∷ ys in
    let a : alter_at with_part (innermost os1) hs ≡ xs ++ node_of r vs cs (n + 1) 1 ∷ ys = ap (λ (o : Option ℕ). alter_at with_part o hs) (last_of os (length xs)) ∙ alter_seam with_part xs (node_of r vs cs n 1) ys (length xs) refl in
    let b : alter_at with_part (innermost os1) hs ++ flat t ≡ xs ++ node_of r vs cs (n + 1) 1 ∷ (ys ++ flat t) = ap (λ (zs : List Head). zs ++ flat t) a ∙ sym (append_assoc xs (node_of r vs cs (n + 1) 1 ∷ ys) (flat t)) in
    let k : (n + 1) + count ts ≡ n + suc (count ts) = omega arith in
    ap (λ (zs : List Head). grown_all (record { nodes = zs; open_at = os1 }) ts) b
    ∙ parts_come xs r vs cs (n + 1) (ys ++ flat t) os ts
    ∙ ap₂ (λ m zs. record { nodes = xs ++ node_of r vs cs m 1 ∷ zs; open_at = os1 }) k (sym (append_assoc ys (flat t) (flat_all ts)))

closed_node : (xs : List Head) (r : RuleName) (vs : List ℕ) (cs : List Credit) (n : ℕ) (ys : List Head) (os : List ℕ) → closed (record { nodes = xs ++ node_of r vs cs n 1 ∷ ys; open_at = os ++ length xs ∷ [] }) ≡ record { nodes = xs ++ node_of r vs cs n (suc (length ys)) ∷ ys; open_at = os }
closed_node xs r vs cs n ys os =
    let os1 = os ++ length xs ∷ [] in
    let hs = xs ++ node_of r vs cs n 1 ∷ ys in
    let l : length hs - length xs ≡ suc (length ys) = (let h = length-append xs (node_of r vs cs n 1 ∷ ys) in omega arith) in
    ap (λ (o : Option ℕ). closed_at o (record { nodes = hs; open_at = os1 })) (last_of os (length xs))
    ∙ ap₂ (λ zs ws. record { nodes = zs; open_at = ws }) (alter_seam (with_span (length hs - length xs)) xs (node_of r vs cs n 1) ys (length xs) refl ∙ ap (λ m. xs ++ node_of r vs cs n m ∷ ys) l) (without_last os (length xs))

-- a node that is opened, gets parts and is closed
pub node_done : (a : Built) (r : RuleName) (vs : List ℕ) (cs : List Credit) (ts : Trees) → closed (grown_all (opened a r vs cs) ts) ≡ grown a (Branch r vs cs ts)
node_done a r vs cs ts =
    let xs = alter_at with_part (innermost a.open_at) a.nodes in
    let l : length a.nodes ≡ length xs = sym (alter_at_length with_part (innermost a.open_at) a.nodes) in
    let z : suc (length (flat_all ts)) ≡ suc (size_all ts) = ap suc (flat_all_length ts) in
    ap (λ n. closed (grown_all (record { nodes = xs ++ node_of r vs cs 0 1 ∷ []; open_at = a.open_at ++ n ∷ [] }) ts)) l
    ∙ ap closed (parts_come xs r vs cs 0 [] a.open_at ts)
    ∙ closed_node xs r vs cs (0 + count ts) ([] ++ flat_all ts) a.open_at
    ∙ ap₂ (λ m k. record { nodes = xs ++ node_of r vs cs m k ∷ flat_all ts; open_at = a.open_at }) (let e : 0 + count ts ≡ count ts = omega arith in e) z

-- ---- what awaits parts

-- a node that is opened alone, and one below one that weakens
pub open_one : (a b : Built) (r : RuleName) (o : Owned) (xs need : List ℕ) → b ≡ opened a r xs (credits need) → (length xs == length o.variables) && same_from o.credits need 1 16 ≡ true → Awaits 1 a b (node r o xs need)
open_one a b r o xs need e h = record {
  done = λ ts.
      ap (λ c. closed (grown_all c ts)) e ∙ node_done a r xs (credits need) ts
      ∙ ap (λ k. grown a (weakened k o (Branch r xs (credits need) ts))) (sym h);
}

pub open_two : (a b c : Built) (r : RuleName) (o : Owned) (xs need : List ℕ) → b ≡ opened a R.Weaken o.variables (credits o.credits) → c ≡ opened b r xs (credits need) → (length xs == length o.variables) && same_from o.credits need 1 16 ≡ false → Awaits 2 a c (node r o xs need)
open_two a b c r o xs need e f h = record {
  done = λ ts.
      let t = Branch r xs (credits need) ts in
      ap closed (ap (λ d. closed (grown_all d ts)) f ∙ node_done b r xs (credits need) ts ∙ ap (λ d. grown d t) e)
      ∙ node_done a R.Weaken o.variables (credits o.credits) (MoreTrees t NoTrees)
      ∙ ap (λ k. grown a (weakened k o t)) (sym h);
}

-- its parts came, and it was closed
pub awaited : (n : ℕ) (a b c d : Built) (f : Trees → Tree) (ts : Trees) → Awaits n a b f → c ≡ grown_all b ts → d ≡ closed_times n c → d ≡ grown a (f ts)
awaited n a b c d f ts h g e = e ∙ ap (closed_times n) g ∙ h.done ts

-- the first of two parts came
pub awaits_rest : (n : ℕ) (a b c : Built) (f : Trees → Tree) (t : Tree) → Awaits n a b f → c ≡ grown b t → AwaitsOne n a c (λ u. f (MoreTrees t (MoreTrees u NoTrees)))
awaits_rest n a b c f t h g = record {
  done = λ u. ap (λ z. closed_times n (grown z u)) g ∙ h.done (MoreTrees t (MoreTrees u NoTrees));
}

closed_more : (m n : ℕ) (b : Built) → closed_times (m + n) b ≡ closed_times m (closed_times n b)
closed_more m n b = ap (λ k. closed_times k b) (turn m n) ∙ from n m b
  where
    turn : (m n : ℕ) → m + n ≡ n + m
    turn m n = omega arith

    more : (n m : ℕ) → suc n + m ≡ suc (n + m)
    more n m = omega arith

    zero_first : (m : ℕ) → zero + m ≡ m
    zero_first m = omega arith

    from : (n m : ℕ) (b : Built) → closed_times (n + m) b ≡ closed_times m (closed_times n b)
    from zero m b = ap (λ k. closed_times k b) (zero_first m)
    from (suc n) m b = ap (λ k. closed_times k b) (more n m) ∙ from n m (closed b)

-- b waits for the rest of a block after m nodes, and c after n more
pub waits_more : (m n k : ℕ) (b c g : Built) (f : Tree → Tree) (t : Tree) → AwaitsOne n b c f → k ≡ m + n → closed_times m (grown b (f t)) ≡ g → closed_times k (grown c t) ≡ g
waits_more m n k b c g f t h e inv =
    ap (λ j. closed_times j (grown c t)) e ∙ closed_more m n (grown c t) ∙ ap (closed_times m) (h.done t) ∙ inv

-- ---- closing

pub close_none : (n : ℕ) (b : Built) → n ≤ 0 → closed_times n b ≡ b
close_none zero b h = refl
close_none (suc n) b h = absurd (omega arith)

pub close_next : (n m : ℕ) (a b c : Built) → closed_times n b ≡ a → n ≡ m + 1 → c ≡ closed b → closed_times m c ≡ a
close_next zero m a b c h e f = absurd (omega arith)
close_next (suc n) m a b c h e f = let k : m ≡ n = omega arith in ap₂ (λ j d. closed_times j d) k f ∙ h

-- ---- lines

get_seam : (xs : List Head) (h : Head) (ys : List Head) → slice_get (xs ++ h ∷ ys) (length xs) ≡ Some h
get_seam [] h ys = refl
get_seam (x ∷ xs) h ys = get_seam xs h ys

mutual
  tree_there : (t : Tree) (hs xs ys : List Head) (i : ℕ) → IsWhole t → hs ≡ xs ++ (flat t ++ ys) → i ≡ length xs → tree_at hs i ≡ t
  tree_there Missing hs xs ys i w e k = absurd w
  tree_there (Branch r vs cs ts) hs xs ys i w e k =
      let h = node_of r vs cs (count ts) (suc (size_all ts)) in
      tree_is hs i h (ap (λ zs. slice_get zs i) e ∙ ap (slice_get (xs ++ h ∷ (flat_all ts ++ ys))) k ∙ get_seam xs h (flat_all ts ++ ys))
      ∙ ap (Branch r vs cs) (trees_there ts hs (xs ++ h ∷ []) ys (suc i) w (e ∙ append_assoc xs (h ∷ []) (flat_all ts ++ ys)) (let l = length-append xs (h ∷ []) in omega arith))

  trees_there : (ts : Trees) (hs xs ys : List Head) (i : ℕ) → AreWhole ts → hs ≡ xs ++ (flat_all ts ++ ys) → i ≡ length xs → row (tree_at hs) hs i (count ts) ≡ ts
  trees_there NoTrees hs xs ys i w e k = refl
  trees_there (MoreTrees t ts) hs xs ys i w e k =
      let a : hs ≡ xs ++ (flat t ++ (flat_all ts ++ ys)) = e ∙ ap (λ zs. xs ++ zs) (sym (append_assoc (flat t) (flat_all ts) ys)) in
      let p = tree_there t hs xs (flat_all ts ++ ys) i w.0 a k in
      let s : i + span_of (slice_get hs i) ≡ length (xs ++ flat t) = span_at t hs xs (flat_all ts ++ ys) i w.0 a k in
      let q = trees_there ts hs (xs ++ flat t) ys (i + span_of (slice_get hs i)) w.1 (a ∙ append_assoc xs (flat t) (flat_all ts ++ ys)) s in
      ap₂ MoreTrees p q

  span_at : (t : Tree) (hs xs ys : List Head) (i : ℕ) → IsWhole t → hs ≡ xs ++ (flat t ++ ys) → i ≡ length xs → i + span_of (slice_get hs i) ≡ length (xs ++ flat t)
  span_at Missing hs xs ys i w e k = absurd w
  span_at (Branch r vs cs ts) hs xs ys i w e k =
      let h = node_of r vs cs (count ts) (suc (size_all ts)) in
      let g : slice_get hs i ≡ Some h = ap (λ zs. slice_get zs i) e ∙ ap (slice_get (xs ++ h ∷ (flat_all ts ++ ys))) k ∙ get_seam xs h (flat_all ts ++ ys) in
      let m : span_of (slice_get hs i) ≡ suc (size_all ts) = ap span_of g in
      let l = length-append xs (flat (Branch r vs cs ts)) in
      let j = flat_all_length ts in omega arith

-- what grows from nothing is a tree
pub line_is : (l : Line) (b : Built) (t : Tree) → IsWhole t → b ≡ grown nothing_built t → heads l.nodes.items ≡ b.nodes → tree_at (heads l.nodes.items) 0 ≡ t
line_is l b t w g e =
    let f : heads l.nodes.items ≡ flat t = e ∙ ap (λ c. c.nodes) g in
    tree_there t (heads l.nodes.items) [] [] 0 w (f ∙ sym (append-nil (flat t))) refl

pub is_tree : (l : Line) (b : Built) (t : Tree) → IsWhole t → b ≡ grown nothing_built t → heads l.nodes.items ≡ b.nodes → IsTree l
is_tree l b t w g e =
    let f : heads l.nodes.items ≡ flat t = e ∙ ap (λ c. c.nodes) g in
    let k = line_is l b t w g e in
    (subst IsWhole (sym k) w, f ∙ ap flat (sym k))

pub closed_up : (b : Built) (t : Tree) → b ≡ grown nothing_built t → b.open_at ≡ []
closed_up b t g = ap (λ c. c.open_at) g

pub trees_more : (ls ms : List Line) (l : Line) → AreTrees ls → IsTree l → ms ≡ ls ++ l ∷ [] → AreTrees ms
trees_more ls ms l h w e = subst AreTrees (sym e) (more ls h)
  where
    more : (ks : List Line) → AreTrees ks → AreTrees (ks ++ l ∷ [])
    more [] k = (w, tt)
    more (z ∷ ks) k = (k.0, more ks k.1)
