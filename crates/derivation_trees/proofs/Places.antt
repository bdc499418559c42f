-- The tree at a place: its parts are the trees at the places after it.
use Rattle.std.proofs.Common.{◌≡◌, ℕ, zero, suc, ◌≤◌, ◌+◌, refl, sym, ap, ◌∙◌, List, [], ◌∷◌, length, Option, Some, None, arith}
use Rattle.std.specs.Prelude.{slice_get}
use Rattle.derivation_trees.specs.Trees.{Tree, Missing, Branch, Trees, MoreTrees, Head, span_of, row, rooted, cut_at, tree_at}
use Rattle.fip_base.proofs.fip_language.Facts.{get_none}

pub more_same : {t u : Tree} {ts us : Trees} → t ≡ u → ts ≡ us → MoreTrees t ts ≡ MoreTrees u us
more_same e f = cc

-- what is before a place doesn't matter after it
row_same : (f g : ℕ → Tree) (hs : List Head) (i p : ℕ) → ((j : ℕ) → i ≤ j → f j ≡ g j) → row f hs i p ≡ row g hs i p
row_same f g hs i zero e = refl
row_same f g hs i (suc p) e = more_same (e i (omega arith)) (row_same f g hs (i + span_of (slice_get hs i)) p (λ j u. e j (omega arith)))

rooted_same : (f g : ℕ → Tree) (hs : List Head) (i : ℕ) (o : Option Head) → ((j : ℕ) → suc i ≤ j → f j ≡ g j) → rooted f hs i o ≡ rooted g hs i o
rooted_same f g hs i None e = refl
rooted_same f g hs i (Some h) e = ap (Branch h.rule h.variables h.credits) (row_same f g hs (suc i) h.parts e)

-- how deep a tree is cut off doesn't matter below what is left of the list
cut_same : (m n : ℕ) (hs : List Head) (i : ℕ) → length hs ≤ m + i → length hs ≤ n + i → cut_at m hs i ≡ cut_at n hs i
cut_same zero zero hs i l k = refl
cut_same zero (suc n) hs i l k = sym (ap (rooted (cut_at n hs) hs i) (get_none hs i (omega arith)))
cut_same (suc m) zero hs i l k = ap (rooted (cut_at m hs) hs i) (get_none hs i (omega arith))
cut_same (suc m) (suc n) hs i l k = rooted_same (cut_at m hs) (cut_at n hs) hs i (slice_get hs i) (λ j u. cut_same m n hs j (omega arith) (omega arith))

-- a node's parts are the trees at the places after it
pub tree_is : (hs : List Head) (i : ℕ) (h : Head) → slice_get hs i ≡ Some h → tree_at hs i ≡ Branch h.rule h.variables h.credits (row (tree_at hs) hs (suc i) h.parts)
tree_is hs i h e = of (length hs) (omega arith)
  where
    of : (m : ℕ) → length hs ≤ m → cut_at m hs i ≡ Branch h.rule h.variables h.credits (row (cut_at (length hs) hs) hs (suc i) h.parts)
    of zero l = absurd (let g = get_none hs i (omega arith) in cc)
    of (suc m) l = ap (rooted (cut_at m hs) hs i) e ∙ ap (Branch h.rule h.variables h.credits) (row_same (cut_at m hs) (cut_at (length hs) hs) hs (suc i) h.parts (λ j u. cut_same m (length hs) hs j (omega arith) (omega arith)))

-- where there is no node, there is no tree
pub tree_missing : (hs : List Head) (i : ℕ) → slice_get hs i ≡ None → tree_at hs i ≡ Missing
tree_missing hs i e = of (length hs)
  where
    of : (m : ℕ) → cut_at m hs i ≡ Missing
    of zero = refl
    of (suc m) = ap (rooted (cut_at m hs) hs i) e
