-- The credits that a pattern gives, at each of its forms.
use Rattle.std.proofs.Common.{◌≡◌, ℕ, ◌≤◌, ◌+◌, refl, sym, ap, ◌∙◌, List, length, Vec, Global, arith}
use Rattle.fip_trees.specs.fip_language.declared.Place.{Place}
use Rattle.fip_trees.specs.Sizes.{number}
use Rattle.fip_trees.specs.Tree.{Name, count_patterns}
use Rattle.fip_trees.specs.TreeView.{pattern, patterns}
use Rattle.fip_trees.specs.declared.program.Pattern as P
use Rattle.fip_trees.specs.declared.program.Pattern.TheVariants as PV
use Rattle.fip_trees.proofs.TreeViews.{pattern_constructor, count_patterns_view}
use Rattle.ownership_calculus.specs.Terms.{paid, Credit}
use Rattle.derivation_check.specs.Patterns.{nodes, nodes_all}

pub nodes_view : (k : ℕ) (a : P.Pattern) (t d c : ℕ) (n : Name) (q : Place) (v : Vec P.Pattern Global) (ps : List P.Pattern) (j : ℕ) → a ≡ PV.Constructor t d c n q v → j ≡ length ps → ps ≡ v.items → nodes k (pattern a) ≡ paid j (Credit k) + nodes_all k (patterns ps)
nodes_view k a t d c n q v ps j is l s =
    ap (λ b. nodes k (pattern b)) is ∙ ap (nodes k) (pattern_constructor t d c n q v)
    ∙ ap (λ bs. paid (count_patterns (patterns bs)) (Credit k) + nodes_all k (patterns bs)) (sym s)
    ∙ ap (λ i. paid i (Credit k) + nodes_all k (patterns ps)) (count_patterns_view ps ∙ sym l)

pub nodes_taken : (old mid new : List ℕ) (a : P.Pattern) (t d c : ℕ) (n : Name) (q : Place) (v : Vec P.Pattern Global) (ps : List P.Pattern) (j : ℕ) → a ≡ PV.Constructor t d c n q v → j ≡ length ps → ps ≡ v.items → ((k : ℕ) → number old k ≡ paid j (Credit k) + number mid k) → ((k : ℕ) → number mid k ≡ nodes_all k (patterns ps) + number new k) → (k : ℕ) → number old k ≡ nodes k (pattern a) + number new k
nodes_taken old mid new a t d c n q v ps j is l s f g k = let e = nodes_view k a t d c n q v ps j is l s in let x = f k in let y = g k in omega arith

pub nodes_rest : (old mid : List ℕ) (a : P.Pattern) (t d c : ℕ) (n : Name) (q : Place) (v : Vec P.Pattern Global) (ps : List P.Pattern) (j : ℕ) → a ≡ PV.Constructor t d c n q v → j ≡ length ps → ps ≡ v.items → ((k : ℕ) → number old k ≡ paid j (Credit k) + number mid k) → ((k : ℕ) → nodes k (pattern a) ≤ number old k) → (k : ℕ) → nodes_all k (patterns ps) ≤ number mid k
nodes_rest old mid a t d c n q v ps j is l s f g k = let e = nodes_view k a t d c n q v ps j is l s in let x = f k in let y = g k in omega arith

pub nodes_root : (old : List ℕ) (a : P.Pattern) (t d c : ℕ) (n : Name) (q : Place) (v : Vec P.Pattern Global) (j : ℕ) → a ≡ PV.Constructor t d c n q v → j ≡ length v.items → ((k : ℕ) → nodes k (pattern a) ≤ number old k) → (k : ℕ) → paid j (Credit k) ≤ number old k
nodes_root old a t d c n q v j is l g k = let e = nodes_view k a t d c n q v v.items j is l refl in let y = g k in omega arith
