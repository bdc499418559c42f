-- The text of a tree has a byte for each node and for each of its variables, and more.
use Rattle.std.proofs.Common.{◌≡◌, ℕ, ◌<◌, ◌≤◌, ◌+◌, ◌-◌, List, [], ◌∷◌, ◌++◌, length, arith}
use Rattle.std.proofs.lemmas.List.{length-append}
use Rattle.std.specs.Fmt.{decimal}
use Rattle.derivation_trees.specs.declared.derivation.Credit.{Credit}
use Rattle.derivation_trees.specs.Trees.{Tree, Missing, Branch, Trees, NoTrees, MoreTrees, Entry, flat, flat_all}
use Rattle.derivation_text.specs.ProofText.{rule_text, more_variables, variables_text, credit_text, more_credits, credits_text, tree_text, parts_text, more_parts, line_text}
use Rattle.derivation_walk.specs.Costs.{cost, cost_all}
use Rattle.derivation_walk.proofs.Costs.{cost_append}

more_variables_long : (vs rest : List ℕ) → length vs + length rest ≤ length (more_variables vs rest)
more_variables_long [] rest = omega arith
more_variables_long (v ∷ vs) rest =
    let a = length-append (decimal v) (more_variables vs rest) in
    let b = more_variables_long vs rest in
    omega (arith, a, b)

-- but for one, before which no blank is
variables_long : (vs rest : List ℕ) → length vs + length rest ≤ length (variables_text vs rest) + 1
variables_long [] rest = omega arith
variables_long (v ∷ vs) rest =
    let a = length-append (decimal v) (more_variables vs rest) in
    let b = more_variables_long vs rest in
    omega (arith, a, b)

credit_long : (c : Credit) (rest : List ℕ) → length rest ≤ length (credit_text c rest)
credit_long c rest =
    let a = length-append (decimal c.size) (58 ∷ (decimal c.count ++ rest)) in
    let b = length-append (decimal c.count) rest in
    omega (arith, a, b)

more_credits_long : (cs : List Credit) (rest : List ℕ) → length rest ≤ length (more_credits cs rest)
more_credits_long [] rest = omega arith
more_credits_long (c ∷ cs) rest =
    let a = credit_long c (more_credits cs rest) in
    let b = more_credits_long cs rest in
    omega (arith, a, b)

credits_long : (cs : List Credit) (rest : List ℕ) → length rest ≤ length (credits_text cs rest)
credits_long [] rest = omega arith
credits_long (c ∷ cs) rest =
    let a = credit_long c (more_credits cs rest) in
    let b = more_credits_long cs rest in
    omega (arith, a, b)

mutual
  tree_long : (t : Tree) (rest : List ℕ) → cost t + length rest ≤ length (tree_text t rest)
  tree_long Missing rest = omega arith
  tree_long (Branch r vs cs ts) rest =
      let p = parts_text ts rest in
      let a = length-append (rule_text r) (91 ∷ variables_text vs (124 ∷ credits_text cs (93 ∷ p))) in
      let b = variables_long vs (124 ∷ credits_text cs (93 ∷ p)) in
      let c = credits_long cs (93 ∷ p) in
      let d = parts_long ts rest in
      omega (arith, a, b, c, d)

  parts_long : (ts : Trees) (rest : List ℕ) → cost_all ts + length rest ≤ length (parts_text ts rest)
  parts_long NoTrees rest = omega arith
  parts_long (MoreTrees t ts) rest =
      let a = cost_append (flat t) (flat_all ts) in
      let b = tree_long t (more_parts ts rest) in
      let c = more_long ts rest in
      omega (arith, a, b, c)

  more_long : (ts : Trees) (rest : List ℕ) → cost_all ts + length rest ≤ length (more_parts ts rest)
  more_long NoTrees rest = omega arith
  more_long (MoreTrees t ts) rest =
      let a = cost_append (flat t) (flat_all ts) in
      let b = tree_long t (more_parts ts rest) in
      let c = more_long ts rest in
      omega (arith, a, b, c)

line_long : (e : Entry) → cost e.tree ≤ length (line_text e [])
line_long e =
    let a = length-append (decimal e.instance) (32 ∷ tree_text e.tree (10 ∷ [])) in
    let b = tree_long e.tree (10 ∷ []) in
    omega (arith, a, b)

-- a line for which there is no room
pub line_short : (e : Entry) (bytes : List ℕ) (limit room : ℕ) → room ≡ limit - length bytes → room < cost e.tree → limit < length (bytes ++ line_text e [])
line_short e bytes limit room r h =
    let a = length-append bytes (line_text e []) in
    let b = line_long e in
    omega (arith, r, h, a, b)
