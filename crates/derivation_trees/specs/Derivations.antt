-- Derivations as trees. A node has a rule, what it uses up, and its parts: the owned variables by their numbers, and
-- the credits by their sizes. For example MATCH![0|](VAR[1|]) is
-- Branch TakingMatch (0 ∷ []) [] (MoreTrees (Branch Variable (1 ∷ []) [] NoTrees) NoTrees).
use Rattle.std.specs.Prelude.{ℕ, List}
use Rattle.derivation_trees.specs.declared.derivation.RuleName.{RuleName}
use Rattle.derivation_trees.specs.declared.derivation.Credit.{Credit}

-- Missing stands for a part that a list of nodes doesn't have; no rule speaks of it
mutual
  pub data Tree : Type 0 where
    Missing : Tree
    Branch : (rule : RuleName) (variables : List ℕ) (credits : List Credit) (parts : Trees) → Tree

  pub data Trees : Type 0 where
    NoTrees : Trees
    MoreTrees : (t : Tree) (rest : Trees) → Trees

-- the derivation of the instance of this number
pub record Entry : Type 0 where
  pub instance : ℕ
  pub tree : Tree
