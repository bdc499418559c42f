-- It serves the proof of what `derive` gives: how the nodes of trees are put into a builder.
use Rattle.std.specs.Prelude.{◌≡◌, ℕ, zero, suc, ◌++◌}
use Rattle.derivation_trees.specs.Trees.{Tree, Trees, NoTrees, MoreTrees, flat}
use Rattle.derivation_trees.specs.Building.{Built, alter_at, innermost, with_part, closed}

-- with a tree as one more part of the innermost open node
abbrev pub grown : Built → Tree → Built
grown b t = record {
  nodes = alter_at with_part (innermost b.open_at) b.nodes ++ flat t;
  open_at = b.open_at;
}

abbrev pub grown_all : Built → Trees → Built
grown_all b NoTrees = b
grown_all b (MoreTrees t ts) = grown_all (grown b t) ts

abbrev pub closed_times : ℕ → Built → Built
closed_times zero b = b
closed_times (suc n) b = closed_times n (closed b)

-- With any parts, and n nodes closed then, b is a with the tree that f makes of the parts; with one part.
pub record Awaits (n : ℕ) (a b : Built) (f : Trees → Tree) : Type 0 where
  pub done : (ts : Trees) → closed_times n (grown_all b ts) ≡ grown a (f ts)

pub record AwaitsOne (n : ℕ) (a b : Built) (f : Tree → Tree) : Type 0 where
  pub done : (t : Tree) → closed_times n (grown b t) ≡ grown a (f t)
