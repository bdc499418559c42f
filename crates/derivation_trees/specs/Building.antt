-- How the nodes of a derivation come together in a list: a node is opened as a part of the innermost open one, after
-- all nodes so far, and closed when it has all its parts. A builder keeps the nodes and the places of the open ones.
use Rattle.std.specs.Prelude.{ℕ, zero, suc, ◌+◌, ◌-◌, List, [], ◌∷◌, ◌++◌, Option, Some, None, length, take, slice_get}
use Rattle.derivation_trees.specs.declared.derivation.RuleName.{RuleName}
use Rattle.derivation_trees.specs.declared.derivation.Credit.{Credit}
use Rattle.derivation_trees.specs.declared.derivation.Builder.{Builder}
use Rattle.derivation_trees.specs.Trees.{Head, heads}

-- the nodes, and the places of those that are open, the innermost last
pub record Built : Type 0 where
  pub nodes : List Head
  pub open_at : List ℕ

abbrev pub built : Builder → Built
built b = record { nodes = heads b.nodes.items; open_at = b.open.items }

abbrev pub nothing_built : Built
nothing_built = record { nodes = []; open_at = [] }

-- the list with another item at a place
abbrev pub alter : (Head → Head) → ℕ → List Head → List Head
alter f i [] = []
alter f zero (h ∷ hs) = f h ∷ hs
alter f (suc i) (h ∷ hs) = h ∷ alter f i hs

-- at a place, where there is one
abbrev pub alter_at : (Head → Head) → Option ℕ → List Head → List Head
alter_at f None hs = hs
alter_at f (Some i) hs = alter f i hs

-- the place of the innermost open node
abbrev pub innermost : List ℕ → Option ℕ
innermost open_at = slice_get open_at (length open_at - 1)

abbrev pub with_part : Head → Head
with_part h = record h { parts = h.parts + 1 }

abbrev pub with_span : ℕ → Head → Head
with_span n h = record h { span = n }

abbrev pub opened : Built → RuleName → List ℕ → List Credit → Built
opened b r vs cs = record {
  nodes = alter_at with_part (innermost b.open_at) b.nodes
      ++ record { rule = r; variables = vs; credits = cs; parts = 0; span = 1 } ∷ [];
  open_at = b.open_at ++ length b.nodes ∷ [];
}

abbrev pub closed_at : Option ℕ → Built → Built
closed_at None b = b
closed_at (Some i) b = record {
  nodes = alter (with_span (length b.nodes - i)) i b.nodes;
  open_at = take (length b.open_at - 1) b.open_at;
}

abbrev pub closed : Built → Built
closed b = closed_at (innermost b.open_at) b
