-- The places of an instance, by which its code is bounded: one, one for each expression of its body, argument, clause
-- and node of a pattern, and two for each branch of the decision trees of its matches. A let is an expression beside
-- the one that it binds, and a scrutinee is one; a branch counts also where a tree is so large that it isn't followed.
--
-- `match! xs { Nil -> acc; Cons(x, t) -> rev(t, Cons(x, acc)) }` has 16: the match, its scrutinee, two clauses, four
-- nodes of patterns, `acc`, the call with `t`, `Cons(..)`, `x` and `acc`, and one branch, which counts two.
use Rattle.std.specs.Prelude.{ℕ, suc, ◌+◌, ◌*◌, List, [], ◌∷◌}
use Rattle.match_cover.specs.fip_language.Table.{Table}
use Rattle.match_cover.specs.fip_trees.Tree as T
use Rattle.match_cover.specs.fip_trees.Tree.{Argument, Variable, Literal, Constructor, Arguments, NoArguments}
use Rattle.match_cover.specs.fip_trees.Tree.{MoreArguments}
use Rattle.match_cover.specs.fip_trees.Tree.{BinderPattern, LiteralPattern, ConstructorPattern}
use Rattle.match_cover.specs.fip_trees.Tree.{Expression, Give, Tuple, Operation, Call, Match, Nested, Block, Last, Let}
use Rattle.match_cover.specs.fip_trees.Tree.{Clauses, NoClauses, MoreClauses, Instance}
use Rattle.match_cover.specs.match_knowledge.declared.heads.Head.TheVariants.{Number, Tag}
use Rattle.match_cover.specs.match_knowledge.Patterns.{Pattern, Any, Test, Patterns, NoPatterns, MorePatterns}
use Rattle.match_cover.specs.match_knowledge.Known.{Open}
use Rattle.match_cover.specs.MatchFaults.{pattern_nodes}
use Rattle.match_cover.specs.TreeOfMatch.{branches, tree_at}

-- a pattern without names
abbrev mutual
  pub bare : T.Pattern → Pattern
  bare (BinderPattern b) = Any
  bare (LiteralPattern i p) = Test 0 (Number i) NoPatterns
  bare (ConstructorPattern t d c n p ps) = Test t (Tag c) (bare_all ps)

  pub bare_all : T.Patterns → Patterns
  bare_all T.NoPatterns = NoPatterns
  bare_all (T.MorePatterns p ps) = MorePatterns (bare p) (bare_all ps)

abbrev pub rows : T.Pattern → Clauses → List Pattern
rows p NoClauses = bare p ∷ []
rows p (MoreClauses q body cs) = bare p ∷ rows q cs

-- the branches of a match's decision tree
abbrev pub match_branches : Table → List Pattern → ℕ
match_branches tb ps = branches (tree_at tb ps (Open []))

abbrev mutual
  pub argument_places : Argument → ℕ
  argument_places (Variable x n p) = 1
  argument_places (Literal i p) = 1
  argument_places (Constructor t d c n p as') = suc (arguments_places as')

  pub arguments_places : Arguments → ℕ
  arguments_places NoArguments = 0
  arguments_places (MoreArguments a as') = argument_places a + arguments_places as'

abbrev mutual
  pub expression_places : Table → Expression → ℕ
  expression_places tb (Give a) = argument_places a
  expression_places tb (Tuple p as') = suc (arguments_places as')
  expression_places tb (Operation o p l r) = suc (argument_places l + argument_places r)
  expression_places tb (Call g n p as') = suc (arguments_places as')
  expression_places tb (Match k t p a q body cs) =
      suc (argument_places a + (suc (pattern_nodes (bare q) + block_places tb body) + clauses_places tb cs))
      + 2 * match_branches tb (rows q cs)
  expression_places tb (Nested b) = block_places tb b

  pub block_places : Table → Block → ℕ
  block_places tb (Last e) = expression_places tb e
  block_places tb (Let bs e rest) = suc (expression_places tb e + block_places tb rest)

  pub clauses_places : Table → Clauses → ℕ
  clauses_places tb NoClauses = 0
  clauses_places tb (MoreClauses q body cs) =
      suc (pattern_nodes (bare q) + block_places tb body) + clauses_places tb cs

abbrev pub places : Table → Instance → ℕ
places tb d = suc (block_places tb d.body)
