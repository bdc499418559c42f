-- The registers of an instance: its parameters, its header's credits, the binders of its body, and the constructors and
-- literals there, in expressions and in patterns.
--
-- `fun f(x: ints, y: ints): ints { match! x { Nil -> y; Cons(a, t) -> f(t, Cons(a, y)) } }` has 2 parameters, 2 binders
-- and 3 constructors, so 7 registers.
use Rattle.std.specs.Prelude.{ℕ, ◌+◌, length}
use Rattle.fip_trees.specs.Tree.{Argument, Variable, Literal, Constructor, Arguments, NoArguments, MoreArguments}
use Rattle.fip_trees.specs.Tree.{Pattern}
use Rattle.fip_trees.specs.Tree.{BinderPattern, LiteralPattern, ConstructorPattern, Patterns, NoPatterns, MorePatterns}
use Rattle.fip_trees.specs.Tree.{Expression, Give, Tuple, Operation, Call, Match, Nested, Block, Last, Let, Clauses}
use Rattle.fip_trees.specs.Tree.{NoClauses, MoreClauses, Instance}

abbrev mutual
  pub in_argument : Argument → ℕ
  in_argument (Variable x n p) = 0
  in_argument (Literal i p) = 1
  in_argument (Constructor u d c n p as') = 1 + in_arguments as'

  pub in_arguments : Arguments → ℕ
  in_arguments NoArguments = 0
  in_arguments (MoreArguments a as') = in_argument a + in_arguments as'

abbrev mutual
  pub in_pattern : Pattern → ℕ
  in_pattern (BinderPattern b) = 1
  in_pattern (LiteralPattern i p) = 1
  in_pattern (ConstructorPattern u d c n p ps) = 1 + in_patterns ps

  pub in_patterns : Patterns → ℕ
  in_patterns NoPatterns = 0
  in_patterns (MorePatterns p ps) = in_pattern p + in_patterns ps

abbrev mutual
  pub in_expression : Expression → ℕ
  in_expression (Give a) = in_argument a
  in_expression (Tuple p as') = in_arguments as'
  in_expression (Operation o p l r) = in_argument l + in_argument r
  in_expression (Call g n p as') = in_arguments as'
  in_expression (Match k u p a q body cs) = (in_pattern q + in_block body) + in_clauses cs
  in_expression (Nested b) = in_block b

  pub in_block : Block → ℕ
  in_block (Last e) = in_expression e
  in_block (Let bs e rest) = (length bs + in_expression e) + in_block rest

  pub in_clauses : Clauses → ℕ
  in_clauses NoClauses = 0
  in_clauses (MoreClauses q body rest) = (in_pattern q + in_block body) + in_clauses rest

abbrev pub registers : Instance → ℕ
registers d = (length d.params + length d.credits) + in_block d.body
