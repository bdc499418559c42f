-- How wide an instance is: the most arguments of a call, a constructor or a tuple, parts of a pattern, and binders of a
-- let, that are in its body; one at the least for a single result.
--
-- `match! xs { Nil -> acc; Cons(x, t) -> rev(t, Cons(x, acc)) }` has width 2.
use Rattle.std.specs.Prelude.{ℕ, suc, max, length}
use Rattle.fip_trees.specs.Tree.{Argument, Variable, Literal, Constructor, Arguments, NoArguments, MoreArguments}
use Rattle.fip_trees.specs.Tree.{Pattern, BinderPattern, LiteralPattern, ConstructorPattern, Patterns, NoPatterns}
use Rattle.fip_trees.specs.Tree.{MorePatterns, Expression, Give, Tuple, Operation, Call, Match, Nested, Block, Last}
use Rattle.fip_trees.specs.Tree.{Let, Clauses, NoClauses, MoreClauses, Instance}

abbrev pub count_arguments : Arguments → ℕ
count_arguments NoArguments = 0
count_arguments (MoreArguments a as') = suc (count_arguments as')

abbrev pub count_patterns : Patterns → ℕ
count_patterns NoPatterns = 0
count_patterns (MorePatterns p ps) = suc (count_patterns ps)

-- arguments, and what is in each of them
abbrev mutual
  pub argument_width : Argument → ℕ
  argument_width (Variable x n p) = 0
  argument_width (Literal i p) = 0
  argument_width (Constructor t d c n p as') = max (count_arguments as') (arguments_width as')

  pub arguments_width : Arguments → ℕ
  arguments_width NoArguments = 0
  arguments_width (MoreArguments a as') = max (argument_width a) (arguments_width as')

abbrev pub listed_width : Arguments → ℕ
listed_width as' = max (count_arguments as') (arguments_width as')

abbrev mutual
  pub pattern_width : Pattern → ℕ
  pattern_width (BinderPattern b) = 0
  pattern_width (LiteralPattern i p) = 0
  pattern_width (ConstructorPattern t d c n p ps) = max (count_patterns ps) (patterns_width ps)

  pub patterns_width : Patterns → ℕ
  patterns_width NoPatterns = 0
  patterns_width (MorePatterns p ps) = max (pattern_width p) (patterns_width ps)

abbrev mutual
  pub expression_width : Expression → ℕ
  expression_width (Give a) = max 1 (argument_width a)
  expression_width (Tuple p as') = listed_width as'
  expression_width (Operation o p l r) = max 1 (max (argument_width l) (argument_width r))
  expression_width (Call g n p as') = listed_width as'
  expression_width (Match k t p a q body cs) = max (pattern_width q) (max (block_width body) (clauses_width cs))
  expression_width (Nested b) = block_width b

  pub block_width : Block → ℕ
  block_width (Last e) = expression_width e
  block_width (Let bs e rest) = max (length bs) (max (expression_width e) (block_width rest))

  pub clauses_width : Clauses → ℕ
  clauses_width NoClauses = 0
  clauses_width (MoreClauses q body cs) = max (pattern_width q) (max (block_width body) (clauses_width cs))

abbrev pub width : Instance → ℕ
width d = block_width d.body
