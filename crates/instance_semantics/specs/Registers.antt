-- The registers of an instance: one for each parameter, each credit of its header, each binder, and each constructor
-- and literal that is in its body, in patterns and in expressions. They are those of the function that it is an
-- instance of, and its frame has two words more.
-- For example rev(xs, acc) { match! xs { Nil -> acc; Cons(x, t) -> rev(t, Cons(x, acc)) } } has 2 parameters, 2 binders
-- and 3 constructors, so 7 registers, and its frame has 9 words.
use Rattle.std.specs.Prelude.{ℕ, suc, ◌+◌, length}
use Rattle.fip_trees.specs.Tree.{Argument, Variable, Literal, Constructor, Arguments, NoArguments, MoreArguments}
use Rattle.fip_trees.specs.Tree.{Pattern, BinderPattern, LiteralPattern, ConstructorPattern, Patterns, NoPatterns}
use Rattle.fip_trees.specs.Tree.{MorePatterns, Expression, Give, Tuple, Operation, Call, Match, Nested, Block, Last}
use Rattle.fip_trees.specs.Tree.{Let, Clauses, NoClauses, MoreClauses, Instance}

abbrev mutual
  pub registers_of_argument : Argument → ℕ
  registers_of_argument (Variable x n p) = 0
  registers_of_argument (Literal i p) = 1
  registers_of_argument (Constructor t d c n p as') = suc (registers_of_arguments as')

  pub registers_of_arguments : Arguments → ℕ
  registers_of_arguments NoArguments = 0
  registers_of_arguments (MoreArguments a as') = registers_of_argument a + registers_of_arguments as'

abbrev mutual
  pub registers_of_pattern : Pattern → ℕ
  registers_of_pattern (BinderPattern b) = 1
  registers_of_pattern (LiteralPattern i p) = 1
  registers_of_pattern (ConstructorPattern t d c n p ps) = suc (registers_of_patterns ps)

  pub registers_of_patterns : Patterns → ℕ
  registers_of_patterns NoPatterns = 0
  registers_of_patterns (MorePatterns p ps) = registers_of_pattern p + registers_of_patterns ps

abbrev mutual
  pub registers_of_expression : Expression → ℕ
  registers_of_expression (Give a) = registers_of_argument a
  registers_of_expression (Tuple p as') = registers_of_arguments as'
  registers_of_expression (Operation o p a b) = registers_of_argument a + registers_of_argument b
  registers_of_expression (Call g n p as') = registers_of_arguments as'
  registers_of_expression (Match k t p a q body cs) =
      registers_of_argument a + (registers_of_pattern q + (registers_of_block body + registers_of_clauses cs))
  registers_of_expression (Nested b) = registers_of_block b

  pub registers_of_block : Block → ℕ
  registers_of_block (Last e) = registers_of_expression e
  registers_of_block (Let bs e rest) = length bs + (registers_of_expression e + registers_of_block rest)

  pub registers_of_clauses : Clauses → ℕ
  registers_of_clauses NoClauses = 0
  registers_of_clauses (MoreClauses q body cs) =
      registers_of_pattern q + (registers_of_block body + registers_of_clauses cs)

abbrev pub registers : Instance → ℕ
registers d = length d.params + (length d.credits + registers_of_block d.body)

abbrev pub frame_words : Instance → ℕ
frame_words d = registers d + 2
