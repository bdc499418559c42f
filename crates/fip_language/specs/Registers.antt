-- The registers of a function: one for each parameter, each credit of its header, each binder, and each constructor and
-- literal that is in its body, in patterns and in expressions. A frame has two words more.
-- rev(xs, acc) { match! xs { Nil -> acc; Cons(x, t) -> rev(t, Cons(x, acc)) } } has 2 parameters, 2 binders and 3
-- constructors, so 7 registers, and its frame has 9 words. fip +2 fun push(x, xs) { Cons(x, xs) } has 2 parameters, a
-- credit and a constructor, so 4 registers.
use Rattle.std.specs.Prelude.{ℕ, suc, ◌+◌, length}
use Rattle.fip_language.specs.Core.{Argument, Variable, Literal, Constructor, Arguments, NoArguments, MoreArguments}
use Rattle.fip_language.specs.Core.{Pattern, BinderPattern, LiteralPattern, ConstructorPattern, Patterns, NoPatterns}
use Rattle.fip_language.specs.Core.{MorePatterns, Expression, Give, Tuple, Operation, Call, Match, Nested, Block, Last}
use Rattle.fip_language.specs.Core.{Let, Clauses, NoClauses, MoreClauses, Function}

abbrev mutual
  pub registers_of_argument : Argument → ℕ
  registers_of_argument (Variable x name p) = 0
  registers_of_argument (Literal i p) = 1
  registers_of_argument (Constructor name p as') = suc (registers_of_arguments as')

  pub registers_of_arguments : Arguments → ℕ
  registers_of_arguments NoArguments = 0
  registers_of_arguments (MoreArguments a as') = registers_of_argument a + registers_of_arguments as'

abbrev mutual
  pub registers_of_pattern : Pattern → ℕ
  registers_of_pattern (BinderPattern b) = 1
  registers_of_pattern (LiteralPattern i p) = 1
  registers_of_pattern (ConstructorPattern name p ps) = suc (registers_of_patterns ps)

  pub registers_of_patterns : Patterns → ℕ
  registers_of_patterns NoPatterns = 0
  registers_of_patterns (MorePatterns p ps) = registers_of_pattern p + registers_of_patterns ps

abbrev mutual
  pub registers_of_expression : Expression → ℕ
  registers_of_expression (Give a) = registers_of_argument a
  registers_of_expression (Tuple p as') = registers_of_arguments as'
  registers_of_expression (Operation o p a b) = registers_of_argument a + registers_of_argument b
  registers_of_expression (Call name p statics as') = registers_of_arguments as'
  registers_of_expression (Match destructive p x clauses) = registers_of_argument x + registers_of_clauses clauses
  registers_of_expression (Nested block) = registers_of_block block

  pub registers_of_block : Block → ℕ
  registers_of_block (Last e) = registers_of_expression e
  registers_of_block (Let binders e rest) = length binders + (registers_of_expression e + registers_of_block rest)

  pub registers_of_clauses : Clauses → ℕ
  registers_of_clauses NoClauses = 0
  registers_of_clauses (MoreClauses pattern body rest) =
      registers_of_pattern pattern + (registers_of_block body + registers_of_clauses rest)

abbrev pub registers : Function → ℕ
registers f = length f.parameters + (length f.credits + registers_of_block f.body)

abbrev pub frame_words : Function → ℕ
frame_words f = registers f + 2
