-- What an expression mentions, each name with its place: the constructors that expressions and patterns name. Of
-- Cons(x, Nil) these are Cons and Nil.
use Rattle.std.specs.Prelude.{List, [], ◌∷◌, ◌++◌}
use Rattle.fip_language.specs.declared.Place.{Place}
use Rattle.fip_language.specs.Core.{Name}
use Rattle.fip_language.specs.Core.{Argument, Variable, Literal, Constructor, Arguments}
use Rattle.fip_language.specs.Core.{NoArguments, MoreArguments, Pattern, BinderPattern, LiteralPattern}
use Rattle.fip_language.specs.Core.{ConstructorPattern, Patterns, NoPatterns, MorePatterns, Expression, Give, Tuple}
use Rattle.fip_language.specs.Core.{Operation, Call, Match, Nested, Block, Last, Let, Clauses, NoClauses, MoreClauses}

pub record Mention : Type 0 where
  pub name : Name
  pub place : Place

abbrev pub mention : Name → Place → Mention
mention n p = record { name = n; place = p }

-- the names of a list of items, one after another
abbrev pub all_of : {A B : Type 0} → (A → List B) → List A → List B
all_of f [] = []
all_of f (x ∷ xs) = f x ++ all_of f xs

abbrev mutual
  pub constructors_in_argument : Argument → List Mention
  constructors_in_argument (Variable x n p) = []
  constructors_in_argument (Literal i p) = []
  constructors_in_argument (Constructor n p as') = mention n p ∷ constructors_in_arguments as'

  pub constructors_in_arguments : Arguments → List Mention
  constructors_in_arguments NoArguments = []
  constructors_in_arguments (MoreArguments a as') = constructors_in_argument a ++ constructors_in_arguments as'

abbrev mutual
  pub constructors_in_pattern : Pattern → List Mention
  constructors_in_pattern (BinderPattern b) = []
  constructors_in_pattern (LiteralPattern i p) = []
  constructors_in_pattern (ConstructorPattern n p ps) = mention n p ∷ constructors_in_patterns ps

  pub constructors_in_patterns : Patterns → List Mention
  constructors_in_patterns NoPatterns = []
  constructors_in_patterns (MorePatterns p ps) = constructors_in_pattern p ++ constructors_in_patterns ps

abbrev mutual
  pub constructors_in_expression : Expression → List Mention
  constructors_in_expression (Give a) = constructors_in_argument a
  constructors_in_expression (Tuple p as') = constructors_in_arguments as'
  constructors_in_expression (Operation o p a b) = constructors_in_argument a ++ constructors_in_argument b
  constructors_in_expression (Call n p statics as') = constructors_in_arguments as'
  constructors_in_expression (Match destructive p x clauses) =
      constructors_in_argument x ++ constructors_in_clauses clauses
  constructors_in_expression (Nested block) = constructors_in_block block

  pub constructors_in_block : Block → List Mention
  constructors_in_block (Last e) = constructors_in_expression e
  constructors_in_block (Let binders e rest) = constructors_in_expression e ++ constructors_in_block rest

  pub constructors_in_clauses : Clauses → List Mention
  constructors_in_clauses NoClauses = []
  constructors_in_clauses (MoreClauses pattern body rest) =
      constructors_in_pattern pattern ++ (constructors_in_block body ++ constructors_in_clauses rest)
