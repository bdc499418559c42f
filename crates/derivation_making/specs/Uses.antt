-- Whether a variable, known by the number of its binder in the program, occurs in a part of a body; and whether it is
-- used up there: whether it is in an owned position, or is the scrutinee of a match that takes it apart.
--
-- For example in f(^x, y), where f borrows its first argument, both x and y occur, and y is used up.
use Rattle.std.specs.Prelude.{ℕ, suc, Bool, false, ◌&&◌, ◌||◌, ◌==◌, Option, Some, None, if◌then◌else◌}
use Rattle.derivation_check.specs.fip_trees.Tree.{Argument, Variable, Literal, Constructor, Arguments, NoArguments, MoreArguments}
use Rattle.derivation_check.specs.fip_trees.Tree.{Expression, Give, Tuple, Operation, Call, Match, Nested, Block, Last, Let}
use Rattle.derivation_check.specs.fip_trees.Tree.{Clauses, NoClauses, MoreClauses}
use Rattle.ownership_agreement.specs.fip_rules.World.{World, lends}
use Rattle.ownership_agreement.specs.fip_rules.Shapes.{takes}

abbrev pub names : ℕ → Option ℕ → Bool
names x None = false
names x (Some y) = y == x

abbrev mutual
  pub occurs_value : ℕ → Argument → Bool
  occurs_value x (Variable y n p) = names x y
  occurs_value x (Literal i p) = false
  occurs_value x (Constructor t d c n p as') = occurs_values x as'

  pub occurs_values : ℕ → Arguments → Bool
  occurs_values x NoArguments = false
  occurs_values x (MoreArguments a as') = occurs_value x a || occurs_values x as'

abbrev mutual
  pub occurs : ℕ → Expression → Bool
  occurs x (Give a) = occurs_value x a
  occurs x (Tuple p as') = occurs_values x as'
  occurs x (Operation o p l r) = occurs_value x l || occurs_value x r
  occurs x (Call g n p as') = occurs_values x as'
  occurs x (Match k t p a q body cs) = occurs_value x a || (occurs_block x body || occurs_clauses x cs)
  occurs x (Nested b) = occurs_block x b

  pub occurs_block : ℕ → Block → Bool
  occurs_block x (Last e) = occurs x e
  occurs_block x (Let bs e rest) = occurs x e || occurs_block x rest

  pub occurs_clauses : ℕ → Clauses → Bool
  occurs_clauses x NoClauses = false
  occurs_clauses x (MoreClauses q body cs) = occurs_block x body || occurs_clauses x cs

-- in a borrowed position, where what is in a constructor is used up
abbrev pub uses_lent : ℕ → Argument → Bool
uses_lent x (Variable y n p) = false
uses_lent x (Literal i p) = false
uses_lent x (Constructor t d c n p as') = occurs_values x as'

-- among the arguments of a call, from place j on
abbrev pub uses_passed : World → ℕ → ℕ → ℕ → Arguments → Bool
uses_passed w x g j NoArguments = false
uses_passed w x g j (MoreArguments a as') =
    (if lends w g j then uses_lent x a else occurs_value x a) || uses_passed w x g (suc j) as'

abbrev mutual
  pub uses : World → ℕ → Expression → Bool
  uses w x (Give a) = occurs_value x a
  uses w x (Tuple p as') = occurs_values x as'
  uses w x (Operation o p l r) = occurs_value x l || occurs_value x r
  uses w x (Call g n p as') = uses_passed w x g 0 as'
  uses w x (Match k t p a q body cs) =
      (takes w k t && occurs_value x a) || (uses_block w x body || uses_clauses w x cs)
  uses w x (Nested b) = uses_block w x b

  pub uses_block : World → ℕ → Block → Bool
  uses_block w x (Last e) = uses w x e
  uses_block w x (Let bs e rest) = uses w x e || uses_block w x rest

  pub uses_clauses : World → ℕ → Clauses → Bool
  uses_clauses w x NoClauses = false
  uses_clauses w x (MoreClauses q body cs) = uses_block w x body || uses_clauses w x cs
