-- Each scrutinee is a variable, as in every core form. So a match has no registers but those of its clauses.
use Rattle.std.specs.Prelude.{List, [], ◌∷◌}
use Rattle.tail_groups.specs.fip_trees.Tree.{Argument, Variable, Literal, Constructor}
use Rattle.tail_groups.specs.fip_trees.Tree.{Expression, Give, Tuple, Operation, Call, Match, Nested, Block, Last, Let}
use Rattle.tail_groups.specs.fip_trees.Tree.{Clauses, NoClauses, MoreClauses, Instance}

abbrev pub IsVariable : Argument → Type 0
IsVariable (Variable x n p) = Unit {0}
IsVariable (Literal i p) = ⊥
IsVariable (Constructor t d c n p as') = ⊥

abbrev mutual
  pub MatchesVariables : Expression → Type 0
  MatchesVariables (Give a) = Unit {0}
  MatchesVariables (Tuple p as') = Unit {0}
  MatchesVariables (Operation o p l r) = Unit {0}
  MatchesVariables (Call g n p as') = Unit {0}
  MatchesVariables (Match k t p a q body cs) = IsVariable a × BlockMatchesVariables body × ClausesMatchVariables cs
  MatchesVariables (Nested b) = BlockMatchesVariables b

  pub BlockMatchesVariables : Block → Type 0
  BlockMatchesVariables (Last e) = MatchesVariables e
  BlockMatchesVariables (Let bs e rest) = MatchesVariables e × BlockMatchesVariables rest

  pub ClausesMatchVariables : Clauses → Type 0
  ClausesMatchVariables NoClauses = Unit {0}
  ClausesMatchVariables (MoreClauses q body cs) = BlockMatchesVariables body × ClausesMatchVariables cs

abbrev pub AllMatchVariables : List Instance → Type 0
AllMatchVariables [] = Unit {0}
AllMatchVariables (d ∷ ds) = BlockMatchesVariables d.body × AllMatchVariables ds
