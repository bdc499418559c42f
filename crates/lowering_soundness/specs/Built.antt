-- It serves the proof that lowered code is sound: constructors that a body builds are of their types.
use Rattle.std.specs.Prelude.{◌≡◌, true}
use Rattle.separation.specs.fip_language.Table.{Table}
use Rattle.lowering_relation.specs.fip_trees.Tree.{Argument, Variable, Literal, Constructor, Arguments, NoArguments, MoreArguments}
use Rattle.lowering_relation.specs.fip_trees.Tree.{Expression, Give, Tuple, Operation, Call, Match, Nested, Block, Last, Let}
use Rattle.lowering_relation.specs.fip_trees.Tree.{Clauses, NoClauses, MoreClauses}
use Rattle.separation.specs.code_rules.Ranges.{is_constructor}

abbrev mutual
  pub BuildsArgument : Table → Argument → Type 0
  BuildsArgument w (Variable x n p) = Unit {0}
  BuildsArgument w (Literal i p) = Unit {0}
  BuildsArgument w (Constructor t d c n p as') = (is_constructor w t c ≡ true) × BuildsArguments w as'

  pub BuildsArguments : Table → Arguments → Type 0
  BuildsArguments w NoArguments = Unit {0}
  BuildsArguments w (MoreArguments a as') = BuildsArgument w a × BuildsArguments w as'

abbrev mutual
  pub Builds : Table → Expression → Type 0
  Builds w (Give a) = BuildsArgument w a
  Builds w (Tuple p as') = BuildsArguments w as'
  Builds w (Operation o p a b) = BuildsArgument w a × BuildsArgument w b
  Builds w (Call g n p as') = BuildsArguments w as'
  Builds w (Match k t p a q b cs) = BuildsBlock w b × BuildsClauses w cs
  Builds w (Nested b) = BuildsBlock w b

  pub BuildsBlock : Table → Block → Type 0
  BuildsBlock w (Last e) = Builds w e
  BuildsBlock w (Let bs e rest) = Builds w e × BuildsBlock w rest

  pub BuildsClauses : Table → Clauses → Type 0
  BuildsClauses w NoClauses = Unit {0}
  BuildsClauses w (MoreClauses q b cs) = BuildsBlock w b × BuildsClauses w cs
