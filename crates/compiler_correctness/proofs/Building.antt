-- A typed program builds constructors of their types alone.
use Rattle.std.proofs.Common.{◌≡◌, ℕ, zero, suc, List, [], ◌∷◌, length, Some, slice_get, subst}
use Rattle.std.proofs.lemmas.Option.{none-some, same_Some}
use Rattle.lowering_soundness.specs.fip_language.Table.{constructors}
use Rattle.lowering_soundness.specs.fip_trees.Tree.{Argument, Variable, Literal, Constructor, Arguments, NoArguments, MoreArguments}
use Rattle.lowering_soundness.specs.fip_trees.Tree.{Expression, Give, Tuple, Operation, Call, Match, Nested, Block, Last, Let, Clauses, NoClauses, MoreClauses, Instance, Program}
use Rattle.source_safety.specs.type_safety.Formed.{FormedArgument, FormedArguments, FormedExpression, FormedBlock, FormedClauses, FormedInstance, AreFormed}
use Rattle.lowering_soundness.proofs.separation_kinds.Basics.{below_is}
use Rattle.lowering_soundness.specs.Built.{BuildsArgument, BuildsArguments, Builds, BuildsBlock, BuildsClauses}

module _ (p : Program) where
  mutual
    argument_builds : (a : Argument) → FormedArgument p a → BuildsArgument p.types a
    argument_builds (Variable x n q) h = tt
    argument_builds (Literal i q) h = tt
    argument_builds (Constructor t d c n q as') h = (below_is c (length (constructors p.types t)) h.0, arguments_build as' h.1)

    arguments_build : (as' : Arguments) → FormedArguments p as' → BuildsArguments p.types as'
    arguments_build NoArguments h = tt
    arguments_build (MoreArguments a as') h = (argument_builds a h.0, arguments_build as' h.1)

  mutual
    expression_builds : (e : Expression) → FormedExpression p e → Builds p.types e
    expression_builds (Give a) h = argument_builds a h
    expression_builds (Tuple q as') h = arguments_build as' h
    expression_builds (Operation o q a b) h = (argument_builds a h.0, argument_builds b h.1)
    expression_builds (Call g n q as') h = arguments_build as' h.1
    expression_builds (Match k t q a r b cs) h = (block_builds b h.1, clauses_build cs h.2)
    expression_builds (Nested b) h = block_builds b h

    pub block_builds : (b : Block) → FormedBlock p b → BuildsBlock p.types b
    block_builds (Last e) h = expression_builds e h
    block_builds (Let bs e rest) h = (expression_builds e h.0, block_builds rest h.1)

    clauses_build : (cs : Clauses) → FormedClauses p cs → BuildsClauses p.types cs
    clauses_build NoClauses h = tt
    clauses_build (MoreClauses q b cs) h = (block_builds b h.0, clauses_build cs h.1)

  pub formed_at : (ds : List Instance) (i : ℕ) (d : Instance) → AreFormed p ds → slice_get ds i ≡ Some d → FormedInstance p d
  formed_at [] i d h e = absurd (none-some d e)
  formed_at (x ∷ ds) zero d h e = subst (FormedInstance p) (same_Some x d e) h.0
  formed_at (x ∷ ds) (suc i) d h e = formed_at ds i d h.1 e
