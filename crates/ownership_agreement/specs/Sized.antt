-- What the theorem requires of a program; each typed program keeps to it. Scrutinees are variables, a constructor of a
-- scalar type has no field, no constructor has more than 16, and the credits of headers have sizes from 1 to 16.
use Rattle.std.specs.Prelude.{◌≡◌, ◌<◌, ℕ, suc, true, List, [], ◌∷◌, Option, Some, None, slice_get}
use Rattle.credit_check.specs.fip_language.Table.{is_scalar}
use Rattle.credit_check.specs.fip_language.declared.limits.TheConstants.{MOST_FIELDS}
use Rattle.credit_check.specs.fip_trees.Tree.{Argument, Variable, Literal, Constructor, Arguments, NoArguments, MoreArguments, count}
use Rattle.credit_check.specs.fip_trees.Tree.{Pattern, BinderPattern, LiteralPattern, ConstructorPattern}
use Rattle.credit_check.specs.fip_trees.Tree.{Patterns, NoPatterns, MorePatterns, count_patterns, Instance, Program}
use Rattle.credit_check.specs.fip_trees.Tree.{Expression, Give, Tuple, Operation, Call, Match, Nested, Block, Last, Let}
use Rattle.credit_check.specs.fip_trees.Tree.{Clauses, NoClauses, MoreClauses}

abbrev pub AreSizes : List ℕ → Type 0
AreSizes [] = Unit {0}
AreSizes (k ∷ ks) = (0 < k) × (k < suc MOST_FIELDS) × AreSizes ks

abbrev pub SizedHeader : Option Instance → Type 0
SizedHeader None = Unit {0}
SizedHeader (Some d) = AreSizes d.credits

abbrev pub IsVariable : Argument → Type 0
IsVariable (Variable x n p) = Unit {0}
IsVariable (Literal i p) = ⊥
IsVariable (Constructor t d c n p as') = ⊥

abbrev mutual
  pub SizedArgument : Program → Argument → Type 0
  SizedArgument p (Variable x n q) = Unit {0}
  SizedArgument p (Literal i q) = Unit {0}
  SizedArgument p (Constructor t d c n q as') =
      (count as' < suc MOST_FIELDS) × (is_scalar p.types t ≡ true → as' ≡ NoArguments) × SizedArguments p as'

  pub SizedArguments : Program → Arguments → Type 0
  SizedArguments p NoArguments = Unit {0}
  SizedArguments p (MoreArguments a as') = SizedArgument p a × SizedArguments p as'

abbrev mutual
  pub SizedPattern : Pattern → Type 0
  SizedPattern (BinderPattern b) = Unit {0}
  SizedPattern (LiteralPattern i q) = Unit {0}
  SizedPattern (ConstructorPattern t d c n q ps) = (count_patterns ps < suc MOST_FIELDS) × SizedPatterns ps

  pub SizedPatterns : Patterns → Type 0
  SizedPatterns NoPatterns = Unit {0}
  SizedPatterns (MorePatterns q ps) = SizedPattern q × SizedPatterns ps

abbrev mutual
  pub SizedExpression : Program → Expression → Type 0
  SizedExpression p (Give a) = SizedArgument p a
  SizedExpression p (Tuple q as') = SizedArguments p as'
  SizedExpression p (Operation o q l r) = SizedArgument p l × SizedArgument p r
  SizedExpression p (Call g n q as') = SizedArguments p as' × SizedHeader (slice_get p.instances g)
  SizedExpression p (Match d t q a r body cs) =
      IsVariable a × SizedPattern r × SizedBlock p body × SizedClauses p cs
  SizedExpression p (Nested b) = SizedBlock p b

  pub SizedBlock : Program → Block → Type 0
  SizedBlock p (Last e) = SizedExpression p e
  SizedBlock p (Let bs e rest) = SizedExpression p e × SizedBlock p rest

  pub SizedClauses : Program → Clauses → Type 0
  SizedClauses p NoClauses = Unit {0}
  SizedClauses p (MoreClauses r body cs) = SizedPattern r × SizedBlock p body × SizedClauses p cs

pub record IsSized (p : Program) (d : Instance) : Type 0 where
  pub header : AreSizes d.credits
  pub body : SizedBlock p d.body
