-- What is required of the numbers of a typed program, beside its types. Literals have 64 bits, a constructor's number
-- is that of a constructor of its type, and a call's that of an instance; an instance has as many binders as
-- parameters; type 1 is bool, whose constructors 0 and 1 have no fields.
-- For example Cons(1, Nil), where Nil and Cons are the constructors 0 and 1 of its type, is formed so.
use Rattle.std.specs.Prelude.{◌≡◌, ◌<◌, ℕ, List, [], ◌∷◌, length, Some, slice_get, FitsSigned}
use Rattle.std.specs.Int.{w64}
use Rattle.match_cover.specs.fip_language.Table.{Shape, Table, constructors}
use Rattle.match_cover.specs.fip_trees.Tree.{Argument, Variable, Literal, Constructor, Arguments, NoArguments, MoreArguments}
use Rattle.match_cover.specs.fip_trees.Tree.{Expression, Give, Tuple, Operation, Call, Match, Nested, Block, Last, Let}
use Rattle.match_cover.specs.fip_trees.Tree.{Clauses, NoClauses, MoreClauses, Instance, Program}

abbrev mutual
  pub FormedArgument : Program → Argument → Type 0
  FormedArgument p (Variable x n q) = Unit {0}
  FormedArgument p (Literal i q) = FitsSigned w64 i
  FormedArgument p (Constructor t d c n q as') = (c < length (constructors p.types t)) × FormedArguments p as'

  pub FormedArguments : Program → Arguments → Type 0
  FormedArguments p NoArguments = Unit {0}
  FormedArguments p (MoreArguments a as') = FormedArgument p a × FormedArguments p as'

abbrev mutual
  pub FormedExpression : Program → Expression → Type 0
  FormedExpression p (Give a) = FormedArgument p a
  FormedExpression p (Tuple q as') = FormedArguments p as'
  FormedExpression p (Operation o q l r) = FormedArgument p l × FormedArgument p r
  FormedExpression p (Call g n q as') = (g < length p.instances) × FormedArguments p as'
  FormedExpression p (Match k t q a r body cs) = FormedArgument p a × FormedBlock p body × FormedClauses p cs
  FormedExpression p (Nested b) = FormedBlock p b

  pub FormedBlock : Program → Block → Type 0
  FormedBlock p (Last e) = FormedExpression p e
  FormedBlock p (Let bs e rest) = FormedExpression p e × FormedBlock p rest

  pub FormedClauses : Program → Clauses → Type 0
  FormedClauses p NoClauses = Unit {0}
  FormedClauses p (MoreClauses q body cs) = FormedBlock p body × FormedClauses p cs

pub record FormedInstance (p : Program) (d : Instance) : Type 0 where
  pub binders : length d.binders ≡ length d.params
  pub body : FormedBlock p d.body

abbrev pub AreFormed : Program → List Instance → Type 0
AreFormed p [] = Unit {0}
AreFormed p (d ∷ ds) = FormedInstance p d × AreFormed p ds

-- constructor c of type t is there and has no field
abbrev pub IsBare : Table → ℕ → ℕ → Type 0
IsBare tb t c = (s : Shape) × (slice_get (constructors tb t) c ≡ Some s) × (s.fields ≡ [])

pub record IsFormed (p : Program) : Type 0 where
  pub false_is_bare : IsBare p.types 1 0
  pub true_is_bare : IsBare p.types 1 1
  pub bodies : AreFormed p p.instances
