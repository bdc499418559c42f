-- Programs without static parameters, as trees without where they lie in memory. Data types, constructors, called
-- instances and binders are numbers; names stay for what a refusal names. A `type` of a constructor or a match and the
-- `ty` of a binder are slots: they say nothing before a program is typed, and then hold the node's type.
use Rattle.std.specs.Prelude.{ℕ, suc, ℤ, Bool, List, Option}
use Rattle.fip_base.specs.fip_language.declared.Place.{Place}
use Rattle.fip_base.specs.fip_language.declared.FunKind.{FunKind}
use Rattle.fip_base.specs.fip_language.declared.Operator.{Operator}
use Rattle.fip_base.specs.fip_language.Table.{Table}
use Rattle.fip_base.specs.declared.plain.Param.{Param}
use Rattle.fip_trees.specs.declared.program.Binder.{Binder}
use Rattle.fip_trees.specs.declared.program.TupleResult.{TupleResult}

-- the bytes of a name
abbrev pub Name : Type 0
Name = List ℕ

-- A variable has the number of its binder, or none where nothing of this name is in scope. A constructor has the
-- number of the data type that declares it, and its own number there.
mutual
  pub data Argument : Type 0 where
    Variable : (binder : Option ℕ) (name : Name) (place : Place) → Argument
    Literal : (value : ℤ) (place : Place) → Argument
    Constructor : (type declared number : ℕ) (name : Name) (place : Place) (arguments : Arguments) → Argument

  pub data Arguments : Type 0 where
    NoArguments : Arguments
    MoreArguments : (a : Argument) (as' : Arguments) → Arguments

mutual
  pub data Pattern : Type 0 where
    BinderPattern : (binder : Binder) → Pattern
    LiteralPattern : (value : ℤ) (place : Place) → Pattern
    ConstructorPattern : (type declared number : ℕ) (name : Name) (place : Place) (patterns : Patterns) → Pattern

  pub data Patterns : Type 0 where
    NoPatterns : Patterns
    MorePatterns : (p : Pattern) (ps : Patterns) → Patterns

-- A call has the number of the instance that it calls. A match has a first clause and others, and `type` is its
-- scrutinee's; it is destructive where it is written match!, and borrowing where it is written match or if.
mutual
  pub data Expression : Type 0 where
    Give : (argument : Argument) → Expression
    Tuple : (place : Place) (arguments : Arguments) → Expression
    Operation : (operator : Operator) (place : Place) (left right : Argument) → Expression
    Call : (callee : ℕ) (name : Name) (place : Place) (arguments : Arguments) → Expression
    Match :
        (destructive : Bool) (type : ℕ) (place : Place) (scrutinee : Argument) (pattern : Pattern) (body : Block)
        (others : Clauses) → Expression
    Nested : (block : Block) → Expression

  -- bindings, and a last expression
  pub data Block : Type 0 where
    Last : (e : Expression) → Block
    Let : (binders : List Binder) (bound : Expression) (rest : Block) → Block

  pub data Clauses : Type 0 where
    NoClauses : Clauses
    MoreClauses : (pattern : Pattern) (body : Block) (rest : Clauses) → Clauses

-- An instance of a function; what each field says is beside the code's type of this name.
pub record Instance : Type 0 where
  pub name : Name
  pub place : Place
  pub root : Bool
  pub kind : FunKind
  pub params : List Param
  pub binders : List Binder
  pub credits : List ℕ
  pub results : List ℕ
  pub results_place : Option Place
  pub signature_tuples : List TupleResult
  pub variables : ℕ
  pub body : Block

pub record Program : Type 0 where
  pub types : Table
  pub declaring : List ℕ
  pub arities : List ℕ
  pub field_counts : List (List ℕ)
  pub instances : List Instance

abbrev pub count : Arguments → ℕ
count NoArguments = 0
count (MoreArguments a as') = suc (count as')

abbrev pub count_patterns : Patterns → ℕ
count_patterns NoPatterns = 0
count_patterns (MorePatterns p ps) = suc (count_patterns ps)

-- the place of an argument's head
abbrev pub place_of : Argument → Place
place_of (Variable x n p) = p
place_of (Literal i p) = p
place_of (Constructor t d c n p as') = p

-- the place of a pattern's first token
abbrev pub pattern_place : Pattern → Place
pattern_place (BinderPattern b) = b.place
pattern_place (LiteralPattern i p) = p
pattern_place (ConstructorPattern t d c n p ps) = p
