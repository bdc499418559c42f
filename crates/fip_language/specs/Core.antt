-- The core form of a program: all rules and the semantics rest on it.
-- An argument is a variable, a literal or a constructor applied to arguments; calls, tuples, operators and
-- scrutinees have only arguments as parts; all else is bound by a let before.
use Rattle.std.specs.Prelude.{ℕ, ℤ, Bool, List, [], ◌∷◌, Option}
use Rattle.fip_language.specs.declared.Place.{Place}
use Rattle.fip_language.specs.declared.FunKind.{FunKind}
use Rattle.fip_language.specs.declared.CreditMark.{CreditMark}
use Rattle.fip_language.specs.declared.Operator.{Operator}

-- the bytes of a name
abbrev pub Name : Type 0
Name = List ℕ

-- A type as it is written. A static argument is written as a type too.
mutual
  pub data Written : Type 0 where
    WrittenInt : (place : Place) → Written
    WrittenName : (name : Name) (place : Place) (arguments : Writtens) → Written

  pub data Writtens : Type 0 where
    NoWritten : Writtens
    MoreWritten : (t : Written) (ts : Writtens) → Writtens

abbrev pub writtens_of : List Written → Writtens
writtens_of [] = NoWritten
writtens_of (t ∷ ts) = MoreWritten t (writtens_of ts)

-- What a function gives: one value, or a tuple, whose place is its bracket.
pub data Result : Type 0 where
  OneResult : (t : Written) → Result
  TupleResult : (place : Place) (ts : List Written) → Result

-- A binder has a number of its own in its function, so that nothing is hidden after it.
-- The binders of a function are numbered from 0: its parameters first, then in the order of the core form.
-- One that nothing names has the name _.
pub record Binder : Type 0 where
  pub number : ℕ
  pub name : Name
  pub place : Place
  pub annotation : Option Written

-- A variable has the number of its binder, or none where nothing of this name is in scope.
mutual
  pub data Argument : Type 0 where
    Variable : (binder : Option ℕ) (name : Name) (place : Place) → Argument
    Literal : (value : ℤ) (place : Place) → Argument
    Constructor : (name : Name) (place : Place) (arguments : Arguments) → Argument

  pub data Arguments : Type 0 where
    NoArguments : Arguments
    MoreArguments : (a : Argument) (as' : Arguments) → Arguments

mutual
  pub data Pattern : Type 0 where
    BinderPattern : (binder : Binder) → Pattern
    LiteralPattern : (value : ℤ) (place : Place) → Pattern
    ConstructorPattern : (name : Name) (place : Place) (patterns : Patterns) → Pattern

  pub data Patterns : Type 0 where
    NoPatterns : Patterns
    MorePatterns : (p : Pattern) (ps : Patterns) → Patterns

-- A match is destructive where it is written match! and borrowing where it is written match or if.
-- The scrutinee is a variable.
mutual
  pub data Expression : Type 0 where
    Give : (argument : Argument) → Expression
    Tuple : (place : Place) (arguments : Arguments) → Expression
    Operation : (operator : Operator) (place : Place) (left right : Argument) → Expression
    Call : (name : Name) (place : Place) (statics : Writtens) (arguments : Arguments) → Expression
    Match : (destructive : Bool) (place : Place) (scrutinee : Argument) (clauses : Clauses) → Expression
    Nested : (block : Block) → Expression

  -- bindings, and a last expression
  pub data Block : Type 0 where
    Last : (e : Expression) → Block
    Let : (binders : List Binder) (bound : Expression) (rest : Block) → Block

  pub data Clauses : Type 0 where
    NoClauses : Clauses
    MoreClauses : (pattern : Pattern) (body : Block) (rest : Clauses) → Clauses

-- a parameter of a signature: whether it is borrowed, and its type
pub record SignatureParameter : Type 0 where
  pub lent : Bool
  pub type : Written

pub data Static : Type 0 where
  TypeParameter : (name : Name) (place : Place) → Static
  FunctionParameter : (name : Name) (place : Place) (parameters : List SignatureParameter) (result : Result) → Static

pub record Parameter : Type 0 where
  pub lent : Bool
  pub binder : Binder
  pub type : Written

pub record Function : Type 0 where
  pub kind : FunKind
  -- the credits that a caller must hold, as they are marked
  pub credits : List CreditMark
  pub name : Name
  pub place : Place
  pub statics : List Static
  pub parameters : List Parameter
  pub result : Result
  pub body : Block

pub record TypeName : Type 0 where
  pub name : Name
  pub place : Place

pub record DataConstructor : Type 0 where
  pub name : Name
  pub place : Place
  pub fields : List Written

pub record Data : Type 0 where
  pub name : Name
  pub place : Place
  pub parameters : List TypeName
  pub constructors : List DataConstructor

-- the declarations, each kind in text order
pub record Core : Type 0 where
  pub types : List Data
  pub functions : List Function
