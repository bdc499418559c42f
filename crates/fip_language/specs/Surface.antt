-- The tree of a source text, in the grammar's own shape. Nothing is resolved here: names are as written, and no
-- binder has a number. The place of each name, literal, operator, keyword and tuple's bracket that a refusal or a
-- trap may name is in it.
--
-- a - b * c is Binary Subtract _ a (Binary Multiply _ b c), and a - b - c is Binary Subtract _ (Binary Subtract _ a b)
-- c.
use Rattle.std.specs.Prelude.{ℤ, Bool, List, Option}
use Rattle.fip_language.specs.declared.Place.{Place}
use Rattle.fip_language.specs.declared.FunKind.{FunKind}
use Rattle.fip_language.specs.declared.CreditMark.{CreditMark}
use Rattle.fip_language.specs.declared.Operator.{Operator}
use Rattle.fip_language.specs.Core.{Name, Written, Writtens, Result, Static, Data}

-- what a let binds to a name, or to _, whose name is _
pub record Bind : Type 0 where
  pub name : Name
  pub place : Place
  pub annotation : Option Written

mutual
  pub data Pattern : Type 0 where
    Wildcard : (place : Place) → Pattern
    VariablePattern : (name : Name) (place : Place) → Pattern
    -- the place is the minus's where there is one
    LiteralPattern : (value : ℤ) (place : Place) → Pattern
    ConstructorPattern : (name : Name) (place : Place) (patterns : Patterns) → Pattern

  pub data Patterns : Type 0 where
    NoPatterns : Patterns
    MorePatterns : (p : Pattern) (ps : Patterns) → Patterns

mutual
  pub data Expression : Type 0 where
    Variable : (name : Name) (place : Place) → Expression
    -- the place is the minus's where there is one
    Literal : (value : ℤ) (place : Place) → Expression
    -- f(..), or f[..](..), whose brackets hold the static arguments
    Call : (name : Name) (place : Place) (statics : Writtens) (arguments : Expressions) → Expression
    -- C, or C(..)
    Constructor : (name : Name) (place : Place) (arguments : Expressions) → Expression
    -- ( .. ) round one expression
    Bracket : (block : Block) → Expression
    -- ( .., .. ), two or more; the place is the bracket's
    Tuple : (place : Place) (parts : Expressions) → Expression
    -- destructive where it is written match!
    Match : (destructive : Bool) (place : Place) (scrutinee : Expression) (clauses : Clauses) → Expression
    If : (place : Place) (condition : Expression) (yes no : Block) → Expression
    -- the place is the operator's
    Binary : (operator : Operator) (place : Place) (left right : Expression) → Expression

  pub data Expressions : Type 0 where
    NoExpressions : Expressions
    MoreExpressions : (e : Expression) (es : Expressions) → Expressions

  -- lets, and a last expression; a let binds one bind, or two or more in brackets
  pub data Block : Type 0 where
    Last : (e : Expression) → Block
    Let : (binds : List Bind) (bound : Expression) (rest : Block) → Block

  pub data Clauses : Type 0 where
    NoClauses : Clauses
    MoreClauses : (pattern : Pattern) (body : Block) (rest : Clauses) → Clauses

pub record Parameter : Type 0 where
  pub lent : Bool
  pub name : Name
  pub place : Place
  pub type : Written

-- The place of a function is its name's.
pub record Function : Type 0 where
  pub kind : FunKind
  -- the credits that a caller must hold, as they are marked
  pub credits : List CreditMark
  pub name : Name
  pub place : Place
  pub statics : List Static
  pub parameters : List Parameter
  pub result : Result
  pub body : Block

pub data Declaration : Type 0 where
  DataDeclaration : (d : Data) → Declaration
  FunctionDeclaration : (f : Function) → Declaration

-- the declarations in text order
abbrev pub Program : Type 0
Program = List Declaration
