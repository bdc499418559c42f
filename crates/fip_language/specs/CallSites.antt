-- The calls that are in a body, and which of them are in tail position.
-- A call is in tail position where nothing is left to do after it: the body of a function is in tail position, and
-- where an expression is, so are its clauses' bodies and the last expression of its block. A bound expression never is.
use Rattle.std.specs.Prelude.{◌+◌, Bool, false, List, [], ◌∷◌, ◌++◌}
use Rattle.fip_language.specs.declared.Place.{Place}
use Rattle.fip_language.specs.Core.{Name, Writtens, Expression, Give, Tuple, Operation, Call, Match, Nested, Block}
use Rattle.fip_language.specs.Core.{Last, Let, Clauses, NoClauses, MoreClauses}

-- a call as it is written, and whether it is in tail position
pub record CallSite : Type 0 where
  pub tail : Bool
  pub name : Name
  pub place : Place
  pub statics : Writtens

-- the calls of an expression that is in tail position, or isn't
abbrev mutual
  pub sites_in_expression : Bool → Expression → List CallSite
  sites_in_expression tail (Give a) = []
  sites_in_expression tail (Tuple p as') = []
  sites_in_expression tail (Operation o p a b) = []
  sites_in_expression tail (Call name p statics as') =
      record { tail = tail; name = name; place = p; statics = statics } ∷ []
  sites_in_expression tail (Match destructive p x clauses) = sites_in_clauses tail clauses
  sites_in_expression tail (Nested block) = sites_in_block tail block

  pub sites_in_block : Bool → Block → List CallSite
  sites_in_block tail (Last e) = sites_in_expression tail e
  sites_in_block tail (Let binders e rest) = sites_in_expression false e ++ sites_in_block tail rest

  pub sites_in_clauses : Bool → Clauses → List CallSite
  sites_in_clauses tail NoClauses = []
  sites_in_clauses tail (MoreClauses pattern body rest) = sites_in_block tail body ++ sites_in_clauses tail rest
