-- It serves the proof that lowered code is sound: which variables an expression may use up, and how many credits of a
-- size it needs, beside those that its patterns give.
-- match! xs { Nil -> a; Cons(x, t) -> Cons(x, b) } uses xs, a, x and b up, and needs no credit: its pattern gives one.
use Rattle.std.specs.Prelude.{ℕ, suc, ◌+◌, ◌-◌, ◌==◌, Bool, false, not, ◌&&◌, ◌||◌, List, Option, Some, None}
use Rattle.std.specs.Prelude.{slice_get}
use Rattle.credit_check.specs.fip_base.declared.plain.Param.{Param}
use Rattle.credit_check.specs.fip_trees.Sizes.{greater}
use Rattle.credit_check.specs.fip_trees.Tree.{Argument, Variable, Literal, Constructor, Arguments, NoArguments, MoreArguments}
use Rattle.credit_check.specs.fip_trees.Tree.{Expression, Give, Tuple, Operation, Call, Match, Nested, Block, Last, Let}
use Rattle.credit_check.specs.fip_trees.Tree.{Clauses, NoClauses, MoreClauses, Instance}
use Rattle.credit_check.specs.Needs.{made, made_all, asked, given}
use Rattle.lowering_relation.specs.Values.{Setting, is_scalar}

abbrev pub is_number : Option ℕ → ℕ → Bool
is_number None y = false
is_number (Some x) y = x == y

-- variable y is in an argument
abbrev mutual
  pub uses : ℕ → Argument → Bool
  uses y (Variable x n p) = is_number x y
  uses y (Literal i p) = false
  uses y (Constructor t d c n p as') = uses_all y as'

  pub uses_all : ℕ → Arguments → Bool
  uses_all y NoArguments = false
  uses_all y (MoreArguments a as') = uses y a || uses_all y as'

-- a parameter that isn't borrowed
abbrev pub is_taken : Option Param → Bool
is_taken None = false
is_taken (Some p) = not p.lent

abbrev pub takes_of : Option Instance → ℕ → Bool
takes_of None j = false
takes_of (Some d) j = is_taken (slice_get d.params j)

-- one of the arguments of a call, from place j on
abbrev pub uses_passed : Option Instance → ℕ → ℕ → Arguments → Bool
uses_passed o y j NoArguments = false
uses_passed o y j (MoreArguments a as') = (takes_of o j && uses y a) || uses_passed o y (suc j) as'

abbrev mutual
  -- An expression may use variable y up. Operators are applied to ints, which nobody owns.
  pub used_in : List Instance → ℕ → Expression → Bool
  used_in ds y (Give a) = uses y a
  used_in ds y (Tuple p as') = uses_all y as'
  used_in ds y (Operation o p a b) = false
  used_in ds y (Call g n p as') = uses_passed (slice_get ds g) y 0 as'
  used_in ds y (Match d t p a q b cs) = (d && uses y a) || (used_in_block ds y b || used_in_clauses ds y cs)
  used_in ds y (Nested b) = used_in_block ds y b

  pub used_in_block : List Instance → ℕ → Block → Bool
  used_in_block ds y (Last e) = used_in ds y e
  used_in_block ds y (Let bs e rest) = used_in ds y e || used_in_block ds y rest

  pub used_in_clauses : List Instance → ℕ → Clauses → Bool
  used_in_clauses ds y NoClauses = false
  used_in_clauses ds y (MoreClauses q b cs) = used_in_block ds y b || used_in_clauses ds y cs

-- a match takes its scrutinee's cells, so that its patterns give credits
abbrev pub gives_credits : Setting → Bool → ℕ → Bool
gives_credits st d t = d && not (is_scalar st t)

abbrev mutual
  -- The credits of size k that an expression needs. The scrutinee of a match is a variable, which needs none.
  pub need : Setting → ℕ → Expression → ℕ
  need st k (Give a) = made k a
  need st k (Tuple p as') = made_all k as'
  need st k (Operation o p a b) = made k a + made k b
  need st k (Call g n p as') = made_all k as' + asked k (slice_get st.instances g)
  need st k (Match d t p a q b cs) =
      greater (need_block st k b - given k (gives_credits st d t) q) (need_clauses st k (gives_credits st d t) cs)
  need st k (Nested b) = need_block st k b

  pub need_block : Setting → ℕ → Block → ℕ
  need_block st k (Last e) = need st k e
  need_block st k (Let bs e rest) = need st k e + need_block st k rest

  pub need_clauses : Setting → ℕ → Bool → Clauses → ℕ
  need_clauses st k taken NoClauses = 0
  need_clauses st k taken (MoreClauses q b cs) =
      greater (need_block st k b - given k taken q) (need_clauses st k taken cs)
