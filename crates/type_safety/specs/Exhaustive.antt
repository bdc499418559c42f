-- In a typed program: each match has, for each value of its scrutinee's type, a clause whose pattern matches it. The
-- slot of the match holds that type.
-- For example match! xs { Nil -> acc; Cons(x, t) -> .. } where xs is of data ints { Nil; Cons(int, ints) }.
use Rattle.std.specs.Prelude.{◌≡◌, ℕ, Bool, true, false, is_some, List, [], ◌∷◌, if◌then◌else◌}
use Rattle.match_cover.specs.fip_language.Values.{Value}
use Rattle.match_cover.specs.fip_language.Table.{Table, HasType}
use Rattle.match_cover.specs.fip_trees.Tree.{Expression, Give, Tuple, Operation, Call, Match, Nested, Block, Last, Let}
use Rattle.match_cover.specs.fip_trees.Tree.{Clauses, NoClauses, MoreClauses, Instance}
use Rattle.instance_semantics.specs.Matching.{matching}

-- a pattern of these clauses matches the value
abbrev pub some_matches : Clauses → Value → Bool
some_matches NoClauses v = false
some_matches (MoreClauses q body cs) v = if is_some (matching q v) then true else some_matches cs v

abbrev pub IsExhaustive : Table → ℕ → Clauses → Type 0
IsExhaustive tb t cs = (v : Value) → HasType tb t v → some_matches cs v ≡ true

abbrev mutual
  pub ExhaustiveExpression : Table → Expression → Type 0
  ExhaustiveExpression tb (Give a) = Unit {0}
  ExhaustiveExpression tb (Tuple p as') = Unit {0}
  ExhaustiveExpression tb (Operation o p l r) = Unit {0}
  ExhaustiveExpression tb (Call g n p as') = Unit {0}
  ExhaustiveExpression tb (Match k t p a q body cs) =
      IsExhaustive tb t (MoreClauses q body cs) × ExhaustiveBlock tb body × ExhaustiveClauses tb cs
  ExhaustiveExpression tb (Nested b) = ExhaustiveBlock tb b

  pub ExhaustiveBlock : Table → Block → Type 0
  ExhaustiveBlock tb (Last e) = ExhaustiveExpression tb e
  ExhaustiveBlock tb (Let bs e rest) = ExhaustiveExpression tb e × ExhaustiveBlock tb rest

  pub ExhaustiveClauses : Table → Clauses → Type 0
  ExhaustiveClauses tb NoClauses = Unit {0}
  ExhaustiveClauses tb (MoreClauses q body cs) = ExhaustiveBlock tb body × ExhaustiveClauses tb cs

abbrev pub AreExhaustive : Table → List Instance → Type 0
AreExhaustive tb [] = Unit {0}
AreExhaustive tb (d ∷ ds) = ExhaustiveBlock tb d.body × AreExhaustive tb ds
