-- It serves the proofs on lowered code: the patterns of each match are of the match's type; and what is required of the
-- numbers of patterns, beside their types: literals have 64 bits, and a constructor's number is one of its type's.
-- match xs { Nil -> a; Cons(x, t) -> b } of the type of lists is so, with Nil and Cons the constructors 0 and 1.
use Rattle.std.specs.Prelude.{◌<◌, ℕ, length, FitsSigned}
use Rattle.std.specs.Int.{w64}
use Rattle.tree_semantics.specs.fip_language.Every.{Every}
use Rattle.tree_semantics.specs.fip_language.Table.{Table, constructors}
use Rattle.credit_check.specs.fip_trees.Tree.{Pattern, BinderPattern, LiteralPattern, ConstructorPattern, Patterns, NoPatterns}
use Rattle.credit_check.specs.fip_trees.Tree.{MorePatterns, Expression, Give, Tuple, Operation, Call, Match, Nested, Block, Last}
use Rattle.credit_check.specs.fip_trees.Tree.{Let, Clauses, NoClauses, MoreClauses, Instance, Program}
use Rattle.match_knowledge.specs.Patterns.{IsPattern}
use Rattle.lowering_relation.specs.Rows.{row_of}

abbrev mutual
  pub WellMatched : Table → Expression → Type 0
  WellMatched tb (Give a) = Unit {0}
  WellMatched tb (Tuple p as') = Unit {0}
  WellMatched tb (Operation o p a b) = Unit {0}
  WellMatched tb (Call g n p as') = Unit {0}
  WellMatched tb (Match ds t p a q b cs) =
      IsPattern tb t (row_of q) × WellMatchedBlock tb b × WellMatchedClauses tb t cs
  WellMatched tb (Nested b) = WellMatchedBlock tb b

  pub WellMatchedBlock : Table → Block → Type 0
  WellMatchedBlock tb (Last e) = WellMatched tb e
  WellMatchedBlock tb (Let bs e rest) = WellMatched tb e × WellMatchedBlock tb rest

  pub WellMatchedClauses : Table → ℕ → Clauses → Type 0
  WellMatchedClauses tb t NoClauses = Unit {0}
  WellMatchedClauses tb t (MoreClauses q b cs) =
      IsPattern tb t (row_of q) × WellMatchedBlock tb b × WellMatchedClauses tb t cs

-- each match of the program
abbrev pub IsWellMatched : Program → Type 0
IsWellMatched program = Every (λ (d : Instance). WellMatchedBlock program.types d.body) program.instances

abbrev mutual
  pub FormedPattern : Table → Pattern → Type 0
  FormedPattern tb (BinderPattern b) = Unit {0}
  FormedPattern tb (LiteralPattern i p) = FitsSigned w64 i
  FormedPattern tb (ConstructorPattern t d c n p ps) = (c < length (constructors tb t)) × FormedPatterns tb ps

  pub FormedPatterns : Table → Patterns → Type 0
  FormedPatterns tb NoPatterns = Unit {0}
  FormedPatterns tb (MorePatterns p ps) = FormedPattern tb p × FormedPatterns tb ps

abbrev mutual
  pub PatternsFormed : Table → Expression → Type 0
  PatternsFormed tb (Give a) = Unit {0}
  PatternsFormed tb (Tuple p as') = Unit {0}
  PatternsFormed tb (Operation o p a b) = Unit {0}
  PatternsFormed tb (Call g n p as') = Unit {0}
  PatternsFormed tb (Match ds t p a q b cs) =
      FormedPattern tb q × PatternsFormedBlock tb b × PatternsFormedClauses tb cs
  PatternsFormed tb (Nested b) = PatternsFormedBlock tb b

  pub PatternsFormedBlock : Table → Block → Type 0
  PatternsFormedBlock tb (Last e) = PatternsFormed tb e
  PatternsFormedBlock tb (Let bs e rest) = PatternsFormed tb e × PatternsFormedBlock tb rest

  pub PatternsFormedClauses : Table → Clauses → Type 0
  PatternsFormedClauses tb NoClauses = Unit {0}
  PatternsFormedClauses tb (MoreClauses q b cs) =
      FormedPattern tb q × PatternsFormedBlock tb b × PatternsFormedClauses tb cs

-- the patterns of the program are formed so
abbrev pub ArePatternsFormed : Program → Type 0
ArePatternsFormed program = Every (λ (d : Instance). PatternsFormedBlock program.types d.body) program.instances
