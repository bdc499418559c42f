-- It serves the proof that lowered code means what its program means: the binders of an instance have different
-- numbers, as far as an evaluation requires. No binder has the number of one in whose scope it is.
-- In `let x = f(y); let z = x; g(x, z)` x and z have different numbers, and both have others than the parameters.
use Rattle.std.specs.Prelude.{◌≡◌, ℕ, List, [], ◌∷◌, ◌++◌, map, length}
use Rattle.tree_refinement.specs.fip_language.Every.{Every, Among}
use Rattle.lowering_relation.specs.fip_trees.declared.program.Binder.{Binder}
use Rattle.lowering_relation.specs.fip_trees.Tree.{Pattern, BinderPattern, LiteralPattern, ConstructorPattern, Patterns, NoPatterns}
use Rattle.lowering_relation.specs.fip_trees.Tree.{MorePatterns, Expression, Give, Tuple, Operation, Call, Match, Nested, Block, Last}
use Rattle.lowering_relation.specs.fip_trees.Tree.{Let, Clauses, NoClauses, MoreClauses, Instance, Program}

abbrev pub number : Binder → ℕ
number b = b.number

abbrev pub numbers : List Binder → List ℕ
numbers bs = map number bs

abbrev mutual
  pub in_pattern : Pattern → List ℕ
  in_pattern (BinderPattern b) = b.number ∷ []
  in_pattern (LiteralPattern i p) = []
  in_pattern (ConstructorPattern t d c n p ps) = in_patterns ps

  pub in_patterns : Patterns → List ℕ
  in_patterns NoPatterns = []
  in_patterns (MorePatterns p ps) = in_pattern p ++ in_patterns ps

-- the numbers of the binders within
abbrev mutual
  pub in_expression : Expression → List ℕ
  in_expression (Give a) = []
  in_expression (Tuple p as') = []
  in_expression (Operation o p a b) = []
  in_expression (Call g n p as') = []
  in_expression (Match ds t p a q b cs) = in_pattern q ++ (in_block b ++ in_clauses cs)
  in_expression (Nested b) = in_block b

  pub in_block : Block → List ℕ
  in_block (Last e) = in_expression e
  in_block (Let bs e rest) = numbers bs ++ (in_expression e ++ in_block rest)

  pub in_clauses : Clauses → List ℕ
  in_clauses NoClauses = []
  in_clauses (MoreClauses q b cs) = in_pattern q ++ (in_block b ++ in_clauses cs)

-- no number is in both
abbrev pub Apart : List ℕ → List ℕ → Type 0
Apart xs ys = (x : ℕ) → Among x xs → Among x ys → ⊥

abbrev pub Differ : List ℕ → Type 0
Differ [] = Unit {0}
Differ (x ∷ xs) = (Among x xs → ⊥) × Differ xs

abbrev mutual
  pub DistinctExpression : Expression → Type 0
  DistinctExpression (Give a) = Unit {0}
  DistinctExpression (Tuple p as') = Unit {0}
  DistinctExpression (Operation o p a b) = Unit {0}
  DistinctExpression (Call g n p as') = Unit {0}
  DistinctExpression (Match ds t p a q b cs) =
      Differ (in_pattern q) × Apart (in_pattern q) (in_block b) × DistinctBlock b × DistinctClauses cs
  DistinctExpression (Nested b) = DistinctBlock b

  pub DistinctBlock : Block → Type 0
  DistinctBlock (Last e) = DistinctExpression e
  DistinctBlock (Let bs e rest) =
      Differ (numbers bs) × Apart (numbers bs) (in_block rest) × DistinctExpression e × DistinctBlock rest

  pub DistinctClauses : Clauses → Type 0
  DistinctClauses NoClauses = Unit {0}
  DistinctClauses (MoreClauses q b cs) =
      Differ (in_pattern q) × Apart (in_pattern q) (in_block b) × DistinctBlock b × DistinctClauses cs

-- an instance has a binder for each parameter, and its binders are distinct
pub record IsDistinct (d : Instance) : Type 0 where
  pub as_many : length d.params ≡ length d.binders
  pub params : Differ (numbers d.binders)
  pub others : Apart (numbers d.binders) (in_block d.body)
  pub body : DistinctBlock d.body

abbrev pub AreDistinct : Program → Type 0
AreDistinct program = Every IsDistinct program.instances
