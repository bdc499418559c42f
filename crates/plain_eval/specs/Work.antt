-- How much work is left. It serves the proof that an evaluation ends.
use Rattle.std.specs.Prelude.{ℕ, suc, ◌+◌, max, List, [], ◌∷◌}
use Rattle.fip_trees.specs.Tree.{Expression, Give, Tuple, Operation, Call, Match, Nested, Block, Last, Let}
use Rattle.fip_trees.specs.Tree.{Clauses, NoClauses, MoreClauses, Instance}

abbrev mutual
  pub expression_size : Expression → ℕ
  expression_size (Give a) = 1
  expression_size (Tuple p as') = 1
  expression_size (Operation o p l r) = 1
  expression_size (Call g n p as') = 1
  expression_size (Match k t p a q body cs) = suc (block_size body + clauses_size cs)
  expression_size (Nested b) = suc (block_size b)

  pub block_size : Block → ℕ
  block_size (Last e) = suc (expression_size e)
  block_size (Let bs e rest) = suc (suc (expression_size e + block_size rest))

  pub clauses_size : Clauses → ℕ
  clauses_size NoClauses = 0
  clauses_size (MoreClauses q body cs) = block_size body + clauses_size cs

-- the greatest size of a body
abbrev pub largest : List Instance → ℕ
largest [] = 0
largest (d ∷ ds) = max (block_size d.body) (largest ds)
