-- What is held is what is needed.
use Rattle.std.proofs.Common.{◌≡◌, ℕ, suc, ◌<◌, refl, ap, List, [], ◌∷◌, ◌++◌, length}
use Rattle.fip_trees.specs.fip_language.declared.FunKind.{FunKind}
use Rattle.fip_trees.specs.fip_language.declared.FunKind.TheVariants.{Fip, Fbip, Fun}
use Rattle.fip_trees.specs.declared.needs.Need.{Need}
use Rattle.fip_trees.specs.Sizes.{number, no_sizes}
use Rattle.fip_trees.specs.Tree.{Expression, Give, Tuple, Operation, Call, Match, Nested, Block, Last, Let, Clauses, NoClauses, MoreClauses, Instance, Program}
use Rattle.credit_check.specs.Needs.{need, need_block}
use Rattle.credit_check.specs.Held.{Row, above, rows, part_rows, clause_rows, block_rows, instance_rows, AreRows, HoldsAll}
use Rattle.credit_check.specs.Tallies.{sizes, block_sizes, above_need, needs, parts_needs, clauses_needs, block_needs, instance_needs, all_needs}
use Rattle.credit_check.proofs.Amounts.{expression_at, block_at}

as_many : (ns : List Need) (rs : List Row) → AreRows ns rs → length ns ≡ length rs
as_many [] [] h = refl
as_many [] (r ∷ rs) h = absurd h
as_many (n ∷ ns) [] h = absurd h
as_many (n ∷ ns) (r ∷ rs) h = ap suc (as_many ns rs h.1)

joined : (ns ms : List Need) (rs ss : List Row) → AreRows ns rs → AreRows ms ss → AreRows (ns ++ ms) (rs ++ ss)
joined [] ms [] ss h g = g
joined [] ms (r ∷ rs) ss h g = absurd h
joined (n ∷ ns) ms [] ss h g = absurd h
joined (n ∷ ns) ms (r ∷ rs) ss h g = (h.0, joined ns ms rs ss h.1 g)

topped : (xs : List ℕ) (f : ℕ → ℕ) (ns : List Need) (rs : List Row) → ((k : ℕ) → 0 < k → k < 17 → number xs k ≡ f k) → AreRows ns rs → AreRows (above_need xs ns) (above f rs)
topped xs f ns rs e h = (record { sizes = e; span = ap suc (as_many ns rs h) }, h)

mutual
  expression_rows : (p : Program) (e : Expression) → AreRows (needs p e) (rows p e)
  expression_rows p (Give a) = topped (sizes p (Give a)) (λ k. need p k (Give a)) [] [] (λ k l u. expression_at p k l u (Give a)) tt
  expression_rows p (Tuple q as') = topped (sizes p (Tuple q as')) (λ k. need p k (Tuple q as')) [] [] (λ k l u. expression_at p k l u (Tuple q as')) tt
  expression_rows p (Operation o q a b) = topped (sizes p (Operation o q a b)) (λ k. need p k (Operation o q a b)) [] [] (λ k l u. expression_at p k l u (Operation o q a b)) tt
  expression_rows p (Call g n q as') = topped (sizes p (Call g n q as')) (λ k. need p k (Call g n q as')) [] [] (λ k l u. expression_at p k l u (Call g n q as')) tt
  expression_rows p (Match d t q a r body cs) =
      topped (sizes p (Match d t q a r body cs)) (λ k. need p k (Match d t q a r body cs)) (above_need (block_sizes p no_sizes body) (parts_needs p body) ++ clauses_needs p cs) (above (λ k. need_block p k body) (part_rows p body) ++ clause_rows p cs) (λ k l u. expression_at p k l u (Match d t q a r body cs))
      (joined (above_need (block_sizes p no_sizes body) (parts_needs p body)) (clauses_needs p cs) (above (λ k. need_block p k body) (part_rows p body)) (clause_rows p cs)
      (topped (block_sizes p no_sizes body) (λ k. need_block p k body) (parts_needs p body) (part_rows p body) (λ k l u. block_at p k l u body) (part_are p body)) (clauses_are p cs))
  expression_rows p (Nested b) = topped (block_sizes p no_sizes b) (λ k. need_block p k b) (parts_needs p b) (part_rows p b) (λ k l u. block_at p k l u b) (part_are p b)

  part_are : (p : Program) (b : Block) → AreRows (parts_needs p b) (part_rows p b)
  part_are p (Last e) = expression_rows p e
  part_are p (Let bs e rest) = joined (needs p e) (parts_needs p rest) (rows p e) (part_rows p rest) (expression_rows p e) (part_are p rest)

  clauses_are : (p : Program) (cs : Clauses) → AreRows (clauses_needs p cs) (clause_rows p cs)
  clauses_are p NoClauses = tt
  clauses_are p (MoreClauses q body cs) =
      joined (above_need (block_sizes p no_sizes body) (parts_needs p body)) (clauses_needs p cs) (above (λ k. need_block p k body) (part_rows p body)) (clause_rows p cs)
      (topped (block_sizes p no_sizes body) (λ k. need_block p k body) (parts_needs p body) (part_rows p body) (λ k l u. block_at p k l u body) (part_are p body)) (clauses_are p cs)

block_are : (p : Program) (b : Block) → AreRows (block_needs p b) (block_rows p b)
block_are p b = topped (block_sizes p no_sizes b) (λ k. need_block p k b) (parts_needs p b) (part_rows p b) (λ k l u. block_at p k l u b) (part_are p b)

instance_are : (p : Program) (k : FunKind) (d : Instance) → AreRows (instance_needs p k d) (instance_rows p k d)
instance_are p Fip d = block_are p d.body
instance_are p Fbip d = block_are p d.body
instance_are p Fun d = tt

pub holds : (p : Program) (ds : List Instance) → HoldsAll p (all_needs p ds) ds
holds p [] = tt
holds p (d ∷ ds) = (instance_are p d.kind d, holds p ds)
