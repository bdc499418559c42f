-- What is held of each expression: what it needs, and how many expressions it has in it, itself counted.
--
-- An expression comes before its parts. A block is an expression, whose parts are what its lets bind, in order, and
-- then its last expression; a block in brackets is no further one beside it. The parts of a match are its clauses'
-- bodies.
use Rattle.std.specs.Prelude.{◌≡◌, ◌<◌, ℕ, suc, List, [], ◌∷◌, ◌++◌, length}
use Rattle.fip_trees.specs.fip_language.declared.FunKind.{FunKind}
use Rattle.fip_trees.specs.fip_language.declared.FunKind.TheVariants.{Fip, Fbip, Fun}
use Rattle.fip_trees.specs.fip_language.declared.limits.TheConstants.{MOST_FIELDS}
use Rattle.fip_trees.specs.declared.needs.Need.{Need}
use Rattle.fip_trees.specs.Sizes.{number}
use Rattle.fip_trees.specs.Tree.{Expression, Give, Tuple, Operation, Call, Match, Nested, Block, Last, Let}
use Rattle.fip_trees.specs.Tree.{Clauses, NoClauses, MoreClauses, Instance, Program}
use Rattle.credit_check.specs.Needs.{need, need_block}

pub record Row : Type 0 where
  pub need : ℕ → ℕ
  pub span : ℕ

abbrev pub above : (ℕ → ℕ) → List Row → List Row
above f rs = record { need = f; span = suc (length rs) } ∷ rs

abbrev mutual
  pub rows : Program → Expression → List Row
  rows p (Give a) = above (λ k. need p k (Give a)) []
  rows p (Tuple q as') = above (λ k. need p k (Tuple q as')) []
  rows p (Operation o q l r) = above (λ k. need p k (Operation o q l r)) []
  rows p (Call g n q as') = above (λ k. need p k (Call g n q as')) []
  rows p (Match d t q a r body cs) =
      above (λ k. need p k (Match d t q a r body cs))
      (above (λ k. need_block p k body) (part_rows p body) ++ clause_rows p cs)
  rows p (Nested b) = above (λ k. need_block p k b) (part_rows p b)

  -- those of a block's parts
  pub part_rows : Program → Block → List Row
  part_rows p (Last e) = rows p e
  part_rows p (Let bs e rest) = rows p e ++ part_rows p rest

  pub clause_rows : Program → Clauses → List Row
  clause_rows p NoClauses = []
  clause_rows p (MoreClauses q body cs) = above (λ k. need_block p k body) (part_rows p body) ++ clause_rows p cs

abbrev pub block_rows : Program → Block → List Row
block_rows p b = above (λ k. need_block p k b) (part_rows p b)

-- a plain instance has none
abbrev pub instance_rows : Program → FunKind → Instance → List Row
instance_rows p Fip d = block_rows p d.body
instance_rows p Fbip d = block_rows p d.body
instance_rows p Fun d = []

-- the same of each size from 1 to 16, and the same span
pub record IsRow (n : Need) (r : Row) : Type 0 where
  pub sizes : (k : ℕ) → 0 < k → k < suc MOST_FIELDS → number n.sizes k ≡ r.need k
  pub span : n.span ≡ r.span

abbrev pub AreRows : List Need → List Row → Type 0
AreRows [] [] = Unit {0}
AreRows [] (r ∷ rs) = ⊥
AreRows (n ∷ ns) [] = ⊥
AreRows (n ∷ ns) (r ∷ rs) = IsRow n r × AreRows ns rs

-- a list for each instance
abbrev pub HoldsAll : Program → List (List Need) → List Instance → Type 0
HoldsAll p [] [] = Unit {0}
HoldsAll p [] (d ∷ ds) = ⊥
HoldsAll p (ns ∷ nss) [] = ⊥
HoldsAll p (ns ∷ nss) (d ∷ ds) = AreRows ns (instance_rows p d.kind d) × HoldsAll p nss ds

abbrev pub Holds : Program → List (List Need) → Type 0
Holds p nss = HoldsAll p nss p.instances
