-- For the proofs alone: what the walk notes, given the numbers of the groups.
use Rattle.std.specs.Prelude.{◌≡◌, ℕ, suc, Bool, true, false, not, ◌&&◌, ◌==◌, List, [], ◌∷◌, ◌++◌, Option, None}
use Rattle.std.specs.Prelude.{if◌then◌else◌}
use Rattle.fip_trees.specs.declared.least.Violation.{Violation}
use Rattle.fip_trees.specs.Least.{after}
use Rattle.fip_trees.specs.Tree.{Expression, Give, Tuple, Operation, Call, Match, Nested, Block, Last, Let}
use Rattle.fip_trees.specs.Tree.{Clauses, NoClauses, MoreClauses, Instance}
use Rattle.call_groups.specs.CallGraph.{group_number, IsPartition}
use Rattle.call_groups.specs.declared.search.Partition.{Partition}
use Rattle.tail_groups.specs.Sites.{Site, site, call_rows}
use Rattle.tail_groups.specs.Rules.{is_fip, reported}

abbrev pub site_notes : Partition → ℕ → Site → List Violation
site_notes p i s = if not s.is_tail && (group_number p s.callee == group_number p i) then reported i s ∷ [] else []

abbrev pub notes : Partition → ℕ → List Site → List Violation
notes p i [] = []
notes p i (s ∷ ss) = site_notes p i s ++ notes p i ss

-- the same, along the tree
abbrev mutual
  pub expression_notes : Partition → ℕ → Bool → Expression → List Violation
  expression_notes p i t (Give a) = []
  expression_notes p i t (Tuple q as') = []
  expression_notes p i t (Operation o q l r) = []
  expression_notes p i t (Call g n q as') = site_notes p i (site g n q t)
  expression_notes p i t (Match k u q a r body cs) = block_notes p i t body ++ clauses_notes p i t cs
  expression_notes p i t (Nested b) = block_notes p i t b

  pub block_notes : Partition → ℕ → Bool → Block → List Violation
  block_notes p i t (Last e) = expression_notes p i t e
  block_notes p i t (Let bs e rest) = expression_notes p i false e ++ block_notes p i t rest

  pub clauses_notes : Partition → ℕ → Bool → Clauses → List Violation
  clauses_notes p i t NoClauses = []
  clauses_notes p i t (MoreClauses q body rest) = block_notes p i t body ++ clauses_notes p i t rest

abbrev pub instance_notes : Partition → ℕ → Instance → List Violation
instance_notes p i d = if is_fip d.kind then block_notes p i true d.body else []

abbrev pub all_notes : Partition → ℕ → List Instance → List Violation
all_notes p i [] = []
all_notes p i (d ∷ ds) = instance_notes p i d ++ all_notes p (suc i) ds

-- the least of what the walk notes, by the groups of these instances
pub record IsNoted (ds : List Instance) (least : Option Violation) : Type 0 where
  pub groups : Partition
  pub right : IsPartition (call_rows ds) groups
  pub noted : least ≡ after None (all_notes groups 0 ds)
