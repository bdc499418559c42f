-- For the proofs on the size of code alone: by how much the parts of the lowering of a function lengthen what is
-- written. What is given up at a place is no more than the registers that hold something, since each is emptied. The
-- tests of a match are paid by the branches of its decision tree: what is still to be spent shrinks as code grows.
use Rattle.std.specs.Prelude.{◌≡◌, ◌≤◌, ◌<◌, ◌+◌, ◌*◌, ℕ, zero, suc, List, [], ◌∷◌, Option, Some, None, if◌then◌else◌}
use Rattle.fip_language.specs.Every.{Among}
use Rattle.fip_language.specs.Table.{Table}
use Rattle.match_knowledge.specs.Patterns.{Pattern}
use Rattle.match_knowledge.specs.Known.{Known as Learnt}
use Rattle.code_size.specs.match_cover.DecisionTree.{branches, tree_at}
use Rattle.lower_frame.specs.lowering_relation.declared.held.Held.{Held}
use Rattle.lower_frame.specs.lowering_relation.Known.{Known}
use Rattle.lower_frame.specs.lowering_relation.LoweredBodies as B
use Rattle.lower_frame.specs.lowering_relation.Written.{Written, size}
use Rattle.lower_frame.specs.lowering_relation.Spots as S
use Rattle.lower_frame.specs.lowering_relation.Reading.{contains}
use Rattle.lower_frame.specs.lowering_relation.Landing.{Side}
use Rattle.lower_frame.specs.Labels.{labels}
use Rattle.lower_frame.specs.Registers.{registers, holds}

-- how many registers hold something
abbrev pub full : List Held → ℕ
full [] = 0
full (h ∷ hs) = holds h + full hs

-- where results go to registers, there are as many registers after it
abbrev pub Stay : B.Target → Known → Known → Type 0
Stay B.Return k l = Unit {0}
Stay (B.Into ds) k l = registers l ≡ registers k

-- at most n instructions and m labels more
pub record Adds (n m : ℕ) (v w : Written) : Type 0 where
  pub more_instructions : size w ≤ size v + n
  pub more_labels : labels w ≤ labels v + m

-- each instruction more empties a register
pub record Sheds (k : Known) (v : Written) (l : Known) (w : Written) : Type 0 where
  pub as_many : registers l ≡ registers k
  pub same_labels : labels w ≡ labels v
  pub emptied : size w + full l.held ≤ size v + full k.held

-- where a and b were left to spend before v, c and d are left behind w
pub record Spends (a b : ℕ) (v : Written) (c d : ℕ) (w : Written) : Type 0 where
  pub spent_instructions : size w + c ≤ size v + a
  pub spent_labels : labels w + d ≤ labels v + b

-- tests

-- the registers that weren't read, of the first n
abbrev pub unread : ℕ → List ℕ → ℕ
unread zero read = 0
unread (suc n) read = (if contains n read then 0 else 1) + unread n read

-- the positions below the root have registers of their own, of the first n
pub record IsRoom (n : ℕ) (root : S.Spot) : Type 0 where
  pub within : (z : ℕ) → Among z (S.below root) → z < n
  pub differ : S.Differ root

-- the branches that are left where this is known
abbrev pub left : Table → List Pattern → Learnt → ℕ
left tb rows k = branches (tree_at tb rows k)

-- what so many branches cost, with n registers
abbrev pub test_cost : ℕ → ℕ → ℕ
test_cost n b = (2 * n + 3) * b

abbrev pub side_cost : ℕ → ℕ → ℕ
side_cost n b = (2 * n + 2) + test_cost n b

module _ (n : ℕ) (tb : Table) (rows : List Pattern) where
  abbrev pub sides_cost : List Side → ℕ
  sides_cost [] = 0
  sides_cost (d ∷ ds) = side_cost n (left tb rows d.known) + sides_cost ds

  abbrev pub sides_left : List Side → ℕ
  sides_left [] = 0
  sides_left (d ∷ ds) = left tb rows d.known + sides_left ds

  -- what is left to spend on a way, up to a clause
  abbrev pub way_cost : Option ℕ → Learnt → List ℕ → List Side → ℕ
  way_cost None k read ds = suc n + (test_cost n (left tb rows k) + unread n read) + sides_cost ds
  way_cost (Some i) k read ds = sides_cost ds

  abbrev pub way_left : Option ℕ → Learnt → List Side → ℕ
  way_left None k ds = left tb rows k + sides_left ds
  way_left (Some i) k ds = sides_left ds
