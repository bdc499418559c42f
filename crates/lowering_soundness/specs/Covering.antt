-- It serves the proof that lowered code is sound: what lowering knows of the registers, against the kinds that a
-- verifier knows: these are reported exactly.
-- Where register 0 holds Owned 2 None and register 1 nothing, the kinds Owned 2 (0 ∷ 1 ∷ []) and Gone are known.
use Rattle.std.specs.Prelude.{◌≡◌, ℕ, List, [], ◌∷◌, length}
use Rattle.std.specs.Prelude.{if◌then◌else◌, ◌==◌}
use Rattle.separation.specs.cell_code.declared.kind.Kind.{Kind}
use Rattle.separation.specs.code_rules.Kinds.{at}
use Rattle.lowering_relation.specs.declared.held.Held.TheVariants as H
use Rattle.lowering_relation.specs.Known.{without}
use Rattle.lowering_relation.specs.Describing.{Holding, is_tree}

-- Where the first kind is reported, just this one is known.
abbrev pub Covers : Kind → Kind → Type 0
Covers m k = k ≡ m

-- the kinds of n registers, as they are reported
pub record Covered (n : ℕ) (m : ℕ → Kind) (ks : List Kind) : Type 0 where
  pub wide : length ks ≡ n
  pub each : (r : ℕ) → Covers (m r) (at ks r)

-- where register r holds an owned tree, this is used up, and what was borrowed from it isn't read any more
abbrev pub using : Holding → ℕ → Holding
using g r q = if is_tree (g r) then (if q == r then H.Nothing else without r (g q)) else g q

abbrev pub using_all : Holding → List ℕ → Holding
using_all g [] = g
using_all g (r ∷ rs) = using_all (using g r) rs
