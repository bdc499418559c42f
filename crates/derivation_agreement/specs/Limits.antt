-- The limits that keep the derivation of a program within what a text can encode: there are at most 4,096 instances,
-- and each fip or fbip one has at most 4,096 registers (E60). Each let and each pattern has a register, so nodes nest
-- at most about twice as deep. So it is with each program of an accepted source.
use Rattle.std.specs.Prelude.{◌≡◌, ◌≤◌, ℕ, true, length, Some, slice_get}
use Rattle.tail_groups.specs.fip_language.declared.limits.TheConstants.{MOST_INSTANCES, MOST_REGISTERS}
use Rattle.tail_groups.specs.fip_trees.Tree.{Instance, Program}
use Rattle.derivation_walk.specs.fip_rules.World.{is_ruled}
use Rattle.tail_groups.specs.Registers.{registers}

-- each fip or fbip instance has few registers
abbrev pub HasFewRegisters : Program → Type 0
HasFewRegisters p = (i : ℕ) (d : Instance) → slice_get p.instances i ≡ Some d → is_ruled d.kind ≡ true →
    registers d ≤ MOST_REGISTERS

pub record KeepsLimits (p : Program) : Type 0 where
  pub instances : length p.instances ≤ MOST_INSTANCES
  pub registers : HasFewRegisters p
