-- S1: a register, a type, a constructor or a function that an instruction names isn't there; or its target isn't
-- greater than its own number, isn't in the function, or has no label map.
--
-- In a function of 7 registers `Const 7 5` breaks S1, and so does `Jump 0`. A constructor that a Test names is no
-- matter of S1, since its type is known by the register alone.
use Rattle.std.specs.Prelude.{ℕ, Bool, true, ◌&&◌, is_some, List, [], ◌∷◌, length, nat_lt}
use Rattle.cell_code.specs.fip_language.Table.{Table}
use Rattle.cell_code.specs.declared.code.Instr.{Instr}
use Rattle.cell_code.specs.declared.code.Instr.TheVariants as I
use Rattle.cell_code.specs.Plain.{PlainFunction, PlainCode}
use Rattle.code_rules.specs.Codes.{label_at}
use Rattle.code_rules.specs.Types.{count}

abbrev pub are_below : ℕ → List ℕ → Bool
are_below n [] = true
are_below n (r ∷ rs) = nat_lt r n && are_below n rs

-- constructor c of type t; int has none
abbrev pub is_constructor : Table → ℕ → ℕ → Bool
is_constructor w t c = nat_lt c (count w t)

abbrev pub is_target : PlainFunction → ℕ → ℕ → Bool
is_target f i t = nat_lt i t && (nat_lt t (length f.instrs) && is_some (label_at f.labels t))

-- All numbers of instruction i are in range.
abbrev pub in_range : PlainCode → PlainFunction → ℕ → Instr → Bool
in_range c f i (I.Const d v) = nat_lt d f.registers
in_range c f i (I.Atom d t k) = nat_lt d f.registers && is_constructor c.types t k
in_range c f i (I.Move d s) = nat_lt d f.registers && nat_lt s f.registers
in_range c f i (I.Arith d op a b line col) = nat_lt d f.registers && (nat_lt a f.registers && nat_lt b f.registers)
in_range c f i (I.Test r k target) = nat_lt r f.registers && is_target f i target
in_range c f i (I.TestInt r v target) = nat_lt r f.registers && is_target f i target
in_range c f i (I.Peek d r k) = nat_lt d f.registers && nat_lt r f.registers
in_range c f i (I.Take r ds) = nat_lt r f.registers && are_below f.registers ds
in_range c f i (I.Put d t k ss) = nat_lt d f.registers && (is_constructor c.types t k && are_below f.registers ss)
in_range c f i (I.Drop r) = nat_lt r f.registers
in_range c f i (I.Free r) = nat_lt r f.registers
in_range c f i (I.Call g rs ds) =
    nat_lt g (length c.functions) && (are_below f.registers rs && are_below f.registers ds)
in_range c f i (I.Tail g rs) = nat_lt g (length c.functions) && are_below f.registers rs
in_range c f i (I.Ret rs) = are_below f.registers rs
in_range c f i (I.Jump target) = is_target f i target
