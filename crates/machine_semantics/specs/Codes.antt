-- The instruction that a run finds at a place of a code.
use Rattle.std.specs.Prelude.{ℕ, Option, Some, None, slice_get}
use Rattle.cell_code.specs.declared.code.Instr.{Instr}
use Rattle.cell_code.specs.Plain.{PlainFunction, PlainCode, function_at}

abbrev pub instr_in : Option PlainFunction → ℕ → Option Instr
instr_in None i = None
instr_in (Some g) i = slice_get g.instrs i

-- instruction i of function f
abbrev pub instr_at : PlainCode → ℕ → ℕ → Option Instr
instr_at code f i = instr_in (function_at code f) i
