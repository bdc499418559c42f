-- The ints that a verified code writes have 64 bits, as separation requires it instruction by instruction.
use Rattle.std.proofs.Common.{◌≡◌, ℕ, Some, refl}
use Rattle.fip_machine.specs.cell_code.declared.code.Instr.{Instr}
use Rattle.fip_machine.specs.cell_code.declared.code.Instr.TheVariants as I
use Rattle.fip_machine.specs.code_verify.Checked.{HasMachineInt, HasMachineInts}
use Rattle.separation.specs.cell_code.Plain.{PlainCode}
use Rattle.separation.specs.Codes.{FitsLiteral, HasLiterals}

fits_literal : (x : Instr) → HasMachineInt x → FitsLiteral x
fits_literal (I.Const d v) h = h d v refl
fits_literal (I.Atom d t k) h = tt
fits_literal (I.Move d r) h = tt
fits_literal (I.Arith d o x y line col) h = tt
fits_literal (I.Test r k target) h = tt
fits_literal (I.TestInt r v target) h = tt
fits_literal (I.Peek d r i) h = tt
fits_literal (I.Take r ds) h = tt
fits_literal (I.Put d t k rs) h = tt
fits_literal (I.Drop r) h = tt
fits_literal (I.Free r) h = tt
fits_literal (I.Call g rs ds) h = tt
fits_literal (I.Tail g rs) h = tt
fits_literal (I.Ret rs) h = tt
fits_literal (I.Jump target) h = tt

pub has_literals : (c : PlainCode) → HasMachineInts c → HasLiterals c
has_literals c h n i f x is at = fits_literal x (h n i f x is at)
