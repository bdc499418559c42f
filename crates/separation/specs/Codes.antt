-- What a run of a sound code relies on: ints of 64 bits, and the kinds that are known of its registers.
--
-- Of the reversal of a list, register 0 owns a list with constructor 0 or 1 before instruction 0, and register 0 is a
-- credit of size 2 before instruction 4. At a Call the kinds that wait are those after its arguments.
use Rattle.std.specs.Prelude.{◌≡◌, ℕ, false, List, Some, FitsSigned}
use Rattle.std.specs.Int.{w64}
use Rattle.separation_kinds.specs.cell_code.declared.code.Instr.{Instr}
use Rattle.separation_kinds.specs.cell_code.declared.code.Instr.TheVariants as I
use Rattle.separation_kinds.specs.cell_code.declared.kind.Kind.{Kind}
use Rattle.separation_kinds.specs.machine_semantics.Steps.{Kinds}
use Rattle.separation_kinds.specs.cell_code.Plain.{PlainFunction, PlainCode, function_at}
use Rattle.separation_kinds.specs.code_rules.Handing.{arguments}
use Rattle.separation_kinds.specs.code_rules.Flow.{IsInstr, KnownAt}

-- An int that an instruction writes has 64 bits.
abbrev pub FitsLiteral : Instr → Type 0
FitsLiteral (I.Const d v) = FitsSigned w64 v
FitsLiteral (I.Atom d t k) = Unit {0}
FitsLiteral (I.Move d r) = Unit {0}
FitsLiteral (I.Arith d o x y line col) = Unit {0}
FitsLiteral (I.Test r k target) = Unit {0}
FitsLiteral (I.TestInt r v target) = Unit {0}
FitsLiteral (I.Peek d r i) = Unit {0}
FitsLiteral (I.Take r ds) = Unit {0}
FitsLiteral (I.Put d t k rs) = Unit {0}
FitsLiteral (I.Drop r) = Unit {0}
FitsLiteral (I.Free r) = Unit {0}
FitsLiteral (I.Call g rs ds) = Unit {0}
FitsLiteral (I.Tail g rs) = Unit {0}
FitsLiteral (I.Ret rs) = Unit {0}
FitsLiteral (I.Jump target) = Unit {0}

-- All ints that the code writes have 64 bits, as those of every code in memory have.
abbrev pub HasLiterals : PlainCode → Type 0
HasLiterals c = (n i : ℕ) (f : PlainFunction) (x : Instr) → function_at c n ≡ Some f → IsInstr f i x → FitsLiteral x

-- the kinds before each instruction that is reached, and those that wait at a Call
pub record AreKinds (c : PlainCode) (before waits : Kinds) : Type 0 where
  pub known : (n i : ℕ) (f : PlainFunction) (ks : List Kind) → function_at c n ≡ Some f → KnownAt c f i ks →
      before n i ≡ ks
  pub wait : (n i : ℕ) (f : PlainFunction) (ks : List Kind) (g : ℕ) (rs ds : List ℕ) (left : List Kind) →
      function_at c n ≡ Some f → KnownAt c f i ks → IsInstr f i (I.Call g rs ds) →
      arguments c false ks g rs ≡ Some left → waits n i ≡ left
