-- What a code says, without where its lists lie in memory. Two codes that say the same are one code here. Only a
-- function, a label map and a code hold lists of their own in memory; instructions and kinds are seen as they are
-- declared.
--
-- The code of
--   fip fun rev(xs: ints, acc: ints): ints { match! xs { Nil -> acc; Cons(x, t) -> rev(t, Cons(x, acc)) } }
-- has one function: two owned parameters of type ints, no credit, one result of type ints, 7 registers, and the six
-- instructions Test 0 0 3, Take 0 [], Ret [1], Take 0 [2, 3], Put 0 2 1 [2, 1], Tail 0 [3, 0]; before instruction 3 a
-- label map says that register 0 holds a list that is a Cons.
use Rattle.std.specs.Prelude.{ℕ, List, [], Option, Some, None, slice_get, map}
use Rattle.fip_base.specs.fip_language.Table.{Table}
use Rattle.fip_base.specs.declared.plain.Param.{Param}
use Rattle.cell_code.specs.declared.kind.Kind.{Kind}
use Rattle.cell_code.specs.declared.kind.Label.{Label}
use Rattle.cell_code.specs.declared.code.CodeKind.{CodeKind}
use Rattle.cell_code.specs.declared.code.Instr.{Instr}
use Rattle.cell_code.specs.declared.code.Function.{Function}
use Rattle.cell_code.specs.declared.code.Code.{Code}

-- what a function says of its registers before an instruction, on whatever way that is reached
pub record LabelMap : Type 0 where
  pub at : ℕ
  pub kinds : List Kind

-- a function: its parameters, the sizes of the credits that a caller hands over, the types of its results, the number
-- of its registers, its instructions, and its label maps
pub record PlainFunction : Type 0 where
  pub kind : CodeKind
  pub name : List ℕ
  pub params : List Param
  pub credits : List ℕ
  pub results : List ℕ
  pub registers : ℕ
  pub instrs : List Instr
  pub labels : List LabelMap

pub record PlainCode : Type 0 where
  pub types : Table
  pub functions : List PlainFunction

abbrev pub plain_label : Label → LabelMap
plain_label l = record { at = l.at; kinds = l.kinds.items }

abbrev pub plain_function : Function → PlainFunction
plain_function f = record {
  kind = f.kind;
  name = f.name;
  params = f.params;
  credits = f.credits.items;
  results = f.results;
  registers = f.registers;
  instrs = f.instrs.items;
  labels = map plain_label f.labels.items;
}

abbrev pub plain : Code → PlainCode
plain c = record { types = c.types; functions = map plain_function c.functions.items }

abbrev pub function_at : PlainCode → ℕ → Option PlainFunction
function_at c n = slice_get c.functions n

abbrev pub results_of : Option PlainFunction → List ℕ
results_of None = []
results_of (Some f) = f.results

-- the types of the results of function n; a number that is no function's has none
abbrev pub results : PlainCode → ℕ → List ℕ
results c n = results_of (function_at c n)

abbrev pub instrs_of : PlainFunction → List Instr
instrs_of f = f.instrs

-- the instructions of each function
abbrev pub all_instrs : PlainCode → List (List Instr)
all_instrs c = map instrs_of c.functions
