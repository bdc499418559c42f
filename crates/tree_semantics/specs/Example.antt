-- The code of the examples, that of
-- data ints { Nil; Cons(int, ints) }
-- fip fun rev(xs: ints, acc: ints): ints { match! xs { Nil -> acc; Cons(x, t) -> rev(t, Cons(x, acc)) } }
-- fbip fun inc(xs: ints): ints { match! xs { Nil -> Nil; Cons(x, t) -> Cons(x + 1, inc(t)) } }
-- where the `+` is at 3:77. Function 0 is rev and function 1 is inc.
use Rattle.std.specs.Prelude.{pos, List, [], ◌∷◌, codes, replicate}
use Rattle.machine_semantics.specs.cell_code.declared.code.CodeKind.TheVariants.{Fbip}
use Rattle.machine_semantics.specs.fip_language.declared.Operator.TheVariants.{Add}
use Rattle.machine_semantics.specs.fip_language.Values.{Values, End, More}
use Rattle.machine_semantics.specs.fip_language.Example.{empty, item}
use Rattle.machine_semantics.specs.cell_code.declared.code.Instr.{Instr}
use Rattle.machine_semantics.specs.cell_code.declared.code.Instr.TheVariants as I
use Rattle.machine_semantics.specs.cell_code.declared.kind.Kind.TheVariants.{Gone, Owned}
use Rattle.machine_semantics.specs.cell_code.Plain.{LabelMap, PlainFunction, PlainCode}
use Rattle.machine_semantics.specs.Example.{types, owned_ints, rev}

abbrev pub inc_instrs : List Instr
inc_instrs = I.Test 0 0 2 ∷ I.Ret (0 ∷ []) ∷ I.Take 0 (1 ∷ 2 ∷ []) ∷ I.Const 3 (pos 1) ∷ I.Arith 4 Add 1 3 3 77
    ∷ I.Call 1 (2 ∷ []) (5 ∷ []) ∷ I.Put 0 2 1 (4 ∷ 5 ∷ []) ∷ I.Ret (0 ∷ []) ∷ []

-- before instruction 2 the list is known to be a Cons
abbrev pub inc_label : LabelMap
inc_label = record { at = 2; kinds = Owned 2 (1 ∷ []) ∷ replicate 9 Gone }

abbrev pub inc : PlainFunction
inc = record {
  kind = Fbip;
  name = codes "inc";
  params = owned_ints ∷ [];
  credits = [];
  results = 2 ∷ [];
  registers = 10;
  instrs = inc_instrs;
  labels = inc_label ∷ [];
}

abbrev pub lists : PlainCode
lists = record { types = types; functions = rev ∷ inc ∷ [] }

-- one item that is the greatest int
abbrev pub great : Values
great = More (item (pos 9223372036854775807) empty) End
