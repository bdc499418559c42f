-- It serves the proofs on lowered code: what is known in the code of `rev`, an example.
-- fip fun rev(xs: ints, acc: ints): ints { match! xs { Nil -> acc; Cons(x, t) -> rev(t, Cons(x, acc)) } }
-- is lowered to Test 0 0 3; Take 0 []; Ret [1]; Take 0 [2, 3]; Put 0 2 1 [2, 1]; Tail 0 [3, 0].
use Rattle.std.specs.Prelude.{true, false, List, [], ◌∷◌, Some, None, replicate}
use Rattle.code_rules.specs.cell_code.declared.code.Instr.{Instr}
use Rattle.tree_semantics.specs.machine_semantics.Example as R
use Rattle.instance_semantics.specs.Example.{rev, lists}
use Rattle.lowering_relation.specs.declared.held.Held.TheVariants as H
use Rattle.lowering_relation.specs.Known.{Known}
use Rattle.lowering_relation.specs.Values.{Setting}
use Rattle.lowering_relation.specs.Choosing.{Entry}
use Rattle.lowering_relation.specs.LoweredFunctions.{known_at_start}

abbrev pub lists_setting : Setting
lists_setting = record {
  scalar = true ∷ true ∷ false ∷ [];
  functions = Some 0 ∷ Some 1 ∷ Some 2 ∷ [];
  instances = lists.instances;
  types = lists.types;
}

abbrev pub instrs : List Instr
instrs = R.rev.instrs

abbrev pub at_start : Known
at_start = known_at_start lists_setting 7 rev

-- where the list is Nil, which was matched
abbrev pub at_nil : Entry
at_nil = record {
  at = 1;
  known = record {
    held = H.Bare 2 0 ∷ H.Owned 2 None ∷ replicate 5 H.Nothing;
    credits = [];
    names = Some 0 ∷ Some 1 ∷ None ∷ None ∷ [];
    next = 4;
  };
}

-- where it is Cons(x, t), which was taken apart
abbrev pub at_cons : Entry
at_cons = record {
  at = 4;
  known = record {
    held = H.Credit 2 ∷ H.Owned 2 None ∷ H.Scalar 0 ∷ H.Owned 2 None ∷ replicate 3 H.Nothing;
    credits = record { size = 2; register = 0 } ∷ [];
    names = None ∷ Some 1 ∷ Some 2 ∷ Some 3 ∷ [];
    next = 4;
  };
}
