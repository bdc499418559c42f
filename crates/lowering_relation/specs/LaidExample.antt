-- It serves the proof that lowered code is sound: the functions of three examples, with their labels.
-- fip fun rev(xs: ints, acc: ints): ints { match! xs { Nil -> acc; Cons(x, t) -> rev(t, Cons(x, acc)) } }
-- is lowered to Test 0 0 3; Take 0 []; Ret [1]; Take 0 [2, 3]; Put 0 2 1 [2, 1]; Tail 0 [3, 0]. Labels are at 1,
-- where the list is Nil, at 3, where the test of Nil failed, and at 4, where Cons(x, t) was taken apart.
use Rattle.std.specs.Prelude.{pos, true, false, List, [], ◌∷◌, None, codes, replicate}
use Rattle.tree_semantics.specs.fip_language.declared.FunKind.TheVariants.{Fip, Fbip}
use Rattle.code_rules.specs.cell_code.declared.code.CodeKind.TheVariants as C
use Rattle.code_rules.specs.cell_code.declared.code.Instr.TheVariants as I
use Rattle.code_rules.specs.cell_code.declared.kind.Kind.{Kind}
use Rattle.code_rules.specs.cell_code.declared.kind.Kind.TheVariants as K
use Rattle.code_rules.specs.cell_code.Plain.{PlainFunction, PlainCode}
use Rattle.tree_semantics.specs.fip_language.Example.{here}
use Rattle.credit_check.specs.fip_trees.Tree.{Expression, Give, Match, Last, Let, NoClauses, MoreClauses, Instance}
use Rattle.instance_semantics.specs.Example.{bound, var, truth_pattern, gives_int, lists, rev}
use Rattle.lowering_relation.specs.LoweredExample.{instrs}

abbrev pub list_kind : Kind
list_kind = K.Owned 2 (0 ∷ 1 ∷ [])

abbrev pub nil_kinds : List Kind
nil_kinds = K.Owned 2 (0 ∷ []) ∷ list_kind ∷ replicate 5 K.Gone

abbrev pub failed_kinds : List Kind
failed_kinds = K.Owned 2 (1 ∷ []) ∷ list_kind ∷ replicate 5 K.Gone

abbrev pub cons_kinds : List Kind
cons_kinds = K.Credit 2 ∷ list_kind ∷ K.Scalar 0 ∷ list_kind ∷ replicate 3 K.Gone

abbrev pub reversing : PlainFunction
reversing = record {
  kind = C.Fip;
  name = codes "rev";
  params = rev.params;
  credits = [];
  results = 2 ∷ [];
  registers = 7;
  instrs = instrs;
  labels = record { at = 1; kinds = nil_kinds } ∷ record { at = 3; kinds = failed_kinds }
      ∷ record { at = 4; kinds = cons_kinds } ∷ [];
}

abbrev pub lists_code : PlainCode
lists_code = record { types = lists.types; functions = reversing ∷ [] }

-- fip fun digit(^b: bool): int { let n = match b { False -> 0; True -> 1 }; n }
-- is lowered to Test 0 0 4; Const 2 0; Move 1 2; Jump 6; Const 3 1; Move 1 3; Ret [1]. Labels are at the clauses'
-- bodies, 1 and 4, and at 6, where the clauses meet: there the register of n holds an int, and nothing is known of 2
-- and 3, which one clause alone has written.
abbrev pub choosing : Expression
choosing =
    Match false 1 here (var 0 (codes "b")) (truth_pattern 0 (codes "False")) (gives_int 0)
    (MoreClauses (truth_pattern 1 (codes "True")) (gives_int 1) NoClauses)

abbrev pub digit : Instance
digit = record {
  name = codes "digit";
  place = here;
  root = true;
  kind = Fip;
  params = record { ty = 1; lent = true } ∷ [];
  binders = bound 0 (codes "b") 1 ∷ [];
  credits = [];
  results = 0 ∷ [];
  results_place = None;
  signature_tuples = [];
  variables = 2;
  body = Let (bound 1 (codes "n") 0 ∷ []) choosing (Last (Give (var 1 (codes "n"))));
}

abbrev pub begun_kinds : List Kind
begun_kinds = K.Scalar 1 ∷ replicate 3 K.Gone

abbrev pub met_kinds : List Kind
met_kinds = K.Scalar 1 ∷ K.Scalar 0 ∷ replicate 2 K.Gone

abbrev pub choosing_digit : PlainFunction
choosing_digit = record {
  kind = C.Fip;
  name = codes "digit";
  params = digit.params;
  credits = [];
  results = 0 ∷ [];
  registers = 4;
  instrs = I.Test 0 0 4 ∷ I.Const 2 (pos 0) ∷ I.Move 1 2 ∷ I.Jump 6 ∷ I.Const 3 (pos 1) ∷ I.Move 1 3
      ∷ I.Ret (1 ∷ []) ∷ [];
  labels = record { at = 1; kinds = begun_kinds } ∷ record { at = 4; kinds = begun_kinds }
      ∷ record { at = 6; kinds = met_kinds } ∷ [];
}

-- fbip fun pick(^b: bool, x: ints, y: ints): ints { let n = match b { False -> x; True -> y }; n }
-- is lowered to Test 0 0 4; Move 3 1; Drop 2; Jump 6; Move 3 2; Drop 1; Ret [3]. Each clause drops what it leaves over,
-- y in register 2 or x in register 1, which the other one uses up.
abbrev pub choosing_list : Expression
choosing_list =
    Match false 1 here (var 0 (codes "b")) (truth_pattern 0 (codes "False")) (Last (Give (var 1 (codes "x"))))
    (MoreClauses (truth_pattern 1 (codes "True")) (Last (Give (var 2 (codes "y")))) NoClauses)

abbrev pub pick : Instance
pick = record {
  name = codes "pick";
  place = here;
  root = true;
  kind = Fbip;
  params = record { ty = 1; lent = true } ∷ record { ty = 2; lent = false } ∷ record { ty = 2; lent = false } ∷ [];
  binders = bound 0 (codes "b") 1 ∷ bound 1 (codes "x") 2 ∷ bound 2 (codes "y") 2 ∷ [];
  credits = [];
  results = 2 ∷ [];
  results_place = None;
  signature_tuples = [];
  variables = 4;
  body = Let (bound 3 (codes "n") 2 ∷ []) choosing_list (Last (Give (var 3 (codes "n"))));
}

abbrev pub picked_kinds : List Kind
picked_kinds = K.Scalar 1 ∷ list_kind ∷ list_kind ∷ K.Gone ∷ []

abbrev pub picked_met : List Kind
picked_met = K.Scalar 1 ∷ K.Gone ∷ K.Gone ∷ list_kind ∷ []

abbrev pub picking : PlainFunction
picking = record {
  kind = C.Fbip;
  name = codes "pick";
  params = pick.params;
  credits = [];
  results = 2 ∷ [];
  registers = 4;
  instrs = I.Test 0 0 4 ∷ I.Move 3 1 ∷ I.Drop 2 ∷ I.Jump 6 ∷ I.Move 3 2 ∷ I.Drop 1 ∷ I.Ret (3 ∷ []) ∷ [];
  labels = record { at = 1; kinds = picked_kinds } ∷ record { at = 4; kinds = picked_kinds }
      ∷ record { at = 6; kinds = picked_met } ∷ [];
}
