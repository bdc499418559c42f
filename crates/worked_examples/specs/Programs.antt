-- Small programs of the examples, over the types bool and ints of the program of lists.
use Rattle.std.specs.Prelude.{ℕ, pos, true, false, List, [], ◌∷◌, None, codes}
use Rattle.source_report.specs.fip_language.declared.FunKind.TheVariants.{Fip}
use Rattle.source_report.specs.fip_language.declared.Operator.TheVariants.{Add}
use Rattle.source_report.specs.fip_language.Example.{at, here}
use Rattle.source_report.specs.fip_base.declared.plain.Stack.{Stack}
use Rattle.source_report.specs.fip_trees.Tree.{Argument, Variable, Literal, NoArguments, MoreArguments, Give, Operation, Call}
use Rattle.source_report.specs.fip_trees.Tree.{Last, Let, Instance, Program}
use Rattle.source_report.specs.instance_semantics.Example.{lists, number, ints, bound, var, nil, cons, by_list, an_owned}

abbrev pub with_instances : List Instance → Program
with_instances ds = record lists { instances = ds }

-- ---- types

-- fip fun number(^b: bool): int with another body
abbrev pub number_with : Argument → Program
number_with a = with_instances (record number { body = Last (Give a) } ∷ [])

-- y, which is unknown, at 4:40
abbrev pub unknown_variable : Argument
unknown_variable = Variable None (codes "y") (at 4 40)

-- ---- credits

-- fip .. fun push(x: int, xs: ints): ints { Cons(x, xs) } with these credits in its header
abbrev pub push : List ℕ → Instance
push credits = record {
  name = codes "push";
  place = here;
  root = true;
  kind = Fip;
  params = record { ty = 0; lent = false } ∷ an_owned ∷ [];
  binders = bound 0 (codes "x") 0 ∷ bound 1 (codes "xs") ints ∷ [];
  credits = credits;
  results = ints ∷ [];
  results_place = None;
  signature_tuples = [];
  variables = 2;
  body = Last (Give (cons (var 0 (codes "x")) (var 1 (codes "xs"))));
}

-- fip fun top(xs: ints): ints { match! xs { Nil -> Nil; Cons(x, t) -> push(x + 1, t) } }
abbrev pub top : Instance
top = record {
  name = codes "top";
  place = here;
  root = true;
  kind = Fip;
  params = an_owned ∷ [];
  binders = bound 0 (codes "xs") ints ∷ [];
  credits = [];
  results = ints ∷ [];
  results_place = None;
  signature_tuples = [];
  variables = 4;
  body = by_list nil 1 2
      (Let (bound 3 (codes "_") 0 ∷ []) (Operation Add here (var 1 (codes "x")) (Literal (pos 1) here))
      (Last (Call 0 (codes "push") here
      (MoreArguments (var 3 (codes "_")) (MoreArguments (var 2 (codes "t")) NoArguments)))));
}

-- push whose caller holds a credit of size 2 for it, and top, which calls it
abbrev pub pushing : List ℕ → Program
pushing credits = with_instances (push credits ∷ top ∷ [])

abbrev pub a_stack : ℕ → ℕ → Stack
a_stack frames words = record { frames = frames; words = words }
