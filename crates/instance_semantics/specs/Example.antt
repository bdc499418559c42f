-- The program of the examples, without static parameters. It is that of
-- data ints { Nil; Cons(int, ints) }
-- fip fun rev(xs: ints, acc: ints): ints { match! xs { Nil -> acc; Cons(x, t) -> rev(t, Cons(x, acc)) } }
-- fbip fun inc(xs: ints): ints { match! xs { Nil -> Nil; Cons(x, t) -> Cons(x + 1, inc(t)) } }
-- fip fun number(^b: bool): int { match b { False -> 0; True -> 1 } }
-- with one place for all that is in it but the `+`, which is at 3:77. Type 1 is bool and type 2 is ints; Nil is
-- its constructor 0 and Cons its constructor 1. The instances are rev, 0, inc, 1, and number, 2.
use Rattle.std.specs.Prelude.{ℕ, pos, true, false, List, [], ◌∷◌, Some, None, codes}
use Rattle.fip_trees.specs.fip_language.declared.FunKind.TheVariants.{Fip, Fbip}
use Rattle.fip_trees.specs.fip_language.declared.Operator.TheVariants.{Add}
use Rattle.fip_trees.specs.fip_language.Example.{at, here}
use Rattle.fip_trees.specs.fip_language.Table.{Shape}
use Rattle.fip_trees.specs.fip_base.declared.plain.Param.{Param}
use Rattle.fip_trees.specs.declared.program.Binder.{Binder}
use Rattle.fip_trees.specs.Tree.{Name, Argument, Variable, Literal, Constructor, NoArguments, MoreArguments}
use Rattle.fip_trees.specs.Tree.{Pattern, BinderPattern, ConstructorPattern, NoPatterns, MorePatterns}
use Rattle.fip_trees.specs.Tree.{Give, Operation, Call, Match, Block, Last, Let, NoClauses, MoreClauses}
use Rattle.fip_trees.specs.Tree.{Instance, Program}

abbrev pub ints : ℕ
ints = 2

abbrev pub bound : ℕ → Name → ℕ → Binder
bound x name t = record { number = x; name = name; place = here; annotation = None; ty = t }

abbrev pub var : ℕ → Name → Argument
var x name = Variable (Some x) name here

abbrev pub nil : Argument
nil = Constructor ints ints 0 (codes "Nil") here NoArguments

abbrev pub cons : Argument → Argument → Argument
cons a b = Constructor ints ints 1 (codes "Cons") here (MoreArguments a (MoreArguments b NoArguments))

abbrev pub nil_pattern : Pattern
nil_pattern = ConstructorPattern ints ints 0 (codes "Nil") here NoPatterns

-- Cons(x, t), where x is binder n and t the next
abbrev pub cons_pattern : ℕ → ℕ → Pattern
cons_pattern x t =
    ConstructorPattern ints ints 1 (codes "Cons") here
    (MorePatterns (BinderPattern (bound x (codes "x") 0))
    (MorePatterns (BinderPattern (bound t (codes "t") ints)) NoPatterns))

-- match! xs { Nil -> e; Cons(x, t) -> body }
abbrev pub by_list : Argument → ℕ → ℕ → Block → Block
by_list e x t body =
    Last (Match true ints here (var 0 (codes "xs")) nil_pattern (Last (Give e))
    (MoreClauses (cons_pattern x t) body NoClauses))

abbrev pub an_owned : Param
an_owned = record { ty = ints; lent = false }

abbrev pub rev : Instance
rev = record {
  name = codes "rev";
  place = here;
  root = true;
  kind = Fip;
  params = an_owned ∷ an_owned ∷ [];
  binders = bound 0 (codes "xs") ints ∷ bound 1 (codes "acc") ints ∷ [];
  credits = [];
  results = ints ∷ [];
  results_place = None;
  signature_tuples = [];
  variables = 4;
  body = by_list (var 1 (codes "acc")) 2 3
      (Last (Call 0 (codes "rev") here (MoreArguments (var 3 (codes "t"))
      (MoreArguments (cons (var 2 (codes "x")) (var 1 (codes "acc"))) NoArguments))));
}

abbrev pub inc : Instance
inc = record {
  name = codes "inc";
  place = here;
  root = true;
  kind = Fbip;
  params = an_owned ∷ [];
  binders = bound 0 (codes "xs") ints ∷ [];
  credits = [];
  results = ints ∷ [];
  results_place = None;
  signature_tuples = [];
  variables = 5;
  body = by_list nil 1 2
      (Let (bound 3 (codes "_") 0 ∷ []) (Operation Add (at 3 77) (var 1 (codes "x")) (Literal (pos 1) here))
      (Let (bound 4 (codes "_") ints ∷ []) (Call 1 (codes "inc") here (MoreArguments (var 2 (codes "t")) NoArguments))
      (Last (Give (cons (var 3 (codes "_")) (var 4 (codes "_")))))));
}

abbrev pub truth_pattern : ℕ → Name → Pattern
truth_pattern c name = ConstructorPattern 1 1 c name here NoPatterns

abbrev pub gives_int : ℕ → Block
gives_int n = Last (Give (Literal (pos n) here))

abbrev pub number : Instance
number = record {
  name = codes "number";
  place = here;
  root = true;
  kind = Fip;
  params = record { ty = 1; lent = true } ∷ [];
  binders = bound 0 (codes "b") 1 ∷ [];
  credits = [];
  results = 0 ∷ [];
  results_place = None;
  signature_tuples = [];
  variables = 1;
  body = Last (Match false 1 here (var 0 (codes "b")) (truth_pattern 0 (codes "False")) (gives_int 0)
      (MoreClauses (truth_pattern 1 (codes "True")) (gives_int 1) NoClauses));
}

abbrev pub a_shape : Name → List ℕ → Shape
a_shape name ts = record { name = name; fields = ts }

abbrev pub lists : Program
lists = record {
  types = (a_shape (codes "False") [] ∷ a_shape (codes "True") [] ∷ [])
      ∷ (a_shape (codes "Nil") [] ∷ a_shape (codes "Cons") (0 ∷ ints ∷ []) ∷ []) ∷ [];
  declaring = 1 ∷ 2 ∷ [];
  arities = 0 ∷ 0 ∷ [];
  field_counts = (0 ∷ 0 ∷ []) ∷ (0 ∷ 2 ∷ []) ∷ [];
  instances = rev ∷ inc ∷ number ∷ [];
}
