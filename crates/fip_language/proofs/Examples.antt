-- The definitions evaluated on small programs, each by computation alone.
use Rattle.std.proofs.Common.{◌≡◌, ℕ, [], ◌∷◌, true, false, refl, ℤ}
use Rattle.std.specs.Prelude.{pos, negsuc, codes}
use Rattle.fip_language.specs.declared.FunKind.TheVariants.{Fip, Fbip}
use Rattle.fip_language.specs.declared.Operator.{Operator}
use Rattle.fip_language.specs.declared.Operator.TheVariants as O
use Rattle.fip_language.specs.declared.TrapKind.TheVariants.{Overflow, DivideByZero}
use Rattle.fip_language.specs.Values.{Int, End, More}
use Rattle.fip_language.specs.Core.{Name, Written, Writtens, WrittenInt, WrittenName, NoWritten, MoreWritten, OneResult, TupleResult, Argument, Literal, NoArguments, MoreArguments, BinderPattern, LiteralPattern, ConstructorPattern, NoPatterns, MorePatterns, Expression, Give, Tuple, Operation, Call, Match, Last, Let, NoClauses, MoreClauses, TypeParameter, FunctionParameter, Function, Data}
use Rattle.fip_language.specs.Statics.{NoClosed}
use Rattle.fip_language.specs.Registers.{registers}
use Rattle.fip_language.specs.Example.{at, here, bound, var, two, ints, int_list, nil, cons, owned, rev, reversing, empty, item, pair, three, three_reversed}
use Rattle.fip_language.specs.Meaning.{Answer, Gives, Trap, Out, Deep, Run, meaning}

rev_has_7_registers : registers rev ≡ 7
rev_has_7_registers = refl

pub rev_of_three : meaning reversing (codes "rev") NoClosed (pair three empty) 10 0 ≡ record { answer = Gives (More three_reversed End) 6; peak = record { frames = 0; words = 9 } }
unfolding meaning
rev_of_three = refl

rev_needs_four_calls : meaning reversing (codes "rev") NoClosed (pair three empty) 3 0 ≡ record { answer = Out; peak = record { frames = 0; words = 9 } }
unfolding meaning
rev_needs_four_calls = refl

no_call_at_all : meaning reversing (codes "rev") NoClosed (pair three empty) 0 0 ≡ record { answer = Out; peak = record { frames = 0; words = 0 } }
unfolding meaning
no_call_at_all = refl

-- ---- operators

-- fip fun NAME(a: int, b: int): int { a OPERATOR b }, where the operator is at 1:38
abbrev operation_of : Operator → Function
operation_of o = record {
  kind = Fip;
  credits = [];
  name = codes "f";
  place = here;
  statics = [];
  parameters = owned 0 (codes "a") (WrittenInt here) ∷ owned 1 (codes "b") (WrittenInt here) ∷ [];
  result = OneResult (WrittenInt here);
  body = Let (bound 2 (codes "_") ∷ []) (Operation o (at 1 38) (var 0 (codes "a")) (var 1 (codes "b"))) (Last (Give (var 2 (codes "_"))));
}

abbrev on_ints : Operator → ℤ → ℤ → Answer
on_ints o i j = (meaning (record { types = []; functions = operation_of o ∷ [] }) (codes "f") NoClosed (pair (Int i) (Int j)) 1 0).answer

abbrev gives_int : ℤ → Answer
gives_int i = Gives (More (Int i) End) 0

abbrev least_int : ℤ
least_int = negsuc 9223372036854775807

abbrev minus_one : ℤ
minus_one = negsuc 0

sum_overflows_at_operator : on_ints O.Add (pos 9223372036854775807) (pos 1) ≡ Trap Overflow 1 38
unfolding meaning
sum_overflows_at_operator = refl

least_int_divided_by_minus_one : on_ints O.Divide least_int minus_one ≡ Trap Overflow 1 38
unfolding meaning
least_int_divided_by_minus_one = refl

divisor_zero : on_ints O.Divide least_int (pos 0) ≡ Trap DivideByZero 1 38
unfolding meaning
divisor_zero = refl

least_int_has_remainder_zero : on_ints O.Remainder least_int minus_one ≡ gives_int (pos 0)
unfolding meaning
least_int_has_remainder_zero = refl

remainder_has_dividends_sign : on_ints O.Remainder (negsuc 6) (pos 2) ≡ gives_int (negsuc 0)
unfolding meaning
remainder_has_dividends_sign = refl

quotient_goes_toward_zero : on_ints O.Divide (negsuc 6) (pos 2) ≡ gives_int (negsuc 2)
unfolding meaning
quotient_goes_toward_zero = refl

-- ---- calls outside tail position

abbrev plus : ℕ → Argument → Argument → Expression
plus line a b = Operation O.Add (at line 1) a b

-- fbip fun inc(xs: ints): ints { match! xs { Nil -> Nil; Cons(x, t) -> Cons(x + 1, inc(t)) } }
abbrev inc : Function
inc = record {
  kind = Fbip;
  credits = [];
  name = codes "inc";
  place = here;
  statics = [];
  parameters = owned 0 (codes "xs") ints ∷ [];
  result = OneResult ints;
  body = Last (Match true here (var 0 (codes "xs"))
      (MoreClauses (ConstructorPattern (codes "Nil") here NoPatterns) (Last (Give nil))
      (MoreClauses (ConstructorPattern (codes "Cons") here (MorePatterns (BinderPattern (bound 1 (codes "x"))) (MorePatterns (BinderPattern (bound 2 (codes "t"))) NoPatterns)))
      (Let (bound 3 (codes "_") ∷ []) (plus 1 (var 1 (codes "x")) (Literal (pos 1) here))
      (Let (bound 4 (codes "_") ∷ []) (Call (codes "inc") here NoWritten (MoreArguments (var 2 (codes "t")) NoArguments))
      (Last (Give (cons (var 3 (codes "_")) (var 4 (codes "_")))))))
      NoClauses)));
}

abbrev increasing : ℕ → ℕ → Run
increasing n d = meaning (record { types = int_list ∷ []; functions = inc ∷ [] }) (codes "inc") NoClosed (More three End) n d

three_frames_are_held : increasing 10 3 ≡ record { answer = Gives (More (item (pos 2) (item (pos 3) (item (pos 4) empty))) End) 6; peak = record { frames = 3; words = 48 } }
unfolding meaning
three_frames_are_held = refl

two_frames_are_too_few : increasing 10 2 ≡ record { answer = Deep; peak = record { frames = 2; words = 36 } }
unfolding meaning
two_frames_are_too_few = refl

out_comes_before_deep : (increasing 3 2).answer ≡ Out
unfolding meaning
out_comes_before_deep = refl

-- ---- a borrowed argument

-- fip fun len(^xs: ints, n: int): int { match xs { Nil -> n; Cons(_, t) -> len(t, n + 1) } }
abbrev len : Function
len = record {
  kind = Fip;
  credits = [];
  name = codes "len";
  place = here;
  statics = [];
  parameters = record { lent = true; binder = bound 0 (codes "xs"); type = ints } ∷ owned 1 (codes "n") (WrittenInt here) ∷ [];
  result = OneResult (WrittenInt here);
  body = Last (Match false here (var 0 (codes "xs"))
      (MoreClauses (ConstructorPattern (codes "Nil") here NoPatterns) (Last (Give (var 1 (codes "n"))))
      (MoreClauses (ConstructorPattern (codes "Cons") here (MorePatterns (BinderPattern (bound 2 (codes "_"))) (MorePatterns (BinderPattern (bound 3 (codes "t"))) NoPatterns)))
      (Let (bound 4 (codes "_") ∷ []) (plus 1 (var 1 (codes "n")) (Literal (pos 1) here))
      (Last (Call (codes "len") here NoWritten (two (var 3 (codes "t")) (var 4 (codes "_"))))))
      NoClauses)));
}

length_of_three : meaning (record { types = int_list ∷ []; functions = len ∷ [] }) (codes "len") NoClosed (pair three (Int (pos 0))) 4 0 ≡ record { answer = Gives (More (Int (pos 3)) End) 0; peak = record { frames = 0; words = 10 } }
unfolding meaning
length_of_three = refl

-- ---- tuples, literals in patterns, static arguments

-- fip fun swap(a: int, b: int): (int, int) { (b, a) }
abbrev swap : Function
swap = record {
  kind = Fip;
  credits = [];
  name = codes "swap";
  place = here;
  statics = [];
  parameters = owned 0 (codes "a") (WrittenInt here) ∷ owned 1 (codes "b") (WrittenInt here) ∷ [];
  result = TupleResult here (WrittenInt here ∷ WrittenInt here ∷ []);
  body = Last (Tuple here (two (var 1 (codes "b")) (var 0 (codes "a"))));
}

a_tuple_gives_two_values : (meaning (record { types = []; functions = swap ∷ [] }) (codes "swap") NoClosed (pair (Int (pos 1)) (Int (pos 2))) 1 0).answer ≡ Gives (pair (Int (pos 2)) (Int (pos 1))) 0
unfolding meaning
a_tuple_gives_two_values = refl

-- fip fun pick(n: int): int { match n { 0 -> 10; 1 -> 20; _ -> 30 } }
abbrev pick : Function
pick = record {
  kind = Fip;
  credits = [];
  name = codes "pick";
  place = here;
  statics = [];
  parameters = owned 0 (codes "n") (WrittenInt here) ∷ [];
  result = OneResult (WrittenInt here);
  body = Last (Match false here (var 0 (codes "n"))
      (MoreClauses (LiteralPattern (pos 0) here) (Last (Give (Literal (pos 10) here)))
      (MoreClauses (LiteralPattern (pos 1) here) (Last (Give (Literal (pos 20) here)))
      (MoreClauses (BinderPattern (bound 1 (codes "_"))) (Last (Give (Literal (pos 30) here)))
      NoClauses))));
}

abbrev picked : ℤ → Answer
picked i = (meaning (record { types = []; functions = pick ∷ [] }) (codes "pick") NoClosed (More (Int i) End) 1 0).answer

the_second_literal_matches : picked (pos 1) ≡ gives_int (pos 20)
unfolding meaning
the_second_literal_matches = refl

the_binder_matches_the_rest : picked (negsuc 0) ≡ gives_int (pos 30)
unfolding meaning
the_binder_matches_the_rest = refl

abbrev named : Name → Writtens → Written
named name ws = WrittenName name here ws

abbrev one_static : Written → Writtens
one_static w = MoreWritten w NoWritten

-- data list[a] { Nil; Cons(a, list[a]) }
abbrev list : Data
list = record {
  name = codes "list";
  place = here;
  parameters = record { name = codes "a"; place = here } ∷ [];
  constructors = record { name = codes "Nil"; place = here; fields = [] } ∷ record { name = codes "Cons"; place = here; fields = named (codes "a") NoWritten ∷ named (codes "list") (one_static (named (codes "a") NoWritten)) ∷ [] } ∷ [];
}

abbrev list_of : Written → Written
list_of w = named (codes "list") (one_static w)

-- fip fun next(x: int): int { x + 1 }
abbrev next : Function
next = record {
  kind = Fip;
  credits = [];
  name = codes "next";
  place = here;
  statics = [];
  parameters = owned 0 (codes "x") (WrittenInt here) ∷ [];
  result = OneResult (WrittenInt here);
  body = Let (bound 1 (codes "_") ∷ []) (plus 1 (var 0 (codes "x")) (Literal (pos 1) here)) (Last (Give (var 1 (codes "_"))));
}

-- fip fun map[a, b, f: fun(a): b](xs: list[a], acc: list[b]): list[b] {
--   match! xs { Nil -> acc; Cons(x, t) -> let y = f(x); map[a, b, f](t, Cons(y, acc)) }
-- }
abbrev map : Function
map = record {
  kind = Fip;
  credits = [];
  name = codes "map";
  place = here;
  statics = TypeParameter (codes "a") here ∷ TypeParameter (codes "b") here ∷ FunctionParameter (codes "f") here (record { lent = false; type = named (codes "a") NoWritten } ∷ []) (OneResult (named (codes "b") NoWritten)) ∷ [];
  parameters = owned 0 (codes "xs") (list_of (named (codes "a") NoWritten)) ∷ owned 1 (codes "acc") (list_of (named (codes "b") NoWritten)) ∷ [];
  result = OneResult (list_of (named (codes "b") NoWritten));
  body = Last (Match true here (var 0 (codes "xs"))
      (MoreClauses (ConstructorPattern (codes "Nil") here NoPatterns) (Last (Give (var 1 (codes "acc"))))
      (MoreClauses (ConstructorPattern (codes "Cons") here (MorePatterns (BinderPattern (bound 2 (codes "x"))) (MorePatterns (BinderPattern (bound 3 (codes "t"))) NoPatterns)))
      (Let (bound 4 (codes "y") ∷ []) (Call (codes "f") here NoWritten (MoreArguments (var 2 (codes "x")) NoArguments))
      (Last (Call (codes "map") here (MoreWritten (named (codes "a") NoWritten) (MoreWritten (named (codes "b") NoWritten) (one_static (named (codes "f") NoWritten)))) (two (var 3 (codes "t")) (cons (var 4 (codes "y")) (var 1 (codes "acc")))))))
      NoClauses)));
}

-- fip fun up(xs: list[int]): list[int] { map[int, int, next](xs, Nil) }
abbrev up : Function
up = record {
  kind = Fip;
  credits = [];
  name = codes "up";
  place = here;
  statics = [];
  parameters = owned 0 (codes "xs") (list_of (WrittenInt here)) ∷ [];
  result = OneResult (list_of (WrittenInt here));
  body = Last (Call (codes "map") here (MoreWritten (WrittenInt here) (MoreWritten (WrittenInt here) (one_static (named (codes "next") NoWritten)))) (two (var 0 (codes "xs")) nil));
}

-- one call each for up, three for map and two for next
a_function_is_given : meaning (record { types = list ∷ []; functions = next ∷ map ∷ up ∷ [] }) (codes "up") NoClosed (More (item (pos 1) (item (pos 2) empty)) End) 6 1 ≡ record { answer = Gives (More (item (pos 3) (item (pos 2) empty)) End) 0; peak = record { frames = 1; words = 15 } }
unfolding meaning
a_function_is_given = refl
