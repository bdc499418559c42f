-- The program of the examples, and values for it. It is that of
-- data ints { Nil; Cons(int, ints) }
-- fip fun rev(xs: ints, acc: ints): ints { match! xs { Nil -> acc; Cons(x, t) -> rev(t, Cons(x, acc)) } }
-- with one place for all that is in it.
use Rattle.std.specs.Prelude.{ℕ, ℤ, pos, true, false, [], ◌∷◌, Some, None, codes}
use Rattle.fip_language.specs.declared.Place.{Place}
use Rattle.fip_language.specs.declared.FunKind.TheVariants.{Fip}
use Rattle.fip_language.specs.Values.{Value, Int, Node, Values, End, More}
use Rattle.fip_language.specs.Core.{Name, Written, WrittenInt, WrittenName, NoWritten, OneResult, Binder, Argument}
use Rattle.fip_language.specs.Core.{Variable, Constructor, Arguments, NoArguments, MoreArguments, BinderPattern}
use Rattle.fip_language.specs.Core.{ConstructorPattern, NoPatterns, MorePatterns, Give, Call, Match, Last, NoClauses}
use Rattle.fip_language.specs.Core.{MoreClauses, Parameter, Function, Data, Core}

abbrev pub at : ℕ → ℕ → Place
at line col = record { line = line; col = col; at = 0 }

abbrev pub here : Place
here = at 1 1

abbrev pub bound : ℕ → Name → Binder
bound n name = record { number = n; name = name; place = here; annotation = None }

abbrev pub var : ℕ → Name → Argument
var n name = Variable (Some n) name here

abbrev pub two : Argument → Argument → Arguments
two a b = MoreArguments a (MoreArguments b NoArguments)

abbrev pub ints : Written
ints = WrittenName (codes "ints") here NoWritten

abbrev pub int_list : Data
int_list = record {
  name = codes "ints";
  place = here;
  parameters = [];
  constructors = record { name = codes "Nil"; place = here; fields = [] } ∷ record {
    name = codes "Cons";
    place =
        here;
    fields = WrittenInt here ∷ ints ∷ [];
  } ∷ [];
}

abbrev pub nil : Argument
nil = Constructor (codes "Nil") here NoArguments

abbrev pub cons : Argument → Argument → Argument
cons a b = Constructor (codes "Cons") here (two a b)

abbrev pub owned : ℕ → Name → Written → Parameter
owned n name t = record { lent = false; binder = bound n name; type = t }

abbrev pub rev : Function
rev = record {
  kind = Fip;
  credits = [];
  name = codes "rev";
  place = here;
  statics = [];
  parameters = owned 0 (codes "xs") ints ∷ owned 1 (codes "acc") ints ∷ [];
  result = OneResult ints;
  body = Last (Match true here (var 0 (codes "xs"))
      (MoreClauses (ConstructorPattern (codes "Nil") here NoPatterns) (Last (Give (var 1 (codes "acc"))))
      (MoreClauses (ConstructorPattern (codes "Cons") here
      (MorePatterns (BinderPattern (bound 2 (codes "x")))
      (MorePatterns (BinderPattern (bound 3 (codes "t"))) NoPatterns)))
      (Last (Call (codes "rev") here NoWritten
      (two (var 3 (codes "t")) (cons (var 2 (codes "x")) (var 1 (codes "acc"))))))
      NoClauses)));
}

abbrev pub reversing : Core
reversing = record { types = int_list ∷ []; functions = rev ∷ [] }

abbrev pub empty : Value
empty = Node 0 End

abbrev pub item : ℤ → Value → Value
item i v = Node 1 (More (Int i) (More v End))

abbrev pub pair : Value → Value → Values
pair v w = More v (More w End)

abbrev pub three : Value
three = item (pos 1) (item (pos 2) (item (pos 3) empty))

abbrev pub three_reversed : Value
three_reversed = item (pos 3) (item (pos 2) (item (pos 1) empty))
