-- What is spelled has its type.
use Rattle.std.proofs.Common.{ℕ, zero, suc, Bool, true, false, List, [], ◌∷◌, sym, subst}
use Rattle.std.specs.Prelude.{ℤ, FitsSigned}
use Rattle.std.specs.Int.{w64}
use Rattle.fip_language.specs.Values.{Value, Int, Node, Values, End, More}
use Rattle.fip_language.specs.Table.{Table, HasType, HaveTypes}
use Rattle.fip_language.specs.Character.{Character, Minus, Digit}
use Rattle.fip_language.specs.ValueText.{skip, number, Digits, IntText, ValueText, FieldsText, MoreText, LinesText, InputText}
use Rattle.value_text.proofs.Runs.{int_fits}

digits_typed : (neg : Bool) (cs : List Character) (i : ℤ) (rest : List Character) → Digits neg cs i rest → FitsSigned w64 i
digits_typed neg (Digit d ∷ cs) i rest h = subst (FitsSigned w64) (sym h.1) (int_fits neg (number d cs) h.0)
digits_typed neg [] i rest h = absurd h
digits_typed neg (_ ∷ cs) i rest h = absurd h

int_typed : (cs : List Character) (i : ℤ) (rest : List Character) → IntText cs i rest → FitsSigned w64 i
int_typed [] i rest h = absurd h
int_typed (Minus ∷ cs) i rest h = digits_typed true cs i rest h
int_typed (Digit d ∷ cs) i rest h = digits_typed false (Digit d ∷ cs) i rest h
int_typed (_ ∷ cs) i rest h = absurd h

mutual
  pub value_typed : (tb : Table) (k : ℕ) (cs : List Character) (v : Value) (rest : List Character) → ValueText tb k cs v rest → HasType tb k v
  value_typed tb zero cs (Int i) rest h = int_typed (skip cs) i rest h
  value_typed tb zero cs (Node c vs) rest h = absurd h
  value_typed tb (suc t) cs (Int i) rest h = absurd h
  value_typed tb (suc t) cs (Node c vs) rest h = (h.0, h.1, fields_typed tb (h.0).fields _ vs rest h.3)

  fields_typed : (tb : Table) (ks : List ℕ) (cs : List Character) (vs : Values) (rest : List Character) → FieldsText tb ks cs vs rest → HaveTypes tb ks vs
  fields_typed tb [] cs End rest h = tt
  fields_typed tb [] cs (More v vs) rest h = absurd h
  fields_typed tb (k ∷ ks) cs End rest h = absurd h
  fields_typed tb (k ∷ ks) cs (More v vs) rest h = (value_typed tb k h.0 v h.1 h.3, more_typed tb ks h.1 vs rest h.4)

  more_typed : (tb : Table) (ks : List ℕ) (cs : List Character) (vs : Values) (rest : List Character) → MoreText tb ks cs vs rest → HaveTypes tb ks vs
  more_typed tb [] cs End rest h = tt
  more_typed tb [] cs (More v vs) rest h = absurd h
  more_typed tb (k ∷ ks) cs End rest h = absurd h
  more_typed tb (k ∷ ks) cs (More v vs) rest h = (value_typed tb k h.0 v h.1 h.3, more_typed tb ks h.1 vs rest h.4)

lines_typed : (tb : Table) (ks : List ℕ) (cs : List Character) (vs : Values) → LinesText tb ks cs vs → HaveTypes tb ks vs
lines_typed tb [] cs End h = tt
lines_typed tb [] cs (More v vs) h = absurd h
lines_typed tb (k ∷ ks) cs End h = absurd h
lines_typed tb (k ∷ ks) cs (More v vs) h = (value_typed tb k h.0 v h.1 h.3, lines_typed tb ks h.1 vs h.4)

pub input_typed : (tb : Table) (ks : List ℕ) (cs : List Character) (vs : Values) → InputText tb ks cs vs → HaveTypes tb ks vs
input_typed tb [] cs End h = tt
input_typed tb [] cs (More v vs) h = absurd h
input_typed tb (k ∷ ks) cs End h = absurd h
input_typed tb (k ∷ ks) cs (More v vs) h = (value_typed tb k cs v h.0 h.1, lines_typed tb ks h.0 vs h.2)
