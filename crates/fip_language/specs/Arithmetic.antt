-- What an operator gives. Ints have 64 bits: a sum, difference, product or quotient that doesn't fit is an Overflow,
-- and a divisor 0 a DivideByZero. A quotient is rounded toward zero and a remainder has the dividend's sign: -7 / 2 is
-- -3 and -7 % 2 is -1. The least int divided by -1 is an Overflow, but its remainder by -1 is 0.
use Rattle.std.specs.Prelude.{◌^◌, ℤ, pos, negsuc, ◌+ℤ◌, ◌-ℤ◌, ◌*ℤ◌, Bool, not, nat_lt, int_lt, int_le, int_div}
use Rattle.std.specs.Prelude.{int_rem, if◌then◌else◌}
use Rattle.fip_language.specs.declared.Operator.{Operator}
use Rattle.fip_language.specs.declared.Operator.TheVariants as O
use Rattle.fip_language.specs.declared.TrapKind.{TrapKind}
use Rattle.fip_language.specs.declared.TrapKind.TheVariants.{Overflow, DivideByZero}
use Rattle.fip_language.specs.Values.{Value, Int, Node, End}
use Rattle.fip_language.specs.Matching.{same_int}

pub data Operated : Type 0 where
  Is : (value : Value) → Operated
  Fails : (kind : TrapKind) → Operated

-- whether an int has 64 bits
abbrev pub fits : ℤ → Bool
fits (pos n) = nat_lt n (2 ^ 63)
fits (negsuc n) = nat_lt n (2 ^ 63)

abbrev pub int_or_overflow : ℤ → Operated
int_or_overflow i = if fits i then Is (Int i) else Fails Overflow

abbrev pub unless_zero : ℤ → Operated → Operated
unless_zero j o = if same_int j (pos 0) then Fails DivideByZero else o

-- False is constructor 0 of bool, True is constructor 1
abbrev pub truth : Bool → Operated
truth b = Is (Node (if b then 1 else 0) End)

abbrev pub operate : Operator → ℤ → ℤ → Operated
operate O.Add i j = int_or_overflow (i +ℤ j)
operate O.Subtract i j = int_or_overflow (i -ℤ j)
operate O.Multiply i j = int_or_overflow (i *ℤ j)
operate O.Divide i j = unless_zero j (int_or_overflow (int_div i j))
operate O.Remainder i j = unless_zero j (Is (Int (int_rem i j)))
operate O.Equal i j = truth (same_int i j)
operate O.NotEqual i j = truth (not (same_int i j))
operate O.Less i j = truth (int_lt i j)
operate O.LessOrEqual i j = truth (int_le i j)
operate O.Greater i j = truth (int_lt j i)
operate O.GreaterOrEqual i j = truth (int_le j i)
