-- Tokens: a name, a literal by its digits, an operator, or a keyword or other sign, each with its place.
use Rattle.std.specs.Prelude.{ℕ, ◌+◌, ◌-◌, ◌*◌, List, [], ◌∷◌}
use Rattle.fip_language.specs.declared.Place.{Place}
use Rattle.fip_language.specs.declared.Operator.{Operator}
use Rattle.fip_grammar.specs.declared.Sign.{Sign}

pub data Word : Type 0 where
  Lower : (name : List ℕ) → Word
  Upper : (name : List ℕ) → Word
  Number : (digits : List ℕ) → Word
  Operate : (operator : Operator) → Word
  Mark : (sign : Sign) → Word

pub record Token : Type 0 where
  pub word : Word
  pub place : Place

abbrev pub token : Word → Place → Token
token w p = record { word = w; place = p }

-- The value of digits after others of this value: a digit is its byte less that of 0.
abbrev pub value_from : ℕ → List ℕ → ℕ
value_from before [] = before
value_from before (d ∷ ds) = value_from (before * 10 + (d - 48)) ds

-- The value of digits: that of 052 is 52.
abbrev pub value_of : List ℕ → ℕ
value_of digits = value_from 0 digits
