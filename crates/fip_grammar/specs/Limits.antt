-- What a source may break beside the grammar: more than 100 brackets are open at once (E03), or a literal hasn't 64
-- bits (E04). Both are required of the tokens alone, also where the grammar is broken. And which fault of a source is
-- named.
--
-- A literal may be 2^63 directly after a - that isn't binary, elsewhere 2^63 - 1. A - is binary where the token before
-- it is a literal, a name, ) or }: in 1 - 9223372036854775808 it is binary, so the literal is too large; in
-- f(- 9223372036854775808) it isn't.
use Rattle.std.specs.Prelude.{◌≡◌, ◌⊎◌, ℕ, ◌+◌, ◌-◌, ◌^◌, ◌<◌, ◌≤◌, Bool, true, false, ◌&&◌, not, if◌then◌else◌, List}
use Rattle.std.specs.Prelude.{[], ◌∷◌, take, Option, Some, None, slice_get}
use Rattle.fip_language.specs.declared.Place.{Place}
use Rattle.fip_language.specs.declared.Operator.TheVariants as O
use Rattle.fip_language.specs.declared.limits.TheConstants.{MOST_BRACKETS}
use Rattle.fip_language.specs.declared.rule.Rule.{Rule}
use Rattle.fip_language.specs.declared.rule.Rule.TheVariants as R
use Rattle.fip_language.specs.Prefix.{IsPlace}
use Rattle.fip_language.specs.RuleNumber.{number}
use Rattle.fip_language.specs.Surface.{Program}
use Rattle.fip_grammar.specs.declared.Sign.TheVariants as S
use Rattle.fip_grammar.specs.Token.{Word, Lower, Upper, Number, Operate, Mark, Token, value_of}
use Rattle.fip_grammar.specs.Cut.{IsCut, IsBadByte}
use Rattle.fip_grammar.specs.Grammar.{Spells}

abbrev pub is_opening : Word → Bool
is_opening (Mark S.RoundOpen) = true
is_opening (Mark S.SquareOpen) = true
is_opening (Mark S.CurlyOpen) = true
is_opening _ = false

abbrev pub is_closing : Word → Bool
is_closing (Mark S.RoundClose) = true
is_closing (Mark S.SquareClose) = true
is_closing (Mark S.CurlyClose) = true
is_closing _ = false

-- a token after which a - is between two operands
abbrev pub ends_operand : Word → Bool
ends_operand (Number ds) = true
ends_operand (Lower n) = true
ends_operand (Upper n) = true
ends_operand (Mark S.RoundClose) = true
ends_operand (Mark S.CurlyClose) = true
ends_operand _ = false

abbrev pub is_minus : Word → Bool
is_minus (Operate O.Subtract) = true
is_minus _ = false

-- What some tokens are like: how many brackets are open after them, whether the last one ends an operand, and whether
-- it is a - that isn't binary.
pub record Seen : Type 0 where
  pub open' : ℕ
  pub ends_operand : Bool
  pub is_sign : Bool

abbrev pub nothing_seen : Seen
nothing_seen = record { open' = 0; ends_operand = false; is_sign = false }

-- a closing bracket without an open one closes none
abbrev pub open_after : ℕ → Word → ℕ
open_after n w = if is_opening w then n + 1 else if is_closing w then n - 1 else n

-- one token more
abbrev pub following : Seen → Word → Seen
following b w = record {
  open' = open_after b.open' w;
  ends_operand = ends_operand w;
  is_sign = is_minus w && not b.ends_operand;
}

abbrev pub seen_from : Seen → List Token → Seen
seen_from b [] = b
seen_from b (t ∷ ts) = seen_from (following b t.word) ts

-- what the first t tokens are like
abbrev pub seen : List Token → ℕ → Seen
seen ts t = seen_from nothing_seen (take t ts)

-- E03: token t is a bracket with which more than 100 are open.
abbrev pub IsTooDeep : List Token → ℕ → Type 0
IsTooDeep ts t = (x : Token) × (slice_get ts t ≡ Some x) × (is_opening x.word ≡ true)
    × (MOST_BRACKETS ≤ (seen ts t).open')

-- the greatest literal
abbrev pub limit : Bool → ℕ
limit is_sign = if is_sign then 2 ^ 63 else 2 ^ 63 - 1

-- E04: token t is a literal that is too large.
abbrev pub IsTooLarge : List Token → ℕ → Type 0
IsTooLarge ts t = (x : Token) × (ds : List ℕ) × (slice_get ts t ≡ Some x) × (x.word ≡ Number ds)
    × (limit (seen ts t).is_sign < value_of ds)

-- The rule E02, E03 or E04 is broken at token t; the end is a token.
abbrev pub Breaks : List Token → Rule → ℕ → Type 0
Breaks ts rule t =
    ((rule ≡ R.E02) × IsPlace Spells ts t)
    ⊎ (((rule ≡ R.E03) × IsTooDeep ts t) ⊎ ((rule ≡ R.E04) × IsTooLarge ts t))

-- It is broken there, and no rule is broken at an earlier token, and none of a lesser number at the same token.
pub record IsLeastBroken (ts : List Token) (rule : Rule) (t : ℕ) : Type 0 where
  pub broken : Breaks ts rule t
  pub least : (r : Rule) (u : ℕ) → Breaks ts r u → (t < u) ⊎ ((t ≡ u) × (number rule ≤ number r))

-- the place of a token; that of the end after the last one
abbrev pub place_or : Place → Option Token → Place
place_or end None = end
place_or end (Some t) = t.place

abbrev pub place_at : List Token → Place → ℕ → Place
place_at ts end t = place_or end (slice_get ts t)

-- The source is that of this program, and breaks none of the rules E01 to E04.
abbrev pub IsSpelt : List ℕ → Program → Type 0
IsSpelt source p = (ts : List Token) × (end : Place) × IsCut source ts end × Spells ts p
    × ((r : Rule) (t : ℕ) → Breaks ts r t → ⊥)

-- The source breaks this rule at this place: a byte that begins no token is named before all else (E01), then the least
-- of the others.
abbrev pub IsMisspelt : List ℕ → Rule → Place → Type 0
IsMisspelt source rule place =
    ((rule ≡ R.E01) × IsBadByte source place)
    ⊎ ((ts : List Token) × (end : Place) × (t : ℕ) × IsCut source ts end × IsLeastBroken ts rule t
    × (place ≡ place_at ts end t))
