-- What the reader of single tokens gives, in the machine's words. No public clause speaks of it.
use Rattle.std.specs.Prelude.{◌≡◌, ◌⊎◌, ℕ, suc, ◌<◌, ◌≤◌, Bool, true, false, ◌||◌, ◌&&◌, nat_eq, List, [], ◌∷◌, length}
use Rattle.std.specs.Prelude.{take, drop}
use Rattle.fip_language.specs.Prefix.{Outcome, run}
use Rattle.fip_language.specs.Values.{Values}
use Rattle.fip_language.specs.Table.{Shape, Table}
use Rattle.fip_language.specs.Character.{is_digit, is_letter}
use Rattle.value_text.specs.Machine.{Around, State, Want, Signed, step, final}

-- the machine on the bytes from a place on
abbrev pub runs : Table → List ℕ → State → ℕ → Outcome Values
runs tb bytes s at = run (step tb) (final tb) s (drop at bytes) at

abbrev pub is_name_byte : ℕ → Bool
is_name_byte b = is_digit b || is_letter b

-- before the digits of a number, with a - or without
abbrev pub before_digits : Bool → Around → State
before_digits true around = Signed around
before_digits false around = Want 0 around

-- the first text is the front of the second
abbrev pub begins_bytes : List ℕ → List ℕ → Bool
begins_bytes [] ds = true
begins_bytes (c ∷ cs) [] = false
begins_bytes (c ∷ cs) (d ∷ ds) = nat_eq c d && begins_bytes cs ds

-- the name of some constructor begins so
abbrev pub some_begins : List ℕ → List Shape → Bool
some_begins front [] = false
some_begins front (s ∷ ss) = begins_bytes front s.name || some_begins front ss

-- m is the length of the longest front of the text with which the name of a constructor begins
pub record IsLongest (text : List ℕ) (ss : List Shape) (m : ℕ) : Type 0 where
  pub within : m ≤ length text
  pub begun : (m ≡ 0) ⊎ (some_begins (take m text) ss ≡ true)
  pub longest : m < length text → some_begins (take (suc m) text) ss ≡ false
