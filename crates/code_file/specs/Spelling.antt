-- Pieces of a text: bytes, or none where there is no text. Of numbers the highest byte comes first: two 258 is the
-- bytes 1 and 2, and two 65536 is none.
use Rattle.std.specs.Prelude.{ℕ, suc, ◌-◌, ◌^◌, ℤ, pos, negsuc, Bool, true, ◌&&◌, ◌||◌, not, nat_lt, nat_le}
use Rattle.std.specs.Prelude.{if◌then◌else◌, codes, List, [], ◌∷◌, ◌++◌, length, Option, Some, None}
use Rattle.std.specs.Int.{w16, w32, w64, to_be_bytes}
use Rattle.std.specs.Str.{bytes_eq}
use Rattle.fip_language.specs.Character.{is_upper_name, are_name_bytes}
pub use Rattle.fip_language.specs.Character.{is_lower, is_keyword}

-- one text and then another; none where one of them is none
infixr 10 ◌+++◌
unfoldable pub ◌+++◌ : Option (List ℕ) → Option (List ℕ) → Option (List ℕ)
None +++ b = None
(Some s) +++ None = None
(Some s) +++ (Some t) = Some (s ++ t)

-- the texts of several, one after the other
unfoldable pub each : {A : Type 0} → (A → Option (List ℕ)) → List A → Option (List ℕ)
each text [] = Some []
each text (x ∷ xs) = text x +++ each text xs

-- a text that is there where a test holds
abbrev pub only : Bool → Option (List ℕ) → Option (List ℕ)
only test text = if test then text else None

-- a byte that is always there
abbrev pub mark : ℕ → Option (List ℕ)
mark b = Some (b ∷ [])

-- a number in one byte
unfoldable pub one : ℕ → Option (List ℕ)
one n = only (nat_lt n 256) (Some (n ∷ []))

-- a number in two bytes
unfoldable pub two : ℕ → Option (List ℕ)
two n = only (nat_lt n 65536) (Some (to_be_bytes w16 n))

-- a number in four bytes
unfoldable pub four : ℕ → Option (List ℕ)
four n = only (nat_lt n 4294967296) (Some (to_be_bytes w32 n))

-- an int in eight bytes, in two's complement; negsuc n is the int -(n + 1)
unfoldable pub eight : ℤ → Option (List ℕ)
eight (pos n) = only (nat_lt n (2 ^ 63)) (Some (to_be_bytes w64 n))
eight (negsuc n) = only (nat_lt n (2 ^ 63)) (Some (to_be_bytes w64 (2 ^ 64 - suc n)))

-- a function's name: a small letter, and then letters, digits and _, but no keyword; or empty
abbrev pub is_function_name : List ℕ → Bool
is_function_name [] = true
is_function_name (b ∷ bs) = is_lower b && are_name_bytes bs && not (is_keyword (b ∷ bs))

-- a name after its length
unfoldable pub name_text : List ℕ → Option (List ℕ)
name_text name = four (length name) +++ Some name

unfoldable pub upper_name_text : List ℕ → Option (List ℕ)
upper_name_text name = only (is_upper_name name) (name_text name)

unfoldable pub function_name_text : List ℕ → Option (List ℕ)
function_name_text name = only (is_function_name name) (name_text name)
