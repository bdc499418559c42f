-- The texts of numbers.
use Rattle.std.proofs.Common.{◌≡◌, ℕ, suc, ◌-◌, ◌^◌, ◌<◌, ◌≤◌, ℤ, pos, negsuc, List, [], ◌∷◌, Bool, true, false, Option, Some, None, refl, sym, ap, ap₂, ◌∙◌, arith, FitsSigned, of_z}
use Rattle.std.specs.Prelude.{nat_lt, nat_le, ◌&&◌, if◌then◌else◌}
use Rattle.std.specs.Int.{w16, w32, w64, to_be_bytes, cast_unsigned, is_in_range}
use Rattle.std.proofs.lemmas.Bool.{lt-ltb, le-ltb, le-leb, lt-leb}
use Rattle.code_file.specs.Spelling.{one, two, four, eight, only, mark}
use Rattle.code_file.specs.CodeText.{register_text, credit_count_text, size_text}

abbrev where_true : Bool → List ℕ → Option (List ℕ)
where_true b t = only b (Some t)

pub one_fits : (n : ℕ) → n < 256 → one n ≡ Some (n ∷ [])
unfolding one
one_fits n lt = ap (λ (b : Bool). where_true b (n ∷ [])) (lt-ltb n 256 lt)

pub one_none : (n : ℕ) → 256 ≤ n → one n ≡ None
unfolding one
one_none n le = ap (λ (b : Bool). where_true b (n ∷ [])) (le-ltb n 256 le)

pub two_fits : (n : ℕ) → n < 65536 → two n ≡ Some (to_be_bytes w16 n)
unfolding two
two_fits n lt = ap (λ (b : Bool). where_true b (to_be_bytes w16 n)) (lt-ltb n 65536 lt)

pub two_none : (n : ℕ) → 65536 ≤ n → two n ≡ None
unfolding two
two_none n le = ap (λ (b : Bool). where_true b (to_be_bytes w16 n)) (le-ltb n 65536 le)

pub four_fits : (n : ℕ) → n < 4294967296 → four n ≡ Some (to_be_bytes w32 n)
unfolding four
four_fits n lt = ap (λ (b : Bool). where_true b (to_be_bytes w32 n)) (lt-ltb n 4294967296 lt)

pub four_none : (n : ℕ) → 4294967296 ≤ n → four n ≡ None
unfolding four
four_none n le = ap (λ (b : Bool). where_true b (to_be_bytes w32 n)) (le-ltb n 4294967296 le)

pub eight_fits : (z : ℤ) → FitsSigned w64 z → eight z ≡ Some (to_be_bytes w64 (cast_unsigned w64 z))
unfolding eight
eight_fits (pos n) fits = ap (λ (b : Bool). where_true b (to_be_bytes w64 n)) (lt-ltb n (2 ^ 63) fits.sfits)
eight_fits (negsuc n) fits = ap (λ (b : Bool). where_true b (to_be_bytes w64 (2 ^ 64 - suc n))) (lt-ltb n (2 ^ 63) fits.sfits)

-- the register that stands for none
pub register_none : (r : ℕ) → r ≡ 65535 → register_text (Some r) ≡ None
unfolding register_text
register_none r e = ap (λ (r : ℕ). only (nat_lt r 65535) (two r)) e

pub register_some : (r : ℕ) → r < 65535 → register_text (Some r) ≡ two r
unfolding register_text
register_some r lt = ap (λ (b : Bool). only b (two r)) (lt-ltb r 65535 lt)

pub register_no : register_text None ≡ Some (255 ∷ 255 ∷ [])
unfolding register_text
register_no = refl

-- credits
pub credit_count_fits : (n : ℕ) → n ≤ 16 → credit_count_text n ≡ mark n
unfolding credit_count_text
credit_count_fits n le = ap (λ (b : Bool). only b (mark n)) (le-leb n 16 le)

pub credit_count_none : (n : ℕ) → 16 < n → credit_count_text n ≡ None
unfolding credit_count_text
credit_count_none n lt = ap (λ (b : Bool). only b (mark n)) (lt-leb n 16 lt)

pub size_fits : (n : ℕ) → 1 ≤ n → n ≤ 16 → size_text n ≡ mark n
unfolding size_text
size_fits n ge le = ap₂ (λ (a b : Bool). only (a && b) (mark n)) (le-leb 1 n ge) (le-leb n 16 le)

pub size_zero : size_text 0 ≡ None
unfolding size_text
size_zero = refl

pub size_none : (n : ℕ) → 16 < n → size_text n ≡ None
unfolding size_text
size_none n lt = ap₂ (λ (a b : Bool). only (a && b) (mark n)) (le-leb 1 n (omega arith)) (lt-leb n 16 lt)
