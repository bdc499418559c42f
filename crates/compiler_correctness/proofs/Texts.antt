-- What has a text: pieces that have one each, one after the other, and numbers that are small enough.
use Rattle.std.proofs.Common.{◌≡◌, ◌<◌, ◌≤◌, ℕ, suc, Bool, true, List, [], ◌∷◌, length, Option, Some, None, slice_get, is_some, refl, sym, ap, subst, arith}
use Rattle.lowering_soundness.specs.fip_language.declared.limits.TheConstants.{MOST_INSTANCES}
use Rattle.lowering_soundness.specs.fip_language.Character.{is_upper_name}
use Rattle.derivation_correctness.specs.code_file.Spelling.{◌+++◌, each, only, one, two, four, name_text, upper_name_text, function_name_text, is_function_name}
use Rattle.derivation_correctness.specs.code_file.CodeText.{types_text}
use Rattle.derivation_correctness.proofs.code_file.Numbers.{one_fits, two_fits, four_fits}
use Rattle.derivation_correctness.specs.lower_frame.Spelled.{IsSpelt}

pub joined : (a b : Option (List ℕ)) → IsSpelt a → IsSpelt b → IsSpelt (a +++ b)
unfolding ◌+++◌
joined None b h k = cc
joined (Some s) None h k = k
joined (Some s) (Some t) h k = refl

pub each_spelt : {A : Type 0} (text : A → Option (List ℕ)) (xs : List A) → ((i : ℕ) (x : A) → slice_get xs i ≡ Some x → IsSpelt (text x)) → IsSpelt (each text xs)
unfolding each
each_spelt text [] h = refl
each_spelt text (x ∷ xs) h = joined (text x) (each text xs) (h 0 x refl) (each_spelt text xs (λ i y e. h (suc i) y e))

pub only_spelt : (b : Bool) (text : Option (List ℕ)) → b ≡ true → IsSpelt text → IsSpelt (only b text)
only_spelt b text e h = subst (λ b. IsSpelt (only b text)) (sym e) h

pub there : (text : Option (List ℕ)) (bytes : List ℕ) → text ≡ Some bytes → IsSpelt text
there text bytes e = ap (λ (o : Option (List ℕ)). is_some o) e

pub one_spelt : (n : ℕ) → n < 256 → IsSpelt (one n)
one_spelt n lt = there (one n) _ (one_fits n lt)

pub two_spelt : (n : ℕ) → n < 65536 → IsSpelt (two n)
two_spelt n lt = there (two n) _ (two_fits n lt)

pub four_spelt : (n : ℕ) → n < 4294967296 → IsSpelt (four n)
four_spelt n lt = there (four n) _ (four_fits n lt)

name_spelt : (name : List ℕ) → length name < 4294967296 → IsSpelt (name_text name)
unfolding name_text
name_spelt name lt = joined (four (length name)) (Some name) (four_spelt (length name) lt) refl

pub upper_name_spelt : (name : List ℕ) → is_upper_name name ≡ true → length name < 4294967296 → IsSpelt (upper_name_text name)
unfolding upper_name_text
upper_name_spelt name e lt = only_spelt (is_upper_name name) (name_text name) e (name_spelt name lt)

pub function_name_spelt : (name : List ℕ) → is_function_name name ≡ true → length name < 4294967296 → IsSpelt (function_name_text name)
unfolding function_name_text
function_name_spelt name e lt = only_spelt (is_function_name name) (name_text name) e (name_spelt name lt)

-- numbers of types, of which there are at most 4,096
pub types_spelt : (n : ℕ) (ts : List ℕ) → n ≤ MOST_INSTANCES → length ts < 256 → ((i t : ℕ) → slice_get ts i ≡ Some t → t ≤ n) → IsSpelt (types_text ts)
unfolding types_text
types_spelt n ts few short within =
    joined (one (length ts)) (each two ts) (one_spelt (length ts) short)
    (each_spelt two ts (λ i t e. two_spelt t (let k = within i t e in omega (arith, k, few))))

-- what is encoded has bytes
pub bytes_of : (text : Option (List ℕ)) → IsSpelt text → (bytes : List ℕ) × (text ≡ Some bytes)
bytes_of None h = cc
bytes_of (Some bytes) h = (bytes, refl)
