-- What a name has after bytes were put under one.
use Rattle.std.proofs.Common.{◌≡◌, ℕ, List, [], ◌∷◌, Bool, true, false, cond, Some, refl, sym, ap, ◌∙◌}
use Rattle.std.specs.Prelude.{bytes_eq}
use Rattle.std.proofs.lemmas.Slice.Eq.{bytes_eq-Decides}
use Rattle.fip_language.proofs.Search.{bytes_eq-other}
use Rattle.fip_outside.specs.Files.{File, has_name, file_of, put_file}

bytes_eq-same : (a : List ℕ) → bytes_eq a a ≡ true
bytes_eq-same a = (bytes_eq-Decides a a).1 refl

-- by cases on the first file's name
pub file_of-put_file : (name bytes : List ℕ) (fs : List File) → file_of name (put_file name bytes fs) ≡ Some bytes
file_of-put_file name bytes [] = rw (bytes_eq-same name) refl
file_of-put_file name bytes (f ∷ fs) =
    let P : Bool → Type 0 = λ v. has_name name f ≡ v → file_of name (cond v (record f { bytes = bytes } ∷ fs) (f ∷ put_file name bytes fs)) ≡ Some bytes in
    let cases : P (has_name name f) = elim (has_name name f) as P [ true ↦ λ e. rw e refl | false ↦ λ e. rw e (file_of-put_file name bytes fs) ] in
    cases refl

-- by cases on the first file's name; a file of the name has no other name
pub file_of-put_file-other : (name other bytes : List ℕ) (fs : List File) → (other ≡ name → ⊥) → file_of other (put_file name bytes fs) ≡ file_of other fs
file_of-put_file-other name other bytes [] n = rw (bytes_eq-other name other n) refl
file_of-put_file-other name other bytes (f ∷ fs) n =
    let P : Bool → Type 0 = λ v. has_name name f ≡ v → file_of other (cond v (record f { bytes = bytes } ∷ fs) (f ∷ put_file name bytes fs)) ≡ file_of other (f ∷ fs) in
    let cases : P (has_name name f) = elim (has_name name f) as P [
      | true ↦ λ e. rw (bytes_eq-other f.name other (λ h. n (h ∙ (bytes_eq-Decides f.name name).0 e))) refl
      | false ↦ λ e. ap (λ z. cond (has_name other f) (Some f.bytes) z) (file_of-put_file-other name other bytes fs n)
    ] in
    cases refl
