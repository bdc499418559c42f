-- The first file of a name, found by its place in a list of entries.
use Rattle.std.proofs.Common.{◌≡◌, ℕ, zero, suc, ◌<◌, List, [], ◌∷◌, ◌++◌, length, get_or, set, Bool, true, false, Some, None, refl, sym, ap, arith}
use Rattle.std.specs.Prelude.{position}
use Rattle.std.proofs.lemmas.Grind.{common_steps}
use Rattle.std.proofs.lemmas.List.Quantifiers.{position-Some}
use Rattle.std.proofs.lemmas.List.Sums.{fails_before_first}
use Rattle.fip_outside.specs.Files.{has_name, file_of, put_file}
use Rattle.fip_outside.specs.Entries.{Entry, file_in, files_in}

-- the entry's file has this name
abbrev pub is_named : List ℕ → Entry → Bool
is_named name entry = has_name name (file_in entry)

-- no entry before the place i has the name
abbrev NoneBefore : List ℕ → List Entry → ℕ → Entry → Type 0
NoneBefore name xs i d = (k : ℕ) → k < i → is_named name (get_or xs k d) ≡ false

file_of-at : (name : List ℕ) (xs : List Entry) (i : ℕ) (d : Entry) → i < length xs → is_named name (get_or xs i d) ≡ true → NoneBefore name xs i d → file_of name (files_in xs) ≡ Some ((get_or xs i d).1.items)
file_of-at name [] i d h t b = absurd (omega (arith, h))
file_of-at name (x ∷ xs) zero d h t b = rw t refl
file_of-at name (x ∷ xs) (suc i) d h t b = rw (b zero (omega arith)) (file_of-at name xs i d (omega (arith, h)) t (λ k l. b (suc k) (omega (arith, l))))

file_of-past : (name : List ℕ) (xs : List Entry) (d : Entry) → NoneBefore name xs (length xs) d → file_of name (files_in xs) ≡ None
file_of-past name [] d b = refl
file_of-past name (x ∷ xs) d b = rw (b zero (omega arith)) (file_of-past name xs d (λ k l. b (suc k) (omega (arith, l))))

put_file-at : (name bytes : List ℕ) (xs : List Entry) (i : ℕ) (d y : Entry) → i < length xs → is_named name (get_or xs i d) ≡ true → NoneBefore name xs i d → file_in y ≡ record (file_in (get_or xs i d)) { bytes = bytes } → put_file name bytes (files_in xs) ≡ files_in (set xs i y)
put_file-at name bytes [] i d y h t b e = absurd (omega (arith, h))
put_file-at name bytes (x ∷ xs) zero d y h t b e = rw t (ap (λ z. z ∷ files_in xs) (sym e))
put_file-at name bytes (x ∷ xs) (suc i) d y h t b e = rw (b zero (omega arith)) (ap (λ z. file_in x ∷ z) (put_file-at name bytes xs i d y (omega (arith, h)) t (λ k l. b (suc k) (omega (arith, l))) e))

put_file-past : (name bytes : List ℕ) (xs : List Entry) (d y : Entry) → NoneBefore name xs (length xs) d → file_in y ≡ record { name = name; bytes = bytes } → put_file name bytes (files_in xs) ≡ files_in (xs ++ y ∷ [])
put_file-past name bytes [] d y b e = ap (λ z. z ∷ []) (sym e)
put_file-past name bytes (x ∷ xs) d y b e = rw (b zero (omega arith)) (ap (λ z. file_in x ∷ z) (put_file-past name bytes xs d y (λ k l. b (suc k) (omega (arith, l))) e))

none_before : (name : List ℕ) (xs : List Entry) (d : Entry) → position (is_named name) xs ≡ None → NoneBefore name xs (length xs) d
none_before name xs d h k l = fails_before_first (is_named name) xs k d (grind (arith, common_steps, h, l))

pub file_of-Some : (name : List ℕ) (xs : List Entry) (i : ℕ) (d : Entry) → position (is_named name) xs ≡ Some i → file_of name (files_in xs) ≡ Some ((get_or xs i d).1.items)
file_of-Some name xs i d h = let p = position-Some (is_named name) xs i d h in file_of-at name xs i d p.0 p.1 p.2

pub file_of-None : (name : List ℕ) (xs : List Entry) → position (is_named name) xs ≡ None → file_of name (files_in xs) ≡ None
file_of-None name [] h = refl
file_of-None name (x ∷ xs) h = file_of-past name (x ∷ xs) x (none_before name (x ∷ xs) x h)

pub put_file-Some : (name bytes : List ℕ) (xs : List Entry) (i : ℕ) (d y : Entry) → position (is_named name) xs ≡ Some i → file_in y ≡ record (file_in (get_or xs i d)) { bytes = bytes } → put_file name bytes (files_in xs) ≡ files_in (set xs i y)
put_file-Some name bytes xs i d y h e = let p = position-Some (is_named name) xs i d h in put_file-at name bytes xs i d y p.0 p.1 p.2 e

pub put_file-None : (name bytes : List ℕ) (xs : List Entry) (d y : Entry) → position (is_named name) xs ≡ None → file_in y ≡ record { name = name; bytes = bytes } → put_file name bytes (files_in xs) ≡ files_in (xs ++ y ∷ [])
put_file-None name bytes xs d y h e = put_file-past name bytes xs d y (none_before name xs d h) e
