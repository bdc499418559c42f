-- The files of a folder: a finite map from names to bytes. What a folder reports of them is `Some` list, or `None` where
-- it reports nothing; then nothing is claimed either.
use Rattle.std.specs.Prelude.{◌≡◌, ℕ, ◌<◌, Bool, List, [], ◌∷◌, length, Option, Some, None, ⊤, bytes_eq, if◌then◌else◌}
use Rattle.std.specs.Prelude.{IsSomeAnd}

-- A name and bytes, each a list of bytes.
pub record File : Type 0 where
  pub name : List ℕ
  pub bytes : List ℕ

-- The file has this name.
abbrev pub has_name : List ℕ → File → Bool
has_name name file = bytes_eq file.name name

-- The bytes under a name; where it occurs twice, the first ones count.
-- `file_of (97 ∷ [])` is `Some (7 ∷ [])` in a list of just the file `a` with the byte 7, and `file_of []` is `None`.
abbrev pub file_of : List ℕ → List File → Option (List ℕ)
file_of name [] = None
file_of name (file ∷ files) = if has_name name file then Some file.bytes else file_of name files

-- The files with these bytes under a name: in place of the first ones of that name, else as the last file.
abbrev pub put_file : List ℕ → List ℕ → List File → List File
put_file name bytes [] = record { name = name; bytes = bytes } ∷ []
put_file name bytes (file ∷ files) = if has_name name file then record file { bytes = bytes } ∷ files else file
    ∷ put_file name bytes files

-- Where files are reported, the name has these bytes.
abbrev pub HoldsFile : Option (List File) → List ℕ → List ℕ → Type 0
HoldsFile None name bytes = ⊤
HoldsFile (Some files) name bytes = file_of name files ≡ Some bytes

-- Where files are reported, the name has more than so many bytes.
abbrev pub HoldsLonger : Option (List File) → List ℕ → ℕ → Type 0
HoldsLonger None name limit = ⊤
HoldsLonger (Some files) name limit = IsSomeAnd (file_of name files) (λ bytes. limit < length bytes)

-- Files are reported, and none has the name.
abbrev pub IsMissing : Option (List File) → List ℕ → Type 0
IsMissing None name = ⊥
IsMissing (Some files) name = file_of name files ≡ None

-- Where files are reported before, they are reported after, and each name but this one has what it had.
abbrev pub KeepsOthers : Option (List File) → Option (List File) → List ℕ → Type 0
KeepsOthers None after name = ⊤
KeepsOthers (Some before) None name = ⊥
KeepsOthers (Some before) (Some after) name = (other : List ℕ) → (other ≡ name → ⊥) →
    file_of other after ≡ file_of other before
