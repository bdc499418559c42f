-- Names and what each of them means. A name that is declared twice keeps the meaning of its first declaration: where a
-- means 1, then b means 2, then a means 3 is declared, a means 1, b means 2, and c means nothing.
use Rattle.std.specs.Prelude.{ℕ, Bool, List, [], ◌∷◌, ◌++◌, map, Option, Some, None, if◌then◌else◌}
use Rattle.std.specs.List.{list_any}
use Rattle.fip_base.specs.fip_language.Core.{Name}
use Rattle.fip_base.specs.fip_language.Declarations.{same_name}
use Rattle.fip_trees.specs.declared.decls.TypeHead.{TypeHead}
use Rattle.fip_trees.specs.declared.decls.ConstructorId.{ConstructorId}

-- the meaning of a name in a list of names with their meanings
abbrev pub meaning : {A : Type 0} → Name → List (Name × A) → Option A
meaning n [] = None
meaning n (e ∷ es) = if same_name n e.0 then Some e.1 else meaning n es

-- the names of the list
abbrev pub names : {A : Type 0} → List (Name × A) → List Name
names es = map (λ e. e.0) es

abbrev pub is_among : Name → List Name → Bool
is_among n ns = list_any (same_name n) ns

-- the list with one more name after it; as it was where it has the name
abbrev pub with_meaning : {A : Type 0} → List (Name × A) → Name → A → List (Name × A)
with_meaning es n a = if is_among n (names es) then es else es ++ (n, a) ∷ []

-- the list with more names after it, one after another
abbrev pub with_meanings : {A : Type 0} → List (Name × A) → List (Name × A) → List (Name × A)
with_meanings es [] = es
with_meanings es (f ∷ fs) = with_meanings (with_meaning es f.0 f.1) fs

-- What the names of a program mean. Types, constructors and functions are named apart; a function by its place.
pub record Names : Type 0 where
  pub types : List (Name × TypeHead)
  pub constructors : List (Name × ConstructorId)
  pub functions : List (Name × ℕ)
