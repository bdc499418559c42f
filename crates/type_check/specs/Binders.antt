-- The binders of a let.
use Rattle.std.specs.Prelude.{ℕ, Bool, true, ◌&&◌, List, [], ◌∷◌, Option, is_some}
use Rattle.fip_trees.specs.declared.program.Binder.{Binder}
use Rattle.type_check.specs.declared.scope.Entry.{Entry}
use Rattle.type_check.specs.Found.{first_type, others, or_found, slot}
use Rattle.type_check.specs.Scope.{Scope}

-- each has an annotation
abbrev pub all_annotated : List Binder → Bool
all_annotated [] = true
all_annotated (b ∷ bs) = is_some b.annotation && all_annotated bs

abbrev pub annotations : List Binder → List (Option ℕ)
annotations [] = []
annotations (b ∷ bs) = b.annotation ∷ annotations bs

-- the variables of binders, where these types were found
abbrev pub entries : List Binder → List (Option ℕ) → Scope
entries [] ts = []
entries (b ∷ bs) ts = record { number = b.number; ty = or_found b.annotation (first_type ts) } ∷ entries bs (others ts)

-- the binder with its slot filled
abbrev pub typed : Option ℕ → Binder → Binder
typed t b = record { number = b.number; name = b.name; place = b.place; annotation = b.annotation; ty = slot t }

-- its variable, of a type
abbrev pub entry : Option ℕ → Binder → Entry
entry t b = record { number = b.number; ty = t }
