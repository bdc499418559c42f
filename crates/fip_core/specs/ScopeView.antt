-- The names in scope, as the code keeps them: each binding knows the number that it hides, so that it can be undone.
use Rattle.std.specs.Prelude.{◌≡◌, ℕ, List, [], ◌∷◌, ◌++◌, map, Option}
use Rattle.fip_base.specs.fip_language.CoreForm.{Named, Scope, lookup}
use Rattle.fip_core.specs.declared.scope.Entry.{Entry}

abbrev pub named : Entry → Named
named e = record { name = e.name.items; number = e.number }

-- each binding hides the number that its name has before it
abbrev pub HideEarlier : Scope → List Entry → Type 0
HideEarlier s [] = Unit {0}
HideEarlier s (e ∷ es) = (e.hidden ≡ lookup s e.name.items) × HideEarlier (s ++ named e ∷ []) es

-- the map finds for each name the number of its latest binding
pub record IsKept (entries : List Entry) (find : List ℕ → Option ℕ) : Type 0 where
  pub finds : (x : List ℕ) → find x ≡ lookup (map named entries) x
  pub hides : HideEarlier [] entries
