-- It serves the proof: a scope's table and trail.
use Rattle.std.specs.Prelude.{◌≡◌, ℕ, List, [], ◌∷◌, ◌++◌, get_or, Option, None}
use Rattle.type_check.specs.Scope.{look}
use Rattle.type_check.specs.declared.scope.Entry.{Entry}
use Rattle.type_check.specs.declared.scope.Step.{Step}

abbrev pub step_entry : Step → Entry
step_entry s = s.entry

-- the table has what is known of each variable
abbrev pub IsTable : List (Option (Option ℕ)) → List Entry → Type 0
IsTable os es = (x : ℕ) → get_or os x None ≡ look es x

-- each step has what was known before
abbrev pub IsTrail : List Entry → List Step → Type 0
IsTrail es [] = Unit {0}
IsTrail es (s ∷ ss) = (s.before ≡ look es s.entry.number) × IsTrail (es ++ s.entry ∷ []) ss
