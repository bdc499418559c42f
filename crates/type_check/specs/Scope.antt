-- A scope: the variables in scope and their types, hidden where a violation hides them. The last is the innermost.
use Rattle.std.specs.Prelude.{◌≡◌, ◌≤◌, ◌==◌, if◌then◌else◌, ℕ}
use Rattle.std.specs.Prelude.{List, [], ◌∷◌, take, length, Option, Some, None}
use Rattle.type_check.specs.declared.scope.Entry.{Entry}

abbrev pub Scope : Type 0
Scope = List Entry

-- the first, else the second
abbrev pub or_else : Option (Option ℕ) → Option (Option ℕ) → Option (Option ℕ)
or_else (Some t) o = Some t
or_else None o = o

-- what is known of a variable's type; none where it isn't in scope
abbrev pub look : Scope → ℕ → Option (Option ℕ)
look [] x = None
look (e ∷ es) x = or_else (look es x) (if e.number == x then Some e.ty else None)

-- the same of a variable that may have no binder
abbrev pub of_binder : Scope → Option ℕ → Option (Option ℕ)
of_binder s None = None
of_binder s (Some x) = look s x

-- the second goes on from the first
abbrev pub Keeps : Scope → Scope → Type 0
Keeps s r = (length s ≤ length r) × (take (length s) r ≡ s)
