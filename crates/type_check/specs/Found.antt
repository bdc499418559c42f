-- Types found and types expected. A type found is none where a violation hides it. What is expected of an argument is
-- none where no type is expected, else a type, which may be hidden.
use Rattle.std.specs.Prelude.{ℕ, Bool, true, false, not, ◌||◌, ◌==◌, if◌then◌else◌}
use Rattle.std.specs.Prelude.{List, [], ◌∷◌, length, Option, Some, None}

-- the first of several types
abbrev pub first_type : List (Option ℕ) → Option ℕ
first_type [] = None
first_type (t ∷ ts) = t

-- the types after the first
abbrev pub others : List (Option ℕ) → List (Option ℕ)
others [] = []
others (t ∷ ts) = ts

-- what is expected of the first of several arguments, where types are expected or not
abbrev pub first_wanted : Bool → List (Option ℕ) → Option (Option ℕ)
first_wanted false ts = None
first_wanted true ts = Some (first_type ts)

-- the type expected, where one is
abbrev pub known : Option (Option ℕ) → Option ℕ
known None = None
known (Some t) = t

-- the types expected, where types are expected and are as many as there are arguments
abbrev pub usable : Bool → ℕ → List (Option ℕ) → List (Option ℕ)
usable false n ts = []
usable true n ts = if n == length ts then ts else []

-- as many types, all hidden
abbrev pub unknowns : List (Option ℕ) → List (Option ℕ)
unknowns [] = []
unknowns (t ∷ ts) = None ∷ unknowns ts

-- the types found, where they are as many as expected; else as many as expected, all hidden
abbrev pub as_many : List (Option ℕ) → List (Option ℕ) → List (Option ℕ)
as_many us ts = if length us == length ts then us else unknowns ts

-- what a slot holds
abbrev pub slot : Option ℕ → ℕ
slot None = 0
slot (Some t) = t

-- both types are known, and another than the expected one was found
abbrev pub differ : Option ℕ → Option ℕ → Bool
differ None t = false
differ (Some u) None = false
differ (Some u) (Some t) = not (u == t)

-- another type than the one expected, if one is expected
abbrev pub misfits : Option (Option ℕ) → Option ℕ → Bool
misfits None t = false
misfits (Some o) t = differ o t

-- what is expected of the clauses after the first, which gives `us`, where `ts` are expected of the match or not
abbrev pub wanted_next : Bool → List (Option ℕ) → List (Option ℕ) → List (Option ℕ)
wanted_next true ts us = ts
wanted_next false ts us = us

-- one of the results is of another type
abbrev pub some_differ : List (Option ℕ) → List ℕ → Bool
some_differ us [] = false
some_differ us (t ∷ ts) = differ (first_type us) (Some t) || some_differ (others us) ts

-- the type of a let's binder: that of its annotation, else the one found
abbrev pub or_found : Option ℕ → Option ℕ → Option ℕ
or_found (Some t) o = Some t
or_found None o = o
