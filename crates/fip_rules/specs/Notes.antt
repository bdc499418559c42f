-- For the proofs alone: what one walk notes. It knows the scope, how many bound expressions are around, and as lists
-- which variables were used on some path to here, which on every path, and which borrowing occurrences wait for the end
-- of the bound expression around them.
use Rattle.std.specs.Prelude.{ℕ, suc, List, [], ◌∷◌, ◌++◌, filter, Option, Some, None, ◌==◌, ◌≡◌, ◌⊎◌}
use Rattle.std.specs.Prelude.{Bool, true, false, not, ◌&&◌, if◌then◌else◌}
use Rattle.std.specs.List.{list_any}
use Rattle.fip_trees.specs.fip_language.declared.rule.Rule.TheVariants.{E50, E51, E52, E53, E54}
use Rattle.fip_rules.specs.Marks.{Mark, Entry, Breach}
use Rattle.fip_rules.specs.declared.scope.Ownership.{Ownership}
use Rattle.fip_rules.specs.declared.scope.Ownership.TheVariants.{Scalar, Borrowed, Owned}
use Rattle.fip_rules.specs.Shape.{Shape, Skip, Use, Lend, Fault, Then, Either, Bound, Scope}
use Rattle.fip_rules.specs.Rules.{broken}

abbrev pub has : List ℕ → ℕ → Bool
has xs x = list_any (λ y. y == x) xs

abbrev pub In : Breach → List Breach → Type 0
In v [] = ⊥
In v (w ∷ ws) = (v ≡ w) ⊎ In v ws

abbrev pub or_else : Option Entry → Option Entry → Option Entry
or_else o None = o
or_else o (Some e) = Some e

-- each once, where it is last
abbrev pub distinct : List ℕ → List ℕ
distinct [] = []
distinct (x ∷ xs) = if has xs x then distinct xs else x ∷ distinct xs

-- the last one that is known by x
abbrev pub look : List Entry → ℕ → Option Entry
look [] x = None
look (e ∷ es) x = or_else (if e.mark.id == x then Some e else None) (look es x)

pub record Walked : Type 0 where
  pub scope : List Entry
  pub level : ℕ
  pub used : List ℕ
  pub always : List ℕ

abbrev pub nothing : Walked
nothing = record { scope = []; level = 0; used = []; always = [] }

abbrev pub entry : Walked → Ownership → Mark → Entry
entry s k m = record { mark = m; ownership = k; level = s.level }

abbrev pub enter : Walked → Ownership → Mark → Walked
enter s k m = record { scope = s.scope ++ entry s k m ∷ []; level = s.level; used = s.used; always = s.always }

abbrev pub deeper : Walked → Walked
deeper s = record { scope = s.scope; level = suc s.level; used = s.used; always = s.always }

-- the variables that are used on some path
abbrev pub uses : Shape → List ℕ
uses Skip = []
uses (Use m) = m.id ∷ []
uses (Lend m) = []
uses (Fault q m) = []
uses (Then a b) = uses a ++ uses b
uses (Either a b) = uses a ++ uses b
uses (Bound a) = uses a
uses (Scope k m a) = uses a

-- those that are used on every path
abbrev pub always : Shape → List ℕ
always Skip = []
always (Use m) = m.id ∷ []
always (Lend m) = []
always (Fault q m) = []
always (Then a b) = always a ++ always b
always (Either a b) = filter (λ x. has (always b) x) (distinct (always a))
always (Bound a) = always a
always (Scope k m a) = always a

abbrev pub is_owned : Ownership → Bool
is_owned Scalar = false
is_owned Borrowed = false
is_owned Owned = true

-- one of an owned variable that is bound outside of the bound expression
abbrev pub if_waits : Option Entry → ℕ → Mark → List Mark
if_waits None l m = []
if_waits (Some e) l m = if is_owned e.ownership && not (e.level == l) then m ∷ [] else []

-- the borrowing occurrences that wait
abbrev pub waits : List Entry → ℕ → Shape → List Mark
waits es l Skip = []
waits es l (Use m) = []
waits es l (Lend m) = if_waits (look es m.id) l m
waits es l (Fault q m) = []
waits es l (Then a b) = waits es l a ++ waits es l b
waits es l (Either a b) = waits es l a ++ waits es l b
waits es l (Bound a) = []
waits es l (Scope k m a) = waits (es ++ record { mark = m; ownership = k; level = l } ∷ []) l a

-- after this
abbrev pub run : Walked → Shape → Walked
run s e = record { scope = s.scope; level = s.level; used = s.used ++ uses e; always = s.always ++ always e }

abbrev pub when : Bool → Breach → List Breach
when true v = v ∷ []
when false v = []

abbrev pub use_of : Ownership → ℕ → Bool → Mark → List Breach
use_of Scalar i u m = []
use_of Borrowed i u m = broken E53 i m ∷ []
use_of Owned i u m = when u (broken E50 i m)

abbrev pub use_notes : Option Entry → ℕ → Bool → Mark → List Breach
use_notes None i u m = []
use_notes (Some e) i u m = use_of e.ownership i u m

abbrev pub lend_of : Ownership → ℕ → Bool → Bool → Mark → List Breach
lend_of Scalar i u h m = []
lend_of Borrowed i u h m = []
lend_of Owned i u h m = when u (broken E51 i m) ++ when h (broken E54 i m)

abbrev pub lend_notes : Option Entry → ℕ → Bool → ℕ → Mark → List Breach
lend_notes None i u l m = []
lend_notes (Some e) i u l m = lend_of e.ownership i u (e.level == l) m

-- at the end of a bound expression that uses up `us`
abbrev pub exposed : ℕ → List Mark → List ℕ → List Breach
exposed i [] us = []
exposed i (m ∷ ms) us = when (has us m.id) (broken E54 i m) ++ exposed i ms us

abbrev pub missed : ℕ → Bool → Ownership → Mark → List ℕ → List Breach
missed i fip k m xs = when (fip && (is_owned k && not (has xs m.id))) (broken E52 i m)

abbrev pub notes : ℕ → Bool → Walked → Shape → List Breach
notes i fip s Skip = []
notes i fip s (Use m) = use_notes (look s.scope m.id) i (has s.used m.id) m
notes i fip s (Lend m) = lend_notes (look s.scope m.id) i (has s.used m.id) s.level m
notes i fip s (Fault r m) = broken r i m ∷ []
notes i fip s (Then a b) = notes i fip s a ++ notes i fip (run s a) b
notes i fip s (Either a b) = notes i fip s a ++ notes i fip s b
notes i fip s (Bound a) =
    notes i fip (deeper s) a ++ exposed i (waits s.scope (suc s.level) a) (uses a)
notes i fip s (Scope k m a) = notes i fip (enter s k m) a ++ missed i fip k m (s.always ++ always a)
