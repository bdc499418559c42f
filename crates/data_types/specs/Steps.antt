-- What the steps of the search do to its state.
use Rattle.std.specs.Prelude.{◌≡◌, ℕ, suc, ◌+◌, ◌<◌, ◌≤◌, Bool, true, false, List, [], ◌∷◌, ◌++◌, length, Some}
use Rattle.std.specs.Prelude.{slice_get, map, if◌then◌else◌}
use Rattle.data_types.specs.Types.{Ty, Tys, NoTys, MoreTys, Declarations, IsValued}
use Rattle.data_types.specs.Marks.{Claim, State, Below, IsAsked, Lacks, IsBlocked, IsSound, Suffice, AllSuffice, asked}
use Rattle.data_types.specs.Marks.{known, bit, room, left, is_marked, root, IsAt}
use Rattle.data_types.specs.declared.found.Found.{Found}

-- claims were asked, and nothing else happened
pub record Extends (old new : State) : Type 0 where
  pub kept : (i : ℕ) (c : Claim) → slice_get old.claims i ≡ Some c → slice_get new.claims i ≡ Some c
  pub marks : (i t : ℕ) (bs : List Bool) → slice_get new.claims i ≡ Some (known t bs) →
      slice_get old.claims i ≡ Some (known t bs)
  pub todo : new.todo ≡ old.todo
  pub more : length old.claims ≤ length new.claims
  pub room : room new + length new.claims ≤ room old + length old.claims
  pub same : length new.claims ≡ length old.claims → new ≡ old

-- a claim of these arguments or more is asked
pub record IsAsking (old new : State) (t : ℕ) (bs : List Bool) : Type 0 where
  pub extends : Extends old new
  pub asked : IsAsked new t bs

-- the claim at a place is marked, and takes no other arguments to have a value
pub record IsMarkedBelow (s : State) (i t : ℕ) (cs : List Bool) : Type 0 where
  pub arguments : List Bool
  pub claim : slice_get s.claims i ≡ Some (known t arguments)
  pub below : Below arguments cs

-- the claim at a place is asked, and takes at least these arguments to have a value
pub record IsAskedAbove (s : State) (i t : ℕ) (cs : List Bool) : Type 0 where
  pub arguments : List Bool
  pub claim : slice_get s.claims i ≡ Some (asked t arguments)
  pub below : Below cs arguments

-- a type is known to have a value wherever the parameters at these places have one, or it isn't known
pub record IsLooked (old new : State) (bs : List Bool) (t : Ty) (f : Found) : Type 0 where
  pub extends : Extends old new
  pub suffice : f.has_value ≡ true → (ds : Declarations) → IsSound ds old → Suffice ds f.needs.items t
  pub lacks : f.has_value ≡ false → Lacks new bs t

-- so it is of each of these types
abbrev pub AreFound : State → State → List Bool → Tys → List Found → Type 0
AreFound old new bs NoTys [] = Unit {0}
AreFound old new bs NoTys (f ∷ fs) = ⊥
AreFound old new bs (MoreTys t ts) [] = ⊥
AreFound old new bs (MoreTys t ts) (f ∷ fs) =
    (f.has_value ≡ true → (ds : Declarations) → IsSound ds old → Suffice ds f.needs.items t) ×
    (f.has_value ≡ false → Lacks new bs t) × AreFound old new bs ts fs

pub record AreLooked (old new : State) (bs : List Bool) (ts : Tys) (fs : List Found) : Type 0 where
  pub extends : Extends old new
  pub found : AreFound old new bs ts fs

-- all fields are known to have a value wherever the parameters at these places have one, or one is blocked
pub record AreTried (old new : State) (bs : List Bool) (ts : Tys) (f : Found) : Type 0 where
  pub extends : Extends old new
  pub suffice : f.has_value ≡ true → (ds : Declarations) → IsSound ds old → AllSuffice ds f.needs.items ts
  pub blocked : f.has_value ≡ false → IsBlocked new bs ts

-- a parameter has a value where bs says so, and needs itself alone
pub record IsParameter (bs : List Bool) (k : ℕ) (f : Found) : Type 0 where
  pub has_value : f.has_value ≡ bit bs k
  pub needs : f.has_value ≡ true → f.needs.items ≡ k ∷ []

abbrev pub has_values : List Found → List Bool
has_values = map (λ (f : Found). f.has_value)

-- what the arguments from place j on need, of those that a set has
abbrev pub gathered : ℕ → List Bool → List Found → List ℕ
gathered j bs [] = []
gathered j bs (f ∷ fs) = (if bit bs j then f.needs.items else []) ++ gathered (suc j) bs fs

-- a data type at arguments of which this was found: a marked claim needs no others, or one of all is asked
pub record IsApplied (old new : State) (t : ℕ) (fs : List Found) (f : Found) : Type 0 where
  pub extends : Extends old new
  pub marked : f.has_value ≡ true → (i : ℕ) × (bs : List Bool) × (slice_get old.claims i ≡ Some (known t bs)) ×
      Below bs (has_values fs) × (f.needs.items ≡ gathered 0 bs fs)
  pub asked : f.has_value ≡ false → IsAsked new t (has_values fs)

-- claims were asked or marked
pub record Goes (ds : Declarations) (old new : State) : Type 0 where
  pub sound : IsSound ds old → IsSound ds new
  pub kept : (i t : ℕ) (bs : List Bool) → IsAt old i t bs → IsAt new i t bs
  pub room : room new ≤ room old
  pub left : left new ≤ left old

-- the same, where what was marked is true if this is
pub record GoesIf (ds : Declarations) (given : Type 0) (old new : State) : Type 0 where
  pub sound : given → IsSound ds old → IsSound ds new
  pub kept : (i t : ℕ) (bs : List Bool) → IsAt old i t bs → IsAt new i t bs
  pub room : room new ≤ room old
  pub left : left new ≤ left old

-- and whether something changed
pub record IsStep (ds : Declarations) (old new : State) (changed : Bool) : Type 0 where
  pub goes : Goes ds old new
  pub quiet : changed ≡ false → new ≡ old
  pub busy : changed ≡ true → room new < room old

-- just the first n data types' own claims are asked
pub record HasRoots (ds : Declarations) (s : State) (n : ℕ) : Type 0 where
  pub count : length s.claims ≡ n
  pub asked : (t : ℕ) → t < n → slice_get s.claims t ≡ Some (asked t (root ds t))
  pub only : (i t : ℕ) (bs : List Bool) → slice_get s.claims i ≡ Some (known t bs) → ⊥

-- the marks at the first places
abbrev pub Reports : State → List Bool → Type 0
Reports s xs = (t : ℕ) (b : Bool) → slice_get xs t ≡ Some b → is_marked s t ≡ b

-- ---- the answer

-- Each is true just where the data type of that number has a value.
pub record ReportsValued (ds : Declarations) (xs : List Bool) : Type 0 where
  pub all : length xs ≡ length ds
  pub valued : (t : ℕ) → slice_get xs t ≡ Some true → IsValued ds t
  pub unvalued : (t : ℕ) → slice_get xs t ≡ Some false → IsValued ds t → ⊥
