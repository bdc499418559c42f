-- Claims that a data type has a value wherever some of its arguments have one. A claim is asked first, and marked once
-- it is known to be true, then of as few arguments as were found to suffice. Just those that were asked for are listed.
-- In `data either[a, b] { Left(a); Right(b) }` the claim of either with both arguments is marked with the first alone.
use Rattle.std.specs.Prelude.{◌≡◌, ◌⊎◌, ℕ, zero, suc, ◌+◌, ◌-◌, ◌*◌, ◌<◌, Bool, true, false, List, [], ◌∷◌, ◌++◌}
use Rattle.std.specs.Prelude.{length, Option, Some, None, slice_get, slice_set, if◌then◌else◌}
use Rattle.data_types.specs.Types.{Ty, Tys, Given, Parameter, Applied, NoTys, MoreTys, Trees, Declarations, arity}
use Rattle.data_types.specs.Types.{constructors, fill, fill_all, pick, HasValue, HaveTypes}

pub record Claim : Type 0 where
  pub type : ℕ
  -- at the place of an argument whether the claim takes it to have a value
  pub arguments : List Bool
  pub marked : Bool

pub record State : Type 0 where
  pub claims : List Claim
  -- the places of marked claims whose waiting constructors are to be looked at again
  pub todo : List ℕ

abbrev pub asked : ℕ → List Bool → Claim
asked t bs = record { type = t; arguments = bs; marked = false }

abbrev pub known : ℕ → List Bool → Claim
known t bs = record { type = t; arguments = bs; marked = true }

-- whether a parameter has a value; where there is no such argument it counts as having one
abbrev pub bit : List Bool → ℕ → Bool
bit [] k = true
bit (b ∷ bs) zero = b
bit (b ∷ bs) (suc k) = bit bs k

-- the arguments that the first takes to have a value are among those of the second
abbrev pub Below : List Bool → List Bool → Type 0
Below bs cs = (k : ℕ) → bit bs k ≡ true → bit cs k ≡ true

abbrev pub IsAskedAt : State → ℕ → ℕ → Type 0
IsAskedAt s i t = (bs : List Bool) × (slice_get s.claims i ≡ Some (asked t bs))

-- a claim of at least these arguments is asked
abbrev pub IsAsked : State → ℕ → List Bool → Type 0
IsAsked s t cs = (i : ℕ) × (bs : List Bool) × (slice_get s.claims i ≡ Some (asked t bs)) × Below cs bs

-- a type isn't known to have a value, where bs says it of the parameters
abbrev mutual
  pub Lacks : State → List Bool → Ty → Type 0
  Lacks s bs Given = ⊥
  Lacks s bs (Parameter k) = bit bs k ≡ false
  Lacks s bs (Applied t ts) = (cs : List Bool) × AllLack s bs ts cs × IsAsked s t cs

  -- so it is of each type at whose place the last list has false
  pub AllLack : State → List Bool → Tys → List Bool → Type 0
  AllLack s bs NoTys [] = Unit {0}
  AllLack s bs NoTys (c ∷ cs) = ⊥
  AllLack s bs (MoreTys t ts) [] = ⊥
  AllLack s bs (MoreTys t ts) (c ∷ cs) = (c ≡ false → Lacks s bs t) × AllLack s bs ts cs

-- a field isn't known to have a value
abbrev pub IsBlocked : State → List Bool → Tys → Type 0
IsBlocked s bs NoTys = ⊥
IsBlocked s bs (MoreTys t ts) = Lacks s bs t ⊎ IsBlocked s bs ts

-- a constructor of the type is blocked
abbrev pub BlockedAt : Declarations → State → ℕ → List Bool → ℕ → Type 0
BlockedAt ds s t bs c = (fs : Tys) → slice_get (constructors ds t) c ≡ Some fs → IsBlocked s bs fs

-- where the claim at a place is asked, this constructor is blocked
abbrev pub IsDone : Declarations → State → ℕ → ℕ → Type 0
IsDone ds s i c = (t : ℕ) (bs : List Bool) → slice_get s.claims i ≡ Some (asked t bs) → BlockedAt ds s t bs c

-- nothing more can be marked
abbrev pub AllDone : Declarations → State → Type 0
AllDone ds s = (i : ℕ) → i < length s.claims → (c : ℕ) → IsDone ds s i c

abbrev pub true_of : Option Bool → Bool
true_of None = false
true_of (Some b) = b

abbrev pub marked_of : Option Claim → Bool
marked_of None = false
marked_of (Some c) = c.marked

abbrev pub is_marked : State → ℕ → Bool
is_marked s i = marked_of (slice_get s.claims i)

abbrev pub with_claim : State → ℕ → List Bool → State
with_claim s t bs = record { claims = s.claims ++ asked t bs ∷ []; todo = s.todo }

abbrev pub with_mark : State → ℕ → ℕ → List Bool → State
with_mark s i t bs = record { claims = slice_set s.claims i (known t bs); todo = s.todo ++ i ∷ [] }

-- ---- what has a value

-- the arguments that are said to have a value have one
abbrev pub Agrees : Declarations → List Bool → Tys → Type 0
Agrees ds bs as' = (k : ℕ) → bit bs k ≡ true → HasValue ds (pick as' k)

-- a data type has a value wherever these of its arguments have one
abbrev pub Holds : Declarations → ℕ → List Bool → Type 0
Holds ds t bs = (as' : Tys) → Agrees ds bs as' → HasValue ds (Applied t as')

-- marked claims are true
abbrev pub IsSound : Declarations → State → Type 0
IsSound ds s = (i t : ℕ) (bs : List Bool) → slice_get s.claims i ≡ Some (known t bs) → Holds ds t bs

-- the arguments at these places have a value
abbrev pub AllHave : Declarations → List ℕ → Tys → Type 0
AllHave ds [] as' = Unit {0}
AllHave ds (k ∷ ks) as' = HasValue ds (pick as' k) × AllHave ds ks as'

-- a type has a value wherever the arguments at these places have one
abbrev pub Suffice : Declarations → List ℕ → Ty → Type 0
Suffice ds ks t = (as' : Tys) → AllHave ds ks as' → HasValue ds (fill as' t)

-- so have all of these types
abbrev pub AllSuffice : Declarations → List ℕ → Tys → Type 0
AllSuffice ds ks fs = (as' : Tys) → AllHave ds ks as' → (vs : Trees) × HaveTypes ds (fill_all as' fs) vs

-- the set has each of these places
abbrev pub HasAll : List Bool → List ℕ → Type 0
HasAll bs [] = Unit {0}
HasAll bs (k ∷ ks) = (bit bs k ≡ true) × HasAll bs ks

-- ---- the data types' own claims

abbrev pub trues : ℕ → List Bool
trues zero = []
trues (suc n) = true ∷ trues n

-- a claim of these arguments is asked at a place, or one of the type is marked there
abbrev pub IsAt : State → ℕ → ℕ → List Bool → Type 0
IsAt s i t bs =
    (slice_get s.claims i ≡ Some (asked t bs)) ⊎ ((cs : List Bool) × (slice_get s.claims i ≡ Some (known t cs)))

-- all arguments of a data type
abbrev pub root : Declarations → ℕ → List Bool
root ds t = trues (arity ds t)

-- ---- what is left to do

-- a list has fewer
abbrev pub most_claims : ℕ
most_claims = 9223372036854775808

abbrev pub unmarked : List Claim → ℕ
unmarked [] = 0
unmarked (c ∷ cs) = (if c.marked then 0 else 1) + unmarked cs

-- it falls with each new claim and with each new mark
abbrev pub room : State → ℕ
room s = 2 * (most_claims - length s.claims) + unmarked s.claims

abbrev pub left : State → ℕ
left s = room s + length s.todo
