-- The rules without environments, for the proofs: counts of owning occurrences, needs of credits, and what each
-- variable has gone through.
use Rattle.std.specs.Prelude.{◌≡◌, ℕ, zero, suc, ◌≤◌, List, [], Bool, true, false, ◌+◌, ◌-◌, max, min, if◌then◌else◌}
use Rattle.ownership_calculus.specs.Terms.{Value, Values, Named, Scalar, Built, NoValues, MoreValues, size}
use Rattle.ownership_calculus.specs.Terms.{Passed, Header, PassLent, PassOwned}
use Rattle.ownership_calculus.specs.Terms.{Term, Results, Call, Let, Match, Take, Clauses, LastClause, MoreClauses}
use Rattle.ownership_calculus.specs.Terms.{Item, Own, Credit, has, only, paid, given, charge}

-- what the arguments use up
abbrev mutual
  pub used_up : Value → Item → ℕ
  used_up (Named x) i = only x i
  used_up Scalar i = 0
  used_up (Built as') i = paid (size as') i + all_used_up as' i

  pub all_used_up : Values → Item → ℕ
  all_used_up NoValues i = 0
  all_used_up (MoreValues a as') i = used_up a i + all_used_up as' i

-- what is in a borrowed position is borrowed; a constructor there is an error
abbrev pub lent_used_up : Value → Item → ℕ
lent_used_up (Named x) i = 0
lent_used_up Scalar i = 0
lent_used_up (Built as') i = paid (size as') i + all_used_up as' i

abbrev pub passed_used_up : Passed → Item → ℕ
passed_used_up (Header ks) i = charge ks i
passed_used_up (PassLent a gs) i = lent_used_up a i + passed_used_up gs i
passed_used_up (PassOwned a gs) i = used_up a i + passed_used_up gs i

-- what is required from outside of these binders and credits
abbrev pub outside : List ℕ → List ℕ → Item → ℕ → ℕ
outside ys ks (Own y) n = if has ys y then 0 else n
outside ys ks (Credit k) n = n - given k ks

-- for a variable the most owning occurrences on a path, for a size the need
abbrev mutual
  pub asks : Item → Term → ℕ
  asks i (Results as') = all_used_up as' i
  asks i (Call strong gs) = passed_used_up gs i
  asks i (Let xs a b) = asks i a + outside xs [] i (asks i b)
  asks i (Match a cs) = lent_used_up a i + asks_lent i cs
  asks i (Take a cs) = used_up a i + asks_taken i cs

  pub asks_lent : Item → Clauses → ℕ
  asks_lent i (LastClause ys ks e) = outside ys [] i (asks i e)
  asks_lent i (MoreClauses ys ks e cs) = max (outside ys [] i (asks i e)) (asks_lent i cs)

  pub asks_taken : Item → Clauses → ℕ
  asks_taken i (LastClause ys ks e) = outside ys ks i (asks i e)
  asks_taken i (MoreClauses ys ks e cs) = max (outside ys ks i (asks i e)) (asks_taken i cs)

-- the fewest owning occurrences of a variable on a path
abbrev mutual
  pub fewest : ℕ → Term → ℕ
  fewest x (Results as') = all_used_up as' (Own x)
  fewest x (Call strong gs) = passed_used_up gs (Own x)
  fewest x (Let xs a b) = fewest x a + outside xs [] (Own x) (fewest x b)
  fewest x (Match a cs) = lent_used_up a (Own x) + fewest_of x cs
  fewest x (Take a cs) = used_up a (Own x) + fewest_of x cs

  pub fewest_of : ℕ → Clauses → ℕ
  fewest_of x (LastClause ys ks e) = outside ys [] (Own x) (fewest x e)
  fewest_of x (MoreClauses ys ks e cs) = min (outside ys [] (Own x) (fewest x e)) (fewest_of x cs)

-- Free: borrowed. Owned: whether an owning occurrence came before, and whether a let around borrows it.
pub data Status : Type 0 where
  Free : Status
  Owned : (used lent : Bool) → Status

abbrev pub fresh : Bool → Status
fresh true = Owned false false
fresh false = Free

abbrev pub after : Status → ℕ → Status
after s zero = s
after Free (suc m) = Free
after (Owned u l) (suc m) = Owned true l

abbrev pub lent : Status → ℕ → Status
lent s (suc m) = s
lent Free zero = Free
lent (Owned u l) zero = Owned u true

abbrev pub binding : List ℕ → Bool → (ℕ → Status) → ℕ → Status
binding ys own s x = if has ys x then fresh own else s x

-- it isn't borrowed, and no owning occurrence came before
abbrev pub MayUse : Status → Type 0
MayUse Free = ⊥
MayUse (Owned false l) = Unit {0}
MayUse (Owned true l) = ⊥

-- no owning occurrence came before; an owned one is borrowed by a let around
abbrev pub MayLend : Status → Type 0
MayLend Free = Unit {0}
MayLend (Owned false true) = Unit {0}
MayLend (Owned false false) = ⊥
MayLend (Owned true l) = ⊥

abbrev pub LendsWell : (ℕ → Status) → Value → Type 0
LendsWell s (Named x) = MayLend (s x)
LendsWell s Scalar = Unit {0}
LendsWell s (Built as') = ⊥

abbrev mutual
  pub CleanValue : (ℕ → Status) → Value → Type 0
  CleanValue s (Named x) = MayUse (s x)
  CleanValue s Scalar = Unit {0}
  CleanValue s (Built as') = CleanValues s as'

  pub CleanValues : (ℕ → Status) → Values → Type 0
  CleanValues s NoValues = Unit {0}
  CleanValues s (MoreValues a as') = CleanValue s a × CleanValues (λ x. after (s x) (used_up a (Own x))) as'

abbrev pub CleanPassed : (ℕ → Status) → Passed → Type 0
CleanPassed s (Header ks) = Unit {0}
CleanPassed s (PassLent a gs) = LendsWell s a × CleanPassed s gs
CleanPassed s (PassOwned a gs) = CleanValue s a × CleanPassed (λ x. after (s x) (used_up a (Own x))) gs

-- in fip each owned binder is used on each path
abbrev pub AllUsed : Bool → List ℕ → Term → Type 0
AllUsed true xs e = (x : ℕ) → has xs x ≡ true → 1 ≤ fewest x e
AllUsed false xs e = Unit {0}

abbrev mutual
  pub Clean : Bool → (ℕ → Status) → Term → Type 0
  Clean fip s (Results as') = CleanValues s as'
  Clean fip s (Call strong gs) = (strong ≡ true) × CleanPassed s gs
  Clean fip s (Let xs a b) =
      Clean fip (λ x. lent (s x) (asks (Own x) a)) a × AllUsed fip xs b
      × Clean fip (binding xs true (λ x. after (s x) (asks (Own x) a))) b
  Clean fip s (Match a cs) = LendsWell s a × CleanLent fip s cs
  Clean fip s (Take a cs) = CleanValue s a × CleanTaken fip (λ y. after (s y) (used_up a (Own y))) cs

  pub CleanLent : Bool → (ℕ → Status) → Clauses → Type 0
  CleanLent fip s (LastClause ys ks e) = Clean fip (binding ys false s) e
  CleanLent fip s (MoreClauses ys ks e cs) = Clean fip (binding ys false s) e × CleanLent fip s cs

  pub CleanTaken : Bool → (ℕ → Status) → Clauses → Type 0
  CleanTaken fip s (LastClause ys ks e) = AllUsed fip ys e × Clean fip (binding ys true s) e
  CleanTaken fip s (MoreClauses ys ks e cs) = AllUsed fip ys e × Clean fip (binding ys true s) e × CleanTaken fip s cs

-- In fip each clause needs no less than its pattern gives, and beyond that just m.
abbrev pub Alike : List ℕ → Term → (ℕ → ℕ) → Type 0
Alike ks e m = (k : ℕ) → (given k ks ≤ asks (Credit k) e) × (asks (Credit k) e - given k ks ≡ m k)

abbrev mutual
  pub Even : Term → Type 0
  Even (Results as') = Unit {0}
  Even (Call strong gs) = Unit {0}
  Even (Let xs a b) = Even a × Even b
  Even (Match a cs) = EvenLent (λ k. asks_lent (Credit k) cs) cs
  Even (Take a cs) = EvenTaken (λ k. asks_taken (Credit k) cs) cs

  pub EvenLent : (ℕ → ℕ) → Clauses → Type 0
  EvenLent m (LastClause ys ks e) = Alike [] e m × Even e
  EvenLent m (MoreClauses ys ks e cs) = Alike [] e m × Even e × EvenLent m cs

  pub EvenTaken : (ℕ → ℕ) → Clauses → Type 0
  EvenTaken m (LastClause ys ks e) = Alike ks e m × Even e
  EvenTaken m (MoreClauses ys ks e cs) = Alike ks e m × Even e × EvenTaken m cs
