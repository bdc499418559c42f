-- The calculus, rule by rule. A term is judged under what is borrowed, B, which reports of each variable whether it is,
-- and what is owned, O, which counts variables and credits. O splits in two parts where of each variable and of each
-- size the parts have together what O has.
--
-- `fip` reports whether the function is fip or fbip. The rules are the same but for one: in fbip any variables and
-- credits may be left over (WEAKEN).
use Rattle.std.specs.Prelude.{◌≡◌, ◌≤◌, ℕ, List, [], Bool, true, false, ◌+◌, ◌||◌, nat_lt, if◌then◌else◌}
use Rattle.ownership_calculus.specs.Terms.{Value, Values, Named, Scalar, Built, NoValues, MoreValues, size}
use Rattle.ownership_calculus.specs.Terms.{Passed, Header, PassLent, PassOwned}
use Rattle.ownership_calculus.specs.Terms.{Term, Results, Call, Let, Match, Take, Clauses, LastClause, MoreClauses}
use Rattle.ownership_calculus.specs.Terms.{Item, Own, Credit, has, only, paid, given, charge}

-- of what is there, a, just b is used; in fbip no more than a
abbrev pub Fits : Bool → ℕ → ℕ → Type 0
Fits true a b = a ≡ b
Fits false a b = b ≤ a

-- how often an owned, or a borrowed, binder is in the owned environment
abbrev pub worth : Bool → ℕ
worth true = 1
worth false = 0

-- Q is R with the binders ys, owned or borrowed, and the credits ks. A binder hides an outer variable with its number:
-- in fip there must be none that is owned.
pub record Extends (fip own : Bool) (ys ks : List ℕ) (R Q : Item → ℕ) : Type 0 where
  pub bound : (y : ℕ) → has ys y ≡ true → Q (Own y) ≡ worth own
  pub hidden : (y : ℕ) → has ys y ≡ true → Fits fip (R (Own y)) 0
  pub others : (y : ℕ) → has ys y ≡ false → Q (Own y) ≡ R (Own y)
  pub credits : (k : ℕ) → Q (Credit k) ≡ R (Credit k) + given k ks

-- what is borrowed, and the variables of R, which are borrowed
abbrev pub lending : (ℕ → Bool) → (Item → ℕ) → ℕ → Bool
lending B R x = B x || nat_lt 0 (R (Own x))

-- within binders that are borrowed (b is true) or owned
abbrev pub setting : List ℕ → Bool → (ℕ → Bool) → ℕ → Bool
setting ys b B x = if has ys x then b else B x

-- what may occur in a borrowed position: a borrowed variable or a scalar
abbrev pub Lends : (ℕ → Bool) → Value → Type 0
Lends B (Named x) = B x ≡ true
Lends B Scalar = Unit {0}
Lends B (Built as') = ⊥

-- ---- arguments

mutual
  pub data ValueDerivation (fip : Bool) : (Item → ℕ) → Value → Type 0 where
    VAR : {O : Item → ℕ} {x : ℕ} → ((i : Item) → O i ≡ only x i) → ValueDerivation fip O (Named x)
    SCALAR : {O : Item → ℕ} → ((i : Item) → O i ≡ 0) → ValueDerivation fip O Scalar
    -- a constructor uses up a credit of its size; one without fields uses up none
    REUSE :
        {O P : Item → ℕ} {as' : Values} →
        ((i : Item) → O i ≡ paid (size as') i + P i) →
        ValuesDerivation fip P as' →
        ValueDerivation fip O (Built as')
    WEAKEN_VALUE :
        {O P : Item → ℕ} {a : Value} →
        ((i : Item) → Fits fip (O i) (P i)) →
        ValueDerivation fip P a →
        ValueDerivation fip O a

  pub data ValuesDerivation (fip : Bool) : (Item → ℕ) → Values → Type 0 where
    NONE : {O : Item → ℕ} → ((i : Item) → O i ≡ 0) → ValuesDerivation fip O NoValues
    MORE :
        {O P Q : Item → ℕ} {a : Value} {as' : Values} →
        ((i : Item) → O i ≡ P i + Q i) →
        ValueDerivation fip P a →
        ValuesDerivation fip Q as' →
        ValuesDerivation fip O (MoreValues a as')

-- the arguments of a call, and the credits of the callee's header
pub data PassedDerivation (fip : Bool) : (ℕ → Bool) → (Item → ℕ) → Passed → Type 0 where
  HEADER :
      {B : ℕ → Bool} {O : Item → ℕ} {ks : List ℕ} →
      ((i : Item) → O i ≡ charge ks i) →
      PassedDerivation fip B O (Header ks)
  LENT :
      {B : ℕ → Bool} {O : Item → ℕ} {a : Value} {gs : Passed} →
      Lends B a →
      PassedDerivation fip B O gs →
      PassedDerivation fip B O (PassLent a gs)
  GIVEN :
      {B : ℕ → Bool} {O P Q : Item → ℕ} {a : Value} {gs : Passed} →
      ((i : Item) → O i ≡ P i + Q i) →
      ValueDerivation fip P a →
      PassedDerivation fip B Q gs →
      PassedDerivation fip B O (PassOwned a gs)

-- ---- terms

mutual
  pub data Derivation (fip : Bool) : (ℕ → Bool) → (Item → ℕ) → Term → Type 0 where
    TUPLE : {B : ℕ → Bool} {O : Item → ℕ} {as' : Values} → ValuesDerivation fip O as' → Derivation fip B O (Results as')
    CALL :
        {B : ℕ → Bool} {O : Item → ℕ} {strong : Bool} {gs : Passed} →
        strong ≡ true →
        PassedDerivation fip B O gs →
        Derivation fip B O (Call strong gs)
    -- what the body gets is borrowed by the bound expression
    LET :
        {B : ℕ → Bool} {O O1 O2 Q : Item → ℕ} {xs : List ℕ} {a b : Term} →
        ((i : Item) → O i ≡ O1 i + O2 i) →
        Extends fip true xs [] O2 Q →
        Derivation fip (lending B O2) O1 a →
        Derivation fip (setting xs false B) Q b →
        Derivation fip B O (Let xs a b)
    MATCH :
        {B : ℕ → Bool} {O : Item → ℕ} {a : Value} {cs : Clauses} →
        Lends B a →
        LentDerivation fip B O cs →
        Derivation fip B O (Match a cs)
    TAKE :
        {B : ℕ → Bool} {O P Q : Item → ℕ} {a : Value} {cs : Clauses} →
        ((i : Item) → O i ≡ P i + Q i) →
        ValueDerivation fip P a →
        TakenDerivation fip B Q cs →
        Derivation fip B O (Take a cs)
    -- in fip this says no more than that O and P are the same
    WEAKEN :
        {B : ℕ → Bool} {O P : Item → ℕ} {e : Term} →
        ((i : Item) → Fits fip (O i) (P i)) →
        Derivation fip B P e →
        Derivation fip B O e

  -- the clauses of a match that borrows: variables are borrowed, and patterns give no credit
  pub data LentDerivation (fip : Bool) : (ℕ → Bool) → (Item → ℕ) → Clauses → Type 0 where
    LENT_LAST :
        {B : ℕ → Bool} {O Q : Item → ℕ} {ys ks : List ℕ} {e : Term} →
        Extends fip false ys [] O Q →
        Derivation fip (setting ys true B) Q e →
        LentDerivation fip B O (LastClause ys ks e)
    LENT_MORE :
        {B : ℕ → Bool} {O Q : Item → ℕ} {ys ks : List ℕ} {e : Term} {cs : Clauses} →
        Extends fip false ys [] O Q →
        Derivation fip (setting ys true B) Q e →
        LentDerivation fip B O cs →
        LentDerivation fip B O (MoreClauses ys ks e cs)

  -- those of a match that uses its scrutinee up: variables are owned, and patterns give a credit for each node
  pub data TakenDerivation (fip : Bool) : (ℕ → Bool) → (Item → ℕ) → Clauses → Type 0 where
    TAKEN_LAST :
        {B : ℕ → Bool} {O Q : Item → ℕ} {ys ks : List ℕ} {e : Term} →
        Extends fip true ys ks O Q →
        Derivation fip (setting ys false B) Q e →
        TakenDerivation fip B O (LastClause ys ks e)
    TAKEN_MORE :
        {B : ℕ → Bool} {O Q : Item → ℕ} {ys ks : List ℕ} {e : Term} {cs : Clauses} →
        Extends fip true ys ks O Q →
        Derivation fip (setting ys false B) Q e →
        TakenDerivation fip B O cs →
        TakenDerivation fip B O (MoreClauses ys ks e cs)
