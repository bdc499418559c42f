-- Bodies as far as ownership goes. Variables are those that aren't scalar; whatever is scalar is one value, Scalar, and
-- binders of scalar variables are left out. So match! xs { Cons(x, t) -> rev(t, Cons(x, acc)); .. }, where x is an int,
-- is Take (Named xs) of a clause with the variable t, a credit of size 2 and the body Call true of t and of
-- Built (Scalar, acc).
use Rattle.std.specs.Prelude.{ℕ, suc, List, Bool}
pub use Rattle.ownership_calculus.specs.Items.{Item, Own, Credit, has, one, only, paid, given, charge}

-- an argument: a variable, a scalar, or a constructor with fields
mutual
  pub data Value : Type 0 where
    Named : (x : ℕ) → Value
    Scalar : Value
    Built : (fields : Values) → Value

  pub data Values : Type 0 where
    NoValues : Values
    MoreValues : (a : Value) (rest : Values) → Values

-- The arguments of a call from left to right, each in a borrowed or in an owned position; after them the sizes of
-- the credits that the callee's header states.
pub data Passed : Type 0 where
  Header : (credits : List ℕ) → Passed
  PassLent : (a : Value) (rest : Passed) → Passed
  PassOwned : (a : Value) (rest : Passed) → Passed

-- A call says whether the callee's kind is strong enough. Match borrows its scrutinee, Take uses it up. A clause has
-- its variables, the sizes of its pattern's constructor nodes, and its body.
mutual
  pub data Term : Type 0 where
    Results : (values : Values) → Term
    Call : (strong : Bool) (passed : Passed) → Term
    Let : (binders : List ℕ) (bound body : Term) → Term
    Match : (scrutinee : Value) (clauses : Clauses) → Term
    Take : (scrutinee : Value) (clauses : Clauses) → Term

  pub data Clauses : Type 0 where
    LastClause : (variables nodes : List ℕ) (body : Term) → Clauses
    MoreClauses : (variables nodes : List ℕ) (body : Term) (rest : Clauses) → Clauses

abbrev pub size : Values → ℕ
size NoValues = 0
size (MoreValues a as') = suc (size as')
