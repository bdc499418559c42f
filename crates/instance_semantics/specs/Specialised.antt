-- What it is for a program without static parameters to be that of a source program. `numbered` has, for the number of
-- each instance, its function by name with what is given for its static parameters. An instance has its function's
-- parameters, binders by number, operators with their places, and clauses; where the function calls a name, it calls
-- the instance whose number that function with its static arguments has, and where the function names a constructor, it
-- has the constructor's number. Names, other places and types play no part.
-- For example where `up` calls `map[int, int, next]`, `map` calls `f` in its body, and `numbered` is up, next,
-- map[int, int, next]: instance 0 calls 2, and instance 2 calls 1 where `map` calls `f`.
use Rattle.std.specs.Prelude.{◌≡◌, ℕ, Bool, List, [], ◌∷◌, length, Option, Some, None, slice_get}
use Rattle.fip_trees.specs.fip_language.declared.Place.{Place}
use Rattle.fip_trees.specs.fip_language.Core as C
use Rattle.fip_trees.specs.fip_language.Core.{Name, Function, Core}
use Rattle.fip_trees.specs.fip_language.Declarations.{Declared, constructor_of, function_of}
use Rattle.fip_trees.specs.fip_language.Statics.{Closed, Closeds, ClosedInt, ClosedName, callee}
use Rattle.fip_trees.specs.fip_language.Statics as S
use Rattle.fip_trees.specs.declared.program.Binder.{Binder}
use Rattle.fip_trees.specs.Tree as T

-- the number of a constructor that is declared
abbrev pub IsNumber : Option Declared → ℕ → Type 0
IsNumber None c = ⊥
IsNumber (Some k) c = k.number ≡ c

abbrev mutual
  pub IsArgument : Core → C.Argument → T.Argument → Type 0
  IsArgument core (C.Variable x n p) a = (m : Name) × (q : Place) × (a ≡ T.Variable x m q)
  IsArgument core (C.Literal i p) a = (q : Place) × (a ≡ T.Literal i q)
  IsArgument core (C.Constructor n p as') a =
      (t : ℕ) × (d : ℕ) × (c : ℕ) × (m : Name) × (q : Place) × (bs : T.Arguments)
      × (a ≡ T.Constructor t d c m q bs) × IsNumber (constructor_of core n) c × AreArguments core as' bs

  pub AreArguments : Core → C.Arguments → T.Arguments → Type 0
  AreArguments core C.NoArguments bs = bs ≡ T.NoArguments
  AreArguments core (C.MoreArguments a as') bs =
      (b : T.Argument) × (cs : T.Arguments) × (bs ≡ T.MoreArguments b cs) × IsArgument core a b
      × AreArguments core as' cs

-- the same numbers, one for one
abbrev pub SameNumbers : List C.Binder → List Binder → Type 0
SameNumbers [] [] = Unit {0}
SameNumbers [] (c ∷ cs) = ⊥
SameNumbers (b ∷ bs) [] = ⊥
SameNumbers (b ∷ bs) (c ∷ cs) = (b.number ≡ c.number) × SameNumbers bs cs

abbrev pub SameParameters : List C.Parameter → List Binder → Type 0
SameParameters [] [] = Unit {0}
SameParameters [] (c ∷ cs) = ⊥
SameParameters (b ∷ bs) [] = ⊥
SameParameters (b ∷ bs) (c ∷ cs) = (b.binder.number ≡ c.number) × SameParameters bs cs

abbrev mutual
  pub IsPattern : Core → C.Pattern → T.Pattern → Type 0
  IsPattern core (C.BinderPattern b) q = (c : Binder) × (q ≡ T.BinderPattern c) × (b.number ≡ c.number)
  IsPattern core (C.LiteralPattern i p) q = (r : Place) × (q ≡ T.LiteralPattern i r)
  IsPattern core (C.ConstructorPattern n p ps) q =
      (t : ℕ) × (d : ℕ) × (c : ℕ) × (m : Name) × (r : Place) × (qs : T.Patterns)
      × (q ≡ T.ConstructorPattern t d c m r qs) × IsNumber (constructor_of core n) c × ArePatterns core ps qs

  pub ArePatterns : Core → C.Patterns → T.Patterns → Type 0
  ArePatterns core C.NoPatterns qs = qs ≡ T.NoPatterns
  ArePatterns core (C.MorePatterns p ps) qs =
      (q : T.Pattern) × (rs : T.Patterns) × (qs ≡ T.MorePatterns q rs) × IsPattern core p q × ArePatterns core ps rs

-- in an instance of the source: a function with what is given for its static parameters
abbrev mutual
  pub IsExpression : Core → List Closed → S.Instance → C.Expression → T.Expression → Type 0
  IsExpression core numbered here (C.Give a) e = (b : T.Argument) × (e ≡ T.Give b) × IsArgument core a b
  IsExpression core numbered here (C.Tuple p as') e =
      (q : Place) × (bs : T.Arguments) × (e ≡ T.Tuple q bs) × AreArguments core as' bs
  IsExpression core numbered here (C.Operation o p l r) e =
      (a : T.Argument) × (b : T.Argument) × (e ≡ T.Operation o p a b) × IsArgument core l a × IsArgument core r b
  IsExpression core numbered here (C.Call name p ws as') e =
      (g : ℕ) × (n : Name) × (q : Place) × (bs : T.Arguments) × (e ≡ T.Call g n q bs)
      × (slice_get numbered g ≡ Some (callee core here name ws)) × AreArguments core as' bs
  IsExpression core numbered here (C.Match ds p a cs) e =
      (k : Bool) × (t : ℕ) × (q : Place) × (b : T.Argument) × (r : T.Pattern) × (body : T.Block) × (rest : T.Clauses)
      × (e ≡ T.Match k t q b r body rest) × IsArgument core a b
      × AreClauses core numbered here cs (T.MoreClauses r body rest)
  IsExpression core numbered here (C.Nested b) e =
      (d : T.Block) × (e ≡ T.Nested d) × IsBlock core numbered here b d

  pub IsBlock : Core → List Closed → S.Instance → C.Block → T.Block → Type 0
  IsBlock core numbered here (C.Last e) d =
      (f : T.Expression) × (d ≡ T.Last f) × IsExpression core numbered here e f
  IsBlock core numbered here (C.Let bs e rest) d =
      (cs : List Binder) × (f : T.Expression) × (after : T.Block) × (d ≡ T.Let cs f after) × SameNumbers bs cs
      × IsExpression core numbered here e f × IsBlock core numbered here rest after

  pub AreClauses : Core → List Closed → S.Instance → C.Clauses → T.Clauses → Type 0
  AreClauses core numbered here C.NoClauses ds = ds ≡ T.NoClauses
  AreClauses core numbered here (C.MoreClauses p b cs) ds =
      (q : T.Pattern) × (body : T.Block) × (rest : T.Clauses) × (ds ≡ T.MoreClauses q body rest) × IsPattern core p q
      × IsBlock core numbered here b body × AreClauses core numbered here cs rest

pub record IsInstance (core : Core) (numbered : List Closed) (here : S.Instance) (d : T.Instance) : Type 0 where
  pub parameters : length d.params ≡ length here.function.parameters
  pub credits : length d.credits ≡ length here.function.credits
  pub binders : SameParameters here.function.parameters d.binders
  pub body : IsBlock core numbered here here.function.body d.body

-- the instance of a number is that of the function of this name
pub record Stands (core : Core) (numbered : List Closed) (p : T.Program) (i : ℕ) (name : Name) (given : Closeds) :
    Type 0 where
  pub function : Function
  pub instance : T.Instance
  pub declared : function_of core name ≡ Some function
  pub there : slice_get p.instances i ≡ Some instance
  pub is : IsInstance core numbered (record { function = function; given = given }) instance

pub record IsSpecialised (core : Core) (p : T.Program) (numbered : List Closed) : Type 0 where
  pub functions : (i : ℕ) (name : Name) (given : Closeds) → slice_get numbered i ≡ Some (ClosedName name given) →
      Stands core numbered p i name given
  pub no_int : (i : ℕ) → slice_get numbered i ≡ Some ClosedInt → ⊥
