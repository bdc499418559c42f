-- It serves proofs: which bodies are typed, as a relation. A program is typed just where it breaks no rule on types
-- (`typed_exactly`), and the report requires that.
--
-- Every type is known from headers, annotations and constructors: the types expected come from a function's results,
-- from parameters, from fields and from operators, which expect int. A let whose binders all have annotations expects
-- these of its bound expression, and any other let expects nothing. A block hands what is expected of it to its last
-- expression, and a match to its clauses; where nothing is expected of a match, its first clause's types are expected
-- of the others. A constructor of a data type with parameters has a type only where one is expected.
--
-- In each relation `f` says whether the slots must be filled, and `b` whether the types are expected: if not,
-- they are only found. So with `f` false these are the rules, and with `f` true the same rules say that a tree is well
-- typed by the types in its slots.
use Rattle.std.specs.Prelude.{◌≡◌, ◌≤◌, ℕ, Bool, true, false, List, [], ◌∷◌, ◌++◌, map, length, Option, Some, None}
use Rattle.fip_base.specs.declared.plain.Param.{Param}
use Rattle.fip_language.specs.declared.limits.TheConstants.{MOST_RESULTS}
use Rattle.fip_trees.specs.declared.program.Binder.{Binder}
use Rattle.fip_trees.specs.declared.program.TupleResult.{TupleResult}
use Rattle.fip_trees.specs.Tree.{Argument, Variable, Literal, Constructor, Arguments, NoArguments, MoreArguments, count}
use Rattle.fip_trees.specs.Tree.{Pattern, BinderPattern, LiteralPattern, ConstructorPattern, Patterns, NoPatterns}
use Rattle.fip_trees.specs.Tree.{MorePatterns, Expression, Give, Tuple, Operation, Call, Match, Nested}
use Rattle.fip_trees.specs.Tree.{Block, Last, Let}
use Rattle.fip_trees.specs.Tree.{Clauses, NoClauses, MoreClauses, Instance, Program}
use Rattle.type_check.specs.Binders.{all_annotated, entries}
use Rattle.type_check.specs.Scope.{Scope, of_binder}
use Rattle.type_check.specs.World.{World, world, is_of, plain_type, fields_of, head, result_of}
pub use Rattle.type_check.specs.BoundVariables.{bound_by, bound_by_all, parameter_entries, parameter_scope}

-- a slot that must be filled holds the type
abbrev pub Slot : Bool → ℕ → ℕ → Type 0
Slot false u t = Unit {0}
Slot true u t = u ≡ t

-- A constructor of a data type has the type: it is one of that data type's; and where no type is expected, that data
-- type has no parameters.
abbrev pub Makes : World → Bool → ℕ → ℕ → Type 0
Makes w true d t = is_of w t d ≡ true
Makes w false d t = plain_type w d ≡ Some t

abbrev mutual
  pub HasType : Bool → World → Scope → Bool → Argument → ℕ → Type 0
  HasType f w s b (Variable x n p) t = of_binder s x ≡ Some (Some t)
  HasType f w s b (Literal i p) t = t ≡ 0
  HasType f w s b (Constructor u d c n p as') t =
      Slot f u t × Makes w b d t × HaveTypes f w s true as' (fields_of w t c)

  pub HaveTypes : Bool → World → Scope → Bool → Arguments → List ℕ → Type 0
  HaveTypes f w s b NoArguments [] = Unit {0}
  HaveTypes f w s b NoArguments (t ∷ ts) = ⊥
  HaveTypes f w s b (MoreArguments a as') [] = ⊥
  HaveTypes f w s b (MoreArguments a as') (t ∷ ts) = HasType f w s b a t × HaveTypes f w s b as' ts

-- a pattern for values of a type
abbrev mutual
  pub IsPattern : Bool → World → ℕ → Pattern → Type 0
  IsPattern f w t (BinderPattern b) = Slot f b.ty t
  IsPattern f w t (LiteralPattern i p) = t ≡ 0
  IsPattern f w t (ConstructorPattern u d c n p ps) =
      Slot f u t × Makes w true d t × ArePatterns f w (fields_of w t c) ps

  pub ArePatterns : Bool → World → List ℕ → Patterns → Type 0
  ArePatterns f w [] NoPatterns = Unit {0}
  ArePatterns f w [] (MorePatterns p ps) = ⊥
  ArePatterns f w (t ∷ ts) NoPatterns = ⊥
  ArePatterns f w (t ∷ ts) (MorePatterns p ps) = IsPattern f w t p × ArePatterns f w ts ps

-- the type is that of the annotation, where there is one
abbrev pub Annotated : Option ℕ → ℕ → Type 0
Annotated None t = Unit {0}
Annotated (Some u) t = u ≡ t

-- a let's binders bind values of these types, as many as there are binders
abbrev pub Bind : Bool → List Binder → List ℕ → Type 0
Bind f [] [] = Unit {0}
Bind f [] (t ∷ ts) = ⊥
Bind f (b ∷ bs) [] = ⊥
Bind f (b ∷ bs) (t ∷ ts) = (Annotated b.annotation t × Slot f b.ty t) × Bind f bs ts

abbrev mutual
  pub Types : Bool → World → Scope → Bool → Expression → List ℕ → Type 0
  Types f w s b (Give a) ts = (t : ℕ) × (ts ≡ t ∷ []) × HasType f w s b a t
  Types f w s b (Tuple p as') ts = (count as' ≤ MOST_RESULTS) × HaveTypes f w s b as' ts
  Types f w s b (Operation o p l r) ts = (ts ≡ result_of o ∷ []) × HasType f w s true l 0 × HasType f w s true r 0
  Types f w s b (Call g n p as') ts = (ts ≡ (head w g).results) × HaveTypes f w s true as' (head w g).parameters
  Types f w s b (Match k u p a q body cs) ts =
      (t : ℕ) × Slot f u t × HasType f w s false a t × IsPattern f w t q ×
      TypesBlock f w (s ++ bound_by w (Some t) q) b body ts × TypesClauses f w s t cs ts
  Types f w s b (Nested d) ts = TypesBlock f w s b d ts

  pub TypesBlock : Bool → World → Scope → Bool → Block → List ℕ → Type 0
  TypesBlock f w s b (Last e) ts = Types f w s b e ts
  TypesBlock f w s b (Let bs e rest) ts =
      (us : List ℕ) × Types f w s (all_annotated bs) e us × Bind f bs us ×
      TypesBlock f w (s ++ entries bs (map Some us)) b rest ts

  -- the clauses after the first
  pub TypesClauses : Bool → World → Scope → ℕ → Clauses → List ℕ → Type 0
  TypesClauses f w s t NoClauses ts = Unit {0}
  TypesClauses f w s t (MoreClauses q body cs) ts =
      IsPattern f w t q × TypesBlock f w (s ++ bound_by w (Some t) q) true body ts × TypesClauses f w s t cs ts

abbrev pub Parameters : Bool → List Param → List Binder → Type 0
Parameters f [] bs = Unit {0}
Parameters f (p ∷ ps) [] = Unit {0}
Parameters f (p ∷ ps) (b ∷ bs) = Slot f b.ty p.ty × Parameters f ps bs

-- no tuple has too many results
abbrev pub AreShort : List TupleResult → Type 0
AreShort [] = Unit {0}
AreShort (t ∷ ts) = (t.count ≤ MOST_RESULTS) × AreShort ts

abbrev pub Typed : Bool → World → Instance → Type 0
Typed f w d =
    (length d.results ≤ MOST_RESULTS) × AreShort d.signature_tuples × Parameters f d.params d.binders ×
    TypesBlock f w (parameter_scope d) true d.body d.results

abbrev pub AllTyped : Bool → World → List Instance → Type 0
AllTyped f w [] = Unit {0}
AllTyped f w (d ∷ ds) = Typed f w d × AllTyped f w ds

-- each instance of the program is typed
abbrev pub IsTyped : Program → Type 0
IsTyped p = AllTyped false (world p) p.instances

-- and each slot holds its node's type
abbrev pub IsFilled : Program → Type 0
IsFilled p = AllTyped true (world p) p.instances
