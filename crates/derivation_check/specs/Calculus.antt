-- The calculus of ownership, rule by rule: which trees are derivations of which expressions.
--
-- A tree is judged in a scope, where binders are numbered from c on in the program and from d on in the derivation.
-- What
-- a node has splits where each variable and each credit goes to just one part: `Splits`. Each rule may occur below
-- nodes that weaken: `Under`.
use Rattle.std.specs.Prelude.{◌≡◌, ◌<◌, ◌≤◌, ◌+◌, ◌||◌, not, ℕ, zero, suc, Bool, true, false, List, [], ◌∷◌, length}
use Rattle.std.specs.Prelude.{Option, Some, None, slice_get, if◌then◌else◌}
use Rattle.fip_base.specs.declared.plain.Param.{Param}
use Rattle.fip_trees.specs.declared.program.Binder.{Binder}
use Rattle.fip_trees.specs.Tree.{Argument, Variable, Literal, Constructor, Arguments, NoArguments, MoreArguments, count}
use Rattle.fip_trees.specs.Tree.{Pattern, Instance, Expression, Give, Tuple, Operation, Call, Match, Nested}
use Rattle.fip_trees.specs.Tree.{Block, Last, Let, Clauses, NoClauses, MoreClauses}
use Rattle.fip_rules.specs.World.{World, is_fip, is_weaker}
use Rattle.fip_rules.specs.Shapes.{binders, takes}
use Rattle.ownership_calculus.specs.Items.{Item, Own, Credit, given, paid, charge, only}
use Rattle.derivation_trees.specs.declared.derivation.RuleName.TheVariants as R
use Rattle.derivation_trees.specs.declared.derivation.Credit as D
use Rattle.derivation_trees.specs.Derivations.{Tree, Missing, Branch, Trees, NoTrees, MoreTrees}
use Rattle.derivation_check.specs.Owned.{owned, root, roots, IsOwned, AreOwned, Under, Leaf, Splits}
use Rattle.derivation_check.specs.Patterns.{nodes}
use Rattle.derivation_check.specs.Scopes.{Known, Scope, meant, binding, lending, AreNumbered, within, within_block}

abbrev pub Choice : Bool → Type 0 → Type 0 → Type 0
Choice true A B = A
Choice false A B = B

-- ---- arguments

-- VAR: an owned variable is used up alone. SCALAR: a scalar one uses nothing up.
abbrev pub UsesVariable : World → ℕ → Option Known → Tree → Type 0
UsesVariable w d None t = ⊥
UsesVariable w d (Some v) t =
    Choice (w.scalar v.ty) (Leaf (is_fip w.kind) d R.Scalar t)
    (Under (is_fip w.kind) d t (Branch R.Variable (v.number ∷ []) [] NoTrees))

-- ATOM: a constructor without fields uses nothing up. REUSE: one with k fields uses up a credit of size k.
abbrev pub Builds : World → ℕ → ℕ → (Trees → Type 0) → Tree → Type 0
Builds w d zero P t = Leaf (is_fip w.kind) d R.Atom t
Builds w d (suc k) P t = Splits (is_fip w.kind) d R.Reuse (paid (suc k)) P t

abbrev mutual
  -- an argument in an owned position
  pub DerivesValue : World → List Known → ℕ → Tree → Argument → Type 0
  DerivesValue w vs d t (Variable x n p) = UsesVariable w d (meant vs x) t
  DerivesValue w vs d t (Literal i p) = Leaf (is_fip w.kind) d R.Scalar t
  DerivesValue w vs d t (Constructor u g c n p as') = Builds w d (count as') (λ ts. DerivesValues w vs d ts as') t

  pub DerivesValues : World → List Known → ℕ → Trees → Arguments → Type 0
  DerivesValues w vs d NoTrees NoArguments = Unit {0}
  DerivesValues w vs d (MoreTrees t ts) NoArguments = ⊥
  DerivesValues w vs d NoTrees (MoreArguments a as') = ⊥
  DerivesValues w vs d (MoreTrees t ts) (MoreArguments a as') = DerivesValue w vs d t a × DerivesValues w vs d ts as'

abbrev pub IsScalar : World → Option Known → Type 0
IsScalar w None = ⊥
IsScalar w (Some v) = w.scalar v.ty ≡ true

-- an operand: a literal or a scalar variable
abbrev pub Operand : World → List Known → Argument → Type 0
Operand w vs (Variable x n p) = IsScalar w (meant vs x)
Operand w vs (Literal i p) = Unit {0}
Operand w vs (Constructor u g c n p as') = ⊥

-- an argument of a scalar type: these, or a constructor without fields
abbrev pub Plain : World → List Known → Argument → Type 0
Plain w vs (Variable x n p) = IsScalar w (meant vs x)
Plain w vs (Literal i p) = Unit {0}
Plain w vs (Constructor u g c n p as') = count as' ≡ 0

-- a variable that is scalar or borrowed, or that a let around borrows
abbrev pub MayLend : World → (ℕ → Bool) → Option Known → Type 0
MayLend w lent None = ⊥
MayLend w lent (Some v) = w.scalar v.ty || (not v.owned || lent v.number) ≡ true

abbrev pub Lends : World → Scope → Argument → Type 0
Lends w s (Variable x n p) = MayLend w s.lent (meant s.variables x)
Lends w s (Literal i p) = ⊥
Lends w s (Constructor u g c n p as') = ⊥

abbrev pub FirstOf : Trees → (Tree → Trees → Type 0) → Type 0
FirstOf NoTrees P = ⊥
FirstOf (MoreTrees t ts) P = P t ts

-- The arguments of a call. Those in owned positions have parts, but for scalar ones.
abbrev pub DerivesPassed : World → Scope → ℕ → List Param → Arguments → Trees → Type 0
DerivesPassed w s d [] NoArguments NoTrees = Unit {0}
DerivesPassed w s d [] NoArguments (MoreTrees t ts) = ⊥
DerivesPassed w s d (p ∷ ps) NoArguments ts = ⊥
DerivesPassed w s d [] (MoreArguments a as') ts = ⊥
DerivesPassed w s d (p ∷ ps) (MoreArguments a as') ts =
    Choice (w.scalar p.ty) (Plain w s.variables a × DerivesPassed w s d ps as' ts)
    (Choice p.lent (Lends w s a × DerivesPassed w s d ps as' ts)
    (FirstOf ts (λ t us. DerivesValue w s.variables d t a × DerivesPassed w s d ps as' us)))

-- ---- binders

-- those that aren't scalar, numbered from d on
abbrev pub numbers : World → ℕ → List Binder → List ℕ
numbers w d [] = []
numbers w d (b ∷ bs) = if w.scalar b.ty then numbers w (d + 1) bs else d ∷ numbers w (d + 1) bs

abbrev pub bound : World → ℕ → List Binder → Item → ℕ
bound w d bs (Own x) = given x (numbers w d bs)
bound w d bs (Credit k) = 0

-- what a clause's pattern gives where it is taken apart: its variables that aren't scalar, and its credits
abbrev pub gained : World → ℕ → Pattern → Item → ℕ
gained w d q (Own x) = given x (numbers w d (binders q))
gained w d q (Credit k) = nodes k q

-- ---- expressions

abbrev pub own_variables : Tree → List ℕ
own_variables Missing = []
own_variables (Branch r xs cs ts) = xs

-- CALL: the callee's kind is no weaker, and the call uses up the credits of its header.
abbrev pub Calls : World → Scope → ℕ → Option Instance → Arguments → Tree → Type 0
Calls w s d None as' t = ⊥
Calls w s d (Some e) as' t =
    (is_weaker w.kind e.kind ≡ false)
    × Splits (is_fip w.kind) d R.Call (charge e.credits) (DerivesPassed w s d e.params as') t

-- A clause's part has what the match has; where this takes its scrutinee x apart, what the pattern gives in its place.
abbrev pub GoesOn : World → ℕ → Option ℕ → (Item → ℕ) → Pattern → Tree → Type 0
GoesOn w d None have q t = (i : Item) → root t i ≡ have i
GoesOn w d (Some x) have q t = (i : Item) → root t i + only x i ≡ have i + gained w d q i

abbrev pub is_taken : Option ℕ → Bool
is_taken None = false
is_taken (Some x) = true

-- A clause, whose body B derives.
abbrev pub IsClause : World → ℕ → ℕ → Option ℕ → (Item → ℕ) → Tree → Pattern → Type 0 → Type 0
IsClause w c d x have t q B =
    AreNumbered c d (binders q) × IsOwned (d + length (binders q)) t × GoesOn w d x have q t × B

-- MATCH borrows its scrutinee. MATCH! uses it up: it isn't scalar, and the node has it.
abbrev pub Scrutinised : World → ℕ → Option Known → (Option ℕ → (Item → ℕ) → Trees → Type 0) → Tree → Type 0
Scrutinised w d None P t = ⊥
Scrutinised w d (Some v) P t =
    (w.scalar v.ty ≡ false)
    × ((xs : List ℕ) × (cs : List D.Credit) × (ts : Trees)
    × Under (is_fip w.kind) d t (Branch R.TakingMatch xs cs ts) × (given v.number xs ≡ 1)
    × P (Some v.number) (owned xs cs) ts)

abbrev pub Matches : World → Scope → ℕ → Bool → Argument → (Option ℕ → (Item → ℕ) → Trees → Type 0) → Tree → Type 0
Matches w s d true (Variable x n p) P t = Scrutinised w d (meant s.variables x) P t
Matches w s d true (Literal i p) P t = ⊥
Matches w s d true (Constructor u g c n p as') P t = ⊥
Matches w s d false a P t =
    Lends w s a
    × ((xs : List ℕ) × (cs : List D.Credit) × (ts : Trees) × Under (is_fip w.kind) d t (Branch R.Match xs cs ts)
    × P None (owned xs cs) ts)

abbrev mutual
  pub Derives : World → Scope → ℕ → ℕ → Tree → Expression → Type 0
  Derives w s c d t (Give a) = DerivesValue w s.variables d t a
  Derives w s c d t (Tuple p as') =
      Splits (is_fip w.kind) d R.Tuple (λ i. 0) (λ ts. DerivesValues w s.variables d ts as') t
  Derives w s c d t (Operation o p l r) =
      Leaf (is_fip w.kind) d R.Scalar t × Operand w s.variables l × Operand w s.variables r
  Derives w s c d t (Call g n p as') = Calls w s d (slice_get w.instances g) as' t
  Derives w s c d t (Match k u p a q body cs) =
      Matches w s d (takes w k u) a
      (λ x have ts. FirstOf ts (λ t us. IsClause w c d x have t q
      (DerivesBlock w (binding d (is_taken x) (binders q) s) (c + length (binders q)) (d + length (binders q)) t body)
      × DerivesClauses w s (c + length (binders q) + within_block body) (d + length (binders q) + within_block body)
      x have us cs)) t
  Derives w s c d t (Nested b) = DerivesBlock w s c d t b

  -- LET: what it binds is derived by a part of what it has, with the rest borrowed. The rest and the binders are the
  -- body's.
  pub DerivesBlock : World → Scope → ℕ → ℕ → Tree → Block → Type 0
  DerivesBlock w s c d t (Last e) = Derives w s c d t e
  DerivesBlock w s c d t (Let bs e rest) =
      (xs : List ℕ) × (cs : List D.Credit) × (p : Tree) × (q : Tree)
      × Under (is_fip w.kind) d t (Branch R.Let xs cs (MoreTrees p (MoreTrees q NoTrees)))
      × (0 < length bs) × AreNumbered (c + within e) d bs
      × IsOwned d p × ((i : Item) → root p i ≤ owned xs cs i)
      × IsOwned (d + length bs) q × ((i : Item) → owned xs cs i + bound w d bs i ≡ root p i + root q i)
      × Derives w (lending xs (own_variables p) s) c (d + length bs) p e
      × DerivesBlock w (binding d true bs s) (c + within e + length bs) (d + within e + length bs) q rest

  pub DerivesClauses : World → Scope → ℕ → ℕ → Option ℕ → (Item → ℕ) → Trees → Clauses → Type 0
  DerivesClauses w s c d x have NoTrees NoClauses = Unit {0}
  DerivesClauses w s c d x have (MoreTrees t ts) NoClauses = ⊥
  DerivesClauses w s c d x have NoTrees (MoreClauses q body cs) = ⊥
  DerivesClauses w s c d x have (MoreTrees t ts) (MoreClauses q body cs) =
      IsClause w c d x have t q
      (DerivesBlock w (binding d (is_taken x) (binders q) s) (c + length (binders q)) (d + length (binders q)) t body)
      × DerivesClauses w s (c + length (binders q) + within_block body) (d + length (binders q) + within_block body)
      x have ts cs
