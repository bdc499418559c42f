-- The body of an instance as the calculus sees it.
--
-- A variable is known as in its shape: by how many binders are before its own in the text. An occurrence that means
-- no binder is a scalar: no rule speaks of it. Scalar variables and their binders are left out.
--
-- For example match! xs { Nil -> acc; Cons(x, t) -> rev(t, Cons(x, acc)) } in the body of rev(xs, acc), where x is an
-- int, is Take (Named 0) of two clauses: one with no variable, no node and the body Results (Named 1), and one with the
-- variable 3, a node of size 2 and the body Call true (Named 3, Built (Scalar, Named 1)).
use Rattle.std.specs.Prelude.{ℕ, zero, suc, Bool, true, not, List, [], ◌∷◌, ◌++◌, Option, Some, None, slice_get, ◌==◌}
use Rattle.std.specs.Prelude.{if◌then◌else◌}
use Rattle.credit_check.specs.fip_base.declared.plain.Param.{Param}
use Rattle.credit_check.specs.fip_trees.declared.program.Binder.{Binder}
use Rattle.credit_check.specs.fip_trees.Tree.{Argument, Variable, Literal, Constructor, Arguments, NoArguments, MoreArguments}
use Rattle.credit_check.specs.fip_trees.Tree.{Pattern, BinderPattern, LiteralPattern, ConstructorPattern}
use Rattle.credit_check.specs.fip_trees.Tree.{Patterns, NoPatterns, MorePatterns, count_patterns, Instance}
use Rattle.credit_check.specs.fip_trees.Tree.{Expression, Give, Tuple, Operation, Call, Match, Nested, Block, Last, Let}
use Rattle.credit_check.specs.fip_trees.Tree.{Clauses, NoClauses, MoreClauses}
use Rattle.fip_rules.specs.Marks.{Mark}
use Rattle.fip_rules.specs.World.{World, lends, weaker}
use Rattle.fip_rules.specs.Shapes.{Names, known, within, following, taking, binders, takes, parameters, no_names}
use Rattle.fip_rules.specs.Shapes.{clause_shape, shape, shape_block}
use Rattle.ownership_calculus.specs.Terms as C

-- which variables are scalar
abbrev pub Scalars : Type 0
Scalars = ℕ → Bool

-- ---- arguments

abbrev pub seen : List Mark → Option ℕ → Option ℕ
seen ms None = None
seen ms (Some x) = known ms x

abbrev pub variable : Scalars → Option ℕ → C.Value
variable sc None = C.Scalar
variable sc (Some i) = if sc i then C.Scalar else C.Named i

abbrev mutual
  -- an argument in an owned position
  pub value : Scalars → List Mark → Argument → C.Value
  value sc ms (Variable x n p) = variable sc (seen ms x)
  value sc ms (Literal i p) = C.Scalar
  value sc ms (Constructor t d c n p as') = C.Built (values sc ms as')

  pub values : Scalars → List Mark → Arguments → C.Values
  values sc ms NoArguments = C.NoValues
  values sc ms (MoreArguments a as') = C.MoreValues (value sc ms a) (values sc ms as')

-- one in a borrowed position
abbrev pub lent_value : World → Scalars → List Mark → Argument → C.Value
lent_value w sc ms (Variable x n p) = variable sc (seen ms x)
lent_value w sc ms (Literal i p) = C.Scalar
lent_value w sc ms (Constructor t d c n p as') = if w.scalar t then C.Scalar else C.Built (values sc ms as')

abbrev pub credits_of : Option Instance → List ℕ
credits_of None = []
credits_of (Some d) = d.credits

-- the credits that the header of a callee states
abbrev pub header : World → ℕ → List ℕ
header w g = credits_of (slice_get w.instances g)

-- the arguments of a call, from place j on
abbrev pub passed : World → Scalars → List Mark → ℕ → ℕ → Arguments → C.Passed
passed w sc ms g j NoArguments = C.Header (header w g)
passed w sc ms g j (MoreArguments a as') =
    if lends w g j
    then C.PassLent (lent_value w sc ms a) (passed w sc ms g (suc j) as')
    else C.PassOwned (value sc ms a) (passed w sc ms g (suc j) as')

-- ---- binders

-- those that aren't scalar; n binders are before them
abbrev pub variables : World → ℕ → List Binder → List ℕ
variables w n [] = []
variables w n (b ∷ bs) = if w.scalar b.ty then variables w (suc n) bs else n ∷ variables w (suc n) bs

-- within their scopes
abbrev pub entering : World → ℕ → Scalars → List Binder → Scalars
entering w n sc [] = sc
entering w n sc (b ∷ bs) = entering w (suc n) (λ y. if n == y then w.scalar b.ty else sc y) bs

-- a constructor with fields is a node
abbrev pub node : ℕ → List ℕ
node zero = []
node (suc n) = suc n ∷ []

abbrev mutual
  -- the sizes of the nodes of a pattern
  pub nodes : Pattern → List ℕ
  nodes (BinderPattern b) = []
  nodes (LiteralPattern i p) = []
  nodes (ConstructorPattern t d c n p ps) = node (count_patterns ps) ++ nodes_all ps

  pub nodes_all : Patterns → List ℕ
  nodes_all NoPatterns = []
  nodes_all (MorePatterns p ps) = nodes p ++ nodes_all ps

-- ---- expressions

-- the names in a clause with these binders
abbrev pub inside : World → Bool → Names → List Binder → Names
inside w taken c bs = within c (taking w taken bs)

-- the names after it
abbrev pub past_clause : World → Bool → Names → Pattern → Block → Names
past_clause w taken c q body =
    following c (clause_shape c (taking w taken (binders q)) (λ d. shape_block w d body))

abbrev pub matched : World → Scalars → List Mark → Bool → Argument → C.Clauses → C.Term
matched w sc ms taken a cs =
    if taken then C.Take (value sc ms a) cs else C.Match (lent_value w sc ms a) cs

abbrev mutual
  pub term : World → Scalars → Names → Expression → C.Term
  term w sc c (Give a) = C.Results (C.MoreValues (value sc c.marks a) C.NoValues)
  term w sc c (Tuple p as') = C.Results (values sc c.marks as')
  term w sc c (Operation o p l r) =
      C.Results (C.MoreValues (value sc c.marks l) (C.MoreValues (value sc c.marks r) C.NoValues))
  term w sc c (Call g n p as') = C.Call (not (weaker w g)) (passed w sc c.marks g 0 as')
  term w sc c (Match k t p a q body cs) =
      matched w sc c.marks (takes w k t) a
      (clauses w sc (takes w k t) (past_clause w (takes w k t) c q body) (variables w c.next (binders q)) (nodes q)
      (term_block w (entering w c.next sc (binders q)) (inside w (takes w k t) c (binders q)) body) cs)
  term w sc c (Nested b) = term_block w sc c b

  pub term_block : World → Scalars → Names → Block → C.Term
  term_block w sc c (Last e) = term w sc c e
  term_block w sc c (Let bs e rest) =
      C.Let (variables w (following c (shape w c e)).next bs) (term w sc c e)
      (term_block w (entering w (following c (shape w c e)).next sc bs) (inside w true (following c (shape w c e)) bs) rest)

  -- one clause, with its variables, nodes and body, and those after it, where the names are c
  pub clauses : World → Scalars → Bool → Names → List ℕ → List ℕ → C.Term → Clauses → C.Clauses
  clauses w sc taken c ys ks e NoClauses = C.LastClause ys ks e
  clauses w sc taken c ys ks e (MoreClauses q body cs) =
      C.MoreClauses ys ks e
      (clauses w sc taken (past_clause w taken c q body) (variables w c.next (binders q)) (nodes q)
      (term_block w (entering w c.next sc (binders q)) (inside w taken c (binders q)) body) cs)

-- ---- instances

-- the numbers of the parameters that are borrowed, and of those that are owned; scalar ones are neither
abbrev pub borrowed_parameters : World → ℕ → List Param → List Binder → List ℕ
borrowed_parameters w n ps [] = []
borrowed_parameters w n [] (b ∷ bs) = []
borrowed_parameters w n (p ∷ ps) (b ∷ bs) =
    if w.scalar p.ty then borrowed_parameters w (suc n) ps bs
    else (if p.lent then n ∷ borrowed_parameters w (suc n) ps bs else borrowed_parameters w (suc n) ps bs)

abbrev pub owned_parameters : World → ℕ → List Param → List Binder → List ℕ
owned_parameters w n ps [] = []
owned_parameters w n [] (b ∷ bs) = []
owned_parameters w n (p ∷ ps) (b ∷ bs) =
    if w.scalar p.ty then owned_parameters w (suc n) ps bs
    else (if p.lent then owned_parameters w (suc n) ps bs else n ∷ owned_parameters w (suc n) ps bs)

-- within the scopes of the parameters; outside of them there is no variable, and so none that isn't scalar
abbrev pub entering_parameters : World → ℕ → Scalars → List Param → List Binder → Scalars
entering_parameters w n sc ps [] = sc
entering_parameters w n sc [] (b ∷ bs) = sc
entering_parameters w n sc (p ∷ ps) (b ∷ bs) =
    entering_parameters w (suc n) (λ y. if n == y then w.scalar p.ty else sc y) ps bs

abbrev pub no_variables : Scalars
no_variables x = true

-- the body of an instance
abbrev pub body_term : World → Instance → C.Term
body_term w d =
    term_block w (entering_parameters w 0 no_variables d.params d.binders)
    (within no_names (parameters w d.params d.binders)) d.body
