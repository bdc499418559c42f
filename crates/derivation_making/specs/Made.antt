-- The derivation that is made for a body.
--
-- The way goes down from what the function owns. What is there, variables and credits, an expression takes as far as it
-- requires for it: the variables that occur in it, and the credits that it needs. Where more is there, a node that
-- weakens is above. A let's bound expression takes of the let's variables those that it uses up; all others are left to
-- the rest. A clause takes all that the match has, and what its pattern gives.
use Rattle.std.specs.Prelude.{ℕ, zero, suc, ◌+◌, Bool, true, false, not, ◌&&◌, ◌||◌, ◌==◌, List, [], ◌∷◌, ◌++◌}
use Rattle.std.specs.Prelude.{length, Option, Some, None, slice_get, nat_lt, if◌then◌else◌}
use Rattle.type_check.specs.fip_language.declared.limits.TheConstants.{MOST_FIELDS}
use Rattle.derivation_check.specs.fip_base.declared.plain.Param.{Param}
use Rattle.derivation_check.specs.fip_trees.declared.program.Binder.{Binder}
use Rattle.derivation_check.specs.fip_trees.Tree.{Argument, Variable, Literal, Constructor, Arguments, NoArguments}
use Rattle.derivation_check.specs.fip_trees.Tree.{MoreArguments}
use Rattle.derivation_check.specs.fip_trees.Tree.{Expression, Give, Tuple, Operation, Call, Match, Nested, Block, Last}
use Rattle.derivation_check.specs.fip_trees.Tree.{Let}
use Rattle.derivation_check.specs.fip_trees.Tree.{Clauses, NoClauses, MoreClauses, Instance, Program}
use Rattle.ownership_agreement.specs.fip_rules.World.{World, world, is_ruled}
use Rattle.ownership_agreement.specs.fip_rules.Shapes.{binders, takes}
use Rattle.ownership_agreement.specs.credit_check.Needs.{made, made_all, marked, given, need, need_block}
use Rattle.derivation_check.specs.derivation_trees.declared.derivation.RuleName.{RuleName}
use Rattle.derivation_check.specs.derivation_trees.declared.derivation.RuleName.TheVariants as R
use Rattle.derivation_check.specs.derivation_trees.declared.derivation.Credit as D
use Rattle.derivation_check.specs.derivation_trees.Derivations.{Tree, Branch, Trees, NoTrees, MoreTrees, Entry}
use Rattle.derivation_check.specs.Scopes.{Known, meant, named, parameters, within, within_block}
use Rattle.derivation_making.specs.Uses.{names, occurs_value, occurs_values, occurs, occurs_block, uses}

-- ---- what is there

-- those of some variables whose binders pass a test
abbrev pub those : (ℕ → Bool) → List Known → List Known
those f [] = []
those f (v ∷ vs) = if f v.binder then v ∷ those f vs else those f vs

abbrev pub all_those : (ℕ → Bool) → List Known → Bool
all_those f [] = true
all_those f (v ∷ vs) = f v.binder && all_those f vs

abbrev pub numbers : List Known → List ℕ
numbers [] = []
numbers (v ∷ vs) = v.number ∷ numbers vs

-- those of some variables that aren't scalar
abbrev pub unscalar : World → List Known → List Known
unscalar w [] = []
unscalar w (v ∷ vs) = if w.scalar v.ty then unscalar w vs else v ∷ unscalar w vs

-- the credits of n sizes from k on, as f counts them; and all, of sizes 1 to 16
abbrev pub counted : (ℕ → ℕ) → ℕ → ℕ → List D.Credit
counted f k zero = []
counted f k (suc n) =
    if nat_lt 0 (f k) then record { size = k; count = f k } ∷ counted f (suc k) n else counted f (suc k) n

abbrev pub credits : (ℕ → ℕ) → List D.Credit
credits f = counted f 1 16

-- whether two counts are the same, of n sizes from k on
abbrev pub same_from : (ℕ → ℕ) → (ℕ → ℕ) → ℕ → ℕ → Bool
same_from f g k zero = true
same_from f g k (suc n) = (f k == g k) && same_from f g (suc k) n

-- ---- nodes

abbrev pub weakened : Bool → List Known → (ℕ → ℕ) → Tree → Tree
weakened true there have t = t
weakened false there have t = Branch R.Weaken (numbers there) (credits have) (MoreTrees t NoTrees)

-- A node of those of the variables there that are asked for, and of the credits that are needed; below one that weakens
-- where more is there.
abbrev pub node : RuleName → (ℕ → Bool) → List Known → (ℕ → ℕ) → (ℕ → ℕ) → Trees → Tree
node r asked there have needed ts =
    weakened (all_those asked there && same_from have needed 1 MOST_FIELDS) there have
    (Branch r (numbers (those asked there)) (credits needed) ts)

-- ---- arguments

abbrev pub rule_of_variable : World → Option Known → RuleName
rule_of_variable w None = R.Scalar
rule_of_variable w (Some v) = if w.scalar v.ty then R.Scalar else R.Variable

abbrev pub constructor_rule : Arguments → RuleName
constructor_rule NoArguments = R.Atom
constructor_rule (MoreArguments a as') = R.Reuse

-- Each argument takes those of the variables that occur in it.
abbrev mutual
  pub made_value : World → List Known → List Known → Argument → Tree
  made_value w vs have (Variable x n p) =
      Branch (rule_of_variable w (meant vs x)) (numbers (those (λ y. names y x) have)) [] NoTrees
  made_value w vs have (Literal i p) = Branch R.Scalar [] [] NoTrees
  made_value w vs have (Constructor t d c n p as') =
      Branch (constructor_rule as') (numbers (those (λ x. occurs_values x as') have))
      (credits (λ k. made k (Constructor t d c n p as'))) (made_values w vs have as')

  pub made_values : World → List Known → List Known → Arguments → Trees
  made_values w vs have NoArguments = NoTrees
  made_values w vs have (MoreArguments a as') = MoreTrees (made_value w vs have a) (made_values w vs have as')

-- an argument as a result
abbrev pub rule_of : World → List Known → Argument → RuleName
rule_of w vs (Variable x n p) = rule_of_variable w (meant vs x)
rule_of w vs (Literal i p) = R.Scalar
rule_of w vs (Constructor t d c n p as') = constructor_rule as'

abbrev pub made_fields : World → List Known → List Known → Argument → Trees
made_fields w vs have (Variable x n p) = NoTrees
made_fields w vs have (Literal i p) = NoTrees
made_fields w vs have (Constructor t d c n p as') = made_values w vs have as'

-- those in owned positions, but for scalar ones
abbrev pub made_passed : World → List Known → List Known → List Param → Arguments → Trees
made_passed w vs have [] as' = NoTrees
made_passed w vs have (p ∷ ps) NoArguments = NoTrees
made_passed w vs have (p ∷ ps) (MoreArguments a as') =
    if w.scalar p.ty || p.lent then made_passed w vs have ps as'
    else MoreTrees (made_value w vs have a) (made_passed w vs have ps as')

abbrev pub params_of : Option Instance → List Param
params_of None = []
params_of (Some d) = d.params

-- ---- expressions

abbrev pub match_rule : Bool → RuleName
match_rule true = R.TakingMatch
match_rule false = R.Match

-- what is left where a match takes its scrutinee apart, or doesn't
abbrev pub remaining : Bool → Argument → List Known → List Known
remaining true a have = those (λ x. not (occurs_value x a)) have
remaining false a have = have

-- the variables of binders that aren't scalar, where they are owned
abbrev pub added : World → Bool → ℕ → List Binder → List Known
added w true d bs = unscalar w (named d true bs)
added w false d bs = []

-- what a clause takes of what the match has, where the match takes its scrutinee apart or not
abbrev pub clause_variables : World → Bool → Argument → ℕ → List Binder → List Known → List Known
clause_variables w taken a d bs have = remaining taken a have ++ added w taken d bs

-- For an expression, where derivations number binders from d on, and these variables and credits are there.
abbrev mutual
  pub made_expression : Program → World → List Known → ℕ → List Known → (ℕ → ℕ) → Expression → Tree
  made_expression p w vs d there have (Give a) =
      node (rule_of w vs a) (λ x. occurs_value x a) there have (λ k. made k a)
      (made_fields w vs there a)
  made_expression p w vs d there have (Tuple q as') =
      node R.Tuple (λ x. occurs_values x as') there have (λ k. made_all k as')
      (made_values w vs there as')
  made_expression p w vs d there have (Operation o q l r) =
      node R.Scalar (λ x. occurs_value x l || occurs_value x r) there have (λ k. made k l + made k r) NoTrees
  made_expression p w vs d there have (Call g n q as') =
      node R.Call (λ x. occurs_values x as') there have (λ k. need p k (Call g n q as'))
      (made_passed w vs there (params_of (slice_get w.instances g)) as')
  made_expression p w vs d there have (Match t u q a r body cs) =
      node (match_rule (takes w t u)) (λ x. occurs x (Match t u q a r body cs)) there have
      (λ k. need p k (Match t u q a r body cs))
      (MoreTrees
      (made_block p w (named d (takes w t u) (binders r) ++ vs) (d + length (binders r))
      (clause_variables w (takes w t u) a d (binders r) (those (λ x. occurs x (Match t u q a r body cs)) there))
      (λ k. need p k (Match t u q a r body cs) + given k (takes w t u) r) body)
      (made_clauses p w vs (d + length (binders r) + within_block body) (takes w t u) a
      (those (λ x. occurs x (Match t u q a r body cs)) there) (λ k. need p k (Match t u q a r body cs)) cs))
  made_expression p w vs d there have (Nested b) = made_block p w vs d there have b

  pub made_block : Program → World → List Known → ℕ → List Known → (ℕ → ℕ) → Block → Tree
  made_block p w vs d there have (Last e) = made_expression p w vs d there have e
  made_block p w vs d there have (Let bs e rest) =
      node R.Let (λ x. occurs x e || occurs_block x rest) there have (λ k. need p k e + need_block p k rest)
      (MoreTrees
      (made_expression p w vs (d + length bs)
      (those (λ x. uses w x e) (those (λ x. occurs x e || occurs_block x rest) there)) (λ k. need p k e) e)
      (MoreTrees
      (made_block p w (named d true bs ++ vs) (d + within e + length bs)
      (those (λ x. not (uses w x e)) (those (λ x. occurs x e || occurs_block x rest) there)
      ++ added w true d bs) (λ k. need_block p k rest) rest)
      NoTrees))

  -- The clauses after the first. The match has these variables and credits.
  pub made_clauses : Program → World → List Known → ℕ → Bool → Argument → List Known → (ℕ → ℕ) → Clauses → Trees
  made_clauses p w vs d taken a has' have NoClauses = NoTrees
  made_clauses p w vs d taken a has' have (MoreClauses r body cs) =
      MoreTrees
      (made_block p w (named d taken (binders r) ++ vs) (d + length (binders r))
      (clause_variables w taken a d (binders r) has') (λ k. have k + given k taken r) body)
      (made_clauses p w vs (d + length (binders r) + within_block body) taken a has' have cs)

-- ---- instances

-- those of the parameters that are owned and not scalar
abbrev pub owned_ones : World → List Known → List Known
owned_ones w [] = []
owned_ones w (v ∷ vs) = if w.scalar v.ty || not v.owned then owned_ones w vs else v ∷ owned_ones w vs

abbrev pub made_instance : Program → World → Instance → Tree
made_instance p w i =
    made_block p w (parameters 0 i.params) (length i.params) (owned_ones w (parameters 0 i.params))
    (λ k. marked k i.credits) i.body

-- of the instances numbered from n on, those that are fip or fbip
abbrev pub made_entries : Program → ℕ → List Instance → List Entry
made_entries p n [] = []
made_entries p n (i ∷ is) =
    if is_ruled i.kind
    then record { instance = n; tree = made_instance p (world p i.kind) i } ∷ made_entries p (n + 1) is
    else made_entries p (n + 1) is
