-- It serves the proof of what `derive` gives: the walk that makes a derivation, as a function.
--
-- The walk looks up where variables occur (Lookups of variable_uses) and what expressions need, both by the numbers of
-- expressions. Variables are known by their numbers in the derivation.
use Rattle.std.specs.Prelude.{ℕ, zero, suc, ◌+◌, Bool, true, false, not, ◌&&◌, ◌||◌, ◌==◌, List, [], ◌∷◌, ◌++◌}
use Rattle.std.specs.Prelude.{length, filter, Option, Some, None, slice_get, nat_lt, if◌then◌else◌}
use Rattle.fip_language.specs.declared.limits.TheConstants.{MOST_FIELDS}
use Rattle.fip_base.specs.declared.plain.Param.{Param}
use Rattle.fip_trees.specs.declared.program.Binder.{Binder}
use Rattle.fip_trees.specs.declared.needs.Need.{Need}
use Rattle.fip_trees.specs.Sizes.{number, no_sizes, minus}
use Rattle.fip_trees.specs.Tree.{Argument, Variable, Literal, Constructor, Arguments, NoArguments, MoreArguments}
use Rattle.fip_trees.specs.Tree.{Pattern, BinderPattern, LiteralPattern, ConstructorPattern}
use Rattle.fip_trees.specs.Tree.{Patterns, NoPatterns, MorePatterns, Instance}
use Rattle.fip_trees.specs.Tree.{Expression, Give, Tuple, Operation, Call, Match, Nested, Block, Last, Let}
use Rattle.fip_trees.specs.Tree.{Clauses, NoClauses, MoreClauses}
use Rattle.fip_trees.specs.TreeView.{Case}
use Rattle.fip_rules.specs.World.{World}
use Rattle.fip_rules.specs.Shapes.{takes}
use Rattle.credit_check.specs.Tallies.{made_from, marked_from, nodes_from}
use Rattle.derivation_trees.specs.declared.derivation.RuleName.{RuleName}
use Rattle.derivation_trees.specs.declared.derivation.RuleName.TheVariants as R
use Rattle.derivation_trees.specs.declared.derivation.Credit as D
use Rattle.derivation_trees.specs.Trees.{Tree, Branch, Trees, NoTrees, MoreTrees}
use Rattle.derivation_walk.specs.declared.tables.Uses.{Uses}
use Rattle.derivation_walk.specs.Lookups.{number_at, is_scalar_at, is_bound_by, uses_at, occurs_at}

-- what the walk looks up
pub record Guided : Type 0 where
  pub world : World
  pub uses : Uses
  pub needs : List Need

-- what is there: variables, and credits by size
pub record Owned : Type 0 where
  pub variables : List ℕ
  pub credits : List ℕ

-- what is asked: the variables that occur in an expression from first to before end, and credits by size
pub record Asked : Type 0 where
  pub first : ℕ
  pub end : ℕ
  pub need : List ℕ

abbrev pub asked_of : ℕ → Option Need → Asked
asked_of i None = record { first = i; end = i; need = no_sizes }
asked_of i (Some n) = record { first = i; end = i + n.span; need = n.sizes }

-- by the expression of number i
abbrev pub asked : Guided → ℕ → Asked
asked g i = asked_of i (slice_get g.needs i)

-- ---- nodes

-- of some variables those that are asked for, those that are used up, and those that aren't
abbrev pub those : Guided → Asked → List ℕ → List ℕ
those g a xs = filter (λ n. occurs_at g.uses n a.first a.end) xs

abbrev pub used : Guided → Asked → List ℕ → List ℕ
used g a xs = filter (λ n. uses_at g.uses n a.first a.end) xs

abbrev pub unused : Guided → Asked → List ℕ → List ℕ
unused g a xs = filter (λ n. not (uses_at g.uses n a.first a.end)) xs

-- the credits of n sizes from k on
abbrev pub credits_from : List ℕ → ℕ → ℕ → List D.Credit
credits_from xs k zero = []
credits_from xs k (suc n) =
    if nat_lt 0 (number xs k) then record { size = k; count = number xs k } ∷ credits_from xs (suc k) n
    else credits_from xs (suc k) n

abbrev pub credits : List ℕ → List D.Credit
credits xs = credits_from xs 1 16

abbrev pub same_from : List ℕ → List ℕ → ℕ → ℕ → Bool
same_from xs ys k zero = true
same_from xs ys k (suc n) = (number xs k == number ys k) && same_from xs ys (suc k) n

abbrev pub weakened : Bool → Owned → Tree → Tree
weakened true o t = t
weakened false o t = Branch R.Weaken o.variables (credits o.credits) (MoreTrees t NoTrees)

-- a node of these variables and credits; below one that weakens where more is there
abbrev pub node : RuleName → Owned → List ℕ → List ℕ → Trees → Tree
node r o xs need ts =
    weakened ((length xs == length o.variables) && same_from o.credits need 1 MOST_FIELDS) o
    (Branch r xs (credits need) ts)

-- ---- arguments

abbrev pub rule_of_variable : Guided → Option ℕ → RuleName
rule_of_variable g None = R.Scalar
rule_of_variable g (Some x) = if is_scalar_at g.uses (number_at g.uses x) then R.Scalar else R.Variable

abbrev pub constructor_rule : Arguments → RuleName
constructor_rule NoArguments = R.Atom
constructor_rule (MoreArguments a as') = R.Reuse

abbrev pub rule_of : Guided → Argument → RuleName
rule_of g (Variable x n p) = rule_of_variable g x
rule_of g (Literal i p) = R.Scalar
rule_of g (Constructor t d c n p as') = constructor_rule as'

-- the variables of an argument that aren't scalar, after others
abbrev pub owning_variable : Guided → List ℕ → Option ℕ → List ℕ
owning_variable g xs None = xs
owning_variable g xs (Some x) =
    if is_scalar_at g.uses (number_at g.uses x) then xs else xs ++ number_at g.uses x ∷ []

abbrev mutual
  pub owning : Guided → List ℕ → Argument → List ℕ
  owning g xs (Variable x n p) = owning_variable g xs x
  owning g xs (Literal i p) = xs
  owning g xs (Constructor t d c n p as') = owning_all g xs as'

  pub owning_all : Guided → List ℕ → Arguments → List ℕ
  owning_all g xs NoArguments = xs
  owning_all g xs (MoreArguments a as') = owning_all g (owning g xs a) as'

-- in rising order
abbrev pub insert : ℕ → List ℕ → List ℕ
insert x [] = x ∷ []
insert x (y ∷ ys) = if nat_lt y x then y ∷ insert x ys else x ∷ y ∷ ys

abbrev pub sorted : List ℕ → List ℕ
sorted [] = []
sorted (x ∷ xs) = insert x (sorted xs)

abbrev mutual
  pub value : Guided → Argument → Tree
  value g (Variable x n p) =
      Branch (rule_of_variable g x) (sorted (owning_variable g [] x)) (credits no_sizes) NoTrees
  value g (Literal i p) = Branch R.Scalar [] (credits no_sizes) NoTrees
  value g (Constructor t d c n p as') =
      Branch (constructor_rule as') (sorted (owning_all g [] as'))
      (credits (made_from no_sizes (Constructor t d c n p as'))) (values g as')

  pub values : Guided → Arguments → Trees
  values g NoArguments = NoTrees
  values g (MoreArguments a as') = MoreTrees (value g a) (values g as')

abbrev pub fields : Guided → Argument → Trees
fields g (Variable x n p) = NoTrees
fields g (Literal i p) = NoTrees
fields g (Constructor t d c n p as') = values g as'

-- those in owned positions, but for scalar ones
abbrev pub passed : Guided → List Param → Arguments → Trees
passed g [] as' = NoTrees
passed g (p ∷ ps) NoArguments = NoTrees
passed g (p ∷ ps) (MoreArguments a as') =
    if g.world.scalar p.ty || p.lent then passed g ps as' else MoreTrees (value g a) (passed g ps as')

abbrev pub params_of : Option Instance → List Param
params_of None = []
params_of (Some d) = d.params

-- ---- binders

abbrev pub bound : Guided → List ℕ → ℕ → ℕ → List ℕ
bound g xs x t = if g.world.scalar t then xs else xs ++ number_at g.uses x ∷ []

abbrev pub bound_all : Guided → List ℕ → List Binder → List ℕ
bound_all g xs [] = xs
bound_all g xs (b ∷ bs) = bound_all g (bound g xs b.number b.ty) bs

abbrev mutual
  pub bound_pattern : Guided → List ℕ → Pattern → List ℕ
  bound_pattern g xs (BinderPattern b) = bound g xs b.number b.ty
  bound_pattern g xs (LiteralPattern i p) = xs
  bound_pattern g xs (ConstructorPattern t d c n p ps) = bound_patterns g xs ps

  pub bound_patterns : Guided → List ℕ → Patterns → List ℕ
  bound_patterns g xs NoPatterns = xs
  bound_patterns g xs (MorePatterns p ps) = bound_patterns g (bound_pattern g xs p) ps

-- ---- how many expressions there are

abbrev mutual
  pub size : Expression → ℕ
  size (Give a) = 1
  size (Tuple p as') = 1
  size (Operation o p l r) = 1
  size (Call g n p as') = 1
  size (Match k t p a q body cs) = 1 + (size_parts body + 1) + size_clauses cs
  size (Nested b) = size_parts b + 1

  pub size_parts : Block → ℕ
  size_parts (Last e) = size e
  size_parts (Let bs e rest) = size e + size_parts rest

  pub size_clauses : Clauses → ℕ
  size_clauses NoClauses = 0
  size_clauses (MoreClauses q body cs) = size_parts body + 1 + size_clauses cs

-- ---- expressions

abbrev pub match_rule : Bool → RuleName
match_rule true = R.TakingMatch
match_rule false = R.Match

-- the binder of a scrutinee, which is a variable
abbrev pub binder_of : Argument → Option ℕ
binder_of (Variable x n p) = x
binder_of (Literal i p) = None
binder_of (Constructor t d c n p as') = None

abbrev pub is_scrutinee : Guided → ℕ → Option ℕ → Bool
is_scrutinee g n None = false
is_scrutinee g n (Some x) = is_bound_by g.uses n x

-- what a clause has of what its match has, where this takes its scrutinee apart or not
abbrev pub clause_owned : Guided → Bool → Option ℕ → Owned → Pattern → Owned
clause_owned g false x o q = o
clause_owned g true x o q = record {
  variables = bound_pattern g (filter (λ n. not (is_scrutinee g n x)) o.variables) q;
  credits = nodes_from o.credits q;
}

-- what is asked for after a binding
abbrev pub following : Asked → Asked → Asked
following a b = record { first = b.end; end = a.end; need = minus a.need b.need }

abbrev pub bound_owned : Guided → Asked → Asked → Owned → Owned
bound_owned g a b o = record { variables = used g b (those g a o.variables); credits = b.need }

abbrev pub rest_owned : Guided → Asked → Asked → Owned → List Binder → Owned
rest_owned g a b o bs =
    record { variables = bound_all g (unused g b (those g a o.variables)) bs; credits = minus a.need b.need }

-- The first expression has number i.
abbrev mutual
  pub walked : Guided → ℕ → Owned → Expression → Tree
  walked g i o (Give a) = node (rule_of g a) o (those g (asked g i) o.variables) (asked g i).need (fields g a)
  walked g i o (Tuple p as') = node R.Tuple o (those g (asked g i) o.variables) (asked g i).need (values g as')
  walked g i o (Operation q p l r) = node R.Scalar o (those g (asked g i) o.variables) (asked g i).need NoTrees
  walked g i o (Call f n p as') =
      node R.Call o (those g (asked g i) o.variables) (asked g i).need
      (passed g (params_of (slice_get g.world.instances f)) as')
  walked g i o (Match k t p a q body cs) =
      node (match_rule (takes g.world k t)) o (those g (asked g i) o.variables) (asked g i).need
      (MoreTrees
      (walked_parts g (i + 1 + 1) (clause_owned g (takes g.world k t) (binder_of a)
      record { variables = those g (asked g i) o.variables; credits = (asked g i).need } q) (asked g (i + 1)) body)
      (walked_clauses g (i + 1 + (size_parts body + 1)) (takes g.world k t) (binder_of a)
      record { variables = those g (asked g i) o.variables; credits = (asked g i).need } cs))
  walked g i o (Nested b) = walked_parts g (i + 1) o (asked g i) b

  -- what a block binds, and its last expression; so much is asked for
  pub walked_parts : Guided → ℕ → Owned → Asked → Block → Tree
  walked_parts g i o a (Last e) = walked g i o e
  walked_parts g i o a (Let bs e rest) =
      node R.Let o (those g a o.variables) a.need
      (MoreTrees (walked g i (bound_owned g a (asked g i) o) e)
      (MoreTrees (walked_parts g (i + size e) (rest_owned g a (asked g i) o bs) (following a (asked g i)) rest)
      NoTrees))

  -- clauses of a match that has these
  pub walked_clauses : Guided → ℕ → Bool → Option ℕ → Owned → Clauses → Trees
  walked_clauses g i taken x o NoClauses = NoTrees
  walked_clauses g i taken x o (MoreClauses q body cs) =
      MoreTrees (walked_parts g (i + 1) (clause_owned g taken x o q) (asked g i) body)
      (walked_clauses g (i + (size_parts body + 1)) taken x o cs)

abbrev pub walked_block : Guided → ℕ → Owned → Block → Tree
walked_block g i o b = walked_parts g (i + 1) o (asked g i) b

-- a node of the next expression, of number i
abbrev pub begun : Guided → ℕ → RuleName → Owned → Trees → Tree
begun g i r o ts = node r o (those g (asked g i) o.variables) (asked g i).need ts

-- the node of a let, by the tree of its rest
abbrev pub let_node : Guided → ℕ → Owned → Asked → Asked → Expression → Tree → Tree
let_node g i o a b e t =
    node R.Let o (those g a o.variables) a.need
    (MoreTrees (walked g i (bound_owned g a b o) e) (MoreTrees t NoTrees))

abbrev pub walked_clause : Guided → ℕ → Bool → Option ℕ → Owned → Case → Tree
walked_clause g i taken x o c = walked_block g i (clause_owned g taken x o c.pattern) c.body

-- ---- instances

-- the parameters that are owned and not scalar, numbered from n on, after others
abbrev pub owned_parameters : Guided → List ℕ → ℕ → List Param → List ℕ
owned_parameters g xs n [] = xs
owned_parameters g xs n (p ∷ ps) =
    owned_parameters g (if p.lent || g.world.scalar p.ty then xs else xs ++ number_at g.uses n ∷ []) (n + 1) ps

abbrev pub walked_instance : Guided → Instance → Tree
walked_instance g d =
    walked_block g 0 record { variables = owned_parameters g [] 0 d.params; credits = marked_from no_sizes d.credits }
    d.body
