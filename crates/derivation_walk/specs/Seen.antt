-- It serves the proof of what `derive` gives: what a walk through an instance finds, one thing after another.
--
-- Variables come in the order of their numbers in a derivation. An occurrence is that of a binder in the expression of
-- a number; expressions have the numbers by which needs are held (Held of credit_check).
use Rattle.std.specs.Prelude.{ℕ, ◌+◌, Bool, true, false, not, List, [], ◌∷◌, ◌++◌, Option, Some, None}
use Rattle.fip_base.specs.declared.plain.Param.{Param}
use Rattle.fip_trees.specs.declared.program.Binder.{Binder}
use Rattle.fip_trees.specs.Tree.{Argument, Variable, Literal, Constructor, Arguments, NoArguments, MoreArguments}
use Rattle.fip_trees.specs.Tree.{Pattern, BinderPattern, LiteralPattern, ConstructorPattern}
use Rattle.fip_trees.specs.Tree.{Patterns, NoPatterns, MorePatterns, Instance}
use Rattle.fip_trees.specs.Tree.{Expression, Give, Tuple, Operation, Call, Match, Nested, Block, Last, Let}
use Rattle.fip_trees.specs.Tree.{Clauses, NoClauses, MoreClauses}
use Rattle.fip_trees.specs.TreeView as V
use Rattle.fip_rules.specs.World.{World, world, lends}
use Rattle.fip_rules.specs.Shapes.{takes}
use Rattle.derivation_walk.specs.declared.context.Context.{Context}
use Rattle.derivation_walk.specs.declared.found.Found.{Found}
use Rattle.derivation_walk.specs.declared.found.Bound.{Bound}
use Rattle.derivation_walk.specs.declared.found.Occurrence.{Occurrence}

abbrev pub world_of : Context → World
world_of c = world (V.program c.program.now) c.kind

pub record Seen : Type 0 where
  pub variables : List Bound
  pub occurrences : List Occurrence
  pub next : ℕ

abbrev pub seen_of : Found → Seen
seen_of f = record { variables = f.variables.items; occurrences = f.occurrences.items; next = f.next }

abbrev pub nothing_seen : Seen
nothing_seen = record { variables = []; occurrences = []; next = 0 }

-- ---- binders

-- the variable of a binder of this number and type
abbrev pub bind : World → Seen → ℕ → ℕ → Seen
bind w s x t = record s { variables = s.variables ++ record { binder = x; is_scalar = w.scalar t } ∷ [] }

abbrev pub bind_all : World → Seen → List Binder → Seen
bind_all w s [] = s
bind_all w s (b ∷ bs) = bind_all w (bind w s b.number b.ty) bs

abbrev mutual
  pub bind_pattern : World → Seen → Pattern → Seen
  bind_pattern w s (BinderPattern b) = bind w s b.number b.ty
  bind_pattern w s (LiteralPattern i p) = s
  bind_pattern w s (ConstructorPattern t d c n p ps) = bind_patterns w s ps

  pub bind_patterns : World → Seen → Patterns → Seen
  bind_patterns w s NoPatterns = s
  bind_patterns w s (MorePatterns p ps) = bind_patterns w (bind_pattern w s p) ps

-- parameters, numbered from n on
abbrev pub bind_parameters : World → Seen → ℕ → List Param → Seen
bind_parameters w s n [] = s
bind_parameters w s n (p ∷ ps) = bind_parameters w (bind w s n p.ty) (n + 1) ps

-- ---- occurrences

-- in the expression of number i
abbrev pub occur : ℕ → Bool → Seen → Option ℕ → Seen
occur i lent s None = s
occur i lent s (Some x) =
    record s { occurrences = s.occurrences ++ record { binder = x; expression = i; is_lent = lent } ∷ [] }

abbrev mutual
  pub own_all : ℕ → Seen → Arguments → Seen
  own_all i s NoArguments = s
  own_all i s (MoreArguments a as') = own_all i (own i s a) as'

  -- in an owned position
  pub own : ℕ → Seen → Argument → Seen
  own i s (Variable x n p) = occur i false s x
  own i s (Literal v p) = s
  own i s (Constructor t d c n p as') = own_all i s as'

-- in a borrowed position, where what is in a constructor is used up
abbrev pub lend : ℕ → Seen → Argument → Seen
lend i s (Variable x n p) = occur i true s x
lend i s (Literal v p) = s
lend i s (Constructor t d c n p as') = own_all i s as'

abbrev pub pass : ℕ → Bool → Seen → Argument → Seen
pass i true s a = lend i s a
pass i false s a = own i s a

-- the arguments of a call, from place j on
abbrev pub pass_all : World → ℕ → ℕ → ℕ → Seen → Arguments → Seen
pass_all w i g j s NoArguments = s
pass_all w i g j s (MoreArguments a as') = pass_all w i g (j + 1) (pass i (lends w g j) s a) as'

-- ---- expressions

-- the next expression has its number
abbrev pub number : Seen → Seen
number s = record s { next = s.next + 1 }

abbrev mutual
  pub see : World → Seen → Expression → Seen
  see w s (Give a) = own s.next (number s) a
  see w s (Tuple p as') = own_all s.next (number s) as'
  see w s (Operation o p l r) = own s.next (own s.next (number s) l) r
  see w s (Call g n p as') = pass_all w s.next g 0 (number s) as'
  see w s (Match k t p a q body cs) =
      see_clauses w (see_parts w (number (bind_pattern w (pass s.next (not (takes w k t)) (number s) a) q)) body) cs
  see w s (Nested b) = see_parts w (number s) b

  -- what a block binds, and its last expression
  pub see_parts : World → Seen → Block → Seen
  see_parts w s (Last e) = see w s e
  see_parts w s (Let bs e rest) = see_parts w (see w (bind_all w s bs) e) rest

  pub see_clauses : World → Seen → Clauses → Seen
  see_clauses w s NoClauses = s
  see_clauses w s (MoreClauses q body cs) = see_clauses w (see_parts w (number (bind_pattern w s q)) body) cs

abbrev pub see_block : World → Seen → Block → Seen
see_block w s b = see_parts w (number s) b

abbrev pub see_clause : World → Seen → V.Case → Seen
see_clause w s c = see_block w (bind_pattern w s c.pattern) c.body

abbrev pub see_instance : World → Instance → Seen
see_instance w d = see_block w (bind_parameters w nothing_seen 0 d.params) d.body
