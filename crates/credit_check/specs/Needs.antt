-- What expressions need of each size of cells: a credit for each constructor with fields that they make, and what the
-- headers of their callees require; less what patterns give.
--
-- For example match! xs { Cons(x, t) -> Cons(x, Cons(x, t)); Nil -> Nil } needs one credit of size 2: its first clause
-- needs two and its pattern gives one, its second needs none. With Cons(x, t) for the first body it needs none.
use Rattle.std.specs.Prelude.{ℕ, ◌+◌, ◌-◌, Bool, not, ◌&&◌, List, [], ◌∷◌, Option, Some, None}
use Rattle.std.specs.Prelude.{◌==◌, slice_get, if◌then◌else◌}
use Rattle.fip_trees.specs.fip_language.Table.{is_scalar}
use Rattle.fip_trees.specs.Numbers.{greater, one_if}
use Rattle.fip_trees.specs.Tree.{Argument, Variable, Literal, Constructor, Arguments, NoArguments, MoreArguments, count}
use Rattle.fip_trees.specs.Tree.{Pattern, BinderPattern, LiteralPattern, ConstructorPattern}
use Rattle.fip_trees.specs.Tree.{Patterns, NoPatterns, MorePatterns, count_patterns, Instance, Program}
use Rattle.fip_trees.specs.Tree.{Expression, Give, Tuple, Operation, Call, Match, Nested, Block, Last, Let}
use Rattle.fip_trees.specs.Tree.{Clauses, NoClauses, MoreClauses}

abbrev mutual
  -- the constructors of size k that an argument makes
  pub made : ℕ → Argument → ℕ
  made k (Variable x n p) = 0
  made k (Literal i p) = 0
  made k (Constructor t d c n p as') = one_if (count as' == k) + made_all k as'

  pub made_all : ℕ → Arguments → ℕ
  made_all k NoArguments = 0
  made_all k (MoreArguments a as') = made k a + made_all k as'

abbrev mutual
  -- the constructors of size k in a pattern
  pub nodes : ℕ → Pattern → ℕ
  nodes k (BinderPattern b) = 0
  nodes k (LiteralPattern i p) = 0
  nodes k (ConstructorPattern t d c n p ps) = one_if (count_patterns ps == k) + nodes_all k ps

  pub nodes_all : ℕ → Patterns → ℕ
  nodes_all k NoPatterns = 0
  nodes_all k (MorePatterns p ps) = nodes k p + nodes_all k ps

-- how often a header marks a credit of size k
abbrev pub marked : ℕ → List ℕ → ℕ
marked k [] = 0
marked k (j ∷ js) = one_if (j == k) + marked k js

abbrev pub asked : ℕ → Option Instance → ℕ
asked k None = 0
asked k (Some d) = marked k d.credits

-- whether a match takes its scrutinee's cells, so that its patterns give credits
abbrev pub takes : Program → Bool → ℕ → Bool
takes p destructive t = destructive && not (is_scalar p.types t)

-- what a clause's pattern gives
abbrev pub given : ℕ → Bool → Pattern → ℕ
given k taken q = if taken then nodes k q else 0

abbrev mutual
  -- The scrutinee of a match is a variable, which needs nothing.
  pub need : Program → ℕ → Expression → ℕ
  need p k (Give a) = made k a
  need p k (Tuple q as') = made_all k as'
  need p k (Operation o q l r) = made k l + made k r
  need p k (Call g n q as') = made_all k as' + asked k (slice_get p.instances g)
  need p k (Match d t q a r body cs) =
      greater (need_block p k body - given k (takes p d t) r) (need_clauses p k (takes p d t) cs)
  need p k (Nested b) = need_block p k b

  pub need_block : Program → ℕ → Block → ℕ
  need_block p k (Last e) = need p k e
  need_block p k (Let bs e rest) = need p k e + need_block p k rest

  -- the greatest of what clauses need less what their patterns give
  pub need_clauses : Program → ℕ → Bool → Clauses → ℕ
  need_clauses p k taken NoClauses = 0
  need_clauses p k taken (MoreClauses q body cs) =
      greater (need_block p k body - given k taken q) (need_clauses p k taken cs)

-- what a clause needs less what its pattern gives
abbrev pub need_clause : Program → ℕ → Bool → Pattern → Block → ℕ
need_clause p k taken q body = need_block p k body - given k taken q
