-- For the proofs alone: the same as lists, in the order of the walk.
use Rattle.std.specs.Prelude.{ℕ, zero, suc, Bool, true, false, List, [], ◌∷◌, ◌++◌, length, Option, Some, None}
use Rattle.std.specs.Prelude.{slice_get, nat_lt, if◌then◌else◌}
use Rattle.fip_trees.specs.fip_language.declared.limits.TheConstants.{MOST_FIELDS}
use Rattle.fip_trees.specs.fip_language.declared.FunKind.{FunKind}
use Rattle.fip_trees.specs.fip_language.declared.FunKind.TheVariants.{Fip, Fbip, Fun}
use Rattle.fip_trees.specs.fip_language.declared.Place.{Place}
use Rattle.fip_trees.specs.fip_language.declared.rule.Rule.{Rule}
use Rattle.fip_trees.specs.fip_language.declared.rule.Rule.TheVariants.{E56, E57, E58, E62}
use Rattle.fip_trees.specs.declared.least.Violation.{Violation}
use Rattle.fip_trees.specs.declared.needs.Need.{Need}
use Rattle.fip_trees.specs.Least.{violation}
use Rattle.fip_trees.specs.Sizes.{number, no_sizes, one_more, plus, minus, greatest}
use Rattle.fip_trees.specs.Tree.{Argument, Variable, Literal, Constructor, Arguments, NoArguments, MoreArguments, count}
use Rattle.fip_trees.specs.Tree.{Pattern, BinderPattern, LiteralPattern, ConstructorPattern}
use Rattle.fip_trees.specs.Tree.{Patterns, NoPatterns, MorePatterns, count_patterns, pattern_place}
use Rattle.fip_trees.specs.Tree.{Expression, Give, Tuple, Operation, Call, Match, Nested, Block, Last, Let}
use Rattle.fip_trees.specs.Tree.{Clauses, NoClauses, MoreClauses, Instance, Program}
use Rattle.credit_check.specs.Needs.{takes}

-- ---- sizes, added to others

abbrev mutual
  pub made_from : List ℕ → Argument → List ℕ
  made_from xs (Variable x n p) = xs
  made_from xs (Literal i p) = xs
  made_from xs (Constructor t d c n p as') = made_all_from (one_more (count as') xs) as'

  pub made_all_from : List ℕ → Arguments → List ℕ
  made_all_from xs NoArguments = xs
  made_all_from xs (MoreArguments a as') = made_all_from (made_from xs a) as'

abbrev mutual
  pub nodes_from : List ℕ → Pattern → List ℕ
  nodes_from xs (BinderPattern b) = xs
  nodes_from xs (LiteralPattern i p) = xs
  nodes_from xs (ConstructorPattern t d c n p ps) = nodes_all_from (one_more (count_patterns ps) xs) ps

  pub nodes_all_from : List ℕ → Patterns → List ℕ
  nodes_all_from xs NoPatterns = xs
  nodes_all_from xs (MorePatterns p ps) = nodes_all_from (nodes_from xs p) ps

abbrev pub marked_from : List ℕ → List ℕ → List ℕ
marked_from xs [] = xs
marked_from xs (j ∷ js) = marked_from (one_more j xs) js

abbrev pub asked_from : List ℕ → Option Instance → List ℕ
asked_from xs None = xs
asked_from xs (Some d) = plus xs (marked_from no_sizes d.credits)

abbrev pub given_sizes : Bool → Pattern → List ℕ
given_sizes taken q = if taken then nodes_from no_sizes q else no_sizes

abbrev mutual
  pub sizes : Program → Expression → List ℕ
  sizes p (Give a) = made_from no_sizes a
  sizes p (Tuple q as') = made_all_from no_sizes as'
  sizes p (Operation o q l r) = made_from (made_from no_sizes l) r
  sizes p (Call g n q as') = asked_from (made_all_from no_sizes as') (slice_get p.instances g)
  sizes p (Match d t q a r body cs) =
      clauses_sizes p (takes p d t) (minus (block_sizes p no_sizes body) (given_sizes (takes p d t) r)) cs
  sizes p (Nested b) = block_sizes p no_sizes b

  pub block_sizes : Program → List ℕ → Block → List ℕ
  block_sizes p xs (Last e) = plus xs (sizes p e)
  block_sizes p xs (Let bs e rest) = block_sizes p (plus xs (sizes p e)) rest

  -- the greatest of `most` and of those of some clauses
  pub clauses_sizes : Program → Bool → List ℕ → Clauses → List ℕ
  clauses_sizes p taken most NoClauses = most
  clauses_sizes p taken most (MoreClauses q body cs) =
      clauses_sizes p taken (greatest most (minus (block_sizes p no_sizes body) (given_sizes taken q))) cs

abbrev pub clause_sizes : Program → Bool → Pattern → Block → List ℕ
clause_sizes p taken q body = minus (block_sizes p no_sizes body) (given_sizes taken q)

abbrev pub call_sizes : Program → ℕ → Arguments → List ℕ
call_sizes p g as' = asked_from (made_all_from no_sizes as') (slice_get p.instances g)

-- ---- needs

abbrev pub above_need : List ℕ → List Need → List Need
above_need xs ns = record { sizes = xs; span = suc (length ns) } ∷ ns

abbrev mutual
  pub needs : Program → Expression → List Need
  needs p (Give a) = above_need (sizes p (Give a)) []
  needs p (Tuple q as') = above_need (sizes p (Tuple q as')) []
  needs p (Operation o q l r) = above_need (sizes p (Operation o q l r)) []
  needs p (Call g n q as') = above_need (sizes p (Call g n q as')) []
  needs p (Match d t q a r body cs) =
      above_need (sizes p (Match d t q a r body cs))
      (above_need (block_sizes p no_sizes body) (parts_needs p body) ++ clauses_needs p cs)
  needs p (Nested b) = above_need (block_sizes p no_sizes b) (parts_needs p b)

  pub parts_needs : Program → Block → List Need
  parts_needs p (Last e) = needs p e
  parts_needs p (Let bs e rest) = needs p e ++ parts_needs p rest

  pub clauses_needs : Program → Clauses → List Need
  clauses_needs p NoClauses = []
  clauses_needs p (MoreClauses q body cs) =
      above_need (block_sizes p no_sizes body) (parts_needs p body) ++ clauses_needs p cs

abbrev pub block_needs : Program → Block → List Need
block_needs p b = above_need (block_sizes p no_sizes b) (parts_needs p b)

-- ---- violations

abbrev pub when : Bool → Violation → List Violation
when true v = v ∷ []
when false v = []

-- at n sizes from k on
abbrev pub below_from : Rule → Place → ℕ → List ℕ → List ℕ → ℕ → ℕ → List Violation
below_from r q i xs ys k zero = []
below_from r q i xs ys k (suc n) =
    when (nat_lt (number xs k) (number ys k)) (violation r q i k []) ++ below_from r q i xs ys (suc k) n

-- of which sizes the first list has fewer
abbrev pub below : Rule → Place → ℕ → List ℕ → List ℕ → List Violation
below r q i xs ys = below_from r q i xs ys 1 MOST_FIELDS

abbrev pub if_fip : Bool → List Violation → List Violation
if_fip true vs = vs
if_fip false vs = []

abbrev pub unused_notes : ℕ → Bool → Place → List ℕ → List ℕ → List Violation
unused_notes i fip q xs ys = if_fip fip (below E57 q i xs ys)

abbrev pub differ_notes : ℕ → Bool → Place → List ℕ → List ℕ → List Violation
differ_notes i fip q xs ys = if_fip fip (below E58 q i xs ys ++ below E58 q i ys xs)

abbrev mutual
  pub notes : Program → ℕ → Bool → Expression → List Violation
  notes p i fip (Give a) = []
  notes p i fip (Tuple q as') = []
  notes p i fip (Operation o q l r) = []
  notes p i fip (Call g n q as') = []
  notes p i fip (Match d t q a r body cs) =
      (block_notes p i fip body
      ++ unused_notes i fip (pattern_place r) (block_sizes p no_sizes body) (given_sizes (takes p d t) r))
      ++ clauses_notes p i fip (takes p d t) q
      (minus (block_sizes p no_sizes body) (given_sizes (takes p d t) r)) cs
  notes p i fip (Nested b) = block_notes p i fip b

  pub block_notes : Program → ℕ → Bool → Block → List Violation
  block_notes p i fip (Last e) = notes p i fip e
  block_notes p i fip (Let bs e rest) = notes p i fip e ++ block_notes p i fip rest

  -- the clauses after the first one, which needs `xs` beyond its pattern
  pub clauses_notes : Program → ℕ → Bool → Bool → Place → List ℕ → Clauses → List Violation
  clauses_notes p i fip taken q xs NoClauses = []
  clauses_notes p i fip taken q xs (MoreClauses r body cs) =
      ((block_notes p i fip body
      ++ unused_notes i fip (pattern_place r) (block_sizes p no_sizes body) (given_sizes taken r))
      ++ differ_notes i fip q xs (minus (block_sizes p no_sizes body) (given_sizes taken r)))
      ++ clauses_notes p i fip taken q xs cs

abbrev pub clause_notes : Program → ℕ → Bool → Bool → Pattern → Block → List Violation
clause_notes p i fip taken r body =
    block_notes p i fip body
    ++ unused_notes i fip (pattern_place r) (block_sizes p no_sizes body) (given_sizes taken r)

-- ---- instances

-- what the header marks, and what the body needs
abbrev pub header_below : ℕ → Bool → Place → List ℕ → List ℕ → List Violation
header_below i fip q xs ys = below E56 q i xs ys ++ if_fip fip (below E62 q i ys xs)

abbrev pub header_notes : Program → ℕ → Bool → Instance → List Violation
header_notes p i fip d =
    header_below i fip d.place (marked_from no_sizes d.credits) (block_sizes p no_sizes d.body)

abbrev pub body_notes : Program → ℕ → Bool → Instance → List Violation
body_notes p i fip d = block_notes p i fip d.body ++ header_notes p i fip d

abbrev pub instance_notes : Program → ℕ → FunKind → Instance → List Violation
instance_notes p i Fip d = body_notes p i true d
instance_notes p i Fbip d = body_notes p i false d
instance_notes p i Fun d = []

abbrev pub all_notes : Program → ℕ → List Instance → List Violation
all_notes p i [] = []
all_notes p i (d ∷ ds) = instance_notes p i d.kind d ++ all_notes p (suc i) ds

abbrev pub instance_needs : Program → FunKind → Instance → List Need
instance_needs p Fip d = block_needs p d.body
instance_needs p Fbip d = block_needs p d.body
instance_needs p Fun d = []

abbrev pub all_needs : Program → List Instance → List (List Need)
all_needs p [] = []
all_needs p (d ∷ ds) = instance_needs p d.kind d ∷ all_needs p ds
