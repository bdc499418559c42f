-- Either more instances or types than so many are reached, or they are numbered: the walk that numbers goes on until it
-- has more, or nothing waits. What is passed to instances is among their parts, so it is always numbered.
use Rattle.std.proofs.Common.{◌≡◌, ◌≤◌, ◌<◌, ◌+◌, ◌⊎◌, inl, inr, ℕ, zero, suc, List, [], ◌∷◌, ◌++◌, length, Option, Some, None, slice_get, refl, subst, arith}
use Rattle.source_report.specs.fip_language.Every.{Among}
use Rattle.source_report.specs.fip_language.Mentions.{all_of}
use Rattle.source_report.specs.fip_language.declared.limits.TheConstants.{MOST_INSTANCES}
use Rattle.source_report.specs.fip_trees.declared.least.Violation.{Violation}
use Rattle.source_report.specs.reached_instances.closed_types.Closed.{Closed, Closeds, Int, Applied, NoClosed, MoreClosed, same_closed}
use Rattle.source_report.specs.reached_instances.closed_types.declared.closed.Head.TheVariants as H
use Rattle.source_report.specs.reached_instances.closed_types.Instances.{roots, calls_from, passed_to, functions_among, ArePassed}
use Rattle.source_report.specs.reached_instances.closed_types.Numbering.{with_all, firsts, AreNumbered, AreMore}
use Rattle.source_report.specs.reached_instances.closed_types.Source.{Source}
use Rattle.source_report.specs.reached_instances.closed_types.TypeInstances.{type_roots, parts_of}
use Rattle.source_report.specs.static_params.Answers.{AreFewInstances, IsManyFunctions, IsManyTypes, AreFew, start}
use Rattle.source_report.specs.static_params.FlatProgram.{Numbers}
use Rattle.source_report.specs.reached_instances.closed_types.Uses.{broken}
use Rattle.source_report.specs.fip_language.declared.rule.Rule.TheVariants.{E21}
use Rattle.std.specs.Prelude.{codes}
use Rattle.source_report.proofs.reached_instances.closed_types.ClosedTrees.{closed_exact}
use Rattle.source_report.proofs.reached_instances.closed_types.Numbered.{IsWalk, walk_starts, walk_goes, walk_ends, walk_many, reached_in, no_longer, among_left, among_right, among_either, among_of}
use Rattle.source_report.proofs.fip_language.Facts.{le_or_less, get_within}

-- they are numbered, and at most so many
abbrev AreUpTo : ℕ → List Closed → (Closed → List Closed) → Type 0
AreUpTo most roots next = (ys : List Closed) × AreNumbered same_closed roots next ys × (length ys ≤ most)

walk_one : (most : ℕ) (roots : List Closed) (next : Closed → List Closed) (i : ℕ) (xs : List Closed) → IsWalk same_closed closed_exact roots next i xs → ((x : Closed) → slice_get xs i ≡ Some x → length xs ≤ most → AreUpTo most roots next ⊎ AreMore most roots next) → AreUpTo most roots next ⊎ AreMore most roots next
walk_one most roots next i xs w go = by (slice_get xs i) refl (le_or_less (length xs) most)
  where
    by : (o : Option Closed) → slice_get xs i ≡ o → (length xs ≤ most) ⊎ (most < length xs) → AreUpTo most roots next ⊎ AreMore most roots next
    by o e (inr many) = inr (walk_many same_closed closed_exact roots next i most xs many w)
    by None e (inl few) = inl (xs, walk_ends same_closed closed_exact roots next i xs e w, few)
    by (Some x) e (inl few) = go x e few

walk : (n most : ℕ) (roots : List Closed) (next : Closed → List Closed) (i : ℕ) (xs : List Closed) → IsWalk same_closed closed_exact roots next i xs → most < i + n → AreUpTo most roots next ⊎ AreMore most roots next
walk zero most roots next i xs w more = walk_one most roots next i xs w (λ x e few. let within = get_within xs i x e in absurd (omega (arith, within, few, more)))
walk (suc n) most roots next i xs w more =
    walk_one most roots next i xs w (λ x e few. walk n most roots next (i + 1) (with_all same_closed xs (next x)) (walk_goes same_closed closed_exact roots next i xs x e w) (omega (arith, more)))

up_to_or_more : (most : ℕ) (roots : List Closed) (next : Closed → List Closed) → AreUpTo most roots next ⊎ AreMore most roots next
up_to_or_more most roots next = walk (suc most) most roots next 0 (firsts same_closed roots) (walk_starts same_closed closed_exact roots next) (omega arith)

-- ---- what is passed

-- a closed type or function, and what it is made of
abbrev mutual
  parts : Closed → List Closed
  parts Int = Int ∷ []
  parts (Applied h cs) = Applied h cs ∷ parts_all cs

  parts_all : Closeds → List Closed
  parts_all NoClosed = []
  parts_all (MoreClosed c cs) = parts c ++ parts_all cs

own_part : (c : Closed) → Among c (parts c)
own_part Int = inl refl
own_part (Applied h cs) = inl refl

function_part : (cs : Closeds) (y : Closed) → Among y (functions_among cs) → Among y (parts_all cs)
function_part NoClosed y h = absurd h
function_part (MoreClosed Int cs) y h = among_right y (parts Int) (parts_all cs) (function_part cs y h)
function_part (MoreClosed (Applied (H.«Type» n) ds) cs) y h = among_right y (parts (Applied (H.«Type» n) ds)) (parts_all cs) (function_part cs y h)
function_part (MoreClosed (Applied (H.Function f) ds) cs) y (inl e) = among_left y (parts (Applied (H.Function f) ds)) (parts_all cs) (inl e)
function_part (MoreClosed (Applied (H.Function f) ds) cs) y (inr h) = among_right y (parts (Applied (H.Function f) ds)) (parts_all cs) (function_part cs y h)

passed_part : (x y : Closed) → Among y (passed_to x) → Among y (parts x)
passed_part Int y h = absurd h
passed_part (Applied h cs) y k = inr (function_part cs y k)

mutual
  part_of_part : (c x y : Closed) → Among x (parts c) → Among y (parts x) → Among y (parts c)
  part_of_part Int x y (inl e) k = subst (λ z. Among y (parts z)) e k
  part_of_part Int x y (inr h) k = absurd h
  part_of_part (Applied g cs) x y (inl e) k = subst (λ z. Among y (parts z)) e k
  part_of_part (Applied g cs) x y (inr h) k = inr (part_of_parts cs x y h k)

  part_of_parts : (cs : Closeds) (x y : Closed) → Among x (parts_all cs) → Among y (parts x) → Among y (parts_all cs)
  part_of_parts NoClosed x y h k = absurd h
  part_of_parts (MoreClosed c cs) x y h k = elim (among_either x (parts c) (parts_all cs) h) as (λ _. Among y (parts c ++ parts_all cs)) [
    | inl a ↦ among_left y (parts c) (parts_all cs) (part_of_part c x y a k)
    | inr b ↦ among_right y (parts c) (parts_all cs) (part_of_parts cs x y b k)
  ]

part_of_all : (is : List Closed) (x y : Closed) → Among x (all_of parts is) → Among y (parts x) → Among y (all_of parts is)
part_of_all [] x y h k = absurd h
part_of_all (c ∷ is) x y h k = elim (among_either x (parts c) (all_of parts is) h) as (λ _. Among y (parts c ++ all_of parts is)) [
  | inl a ↦ among_left y (parts c) (all_of parts is) (part_of_part c x y a k)
  | inr b ↦ among_right y (parts c) (all_of parts is) (part_of_all is x y b k)
]

not_more : (is : List Closed) → AreMore (length (all_of parts is)) is passed_to → ⊥
not_more is more =
    let within = no_longer same_closed closed_exact more.some (all_of parts is) more.differ (λ x a.
    reached_in same_closed closed_exact is passed_to (λ z. Among z (all_of parts is))
    (λ z r. among_of parts z z is r (own_part z)) (λ z y r n. part_of_all is z y r (passed_part z y n)) x (more.reached x a)) in
    let many = more.many in
    omega (arith, within, many)

passed_numbered : (is : List Closed) → (cs : List Closed) × ArePassed is cs
passed_numbered is = elim (up_to_or_more (length (all_of parts is)) is passed_to) as (λ _. (cs : List Closed) × ArePassed is cs) [
  | inl h ↦ (h.0, h.1)
  | inr more ↦ absurd (not_more is more)
]

-- ---- the instances and the types of a program

abbrev pub AreFewOrMany : Source → Type 0
AreFewOrMany s = ((ns : Numbers) × AreFew s ns) ⊎ (((v : Violation) × IsManyFunctions s v) ⊎ ((v : Violation) × IsManyTypes s v))

types_few_or_many : (s : Source) (is : List Closed) → AreFewInstances s is → AreFewOrMany s
types_few_or_many s is few = by (up_to_or_more MOST_INSTANCES (type_roots s is passed.0) (parts_of s))
  where
    passed : (cs : List Closed) × ArePassed is cs
    passed = passed_numbered is

    by : AreUpTo MOST_INSTANCES (type_roots s is passed.0) (parts_of s) ⊎ AreMore MOST_INSTANCES (type_roots s is passed.0) (parts_of s) → AreFewOrMany s
    by (inl h) = inl (record { instances = is; types = h.0 }, record { instances = few; passed = passed.0; given = passed.1; types = h.1; few_types = h.2 })
    by (inr more) = inr (inr (broken E21 start 0 (codes "types"), record { instances = is; few = few; many = record { passed = passed.0; given = passed.1; many = more }; is = refl }))

pub few_or_many : (s : Source) → AreFewOrMany s
few_or_many s = elim (up_to_or_more MOST_INSTANCES (roots s) (calls_from s)) as (λ _. AreFewOrMany s) [
  | inl h ↦ types_few_or_many s h.0 (record { instances = h.1; few = h.2 })
  | inr more ↦ inr (inl (broken E21 start 0 (codes "functions"), (more, refl)))
]
