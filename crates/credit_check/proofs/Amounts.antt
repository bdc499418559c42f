-- The lists by size have what is needed and given of each size.
use Rattle.std.proofs.Common.{◌≡◌, ℕ, ◌<◌, ◌+◌, ◌-◌, refl, sym, ap, ◌∙◌, List, [], ◌∷◌, length, Option, Some, None, Bool, true, false, arith}
use Rattle.std.specs.Prelude.{◌==◌, slice_get}
use Rattle.std.proofs.lemmas.Bool.Decides.{nat_tests}
use Rattle.fip_trees.specs.Sizes.{number, no_sizes, one_more, one_if, by_size, plus, minus, greatest, greater}
use Rattle.fip_trees.proofs.SizeLists.{by_size_at, by_size_long, one_more_long, one_more_at, zeros_at}
use Rattle.fip_trees.specs.Tree.{Argument, Variable, Literal, Constructor, Arguments, NoArguments, MoreArguments, count}
use Rattle.fip_trees.specs.Tree.{Pattern, BinderPattern, LiteralPattern, ConstructorPattern, Patterns, NoPatterns, MorePatterns, count_patterns, Instance, Program}
use Rattle.fip_trees.specs.Tree.{Expression, Give, Tuple, Operation, Call, Match, Nested, Block, Last, Let, Clauses, NoClauses, MoreClauses}
use Rattle.credit_check.specs.Needs.{made, made_all, nodes, nodes_all, marked, asked, takes, given, need, need_block, need_clauses, need_clause}
use Rattle.credit_check.specs.Tallies.{made_from, made_all_from, nodes_from, nodes_all_from, marked_from, asked_from, given_sizes, sizes, block_sizes, clauses_sizes, clause_sizes}

-- ---- each list has a place for each size

abbrev pub Long : List ℕ → Type 0
Long xs = length xs ≡ 17

pub none_long : Long no_sizes
none_long = refl

mutual
  pub made_long : (xs : List ℕ) (a : Argument) → Long xs → Long (made_from xs a)
  made_long xs (Variable x n p) h = h
  made_long xs (Literal i p) h = h
  made_long xs (Constructor t d c n p as') h = made_all_long (one_more (count as') xs) as' (one_more_long (count as') xs ∙ h)

  pub made_all_long : (xs : List ℕ) (as' : Arguments) → Long xs → Long (made_all_from xs as')
  made_all_long xs NoArguments h = h
  made_all_long xs (MoreArguments a as') h = made_all_long (made_from xs a) as' (made_long xs a h)

mutual
  pub nodes_long : (xs : List ℕ) (q : Pattern) → Long xs → Long (nodes_from xs q)
  nodes_long xs (BinderPattern b) h = h
  nodes_long xs (LiteralPattern i p) h = h
  nodes_long xs (ConstructorPattern t d c n p ps) h = nodes_all_long (one_more (count_patterns ps) xs) ps (one_more_long (count_patterns ps) xs ∙ h)

  nodes_all_long : (xs : List ℕ) (ps : Patterns) → Long xs → Long (nodes_all_from xs ps)
  nodes_all_long xs NoPatterns h = h
  nodes_all_long xs (MorePatterns q ps) h = nodes_all_long (nodes_from xs q) ps (nodes_long xs q h)

pub marked_long : (xs js : List ℕ) → Long xs → Long (marked_from xs js)
marked_long xs [] h = h
marked_long xs (j ∷ js) h = marked_long (one_more j xs) js (one_more_long j xs ∙ h)

pub both_long : (f : ℕ → ℕ → ℕ) (xs ys : List ℕ) → Long xs → Long ys → Long (by_size f xs ys)
both_long f xs ys h g = by_size_long f xs ys (h ∙ sym g) ∙ h

asked_long : (xs : List ℕ) (o : Option Instance) → Long xs → Long (asked_from xs o)
asked_long xs None h = h
asked_long xs (Some d) h = both_long (λ m n. m + n) xs (marked_from no_sizes d.credits) h (marked_long no_sizes d.credits none_long)

given_long : (b : Bool) (q : Pattern) → Long (given_sizes b q)
given_long true q = nodes_long no_sizes q none_long
given_long false q = none_long

mutual
  pub sizes_long : (p : Program) (e : Expression) → Long (sizes p e)
  sizes_long p (Give a) = made_long no_sizes a none_long
  sizes_long p (Tuple q as') = made_all_long no_sizes as' none_long
  sizes_long p (Operation o q l r) = made_long (made_from no_sizes l) r (made_long no_sizes l none_long)
  sizes_long p (Call g n q as') = asked_long (made_all_from no_sizes as') (slice_get p.instances g) (made_all_long no_sizes as' none_long)
  sizes_long p (Match d t q a r body cs) = clauses_long p (takes p d t) (minus (block_sizes p no_sizes body) (given_sizes (takes p d t) r)) cs (both_long (λ m n. m - n) (block_sizes p no_sizes body) (given_sizes (takes p d t) r) (block_long p no_sizes body none_long) (given_long (takes p d t) r))
  sizes_long p (Nested b) = block_long p no_sizes b none_long

  pub block_long : (p : Program) (xs : List ℕ) (b : Block) → Long xs → Long (block_sizes p xs b)
  block_long p xs (Last e) h = both_long (λ m n. m + n) xs (sizes p e) h (sizes_long p e)
  block_long p xs (Let bs e rest) h = block_long p (plus xs (sizes p e)) rest (both_long (λ m n. m + n) xs (sizes p e) h (sizes_long p e))

  clauses_long : (p : Program) (b : Bool) (xs : List ℕ) (cs : Clauses) → Long xs → Long (clauses_sizes p b xs cs)
  clauses_long p b xs NoClauses h = h
  clauses_long p b xs (MoreClauses q body cs) h = clauses_long p b (greatest xs (minus (block_sizes p no_sizes body) (given_sizes b q))) cs (both_long greater xs (minus (block_sizes p no_sizes body) (given_sizes b q)) h (both_long (λ m n. m - n) (block_sizes p no_sizes body) (given_sizes b q) (block_long p no_sizes body none_long) (given_long b q)))

-- ---- what it has there

sum_up : (x o m n : ℕ) → x ≡ n + o → x + m ≡ n + (o + m)
sum_up x o m n h = omega arith

mutual
  pub made_at : (k : ℕ) → 0 < k → k < 17 → (xs : List ℕ) (a : Argument) → Long xs → number (made_from xs a) k ≡ number xs k + made k a
  made_at k l u xs (Variable x n p) h = omega arith
  made_at k l u xs (Literal i p) h = omega arith
  made_at k l u xs (Constructor t d c n p as') h = made_all_at k l u (one_more (count as') xs) as' (one_more_long (count as') xs ∙ h) ∙ sum_up (number (one_more (count as') xs) k) (one_if (count as' == k)) (made_all k as') (number xs k) (one_more_at (count as') k xs l u h)

  pub made_all_at : (k : ℕ) → 0 < k → k < 17 → (xs : List ℕ) (as' : Arguments) → Long xs → number (made_all_from xs as') k ≡ number xs k + made_all k as'
  made_all_at k l u xs NoArguments h = omega arith
  made_all_at k l u xs (MoreArguments a as') h = made_all_at k l u (made_from xs a) as' (made_long xs a h) ∙ sum_up (number (made_from xs a) k) (made k a) (made_all k as') (number xs k) (made_at k l u xs a h)

mutual
  pub nodes_at : (k : ℕ) → 0 < k → k < 17 → (xs : List ℕ) (q : Pattern) → Long xs → number (nodes_from xs q) k ≡ number xs k + nodes k q
  nodes_at k l u xs (BinderPattern b) h = omega arith
  nodes_at k l u xs (LiteralPattern i p) h = omega arith
  nodes_at k l u xs (ConstructorPattern t d c n p ps) h = nodes_all_at k l u (one_more (count_patterns ps) xs) ps (one_more_long (count_patterns ps) xs ∙ h) ∙ sum_up (number (one_more (count_patterns ps) xs) k) (one_if (count_patterns ps == k)) (nodes_all k ps) (number xs k) (one_more_at (count_patterns ps) k xs l u h)

  nodes_all_at : (k : ℕ) → 0 < k → k < 17 → (xs : List ℕ) (ps : Patterns) → Long xs → number (nodes_all_from xs ps) k ≡ number xs k + nodes_all k ps
  nodes_all_at k l u xs NoPatterns h = omega arith
  nodes_all_at k l u xs (MorePatterns q ps) h = nodes_all_at k l u (nodes_from xs q) ps (nodes_long xs q h) ∙ sum_up (number (nodes_from xs q) k) (nodes k q) (nodes_all k ps) (number xs k) (nodes_at k l u xs q h)

marked_on : (k : ℕ) → 0 < k → k < 17 → (xs js : List ℕ) → Long xs → number (marked_from xs js) k ≡ number xs k + marked k js
marked_on k l u xs [] h = omega arith
marked_on k l u xs (j ∷ js) h = marked_on k l u (one_more j xs) js (one_more_long j xs ∙ h) ∙ sum_up (number (one_more j xs) k) (one_if (j == k)) (marked k js) (number xs k) (one_more_at j k xs l u h)

pub none_at : (k : ℕ) → number no_sizes k ≡ 0
none_at k = zeros_at 17 k

pub from_none : (x m n : ℕ) → x ≡ m + n → m ≡ 0 → x ≡ n
from_none x m n h g = omega arith

pub marked_at : (k : ℕ) → 0 < k → k < 17 → (js : List ℕ) → number (marked_from no_sizes js) k ≡ marked k js
marked_at k l u js = from_none (number (marked_from no_sizes js) k) (number no_sizes k) (marked k js) (marked_on k l u no_sizes js none_long) (none_at k)

pub both_at : (f : ℕ → ℕ → ℕ) (k : ℕ) (xs ys : List ℕ) → k < 17 → Long xs → Long ys → number (by_size f xs ys) k ≡ f (number xs k) (number ys k)
both_at f k xs ys u h g = by_size_at f k xs ys (omega arith) (h ∙ sym g)

asked_at : (k : ℕ) → 0 < k → k < 17 → (xs : List ℕ) (o : Option Instance) → Long xs → number (asked_from xs o) k ≡ number xs k + asked k o
asked_at k l u xs None h = omega arith
asked_at k l u xs (Some d) h = both_at (λ m n. m + n) k xs (marked_from no_sizes d.credits) u h (marked_long no_sizes d.credits none_long) ∙ ap (λ n. number xs k + n) (marked_at k l u d.credits)

pub given_at : (k : ℕ) → 0 < k → k < 17 → (b : Bool) (q : Pattern) → number (given_sizes b q) k ≡ given k b q
given_at k l u true q = from_none (number (nodes_from no_sizes q) k) (number no_sizes k) (nodes k q) (nodes_at k l u no_sizes q none_long) (none_at k)
given_at k l u false q = none_at k

left_at : (k : ℕ) (b : Bool) (q : Pattern) (xs : List ℕ) (n : ℕ) → 0 < k → k < 17 → Long xs → number xs k ≡ n → number (minus xs (given_sizes b q)) k ≡ n - given k b q
left_at k b q xs n l u h e = both_at (λ m n. m - n) k xs (given_sizes b q) u h (given_long b q) ∙ ap (λ m. m - number (given_sizes b q) k) e ∙ ap (λ g. n - g) (given_at k l u b q)

pub greater_none : (m : ℕ) → m ≡ greater m 0
greater_none m = grind (arith, nat_tests)

greater_more : (x y z : ℕ) → greater (greater x y) z ≡ greater x (greater y z)
greater_more x y z = grind (arith, nat_tests)

mutual
  pub sizes_at : (p : Program) (k : ℕ) → 0 < k → k < 17 → (e : Expression) → number (sizes p e) k ≡ need p k e
  sizes_at p k l u (Give a) = from_none (number (made_from no_sizes a) k) (number no_sizes k) (made k a) (made_at k l u no_sizes a none_long) (none_at k)
  sizes_at p k l u (Tuple q as') = from_none (number (made_all_from no_sizes as') k) (number no_sizes k) (made_all k as') (made_all_at k l u no_sizes as' none_long) (none_at k)
  sizes_at p k l u (Operation o q a b) =
      let e = from_none (number (made_from no_sizes a) k) (number no_sizes k) (made k a) (made_at k l u no_sizes a none_long) (none_at k) in
      made_at k l u (made_from no_sizes a) b (made_long no_sizes a none_long) ∙ ap (λ n. n + made k b) e
  sizes_at p k l u (Call g n q as') =
      let e = from_none (number (made_all_from no_sizes as') k) (number no_sizes k) (made_all k as') (made_all_at k l u no_sizes as' none_long) (none_at k) in
      asked_at k l u (made_all_from no_sizes as') (slice_get p.instances g) (made_all_long no_sizes as' none_long) ∙ ap (λ n. n + asked k (slice_get p.instances g)) e
  sizes_at p k l u (Match d t q a r body cs) =
      let tk = takes p d t in
      clauses_at p k l u tk (minus (block_sizes p no_sizes body) (given_sizes tk r)) cs (both_long (λ m n. m - n) (block_sizes p no_sizes body) (given_sizes tk r) (block_long p no_sizes body none_long) (given_long tk r))
      ∙ ap (λ n. greater n (need_clauses p k tk cs)) (left_at k tk r (block_sizes p no_sizes body) (need_block p k body) l u (block_long p no_sizes body none_long) (from_none (number (block_sizes p no_sizes body) k) (number no_sizes k) (need_block p k body) (block_on p k l u no_sizes body none_long) (none_at k)))
  sizes_at p k l u (Nested b) = from_none (number (block_sizes p no_sizes b) k) (number no_sizes k) (need_block p k b) (block_on p k l u no_sizes b none_long) (none_at k)

  block_on : (p : Program) (k : ℕ) → 0 < k → k < 17 → (xs : List ℕ) (b : Block) → Long xs → number (block_sizes p xs b) k ≡ number xs k + need_block p k b
  block_on p k l u xs (Last e) h = both_at (λ m n. m + n) k xs (sizes p e) u h (sizes_long p e) ∙ ap (λ n. number xs k + n) (sizes_at p k l u e)
  block_on p k l u xs (Let bs e rest) h = block_on p k l u (plus xs (sizes p e)) rest (both_long (λ m n. m + n) xs (sizes p e) h (sizes_long p e)) ∙ sum_up (number (plus xs (sizes p e)) k) (need p k e) (need_block p k rest) (number xs k) (both_at (λ m n. m + n) k xs (sizes p e) u h (sizes_long p e) ∙ ap (λ n. number xs k + n) (sizes_at p k l u e))

  clauses_at : (p : Program) (k : ℕ) → 0 < k → k < 17 → (b : Bool) (xs : List ℕ) (cs : Clauses) → Long xs → number (clauses_sizes p b xs cs) k ≡ greater (number xs k) (need_clauses p k b cs)
  clauses_at p k l u b xs NoClauses h = greater_none (number xs k)
  clauses_at p k l u b xs (MoreClauses q body cs) h =
      let ys = minus (block_sizes p no_sizes body) (given_sizes b q) in
      let g = both_long (λ m n. m - n) (block_sizes p no_sizes body) (given_sizes b q) (block_long p no_sizes body none_long) (given_long b q) in
      let e = left_at k b q (block_sizes p no_sizes body) (need_block p k body) l u (block_long p no_sizes body none_long) (from_none (number (block_sizes p no_sizes body) k) (number no_sizes k) (need_block p k body) (block_on p k l u no_sizes body none_long) (none_at k)) in
      clauses_at p k l u b (greatest xs ys) cs (both_long greater xs ys h g)
      ∙ ap (λ n. greater n (need_clauses p k b cs)) (both_at greater k xs ys u h g ∙ ap (greater (number xs k)) e)
      ∙ greater_more (number xs k) (need_block p k body - given k b q) (need_clauses p k b cs)

pub block_at : (p : Program) (k : ℕ) → 0 < k → k < 17 → (b : Block) → number (block_sizes p no_sizes b) k ≡ need_block p k b
block_at p k l u b = from_none (number (block_sizes p no_sizes b) k) (number no_sizes k) (need_block p k b) (block_on p k l u no_sizes b none_long) (none_at k)

pub clause_at : (p : Program) (k : ℕ) → 0 < k → k < 17 → (b : Bool) (q : Pattern) (body : Block) → number (clause_sizes p b q body) k ≡ need_clause p k b q body
clause_at p k l u b q body = left_at k b q (block_sizes p no_sizes body) (need_block p k body) l u (block_long p no_sizes body none_long) (block_at p k l u body)

pub expression_at : (p : Program) (k : ℕ) → 0 < k → k < 17 → (e : Expression) → number (sizes p e) k ≡ need p k e
expression_at p k l u e = sizes_at p k l u e
