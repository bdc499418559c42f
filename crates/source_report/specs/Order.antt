-- The binders of an instance are numbered in order: the parameters from 0, then the binders of the body, each where it
-- is put; so the binders within a let's bound expression come before those that the let binds. Each let binds
-- something.
--
-- In f(a) { let b = match! a { C(c) -> c }; b } the binders a, c and b have the numbers 0, 1 and 2.
use Rattle.std.specs.Prelude.{◌≡◌, ◌<◌, ◌+◌, ℕ, List, [], ◌∷◌, length}
use Rattle.cell_lower.specs.fip_trees.declared.program.Binder.{Binder}
use Rattle.cell_lower.specs.fip_trees.Tree.{Pattern, BinderPattern, LiteralPattern, ConstructorPattern, Patterns, NoPatterns}
use Rattle.cell_lower.specs.fip_trees.Tree.{MorePatterns, Expression, Give, Tuple, Operation, Call, Match, Nested, Block, Last}
use Rattle.cell_lower.specs.fip_trees.Tree.{Let, Clauses, NoClauses, MoreClauses, Instance}

-- Some binders have the numbers from n on, and the next number is m.
abbrev pub From : ℕ → ℕ → List Binder → Type 0
From n m [] = n ≡ m
From n m (b ∷ bs) = (b.number ≡ n) × From (n + 1) m bs

-- The binders in a pattern, an expression, a block or clauses have the numbers from n on, and the next number is m.
abbrev mutual
  pub SpansPattern : ℕ → ℕ → Pattern → Type 0
  SpansPattern n m (BinderPattern b) = (b.number ≡ n) × (n + 1 ≡ m)
  SpansPattern n m (LiteralPattern i p) = n ≡ m
  SpansPattern n m (ConstructorPattern t d c x p ps) = SpansPatterns n m ps

  pub SpansPatterns : ℕ → ℕ → Patterns → Type 0
  SpansPatterns n m NoPatterns = n ≡ m
  SpansPatterns n m (MorePatterns p ps) = (k : ℕ) × SpansPattern n k p × SpansPatterns k m ps

abbrev mutual
  pub Spans : ℕ → ℕ → Expression → Type 0
  Spans n m (Give a) = n ≡ m
  Spans n m (Tuple p as') = n ≡ m
  Spans n m (Operation o p l r) = n ≡ m
  Spans n m (Call g x p as') = n ≡ m
  Spans n m (Match d t p a q b cs) =
      (j : ℕ) × (k : ℕ) × SpansPattern n j q × SpansBlock j k b × SpansClauses k m cs
  Spans n m (Nested b) = SpansBlock n m b

  pub SpansBlock : ℕ → ℕ → Block → Type 0
  SpansBlock n m (Last e) = Spans n m e
  SpansBlock n m (Let bs e rest) =
      (j : ℕ) × (k : ℕ) × (0 < length bs) × Spans n j e × From j k bs × SpansBlock k m rest

  pub SpansClauses : ℕ → ℕ → Clauses → Type 0
  SpansClauses n m NoClauses = n ≡ m
  SpansClauses n m (MoreClauses q b cs) =
      (j : ℕ) × (k : ℕ) × SpansPattern n j q × SpansBlock j k b × SpansClauses k m cs

-- an instance: it has a binder for each parameter, and these come first
pub record IsOrdered (d : Instance) : Type 0 where
  pub as_many : length d.binders ≡ length d.params
  pub parameters : From 0 (length d.params) d.binders
  pub next : ℕ
  pub body : SpansBlock (length d.params) next d.body
