-- The matches and the lets of a body: where a match is, the type of what is matched, and the patterns of its
-- clauses; and of a let its binders. A match is before those of its clauses' bodies.
--
-- match! x { Nil -> y; Cons(a, t) -> f(t) } is one match, with the patterns Nil and Cons(a, t). The second one binds a
-- and t, and without names it is Cons(_, _).
use Rattle.std.specs.Prelude.{ℕ, List, [], ◌∷◌, ◌++◌}
use Rattle.cell_lower.specs.fip_language.declared.Place.{Place}
use Rattle.cell_lower.specs.fip_trees.declared.program.Binder.{Binder}
use Rattle.cell_lower.specs.fip_trees.Tree as T
use Rattle.cell_lower.specs.match_knowledge.declared.heads.Head.TheVariants.{Number, Tag}
use Rattle.cell_lower.specs.match_knowledge.Patterns as K

-- the pattern without names; a literal is a test of an int, type 0, without parts
abbrev mutual
  pub bare : T.Pattern → K.Pattern
  bare (T.BinderPattern b) = K.Any
  bare (T.LiteralPattern i p) = K.Test 0 (Number i) K.NoPatterns
  bare (T.ConstructorPattern t d c n p ps) = K.Test t (Tag c) (bare_all ps)

  pub bare_all : T.Patterns → K.Patterns
  bare_all T.NoPatterns = K.NoPatterns
  bare_all (T.MorePatterns p ps) = K.MorePatterns (bare p) (bare_all ps)

-- its variables, in the order of the text
abbrev mutual
  pub binders : T.Pattern → List Binder
  binders (T.BinderPattern b) = b ∷ []
  binders (T.LiteralPattern i p) = []
  binders (T.ConstructorPattern t d c n p ps) = binders_all ps

  pub binders_all : T.Patterns → List Binder
  binders_all T.NoPatterns = []
  binders_all (T.MorePatterns p ps) = binders p ++ binders_all ps

pub record Match : Type 0 where
  pub place : Place
  pub ty : ℕ
  pub patterns : List T.Pattern

abbrev pub clause_patterns : T.Clauses → List T.Pattern
clause_patterns T.NoClauses = []
clause_patterns (T.MoreClauses q body cs) = q ∷ clause_patterns cs

abbrev mutual
  pub matches : T.Expression → List Match
  matches (T.Give a) = []
  matches (T.Tuple p as') = []
  matches (T.Operation o p l r) = []
  matches (T.Call g n p as') = []
  matches (T.Match k u p a q body cs) =
      record { place = p; ty = u; patterns = q ∷ clause_patterns cs } ∷ (matches_block body ++ matches_clauses cs)
  matches (T.Nested b) = matches_block b

  pub matches_block : T.Block → List Match
  matches_block (T.Last e) = matches e
  matches_block (T.Let bs e rest) = matches e ++ matches_block rest

  pub matches_clauses : T.Clauses → List Match
  matches_clauses T.NoClauses = []
  matches_clauses (T.MoreClauses q body cs) = matches_block body ++ matches_clauses cs

-- the binders of each let
abbrev mutual
  pub lets : T.Expression → List (List Binder)
  lets (T.Give a) = []
  lets (T.Tuple p as') = []
  lets (T.Operation o p l r) = []
  lets (T.Call g n p as') = []
  lets (T.Match k u p a q body cs) = lets_block body ++ lets_clauses cs
  lets (T.Nested b) = lets_block b

  pub lets_block : T.Block → List (List Binder)
  lets_block (T.Last e) = lets e
  lets_block (T.Let bs e rest) = (bs ∷ lets e) ++ lets_block rest

  pub lets_clauses : T.Clauses → List (List Binder)
  lets_clauses T.NoClauses = []
  lets_clauses (T.MoreClauses q body cs) = lets_block body ++ lets_clauses cs
