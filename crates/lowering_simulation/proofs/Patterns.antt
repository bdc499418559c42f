-- The patterns of a typed program's matches are of the matches' types.
use Rattle.std.proofs.Common.{◌≡◌, refl, sym, ap, ◌∙◌, subst, ℕ, zero, suc, ◌<◌, arith, Bool, true, List, [], ◌∷◌, ◌++◌, length, map, Option, Some, slice_get}
use Rattle.tree_refinement.specs.fip_language.Every.{Every}
use Rattle.tree_refinement.specs.fip_language.Table.{Shape, Table, shapes, constructors}
use Rattle.lowering_relation.specs.fip_trees.Tree.{Pattern, BinderPattern, LiteralPattern, ConstructorPattern, Patterns, NoPatterns, MorePatterns, Expression, Give, Tuple, Operation, Call, Match, Nested, Block, Last, Let, Clauses, NoClauses, MoreClauses, Instance, Program}
use Rattle.type_safety.specs.type_check.Binders.{all_annotated, entries}
use Rattle.type_safety.specs.type_check.Scope.{Scope}
use Rattle.type_safety.specs.type_check.World.{World, world, fields_of}
use Rattle.type_safety.specs.type_check.Typing.{bound_by, Types, TypesBlock, TypesClauses, IsPattern, ArePatterns, parameter_scope, AllTyped, IsFilled}
use Rattle.type_safety.proofs.Scopes.{fields_are}
use Rattle.lowering_relation.specs.match_knowledge.declared.heads.Head.TheVariants.{Number, Tag}
use Rattle.lowering_relation.specs.match_knowledge.ValueHeads.{IsHead}
use Rattle.lowering_relation.specs.match_knowledge.Patterns as M
use Rattle.lowering_relation.specs.Rows.{row_of, rows_of}
use Rattle.lowering_relation.specs.WellMatched.{WellMatched, WellMatchedBlock, WellMatchedClauses, IsWellMatched, FormedPattern, FormedPatterns, PatternsFormed, PatternsFormedBlock, PatternsFormedClauses, ArePatternsFormed}

there : (xs : List Shape) (c : ℕ) → c < length xs → (s : Shape) × (slice_get xs c ≡ Some s)
there [] c l = absurd (omega (arith, l))
there (x ∷ xs) zero l = (x, refl)
there (x ∷ xs) (suc c) l = there xs c (omega (arith, l))

-- the head of a constructor that is there
head_of : (w : World) (t c : ℕ) → c < length (constructors w.types t) → IsHead w.types t (Tag c) (fields_of w t c)
head_of w zero c l = absurd (omega (arith, l))
head_of w (suc t) c l = let s = there (shapes w.types t) c l in (s.0, s.1, sym (fields_are (shapes w.types t) c s.0 s.1))

mutual
  pattern_is : (w : World) (t : ℕ) (q : Pattern) → IsPattern true w t q → FormedPattern w.types q → M.IsPattern w.types t (row_of q)
  pattern_is w t (BinderPattern b) h f = tt
  pattern_is w t (LiteralPattern i p) h f = (sym h, [], subst (λ u. IsHead w.types u (Number i) []) (sym h) (f, refl), tt)
  pattern_is w t (ConstructorPattern u d c n p ps) h f = (
    h.0,
    fields_of w t c,
    head_of w t c (subst (λ x. c < length (constructors w.types x)) h.0 f.0),
    patterns_are w (fields_of w t c) ps h.2 f.1,
  )

  patterns_are : (w : World) (ts : List ℕ) (ps : Patterns) → ArePatterns true w ts ps → FormedPatterns w.types ps → M.ArePatterns w.types ts (rows_of ps)
  patterns_are w [] NoPatterns h f = tt
  patterns_are w [] (MorePatterns p ps) h f = absurd h
  patterns_are w (t ∷ ts) NoPatterns h f = absurd h
  patterns_are w (t ∷ ts) (MorePatterns p ps) h f = (pattern_is w t p h.0 f.0, patterns_are w ts ps h.1 f.1)

mutual
  expression_is : (w : World) (s : Scope) (b : Bool) (e : Expression) (ts : List ℕ) → Types true w s b e ts → PatternsFormed w.types e → WellMatched w.types e
  expression_is w s b (Give a) ts h f = tt
  expression_is w s b (Tuple p as') ts h f = tt
  expression_is w s b (Operation o p l r) ts h f = tt
  expression_is w s b (Call g n p as') ts h f = tt
  expression_is w s b (Match ds u p a q body cs) ts h f = (
    subst (λ t. M.IsPattern w.types t (row_of q)) (sym h.1) (pattern_is w h.0 q h.3 f.0),
    block_is w (s ++ bound_by w (Some h.0) q) b body ts h.4 f.1,
    subst (λ t. WellMatchedClauses w.types t cs) (sym h.1) (clauses_are w s h.0 cs ts h.5 f.2),
  )
  expression_is w s b (Nested e) ts h f = block_is w s b e ts h f

  block_is : (w : World) (s : Scope) (b : Bool) (e : Block) (ts : List ℕ) → TypesBlock true w s b e ts → PatternsFormedBlock w.types e → WellMatchedBlock w.types e
  block_is w s b (Last e) ts h f = expression_is w s b e ts h f
  block_is w s b (Let bs e rest) ts h f =
      (expression_is w s (all_annotated bs) e h.0 h.1 f.0, block_is w (s ++ entries bs (map Some h.0)) b rest ts h.3 f.1)

  clauses_are : (w : World) (s : Scope) (t : ℕ) (cs : Clauses) (ts : List ℕ) → TypesClauses true w s t cs ts → PatternsFormedClauses w.types cs → WellMatchedClauses w.types t cs
  clauses_are w s t NoClauses ts h f = tt
  clauses_are w s t (MoreClauses q body cs) ts h f =
      (pattern_is w t q h.0 f.0, block_is w (s ++ bound_by w (Some t) q) true body ts h.1 f.1, clauses_are w s t cs ts h.2 f.2)

all_are : (w : World) (ds : List Instance) → AllTyped true w ds → Every (λ (d : Instance). PatternsFormedBlock w.types d.body) ds → Every (λ (d : Instance). WellMatchedBlock w.types d.body) ds
all_are w [] h f = tt
all_are w (d ∷ ds) h f = (block_is w (parameter_scope d) true d.body d.results h.0.3 f.0, all_are w ds h.1 f.1)

pub well_matched : (p : Program) → IsFilled p → ArePatternsFormed p → IsWellMatched p
well_matched p h f = all_are (world p) p.instances h f
