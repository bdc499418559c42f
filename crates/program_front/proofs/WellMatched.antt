-- The patterns of the matches of a source's typed program are of the matches' types, so its code is what lowering
-- promises.
-- Idea: a pattern's literals have 64 bits, and its constructor is one of each type that its data type declares; typing
-- says that the type in its slot is such a one.
use Rattle.std.proofs.Common.{◌≡◌, ◌<◌, ◌==◌, inl, inr, ℕ, zero, suc, Bool, true, List, [], ◌∷◌, ◌++◌, length, map, Option, Some, None, slice_get, refl, sym, ap, ◌∙◌, subst, arith}
use Rattle.std.proofs.lemmas.Bool.Decides.{nat_tests}
use Rattle.fip_language.specs.Every.{Every, Among}
use Rattle.fip_language.specs.Table.{constructors}
use Rattle.fip_trees.specs.Tree.{Pattern, BinderPattern, LiteralPattern, ConstructorPattern, Patterns, NoPatterns, MorePatterns, Expression, Give, Tuple, Operation, Call, Match, Nested, Block, Last, Let, Clauses, NoClauses, MoreClauses, Instance, Program}
use Rattle.type_check.specs.Binders.{all_annotated, entries}
use Rattle.type_check.specs.Scope.{Scope}
use Rattle.type_check.specs.Typing.{bound_by, Types, TypesBlock, TypesClauses, IsPattern, ArePatterns, parameter_scope, AllTyped}
use Rattle.type_check.specs.World.{world, is_number, numbered, fields_of}
use Rattle.cell_lower.specs.lowering_relation.WellMatched.{IsWellMatched, FormedPattern, FormedPatterns, PatternsFormed, PatternsFormedBlock, PatternsFormedClauses}
use Rattle.source_report.proofs.lowering_simulation.Patterns.{well_matched}
use Rattle.source_report.specs.Literals.{FitsPattern, FitPatterns, Fits, FitsBlock, FitClauses}
use Rattle.source_report.specs.Report.{IsTyped}
use Rattle.source_report.specs.WellFormed.{IsKnownPattern, AreKnownPatterns, IsKnown, IsKnownBlock, AreKnownClauses, IsKnownInstance}
use Rattle.source_report.proofs.Ready.{typed_formed, typed_fits}
use Rattle.source_report.proofs.Sizing.{typed_filled}
use Rattle.fip_language.proofs.Facts.{same_number}

-- ---- the type that a data type declares

declared_at : (xs : List ℕ) (t d : ℕ) → is_number (numbered xs t) d ≡ true → (n : ℕ) × (t ≡ suc n) × (slice_get xs n ≡ Some d)
declared_at xs zero d e = absurd (cc)
declared_at xs (suc n) d e = by (slice_get xs n) refl
  where
    by : (o : Option ℕ) → slice_get xs n ≡ o → (m : ℕ) × (suc n ≡ suc m) × (slice_get xs m ≡ Some d)
    by None f = let r : is_number None d ≡ true = subst (λ o. is_number o d ≡ true) f e in absurd (cc)
    by (Some k) f = let r : (k == d) ≡ true = subst (λ o. is_number o d ≡ true) f e in (n, refl, f ∙ ap (λ m. Some m) (same_number k d r))

-- ---- patterns

module _ (p : Program) where
  mutual
    pattern_formed : (t : ℕ) (q : Pattern) → IsPattern true (world p) t q → IsKnownPattern p q → FitsPattern q → FormedPattern p.types q
    pattern_formed t (BinderPattern b) h k l = tt
    pattern_formed t (LiteralPattern i q) h k l = l
    pattern_formed t (ConstructorPattern u d c n q ps) h k l =
        let at = declared_at p.declaring t d h.1 in
        (subst (λ x. c < length (constructors p.types x)) (sym (h.0 ∙ at.1)) (k.0 at.0 at.2), patterns_formed (fields_of (world p) t c) ps h.2 k.1 l)

    patterns_formed : (ts : List ℕ) (ps : Patterns) → ArePatterns true (world p) ts ps → AreKnownPatterns p ps → FitPatterns ps → FormedPatterns p.types ps
    patterns_formed [] NoPatterns h k l = tt
    patterns_formed [] (MorePatterns q qs) h k l = absurd h
    patterns_formed (t ∷ ts) NoPatterns h k l = absurd h
    patterns_formed (t ∷ ts) (MorePatterns q qs) h k l = (pattern_formed t q h.0 k.0 l.0, patterns_formed ts qs h.1 k.1 l.1)

  -- ---- bodies

  mutual
    expression_formed : (s : Scope) (b : Bool) (e : Expression) (ts : List ℕ) → Types true (world p) s b e ts → IsKnown p e → Fits e → PatternsFormed p.types e
    expression_formed s b (Give a) ts h k l = tt
    expression_formed s b (Tuple q as') ts h k l = tt
    expression_formed s b (Operation o q x y) ts h k l = tt
    expression_formed s b (Call g n q as') ts h k l = tt
    expression_formed s b (Match d u q a r body cs) ts h k l = (
      pattern_formed h.0 r h.3 k.0 l.0,
      block_formed (s ++ bound_by (world p) (Some h.0) r) b body ts h.4 k.1 l.1,
      clauses_formed s h.0 cs ts h.5 k.2 l.2,
    )
    expression_formed s b (Nested d) ts h k l = block_formed s b d ts h k l

    block_formed : (s : Scope) (b : Bool) (d : Block) (ts : List ℕ) → TypesBlock true (world p) s b d ts → IsKnownBlock p d → FitsBlock d → PatternsFormedBlock p.types d
    block_formed s b (Last e) ts h k l = expression_formed s b e ts h k l
    block_formed s b (Let bs e rest) ts h k l =
        (expression_formed s (all_annotated bs) e h.0 h.1 k.0 l.0, block_formed (s ++ entries bs (map Some h.0)) b rest ts h.3 k.1 l.1)

    clauses_formed : (s : Scope) (t : ℕ) (cs : Clauses) (ts : List ℕ) → TypesClauses true (world p) s t cs ts → AreKnownClauses p cs → FitClauses cs → PatternsFormedClauses p.types cs
    clauses_formed s t NoClauses ts h k l = tt
    clauses_formed s t (MoreClauses r body cs) ts h k l =
        (pattern_formed t r h.0 k.0 l.0, block_formed (s ++ bound_by (world p) (Some t) r) true body ts h.1 k.1 l.1, clauses_formed s t cs ts h.2 k.2 l.2)

  instances_formed : (ds : List Instance) → AllTyped true (world p) ds → ((d : Instance) → Among d ds → IsKnownInstance p d) → ((d : Instance) → Among d ds → FitsBlock d.body) → Every (λ (d : Instance). PatternsFormedBlock p.types d.body) ds
  instances_formed [] h k l = tt
  instances_formed (d ∷ ds) h k l = (
    block_formed (parameter_scope d) true d.body d.results h.0.3 (k d (inl refl)).body (l d (inl refl)),
    instances_formed ds h.1 (λ e a. k e (inr a)) (λ e a. l e (inr a)),
  )

-- ---- the program of a source

pub typed_well_matched : (source : List ℕ) (p : Program) → IsTyped source p → IsWellMatched p
typed_well_matched source p h =
    let filled = typed_filled source p h in
    well_matched p filled (instances_formed p p.instances filled (typed_formed source p h).instances (typed_fits source p h))
