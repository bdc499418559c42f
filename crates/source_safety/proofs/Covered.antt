-- What the report accepts of matches has a clause for each value.
use Rattle.std.proofs.Common.{◌≡◌, Bool, true, false, ◌&&◌, List, [], ◌∷◌, ◌++◌, map, is_some, Option, Some, None, if◌then◌else◌, ◌==◌, refl, sym, ap, ◌∙◌}
use Rattle.in_place_safety.specs.fip_language.Matching.{Binding as Bound, same_int, both}
use Rattle.in_place_safety.specs.fip_language.Table.{Table}
use Rattle.in_place_safety.specs.fip_language.Values.{Value, Int, Node, Values, End, More}
use Rattle.in_place_safety.specs.fip_trees.Tree as T
use Rattle.in_place_safety.specs.instance_semantics.Matching.{matching, matching_all}
use Rattle.in_place_safety.specs.type_safety.Exhaustive.{some_matches, ExhaustiveExpression, ExhaustiveBlock, ExhaustiveClauses, AreExhaustive}
use Rattle.specialisation_correctness.specs.source_report.match_knowledge.Patterns as K
use Rattle.specialisation_correctness.specs.source_report.TreeMatches.{bare, bare_all, Match, clause_patterns, matches, matches_block, matches_clauses}
use Rattle.specialisation_correctness.specs.source_report.MatchRules.{AreCovered, AllCovered}

-- ---- a pattern without names fits what the pattern matches

is_some_both : (a b : Option (List Bound)) → is_some (both a b) ≡ is_some a && is_some b
is_some_both None b = refl
is_some_both (Some xs) None = refl
is_some_both (Some xs) (Some ys) = refl

and_true : (b : Bool) → b && true ≡ b
and_true true = refl
and_true false = refl

is_some_if : (b : Bool) (o : Option (List Bound)) → is_some (if b then o else None) ≡ b && is_some o
is_some_if true o = refl
is_some_if false o = refl

mutual
  fits_is : (q : T.Pattern) (v : Value) → K.fits (bare q) v ≡ is_some (matching q v)
  fits_is (T.BinderPattern b) v = refl
  fits_is (T.LiteralPattern i p) (Int j) = and_true (same_int i j) ∙ sym (is_some_if (same_int i j) (Some []) ∙ and_true (same_int i j))
  fits_is (T.LiteralPattern i p) (Node c vs) = refl
  fits_is (T.ConstructorPattern t d k n p ps) (Int j) = refl
  fits_is (T.ConstructorPattern t d k n p ps) (Node c vs) = ap (λ b. (k == c) && b) (fit_all_is ps vs) ∙ sym (is_some_if (k == c) (matching_all ps vs))

  fit_all_is : (ps : T.Patterns) (vs : Values) → K.fit_all (bare_all ps) vs ≡ is_some (matching_all ps vs)
  fit_all_is T.NoPatterns End = refl
  fit_all_is T.NoPatterns (More v vs) = refl
  fit_all_is (T.MorePatterns q ps) End = refl
  fit_all_is (T.MorePatterns q ps) (More v vs) = ap (λ b. b && K.fit_all (bare_all ps) vs) (fits_is q v) ∙ ap (λ b. is_some (matching q v) && b) (fit_all_is ps vs) ∙ sym (is_some_both (matching q v) (matching_all ps vs))

some_is : (cs : T.Clauses) (v : Value) → K.some_fits (map bare (clause_patterns cs)) v ≡ some_matches cs v
some_is T.NoClauses v = refl
some_is (T.MoreClauses q body cs) v =
    ap (λ b. if b then true else K.some_fits (map bare (clause_patterns cs)) v) (fits_is q v)
    ∙ ap (λ b. if is_some (matching q v) then true else b) (some_is cs v)

-- ---- bodies

covered_append : (tb : Table) (ms ns : List Match) → AreCovered tb (ms ++ ns) → AreCovered tb ms × AreCovered tb ns
covered_append tb [] ns h = (tt, h)
covered_append tb (m ∷ ms) ns h = let r = covered_append tb ms ns h.1 in ((h.0, r.0), r.1)

module _ (tb : Table) where
  mutual
    expression_covered : (e : T.Expression) → AreCovered tb (matches e) → ExhaustiveExpression tb e
    expression_covered (T.Give a) h = tt
    expression_covered (T.Tuple p as') h = tt
    expression_covered (T.Operation o p l r) h = tt
    expression_covered (T.Call g n p as') h = tt
    expression_covered (T.Match k u p a q body cs) h =
        let s = covered_append tb (matches_block body) (matches_clauses cs) h.1 in
        ((λ v t. sym (some_is (T.MoreClauses q body cs) v) ∙ h.0.1 v t), block_covered body s.0, clauses_covered cs s.1)
    expression_covered (T.Nested b) h = block_covered b h

    block_covered : (b : T.Block) → AreCovered tb (matches_block b) → ExhaustiveBlock tb b
    block_covered (T.Last e) h = expression_covered e h
    block_covered (T.Let bs e rest) h =
        let s = covered_append tb (matches e) (matches_block rest) h in (expression_covered e s.0, block_covered rest s.1)

    clauses_covered : (cs : T.Clauses) → AreCovered tb (matches_clauses cs) → ExhaustiveClauses tb cs
    clauses_covered T.NoClauses h = tt
    clauses_covered (T.MoreClauses q body cs) h =
        let s = covered_append tb (matches_block body) (matches_clauses cs) h in (block_covered body s.0, clauses_covered cs s.1)

  pub covered_exhaustive : (ds : List T.Instance) → AllCovered tb ds → AreExhaustive tb ds
  covered_exhaustive [] h = tt
  covered_exhaustive (d ∷ ds) h = (block_covered d.body h.0, covered_exhaustive ds h.1)
