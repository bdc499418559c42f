-- The rules on matches don't see where trees lie in memory: instances with the same trees break the same.
use Rattle.std.proofs.Common.{◌≡◌, ◌⊎◌, inl, inr, ℕ, suc, List, [], ◌∷◌, ◌++◌, if◌then◌else◌, refl, sym, ap, ap₂, ◌∙◌, map, subst, append_assoc}
use Rattle.cell_lower.specs.fip_language.declared.Place.{Place}
use Rattle.cell_lower.specs.fip_language.declared.rule.Rule.TheVariants.{E43}
use Rattle.cell_lower.specs.fip_language.Table.{Table}
use Rattle.cell_lower.specs.fip_trees.Tree as T
use Rattle.cell_lower.specs.fip_trees.TreeView as V
use Rattle.cell_lower.specs.fip_trees.Least.{violation, IsLeastOf}
use Rattle.cell_lower.specs.fip_trees.declared.least.Violation.{Violation}
use Rattle.cell_lower.specs.fip_trees.declared.program.Binder.{Binder}
use Rattle.cell_lower.specs.fip_trees.declared.program.Instance.{Instance}
use Rattle.cell_lower.specs.fip_trees.declared.program.Expression.{Expression, roll-Expression}
use Rattle.cell_lower.specs.fip_trees.declared.program.Expression.TheOpen as E
use Rattle.cell_lower.specs.fip_trees.declared.program.Expression.TheFolds.{fold-roll-Expression, fold-roll-Block, fold-roll-Binding, fold-roll-Clause, map-Expression, map-Block, map-Binding, map-Clause, ind-Block}
use Rattle.cell_lower.specs.fip_trees.declared.program.Block.{Block, roll-Block}
use Rattle.cell_lower.specs.fip_trees.declared.program.Binding.{Binding, roll-Binding}
use Rattle.cell_lower.specs.fip_trees.declared.program.Clause.{Clause, roll-Clause}
use Rattle.cell_lower.specs.fip_trees.declared.program.Pattern.{Pattern, roll-Pattern}
use Rattle.cell_lower.specs.fip_trees.declared.program.Pattern.TheOpen as N
use Rattle.cell_lower.specs.fip_trees.declared.program.Pattern.TheFolds.{fold-roll-Pattern, map-Pattern, ind-Pattern}
use Rattle.cell_lower.specs.match_knowledge.Patterns as K
use Rattle.cell_lower.specs.match_cover.PatternView.{erased, pattern_place, place_step, pattern_binders, binders_step, joined}
use Rattle.cell_lower.specs.match_cover.Matches.{Match, block_matches}
use Rattle.cell_lower.specs.match_cover.Lets.{Lets, expression_step, binding_step, block_step, clause_step, expression_lets, binding_lets, block_lets, clause_lets}
use Rattle.cell_lower.specs.match_cover.Shapes.{is_large, twice_faults, patterns_faults, matches_faults, lets_faults, shape_faults}
use Rattle.cell_lower.specs.match_cover.Coverage.{Uncovered, Unreached, SomeUnreached, SomeBreaks, CoverFault, AllFit, AreReached, IsCovered, AreCovered, AllCovered}
use Rattle.cell_lower.specs.match_knowledge.Left.{Reached}
use Rattle.cell_lower.specs.match_cover.Answers.{IsLeastCoverFault, IsRight}
use Rattle.source_report.specs.TreeMatches.{bare as plain, binders, binders_all, Match as PlainMatch, matches_block, lets, lets_block, lets_clauses}
use Rattle.source_report.specs.MatchRules as R
use Rattle.source_report.specs.MatchRules.{patterns_faults as plain_twice, matches_faults as plain_matches, shape_faults as plain_shapes, SomeUnreached as PlainUnreached, SomeBreaks as SomePlain, CoverFault as PlainFault}
use Rattle.source_report.proofs.Erasing.{erased_is}
use Rattle.source_report.proofs.Matching.{match_view, matches_are}

-- ---- patterns: their places and their binders

place_is : (q : Pattern) → pattern_place q ≡ T.pattern_place (V.pattern q)
place_is q = ind-Pattern (λ q. pattern_place q ≡ T.pattern_place (V.pattern q)) (λ x y e. by x) q
  where
    layer : (x : N.Pattern-F Pattern) → place_step (map-Pattern Pattern Place pattern_place x) ≡ T.pattern_place (V.pattern_step (map-Pattern Pattern T.Pattern V.pattern x))
    layer (N.Binder b) = refl
    layer (N.Literal v p) = refl
    layer (N.Constructor t d c n p ps) = refl

    by : (x : N.Pattern-F Pattern) → pattern_place (roll-Pattern x) ≡ T.pattern_place (V.pattern (roll-Pattern x))
    by x = fold-roll-Pattern Place place_step x ∙ layer x ∙ sym (ap T.pattern_place (fold-roll-Pattern T.Pattern V.pattern_step x))

module _ {S : Type 0} (f : S → Pattern) (ok : (s : S) → pattern_binders (f s) ≡ binders (V.pattern (f s))) where
  rows_bind : (ss : List S) → joined (map pattern_binders (map f ss)) ≡ binders_all (V.patterns_of (map V.pattern (map f ss)))
  rows_bind [] = refl
  rows_bind (s ∷ ss) = ap₂ (λ xs ys. xs ++ ys) (ok s) (rows_bind ss)

  layer_binds : (y : N.Pattern-F S) → binders_step (map-Pattern Pattern (List Binder) pattern_binders (map-Pattern S Pattern f y)) ≡ binders (V.pattern_step (map-Pattern Pattern T.Pattern V.pattern (map-Pattern S Pattern f y)))
  layer_binds (N.Binder b) = refl
  layer_binds (N.Literal v p) = refl
  layer_binds (N.Constructor t d c n p ps) = rows_bind ps.items

  step_binds : (y : N.Pattern-F S) → pattern_binders (roll-Pattern (map-Pattern S Pattern f y)) ≡ binders (V.pattern (roll-Pattern (map-Pattern S Pattern f y)))
  step_binds y = fold-roll-Pattern (List Binder) binders_step (map-Pattern S Pattern f y) ∙ layer_binds y ∙ sym (ap binders (fold-roll-Pattern T.Pattern V.pattern_step (map-Pattern S Pattern f y)))

binders_are : (q : Pattern) → pattern_binders q ≡ binders (V.pattern q)
binders_are q = ind-Pattern (λ q. pattern_binders q ≡ binders (V.pattern q)) (λ x y e. subst (λ x. pattern_binders (roll-Pattern x) ≡ binders (V.pattern (roll-Pattern x))) e (step_binds (λ e. e.0) (λ e. e.1) y)) q

-- ---- lets

abbrev IsExpression : Expression → Type 0
IsExpression x = expression_lets x ≡ lets (V.expression x)

abbrev IsBinding : Binding → Type 0
IsBinding x = binding_lets x ≡ (V.binding x).binders ∷ lets (V.binding x).bound

abbrev IsBlock : Block → Type 0
IsBlock x = block_lets x ≡ lets_block (V.block x)

abbrev IsClause : Clause → Type 0
IsClause x = clause_lets x ≡ lets_block (V.clause x).body

module _ {SE SI SB SC : Type 0} (fe : SE → Expression) (fi : SI → Binding) (fb : SB → Block) (fc : SC → Clause)
    (oke : (s : SE) → IsExpression (fe s)) (oki : (s : SI) → IsBinding (fi s)) (okb : (s : SB) → IsBlock (fb s)) (okc : (s : SC) → IsClause (fc s)) where
  abbrev to_expression : E.Expression-F SE SI SB SC → E.Expression-F Expression Binding Block Clause
  to_expression = map-Expression SE SI SB SC Expression Binding Block Clause fe fi fb fc

  abbrev to_binding : E.Binding-F SE SI SB SC → E.Binding-F Expression Binding Block Clause
  to_binding = map-Binding SE SI SB SC Expression Binding Block Clause fe fi fb fc

  abbrev to_block : E.Block-F SE SI SB SC → E.Block-F Expression Binding Block Clause
  to_block = map-Block SE SI SB SC Expression Binding Block Clause fe fi fb fc

  abbrev to_clause : E.Clause-F SE SI SB SC → E.Clause-F Expression Binding Block Clause
  to_clause = map-Clause SE SI SB SC Expression Binding Block Clause fe fi fb fc

  clauses_lets : (ss : List SC) → joined (map clause_lets (map fc ss)) ≡ lets_clauses (V.clauses_of (map V.clause (map fc ss)))
  clauses_lets [] = refl
  clauses_lets (s ∷ ss) = ap₂ (λ xs ys. xs ++ ys) (okc s) (clauses_lets ss)

  bindings_lets : (ss : List SI) (l : Lets) (e : T.Expression) → l ≡ lets e → joined (map binding_lets (map fi ss)) ++ l ≡ lets_block (V.block_of (map V.binding (map fi ss)) e)
  bindings_lets [] l e h = h
  bindings_lets (s ∷ ss) l e h =
      append_assoc (binding_lets (fi s)) (joined (map binding_lets (map fi ss))) l ∙ ap₂ (λ xs ys. xs ++ ys) (oki s) (bindings_lets ss l e h)

  expression_layer : (y : E.Expression-F SE SI SB SC) →
      expression_step (map-Expression Expression Binding Block Clause Lets Lets Lets Lets expression_lets binding_lets block_lets clause_lets (to_expression y)) ≡
      lets (V.expression_step (map-Expression Expression Binding Block Clause T.Expression V.BoundPart T.Block V.Case V.expression V.binding V.block V.clause (to_expression y)))
  expression_layer (E.Give a) = refl
  expression_layer (E.Tuple p as') = refl
  expression_layer (E.Operation o p l r) = refl
  expression_layer (E.Call g n p as') = refl
  expression_layer (E.Match k u p a c cs) = ap₂ (λ xs ys. xs ++ ys) (okc c.value) (clauses_lets cs.items)
  expression_layer (E.Nested b) = okb b.value

  expression_ok : (y : E.Expression-F SE SI SB SC) → IsExpression (roll-Expression (to_expression y))
  expression_ok y =
      fold-roll-Expression Lets Lets Lets Lets expression_step binding_step block_step clause_step (to_expression y) ∙ expression_layer y ∙
      sym (ap lets (fold-roll-Expression T.Expression V.BoundPart T.Block V.Case V.expression_step V.binding_step V.block_step V.clause_step (to_expression y)))

  binding_ok : (y : E.Binding-F SE SI SB SC) → IsBinding (roll-Binding (to_binding y))
  binding_ok y =
      fold-roll-Binding Lets Lets Lets Lets expression_step binding_step block_step clause_step (to_binding y) ∙
      ap (λ ls. y.binders.items ∷ ls) (oke y.bound) ∙
      sym (ap (λ (b : V.BoundPart). b.binders ∷ lets b.bound) (fold-roll-Binding T.Expression V.BoundPart T.Block V.Case V.expression_step V.binding_step V.block_step V.clause_step (to_binding y)))

  block_ok : (y : E.Block-F SE SI SB SC) → IsBlock (roll-Block (to_block y))
  block_ok y =
      fold-roll-Block Lets Lets Lets Lets expression_step binding_step block_step clause_step (to_block y) ∙
      bindings_lets y.bindings.items (expression_lets (fe y.last)) (V.expression (fe y.last)) (oke y.last) ∙
      sym (ap lets_block (fold-roll-Block T.Expression V.BoundPart T.Block V.Case V.expression_step V.binding_step V.block_step V.clause_step (to_block y)))

  clause_ok : (y : E.Clause-F SE SI SB SC) → IsClause (roll-Clause (to_clause y))
  clause_ok y =
      fold-roll-Clause Lets Lets Lets Lets expression_step binding_step block_step clause_step (to_clause y) ∙ okb y.body ∙
      sym (ap (λ (c : V.Case). lets_block c.body) (fold-roll-Clause T.Expression V.BoundPart T.Block V.Case V.expression_step V.binding_step V.block_step V.clause_step (to_clause y)))

lets_are : (d : Block) → block_lets d ≡ lets_block (V.block d)
lets_are d =
    ind-Block IsExpression IsBinding IsBlock IsClause
    (λ x y e. subst (λ x. IsExpression (roll-Expression x)) e (expression_ok (λ e. e.0) (λ e. e.0) (λ e. e.0) (λ e. e.0) (λ e. e.1) (λ e. e.1) (λ e. e.1) (λ e. e.1) y))
    (λ x y e. subst (λ x. IsBinding (roll-Binding x)) e (binding_ok (λ e. e.0) (λ e. e.0) (λ e. e.0) (λ e. e.0) (λ e. e.1) (λ e. e.1) (λ e. e.1) (λ e. e.1) y))
    (λ x y e. subst (λ x. IsBlock (roll-Block x)) e (block_ok (λ e. e.0) (λ e. e.0) (λ e. e.0) (λ e. e.0) (λ e. e.1) (λ e. e.1) (λ e. e.1) (λ e. e.1) y))
    (λ x y e. subst (λ x. IsClause (roll-Clause x)) e (clause_ok (λ e. e.0) (λ e. e.0) (λ e. e.0) (λ e. e.0) (λ e. e.1) (λ e. e.1) (λ e. e.1) (λ e. e.1) y))
    d

-- ---- E42 and E43

rows_are : (qs : List Pattern) → map erased qs ≡ map plain (map V.pattern qs)
rows_are [] = refl
rows_are (q ∷ qs) = ap₂ (λ p ps. p ∷ ps) (erased_is q) (rows_are qs)

twice_are : (i : ℕ) (qs : List Pattern) → patterns_faults i qs ≡ plain_twice i (map V.pattern qs)
twice_are i [] = refl
twice_are i (q ∷ qs) = ap₂ (λ xs ys. xs ++ ys) (ap (twice_faults i []) (binders_are q)) (twice_are i qs)

matches_faults_are : (i : ℕ) (ms : List Match) → matches_faults i ms ≡ plain_matches i (map match_view ms)
matches_faults_are i [] = refl
matches_faults_are i (m ∷ ms) =
    ap₂ (λ xs ys. xs ++ ys) (ap (λ rs. if is_large rs then violation E43 m.place i 0 [] ∷ [] else []) (rows_are m.clauses))
    (ap₂ (λ xs ys. xs ++ ys) (twice_are i m.clauses) (matches_faults_are i ms))

pub shapes_are : (i : ℕ) (ds : List Instance) → shape_faults i ds ≡ plain_shapes i (V.instances ds)
shapes_are i [] = refl
shapes_are i (d ∷ ds) =
    ap₂ (λ xs ys. xs ++ ys)
    (ap₂ (λ xs ys. xs ++ ys) (matches_faults_are i (block_matches d.body) ∙ ap (plain_matches i) (matches_are d.body)) (ap (lets_faults i) (lets_are d.body)))
    (shapes_are (suc i) ds)

-- ---- E40 and E41

unreached_forth : (tb : Table) (i t : ℕ) (before : List K.Pattern) (qs : List Pattern) (v : Violation) → SomeUnreached tb i t before qs v → PlainUnreached tb i t before (map V.pattern qs) v
unreached_forth tb i t before [] v h = absurd h
unreached_forth tb i t before (q ∷ qs) v (inl h) =
    inl (subst (λ p. Unreached tb i p t before (plain (V.pattern q)) v) (place_is q) (subst (λ r. Unreached tb i (pattern_place q) t before r v) (erased_is q) h))
unreached_forth tb i t before (q ∷ qs) v (inr h) =
    inr (unreached_forth tb i t (before ++ plain (V.pattern q) ∷ []) qs v (subst (λ r. SomeUnreached tb i t (before ++ r ∷ []) qs v) (erased_is q) h))

unreached_back : (tb : Table) (i t : ℕ) (before : List K.Pattern) (qs : List Pattern) (v : Violation) → PlainUnreached tb i t before (map V.pattern qs) v → SomeUnreached tb i t before qs v
unreached_back tb i t before [] v h = absurd h
unreached_back tb i t before (q ∷ qs) v (inl h) =
    inl (subst (λ p. Unreached tb i p t before (erased q) v) (sym (place_is q)) (subst (λ r. Unreached tb i (T.pattern_place (V.pattern q)) t before r v) (sym (erased_is q)) h))
unreached_back tb i t before (q ∷ qs) v (inr h) =
    inr (subst (λ r. SomeUnreached tb i t (before ++ r ∷ []) qs v) (sym (erased_is q)) (unreached_back tb i t (before ++ plain (V.pattern q) ∷ []) qs v h))

matches_forth : (tb : Table) (i : ℕ) (ms : List Match) (v : Violation) → SomeBreaks tb i ms v → SomePlain tb i (map match_view ms) v
matches_forth tb i [] v h = absurd h
matches_forth tb i (m ∷ ms) v (inl (inl h)) = inl (inl (unreached_forth tb i m.ty [] m.clauses v h))
matches_forth tb i (m ∷ ms) v (inl (inr h)) = inl (inr (subst (λ rs. Uncovered tb i m.place m.ty rs v) (rows_are m.clauses) h))
matches_forth tb i (m ∷ ms) v (inr h) = inr (matches_forth tb i ms v h)

matches_back : (tb : Table) (i : ℕ) (ms : List Match) (v : Violation) → SomePlain tb i (map match_view ms) v → SomeBreaks tb i ms v
matches_back tb i [] v h = absurd h
matches_back tb i (m ∷ ms) v (inl (inl h)) = inl (inl (unreached_back tb i m.ty [] m.clauses v h))
matches_back tb i (m ∷ ms) v (inl (inr h)) = inl (inr (subst (λ rs. Uncovered tb i m.place m.ty rs v) (sym (rows_are m.clauses)) h))
matches_back tb i (m ∷ ms) v (inr h) = inr (matches_back tb i ms v h)

pub fault_forth : (tb : Table) (i : ℕ) (ds : List Instance) (v : Violation) → CoverFault tb i ds v → PlainFault tb i (V.instances ds) v
fault_forth tb i [] v h = absurd h
fault_forth tb i (d ∷ ds) v (inl h) = inl (subst (λ ms. SomePlain tb i ms v) (matches_are d.body) (matches_forth tb i (block_matches d.body) v h))
fault_forth tb i (d ∷ ds) v (inr h) = inr (fault_forth tb (suc i) ds v h)

pub fault_back : (tb : Table) (i : ℕ) (ds : List Instance) (v : Violation) → PlainFault tb i (V.instances ds) v → CoverFault tb i ds v
fault_back tb i [] v h = absurd h
fault_back tb i (d ∷ ds) v (inl h) = inl (matches_back tb i (block_matches d.body) v (subst (λ ms. SomePlain tb i ms v) (sym (matches_are d.body)) h))
fault_back tb i (d ∷ ds) v (inr h) = inr (fault_back tb (suc i) ds v h)

pub least_plain : (tb : Table) (ds : List Instance) (v : Violation) → IsLeastCoverFault tb ds v → IsLeastOf (PlainFault tb 0 (V.instances ds)) v
least_plain tb ds v h =
    record {
      violated = fault_forth tb 0 ds v h.violated;
      least = λ w k. h.least w (fault_back tb 0 ds w k);
    }

-- ---- what is right

reached_forth : (tb : Table) (t : ℕ) (before : List K.Pattern) (qs : List Pattern) → AreReached tb t before qs → R.AreReached tb t before (map V.pattern qs)
reached_forth tb t before [] h = tt
reached_forth tb t before (q ∷ qs) h =
    (subst (Reached tb t before) (erased_is q) h.0, reached_forth tb t (before ++ plain (V.pattern q) ∷ []) qs (subst (λ r. AreReached tb t (before ++ r ∷ []) qs) (erased_is q) h.1))

reached_back : (tb : Table) (t : ℕ) (before : List K.Pattern) (qs : List Pattern) → R.AreReached tb t before (map V.pattern qs) → AreReached tb t before qs
reached_back tb t before [] h = tt
reached_back tb t before (q ∷ qs) h =
    (subst (Reached tb t before) (sym (erased_is q)) h.0, subst (λ r. AreReached tb t (before ++ r ∷ []) qs) (sym (erased_is q)) (reached_back tb t (before ++ plain (V.pattern q) ∷ []) qs h.1))

match_forth : (tb : Table) (m : Match) → IsCovered tb m → R.IsCovered tb (match_view m)
match_forth tb m h = (reached_forth tb m.ty [] m.clauses h.0, subst (AllFit tb m.ty) (rows_are m.clauses) h.1)

match_back : (tb : Table) (m : Match) → R.IsCovered tb (match_view m) → IsCovered tb m
match_back tb m h = (reached_back tb m.ty [] m.clauses h.0, subst (AllFit tb m.ty) (sym (rows_are m.clauses)) h.1)

each_forth : (tb : Table) (ms : List Match) → AreCovered tb ms → R.AreCovered tb (map match_view ms)
each_forth tb [] h = tt
each_forth tb (m ∷ ms) h = (match_forth tb m h.0, each_forth tb ms h.1)

each_back : (tb : Table) (ms : List Match) → R.AreCovered tb (map match_view ms) → AreCovered tb ms
each_back tb [] h = tt
each_back tb (m ∷ ms) h = (match_back tb m h.0, each_back tb ms h.1)

covered_forth : (tb : Table) (ds : List Instance) → AllCovered tb ds → R.AllCovered tb (V.instances ds)
covered_forth tb [] h = tt
covered_forth tb (d ∷ ds) h = (subst (R.AreCovered tb) (matches_are d.body) (each_forth tb (block_matches d.body) h.0), covered_forth tb ds h.1)

covered_back : (tb : Table) (ds : List Instance) → R.AllCovered tb (V.instances ds) → AllCovered tb ds
covered_back tb [] h = tt
covered_back tb (d ∷ ds) h = (each_back tb (block_matches d.body) (subst (R.AreCovered tb) (sym (matches_are d.body)) h.0), covered_back tb ds h.1)

pub right_forth : (tb : Table) (ds : List Instance) → IsRight tb ds → R.IsRight tb (V.instances ds)
right_forth tb ds h = record { covered = covered_forth tb ds h.covered; unbroken = λ v k. h.unbroken v (fault_back tb 0 ds v k) }

pub right_back : (tb : Table) (ds : List Instance) → R.IsRight tb (V.instances ds) → IsRight tb ds
right_back tb ds h = record { covered = covered_back tb ds h.covered; unbroken = λ v k. h.unbroken v (fault_forth tb 0 ds v k) }
