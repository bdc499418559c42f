-- What coverage accepts has a clause for each value: the patterns without names are read off the pure tree, and so are
-- the matches of a body.
use Rattle.std.proofs.lemmas.List.{append_assoc}
use Rattle.std.proofs.Common.{◌≡◌, Bool, true, false, ◌&&◌, List, [], ◌∷◌, ◌++◌, map, is_some, Option, Some, None, if◌then◌else◌, ◌==◌, refl, sym, ap, ◌∙◌, subst}
use Rattle.match_cover.specs.fip_language.Values.{Value, Int, Node, Values, End, More}
use Rattle.match_cover.specs.fip_language.Matching.{Binding as Bound, same_int, both}
use Rattle.match_cover.specs.fip_trees.Tree as T
use Rattle.match_cover.specs.fip_trees.TreeView.{patterns_of, pattern, pattern_step}
use Rattle.match_cover.specs.fip_trees.declared.program.Pattern.{Pattern, roll-Pattern}
use Rattle.match_cover.specs.fip_trees.declared.program.Pattern.TheOpen as P
use Rattle.match_cover.specs.fip_trees.declared.program.Pattern.TheFolds.{ind-Pattern, fold-roll-Pattern, map-Pattern}
use Rattle.match_cover.specs.match_knowledge.declared.heads.Head.TheVariants.{Number, Tag}
use Rattle.match_cover.specs.match_knowledge.Patterns as K
use Rattle.match_cover.specs.match_knowledge.View as W
use Rattle.match_cover.specs.PatternView.{erased, erase_step}
use Rattle.match_cover.specs.match_knowledge.Patterns.{some_fits}
use Rattle.match_cover.specs.PatternView.{joined}
use Rattle.match_cover.specs.Matches.{Match, Arm, arm_pattern, below_arms, expression_step, binding_step, block_step, clause_step, expression_matches, binding_matches, block_matches, arm}
use Rattle.match_cover.specs.Coverage.{AreCovered, AllCovered}
use Rattle.match_cover.specs.fip_language.Table.{Table}
use Rattle.match_cover.specs.fip_trees.TreeView.{BoundPart, Case, block_of, clauses_of, expression, binding, block, clause, instance_of, instances}
use Rattle.match_cover.specs.fip_trees.TreeView as V
use Rattle.match_cover.specs.fip_trees.declared.program.Expression.{Expression, roll-Expression}
use Rattle.match_cover.specs.fip_trees.declared.program.Expression.TheOpen as E
use Rattle.match_cover.specs.fip_trees.declared.program.Expression.TheFolds.{ind-Block, fold-roll-Expression, fold-roll-Block, fold-roll-Binding, fold-roll-Clause, map-Expression, map-Block, map-Binding, map-Clause}
use Rattle.match_cover.specs.fip_trees.declared.program.Block.{Block, roll-Block}
use Rattle.match_cover.specs.fip_trees.declared.program.Binding.{Binding, roll-Binding}
use Rattle.match_cover.specs.fip_trees.declared.program.Clause.{Clause, roll-Clause}
use Rattle.match_cover.specs.fip_trees.declared.program.Instance.{Instance}
use Rattle.instance_semantics.specs.Matching.{matching, matching_all}
use Rattle.match_cover.specs.fip_trees.declared.program.Program.{Program as CodeProgram}
use Rattle.type_check.specs.Typing.{IsFilled}
use Rattle.match_cover.specs.Coverage.{IsReady}
use Rattle.match_cover.specs.Answers.{Accepts}
use Rattle.type_safety.specs.Formed.{IsFormed}
use Rattle.type_safety.specs.Soundness.{IsWellTyped}
use Rattle.type_safety.specs.Exhaustive.{some_matches, ExhaustiveExpression, ExhaustiveBlock, ExhaustiveClauses, AreExhaustive}

-- ---- patterns without names

abbrev mutual
  pub bare : T.Pattern → K.Pattern
  bare (T.BinderPattern b) = K.Any
  bare (T.LiteralPattern i p) = K.Test 0 (Number i) K.NoPatterns
  bare (T.ConstructorPattern t d c n p ps) = K.Test t (Tag c) (bare_all ps)

  pub bare_all : T.Patterns → K.Patterns
  bare_all T.NoPatterns = K.NoPatterns
  bare_all (T.MorePatterns q ps) = K.MorePatterns (bare q) (bare_all ps)

abbrev IsBared : Pattern → Type 0
IsBared r = erased r ≡ bare (pattern r)

bared_all : (rs : List ((r : Pattern) × IsBared r)) → W.patterns_of (map erased (map (λ e. e.0) rs)) ≡ bare_all (patterns_of (map pattern (map (λ e. e.0) rs)))
bared_all [] = refl
bared_all (e ∷ rs) = ap (λ q. K.MorePatterns q (W.patterns_of (map erased (map (λ e. e.0) rs)))) e.1 ∙ ap (K.MorePatterns (bare (pattern e.0))) (bared_all rs)

bared_roll : (x : P.Pattern-F Pattern) → erase_step (map-Pattern Pattern K.Pattern erased x) ≡ bare (pattern_step (map-Pattern Pattern T.Pattern pattern x)) → IsBared (roll-Pattern x)
bared_roll x e = fold-roll-Pattern K.Pattern erase_step x ∙ e ∙ ap bare (sym (fold-roll-Pattern T.Pattern pattern_step x))

bared_step : (y : P.Pattern-F ((r : Pattern) × IsBared r)) → IsBared (roll-Pattern (map-Pattern ((r : Pattern) × IsBared r) Pattern (λ e. e.0) y))
bared_step (P.Binder b) = bared_roll (P.Binder b) refl
bared_step (P.Literal i p) = bared_roll (P.Literal i p) refl
bared_step (P.Constructor t d c n p ps) = bared_roll _ (ap (K.Test t (Tag c)) (bared_all ps.items))

pub erased_is : (r : Pattern) → erased r ≡ bare (pattern r)
erased_is = ind-Pattern IsBared (λ x y e. subst (λ z. IsBared (roll-Pattern z)) e (bared_step y))

-- ---- whether they match

is_some_both : (a b : Option (List Bound)) → is_some (both a b) ≡ is_some a && is_some b
is_some_both None b = refl
is_some_both (Some xs) None = refl
is_some_both (Some xs) (Some ys) = refl

and_true : (b : Bool) → b && true ≡ b
and_true true = refl
and_true false = refl

is_some_if : (b : Bool) (o : Option (List Bound)) → is_some (if b then o else None) ≡ b && is_some o
is_some_if true o = refl
is_some_if false o = refl

mutual
  fits_is : (q : T.Pattern) (v : Value) → K.fits (bare q) v ≡ is_some (matching q v)
  fits_is (T.BinderPattern b) v = refl
  fits_is (T.LiteralPattern i p) (Int j) = and_true (same_int i j) ∙ sym (is_some_if (same_int i j) (Some []) ∙ and_true (same_int i j))
  fits_is (T.LiteralPattern i p) (Node c vs) = refl
  fits_is (T.ConstructorPattern t d k n p ps) (Int j) = refl
  fits_is (T.ConstructorPattern t d k n p ps) (Node c vs) = ap (λ b. (k == c) && b) (fit_all_is ps vs) ∙ sym (is_some_if (k == c) (matching_all ps vs))

  fit_all_is : (ps : T.Patterns) (vs : Values) → K.fit_all (bare_all ps) vs ≡ is_some (matching_all ps vs)
  fit_all_is T.NoPatterns End = refl
  fit_all_is T.NoPatterns (More v vs) = refl
  fit_all_is (T.MorePatterns q ps) End = refl
  fit_all_is (T.MorePatterns q ps) (More v vs) = ap (λ b. b && K.fit_all (bare_all ps) vs) (fits_is q v) ∙ ap (λ b. is_some (matching q v) && b) (fit_all_is ps vs) ∙ sym (is_some_both (matching q v) (matching_all ps vs))

-- ---- matches

covered_append : (tb : Table) (ms ns : List Match) → AreCovered tb (ms ++ ns) → AreCovered tb ms × AreCovered tb ns
covered_append tb [] ns h = (tt, h)
covered_append tb (m ∷ ms) ns h = let r = covered_append tb ms ns h.1 in ((h.0, r.0), r.1)

-- what holds of each part of a body
abbrev ExpressionHolds : Table → Expression → Type 0
ExpressionHolds tb e = AreCovered tb (expression_matches e) → ExhaustiveExpression tb (expression e)

abbrev BindingHolds : Table → Binding → Type 0
BindingHolds tb b = AreCovered tb (binding_matches b) → ExhaustiveExpression tb (binding b).bound

abbrev BlockHolds : Table → Block → Type 0
BlockHolds tb b = AreCovered tb (block_matches b) → ExhaustiveBlock tb (block b)

record ClauseHolds (tb : Table) (c : Clause) : Type 0 where
  same : pattern (arm c).pattern ≡ (clause c).pattern
  below : AreCovered tb (arm c).below → ExhaustiveBlock tb (clause c).body

module _ (tb : Table) where
  clause_fits : (c : Clause) → ClauseHolds tb c → (v : Value) → K.fits (erased (arm c).pattern) v ≡ is_some (matching (clause c).pattern v)
  clause_fits c h v =
      ap (λ q. K.fits q v) (erased_is (arm c).pattern) ∙ fits_is (pattern (arm c).pattern) v ∙ ap (λ q. is_some (matching q v)) h.same

  some_is : (es : List ((c : Clause) × ClauseHolds tb c)) (v : Value) → some_fits (map erased (map arm_pattern (map arm (map (λ e. e.0) es)))) v ≡ some_matches (clauses_of (map clause (map (λ e. e.0) es))) v
  some_is [] v = refl
  some_is (e ∷ es) v =
      ap (λ b. if b then true else some_fits (map erased (map arm_pattern (map arm (map (λ e. e.0) es)))) v) (clause_fits e.0 e.1 v)
      ∙ ap (λ b. if is_some (matching (clause e.0).pattern v) then true else b) (some_is es v)

  clauses_hold : (es : List ((c : Clause) × ClauseHolds tb c)) → AreCovered tb (below_arms (map arm (map (λ e. e.0) es))) → ExhaustiveClauses tb (clauses_of (map clause (map (λ e. e.0) es)))
  clauses_hold [] h = tt
  clauses_hold (e ∷ es) h =
      let r = covered_append tb (arm e.0).below (below_arms (map arm (map (λ e. e.0) es))) h in
      (e.1.below r.0, clauses_hold es r.1)

  bindings_hold : (es : List ((b : Binding) × BindingHolds tb b)) (ms : List Match) (e : T.Expression) → (AreCovered tb ms → ExhaustiveExpression tb e) → AreCovered tb (joined (map binding_matches (map (λ x. x.0) es)) ++ ms) → ExhaustiveBlock tb (block_of (map binding (map (λ x. x.0) es)) e)
  bindings_hold [] ms e h g = h g
  bindings_hold (x ∷ es) ms e h g =
      let split = covered_append tb (binding_matches x.0) (joined (map binding_matches (map (λ x. x.0) es)) ++ ms) (subst (AreCovered tb) (append_assoc (binding_matches x.0) (joined (map binding_matches (map (λ x. x.0) es))) ms) g) in
      (x.1 split.0, bindings_hold es ms e h split.1)

  abbrev AnExpression : Type 0
  AnExpression = (e : Expression) × ExpressionHolds tb e

  abbrev ABinding : Type 0
  ABinding = (b : Binding) × BindingHolds tb b

  abbrev ABlock : Type 0
  ABlock = (b : Block) × BlockHolds tb b

  abbrev AClause : Type 0
  AClause = (c : Clause) × ClauseHolds tb c

  expression_roll : (x : E.Expression-F Expression Binding Block Clause) → (AreCovered tb (expression_step (map-Expression Expression Binding Block Clause (List Match) (List Match) (List Match) Arm expression_matches binding_matches block_matches arm x)) → ExhaustiveExpression tb (V.expression_step (map-Expression Expression Binding Block Clause T.Expression BoundPart T.Block Case expression binding block clause x))) → ExpressionHolds tb (roll-Expression x)
  expression_roll x h g =
      subst (ExhaustiveExpression tb) (sym (fold-roll-Expression T.Expression BoundPart T.Block Case V.expression_step V.binding_step V.block_step V.clause_step x))
      (h (subst (AreCovered tb) (fold-roll-Expression (List Match) (List Match) (List Match) Arm expression_step binding_step block_step clause_step x) g))

  expression_at : (y : E.Expression-F AnExpression ABinding ABlock AClause) → ExpressionHolds tb (roll-Expression (map-Expression AnExpression ABinding ABlock AClause Expression Binding Block Clause (λ e. e.0) (λ e. e.0) (λ e. e.0) (λ e. e.0) y))
  expression_at (E.Give a) = expression_roll (E.Give a) (λ h. tt)
  expression_at (E.Tuple p as') = expression_roll (E.Tuple p as') (λ h. tt)
  expression_at (E.Operation o p l r) = expression_roll (E.Operation o p l r) (λ h. tt)
  expression_at (E.Call g n p as') = expression_roll (E.Call g n p as') (λ h. tt)
  expression_at (E.Match k u p a c cs) = expression_roll _ (λ h.
      let split = covered_append tb (arm c.value.0).below (below_arms (map arm (map (λ e. e.0) cs.items))) h.1 in
      ((λ v t. sym (some_is (c.value ∷ cs.items) v) ∙ h.0.1 v t), c.value.1.below split.0, clauses_hold cs.items split.1))
  expression_at (E.Nested b) = expression_roll _ b.value.1

  binding_roll : (x : E.Binding-F Expression Binding Block Clause) → (AreCovered tb (binding_step (map-Binding Expression Binding Block Clause (List Match) (List Match) (List Match) Arm expression_matches binding_matches block_matches arm x)) → ExhaustiveExpression tb (V.binding_step (map-Binding Expression Binding Block Clause T.Expression BoundPart T.Block Case expression binding block clause x)).bound) → BindingHolds tb (roll-Binding x)
  binding_roll x h g =
      subst (λ (b : BoundPart). ExhaustiveExpression tb b.bound) (sym (fold-roll-Binding T.Expression BoundPart T.Block Case V.expression_step V.binding_step V.block_step V.clause_step x))
      (h (subst (AreCovered tb) (fold-roll-Binding (List Match) (List Match) (List Match) Arm expression_step binding_step block_step clause_step x) g))

  binding_at : (y : E.Binding-F AnExpression ABinding ABlock AClause) → BindingHolds tb (roll-Binding (map-Binding AnExpression ABinding ABlock AClause Expression Binding Block Clause (λ e. e.0) (λ e. e.0) (λ e. e.0) (λ e. e.0) y))
  binding_at y = binding_roll _ y.bound.1

  block_roll : (x : E.Block-F Expression Binding Block Clause) → (AreCovered tb (block_step (map-Block Expression Binding Block Clause (List Match) (List Match) (List Match) Arm expression_matches binding_matches block_matches arm x)) → ExhaustiveBlock tb (V.block_step (map-Block Expression Binding Block Clause T.Expression BoundPart T.Block Case expression binding block clause x))) → BlockHolds tb (roll-Block x)
  block_roll x h g =
      subst (ExhaustiveBlock tb) (sym (fold-roll-Block T.Expression BoundPart T.Block Case V.expression_step V.binding_step V.block_step V.clause_step x))
      (h (subst (AreCovered tb) (fold-roll-Block (List Match) (List Match) (List Match) Arm expression_step binding_step block_step clause_step x) g))

  block_at : (y : E.Block-F AnExpression ABinding ABlock AClause) → BlockHolds tb (roll-Block (map-Block AnExpression ABinding ABlock AClause Expression Binding Block Clause (λ e. e.0) (λ e. e.0) (λ e. e.0) (λ e. e.0) y))
  block_at y = block_roll _ (bindings_hold y.bindings.items (expression_matches y.last.0) (expression y.last.0) y.last.1)

  clause_at : (y : E.Clause-F AnExpression ABinding ABlock AClause) → ClauseHolds tb (roll-Clause (map-Clause AnExpression ABinding ABlock AClause Expression Binding Block Clause (λ e. e.0) (λ e. e.0) (λ e. e.0) (λ e. e.0) y))
  clause_at y =
      let x : E.Clause-F Expression Binding Block Clause = map-Clause AnExpression ABinding ABlock AClause Expression Binding Block Clause (λ e. e.0) (λ e. e.0) (λ e. e.0) (λ e. e.0) y in
      let seen = fold-roll-Clause (List Match) (List Match) (List Match) Arm expression_step binding_step block_step clause_step x in
      let is = fold-roll-Clause T.Expression BoundPart T.Block Case V.expression_step V.binding_step V.block_step V.clause_step x in
      record {
        same = ap (λ (r : Arm). pattern r.pattern) seen ∙ sym (ap (λ (r : Case). r.pattern) is);
        below = λ g. subst (λ (r : Case). ExhaustiveBlock tb r.body) (sym is) (y.body.1 (subst (λ (r : Arm). AreCovered tb r.below) seen g));
      }

  pub block_covered : (b : Block) → AreCovered tb (block_matches b) → ExhaustiveBlock tb (block b)
  block_covered =
      ind-Block (ExpressionHolds tb) (BindingHolds tb) (BlockHolds tb) (ClauseHolds tb)
      (λ x y e. subst (λ z. ExpressionHolds tb (roll-Expression z)) e (expression_at y))
      (λ x y e. subst (λ z. BindingHolds tb (roll-Binding z)) e (binding_at y))
      (λ x y e. subst (λ z. BlockHolds tb (roll-Block z)) e (block_at y))
      (λ x y e. subst (λ z. ClauseHolds tb (roll-Clause z)) e (clause_at y))

  -- what coverage accepts is exhaustive
  pub covered_exhaustive : (ds : List Instance) → AllCovered tb ds → AreExhaustive tb (instances ds)
  covered_exhaustive [] h = tt
  covered_exhaustive (d ∷ ds) h = (block_covered d.body h.0, covered_exhaustive ds h.1)

pub accepted_well_typed : (p : CodeProgram) → IsFormed (V.program p) → IsFilled (V.program p) → IsReady p.types p.instances.items → Accepts p.types p.instances.items → IsWellTyped (V.program p)
accepted_well_typed p formed typed ready accepts = record {
  formed = formed;
  typed = typed;
  exhaustive = covered_exhaustive p.types p.instances.items (accepts.coverage ready).covered;
}
