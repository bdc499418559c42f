-- The matches of a body, by the trees that they stand for: an induction over the tree in memory.
use Rattle.std.proofs.Common.{◌≡◌, ℕ, List, [], ◌∷◌, ◌++◌, refl, sym, ap, ap₂, ◌∙◌, map, subst, append_assoc}
use Rattle.cell_lower.specs.fip_trees.Tree as T
use Rattle.cell_lower.specs.fip_trees.TreeView as V
use Rattle.cell_lower.specs.fip_trees.declared.program.Expression.{Expression, roll-Expression}
use Rattle.cell_lower.specs.fip_trees.declared.program.Expression.TheOpen as E
use Rattle.cell_lower.specs.fip_trees.declared.program.Expression.TheFolds.{fold-roll-Expression, fold-roll-Block, fold-roll-Binding, fold-roll-Clause, map-Expression, map-Block, map-Binding, map-Clause, ind-Block}
use Rattle.cell_lower.specs.fip_trees.declared.program.Block.{Block, roll-Block}
use Rattle.cell_lower.specs.fip_trees.declared.program.Binding.{Binding, roll-Binding}
use Rattle.cell_lower.specs.fip_trees.declared.program.Clause.{Clause, roll-Clause}
use Rattle.cell_lower.specs.match_cover.PatternView.{joined}
use Rattle.cell_lower.specs.match_cover.Matches.{Match, Arm, arm_pattern, below_arms, expression_step, binding_step, block_step, clause_step, expression_matches, binding_matches, block_matches, arm}
use Rattle.source_report.specs.TreeMatches.{Match as PlainMatch, clause_patterns, matches, matches_block, matches_clauses}
use Rattle.cell_lower.proofs.fip_language.Facts.{map_append}

abbrev pub match_view : Match → PlainMatch
match_view m = record { place = m.place; ty = m.ty; patterns = map V.pattern m.clauses }

abbrev IsExpression : Expression → Type 0
IsExpression x = map match_view (expression_matches x) ≡ matches (V.expression x)

abbrev IsBinding : Binding → Type 0
IsBinding x = map match_view (binding_matches x) ≡ matches (V.binding x).bound

abbrev IsBlock : Block → Type 0
IsBlock x = map match_view (block_matches x) ≡ matches_block (V.block x)

pub record IsClause (x : Clause) : Type 0 where
  pub pattern : V.pattern (arm x).pattern ≡ (V.clause x).pattern
  pub below : map match_view (arm x).below ≡ matches_block (V.clause x).body

module _ {SE SI SB SC : Type 0} (fe : SE → Expression) (fi : SI → Binding) (fb : SB → Block) (fc : SC → Clause)
    (oke : (s : SE) → IsExpression (fe s)) (oki : (s : SI) → IsBinding (fi s)) (okb : (s : SB) → IsBlock (fb s)) (okc : (s : SC) → IsClause (fc s)) where
  abbrev to_expression : E.Expression-F SE SI SB SC → E.Expression-F Expression Binding Block Clause
  to_expression = map-Expression SE SI SB SC Expression Binding Block Clause fe fi fb fc

  abbrev to_binding : E.Binding-F SE SI SB SC → E.Binding-F Expression Binding Block Clause
  to_binding = map-Binding SE SI SB SC Expression Binding Block Clause fe fi fb fc

  abbrev to_block : E.Block-F SE SI SB SC → E.Block-F Expression Binding Block Clause
  to_block = map-Block SE SI SB SC Expression Binding Block Clause fe fi fb fc

  abbrev to_clause : E.Clause-F SE SI SB SC → E.Clause-F Expression Binding Block Clause
  to_clause = map-Clause SE SI SB SC Expression Binding Block Clause fe fi fb fc

  clauses_patterns : (ss : List SC) → map V.pattern (map arm_pattern (map arm (map fc ss))) ≡ clause_patterns (V.clauses_of (map V.clause (map fc ss)))
  clauses_patterns [] = refl
  clauses_patterns (s ∷ ss) = let h = (okc s).pattern in let r = clauses_patterns ss in cc

  clauses_below : (ss : List SC) → map match_view (below_arms (map arm (map fc ss))) ≡ matches_clauses (V.clauses_of (map V.clause (map fc ss)))
  clauses_below [] = refl
  clauses_below (s ∷ ss) =
      map_append match_view (arm (fc s)).below (below_arms (map arm (map fc ss))) ∙ ap₂ (λ xs ys. xs ++ ys) (okc s).below (clauses_below ss)

  bindings_below : (ss : List SI) (l : List Match) (e : T.Expression) → map match_view l ≡ matches e →
      map match_view (joined (map binding_matches (map fi ss)) ++ l) ≡ matches_block (V.block_of (map V.binding (map fi ss)) e)
  bindings_below [] l e h = h
  bindings_below (s ∷ ss) l e h =
      ap (map match_view) (append_assoc (binding_matches (fi s)) (joined (map binding_matches (map fi ss))) l) ∙
      map_append match_view (binding_matches (fi s)) (joined (map binding_matches (map fi ss)) ++ l) ∙
      ap₂ (λ xs ys. xs ++ ys) (oki s) (bindings_below ss l e h)

  expression_layer : (y : E.Expression-F SE SI SB SC) →
      map match_view (expression_step (map-Expression Expression Binding Block Clause (List Match) (List Match) (List Match) Arm expression_matches binding_matches block_matches arm (to_expression y))) ≡
      matches (V.expression_step (map-Expression Expression Binding Block Clause T.Expression V.BoundPart T.Block V.Case V.expression V.binding V.block V.clause (to_expression y)))
  expression_layer (E.Give a) = refl
  expression_layer (E.Tuple p as') = refl
  expression_layer (E.Operation o p l r) = refl
  expression_layer (E.Call g n p as') = refl
  expression_layer (E.Match k u p a c cs) =
      let here : PlainMatch = record { place = p; ty = u; patterns = (V.clause (fc c.value)).pattern ∷ clause_patterns (V.clauses_of (map V.clause (map fc cs.items))) } in
      let heads = ap₂ (λ (q : T.Pattern) (qs : List T.Pattern). let m : PlainMatch = record { place = p; ty = u; patterns = q ∷ qs } in m) (okc c.value).pattern (clauses_patterns cs.items) in
      ap₂ (λ (m : PlainMatch) (ms : List PlainMatch). m ∷ ms) heads
      (map_append match_view (arm (fc c.value)).below (below_arms (map arm (map fc cs.items))) ∙ ap₂ (λ xs ys. xs ++ ys) (okc c.value).below (clauses_below cs.items))
  expression_layer (E.Nested b) = okb b.value

  pub expression_step_ok : (y : E.Expression-F SE SI SB SC) → IsExpression (roll-Expression (to_expression y))
  expression_step_ok y =
      ap (map match_view) (fold-roll-Expression (List Match) (List Match) (List Match) Arm expression_step binding_step block_step clause_step (to_expression y)) ∙
      expression_layer y ∙
      sym (ap matches (fold-roll-Expression T.Expression V.BoundPart T.Block V.Case V.expression_step V.binding_step V.block_step V.clause_step (to_expression y)))

  pub binding_step_ok : (y : E.Binding-F SE SI SB SC) → IsBinding (roll-Binding (to_binding y))
  binding_step_ok y =
      ap (map match_view) (fold-roll-Binding (List Match) (List Match) (List Match) Arm expression_step binding_step block_step clause_step (to_binding y)) ∙
      oke y.bound ∙
      sym (ap (λ (b : V.BoundPart). matches b.bound) (fold-roll-Binding T.Expression V.BoundPart T.Block V.Case V.expression_step V.binding_step V.block_step V.clause_step (to_binding y)))

  pub block_step_ok : (y : E.Block-F SE SI SB SC) → IsBlock (roll-Block (to_block y))
  block_step_ok y =
      ap (map match_view) (fold-roll-Block (List Match) (List Match) (List Match) Arm expression_step binding_step block_step clause_step (to_block y)) ∙
      bindings_below y.bindings.items (expression_matches (fe y.last)) (V.expression (fe y.last)) (oke y.last) ∙
      sym (ap matches_block (fold-roll-Block T.Expression V.BoundPart T.Block V.Case V.expression_step V.binding_step V.block_step V.clause_step (to_block y)))

  pub clause_step_ok : (y : E.Clause-F SE SI SB SC) → IsClause (roll-Clause (to_clause y))
  clause_step_ok y =
      let one = fold-roll-Clause (List Match) (List Match) (List Match) Arm expression_step binding_step block_step clause_step (to_clause y) in
      let two = fold-roll-Clause T.Expression V.BoundPart T.Block V.Case V.expression_step V.binding_step V.block_step V.clause_step (to_clause y) in
      record {
        pattern = ap (λ (a : Arm). V.pattern a.pattern) one ∙ sym (ap (λ (c : V.Case). c.pattern) two);
        below = ap (λ (a : Arm). map match_view a.below) one ∙ okb y.body ∙ sym (ap (λ (c : V.Case). matches_block c.body) two);
      }

pub matches_are : (d : Block) → map match_view (block_matches d) ≡ matches_block (V.block d)
matches_are d =
    ind-Block IsExpression IsBinding IsBlock IsClause
    (λ x y e. subst (λ x. IsExpression (roll-Expression x)) e (expression_step_ok (λ e. e.0) (λ e. e.0) (λ e. e.0) (λ e. e.0) (λ e. e.1) (λ e. e.1) (λ e. e.1) (λ e. e.1) y))
    (λ x y e. subst (λ x. IsBinding (roll-Binding x)) e (binding_step_ok (λ e. e.0) (λ e. e.0) (λ e. e.0) (λ e. e.0) (λ e. e.1) (λ e. e.1) (λ e. e.1) (λ e. e.1) y))
    (λ x y e. subst (λ x. IsBlock (roll-Block x)) e (block_step_ok (λ e. e.0) (λ e. e.0) (λ e. e.0) (λ e. e.0) (λ e. e.1) (λ e. e.1) (λ e. e.1) (λ e. e.1) y))
    (λ x y e. subst (λ x. IsClause (roll-Clause x)) e (clause_step_ok (λ e. e.0) (λ e. e.0) (λ e. e.0) (λ e. e.0) (λ e. e.1) (λ e. e.1) (λ e. e.1) (λ e. e.1) y))
    d
