-- Patterns without names, by the trees that they stand for: an induction over the tree in memory.
use Rattle.std.proofs.Common.{◌≡◌, List, [], ◌∷◌, refl, sym, ap, ◌∙◌, map, subst}
use Rattle.cell_lower.specs.fip_trees.Tree as T
use Rattle.cell_lower.specs.fip_trees.TreeView as V
use Rattle.cell_lower.specs.fip_trees.declared.program.Pattern.{Pattern, roll-Pattern}
use Rattle.cell_lower.specs.fip_trees.declared.program.Pattern.TheOpen as N
use Rattle.cell_lower.specs.fip_trees.declared.program.Pattern.TheFolds.{fold-roll-Pattern, map-Pattern, ind-Pattern}
use Rattle.cell_lower.specs.match_knowledge.declared.heads.Head.TheVariants.{Tag}
use Rattle.cell_lower.specs.match_knowledge.Patterns as K
use Rattle.cell_lower.specs.match_knowledge.View.{patterns_of}
use Rattle.cell_lower.specs.match_cover.PatternView.{erased, erase_step}
use Rattle.source_report.specs.TreeMatches.{bare as plain, bare_all as plain_all}

erased_roll : (x : N.Pattern-F Pattern) → erased (roll-Pattern x) ≡ erase_step (map-Pattern Pattern K.Pattern erased x)
erased_roll x = fold-roll-Pattern K.Pattern erase_step x

view_roll : (x : N.Pattern-F Pattern) → V.pattern (roll-Pattern x) ≡ V.pattern_step (map-Pattern Pattern T.Pattern V.pattern x)
view_roll x = fold-roll-Pattern T.Pattern V.pattern_step x

module _ {S : Type 0} (f : S → Pattern) (ok : (s : S) → erased (f s) ≡ plain (V.pattern (f s))) where
  rows_ok : (ss : List S) → patterns_of (map erased (map f ss)) ≡ plain_all (V.patterns_of (map V.pattern (map f ss)))
  rows_ok [] = refl
  rows_ok (s ∷ ss) = let h = ok s in let r = rows_ok ss in cc

  layer_ok : (y : N.Pattern-F S) → erase_step (map-Pattern Pattern K.Pattern erased (map-Pattern S Pattern f y)) ≡ plain (V.pattern_step (map-Pattern Pattern T.Pattern V.pattern (map-Pattern S Pattern f y)))
  layer_ok (N.Binder b) = refl
  layer_ok (N.Literal v p) = refl
  layer_ok (N.Constructor t d c n p ps) = ap (λ (qs : K.Patterns). K.Test t (Tag c) qs) (rows_ok ps.items)

  pub step_ok : (y : N.Pattern-F S) → erased (roll-Pattern (map-Pattern S Pattern f y)) ≡ plain (V.pattern (roll-Pattern (map-Pattern S Pattern f y)))
  step_ok y = erased_roll (map-Pattern S Pattern f y) ∙ layer_ok y ∙ sym (ap plain (view_roll (map-Pattern S Pattern f y)))

pub erased_is : (q : Pattern) → erased q ≡ plain (V.pattern q)
erased_is q = ind-Pattern (λ q. erased q ≡ plain (V.pattern q)) (λ x y e. subst (λ x. erased (roll-Pattern x) ≡ plain (V.pattern (roll-Pattern x))) e (step_ok (λ e. e.0) (λ e. e.1) y)) q
