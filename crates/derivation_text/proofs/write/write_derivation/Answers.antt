use Rattle.std.proofs.Common.{◌++◌, map, sym, ap, subst, ◌∙◌}
use Rattle.derivation_trees.specs.Trees.{entry}
use Rattle.derivation_trees.specs.WholeTrees.{AreTrees}
use Rattle.derivation_text.specs.ProofText.{lines_text}
use Rattle.derivation_text.proofs.Writers.{line_next, lines_done}
use Rattle.derivation_text.proofs.write.write_derivation.Goals as goal

pub loop-line-init : goal.loop-line-init
loop-line-init c = λ w. ap (λ t. t ++ lines_text (map entry c.lines-line-items.result.now)) c.new-text.ensures.items

pub loop-line-preserved : goal.loop-line-preserved
loop-line-preserved c = λ w. line_next c.lines-line-items.result.now c.loop-line.line-index c.line-item.result c.loop-line.text.items c.write_line.new.text.items
    (lines_text (map entry c.lines-line-items.result.now)) w c.loop-line-test.true c.line-item.is c.in_ok-write_line.ensures.text (c.loop-line.invariant w)

pub returns : goal.returns
returns c = record {
  text = λ w.
      let e = c.lines-line-items.ensures.lines in
      lines_done c.lines-line-items.result.now c.loop-line.line-index c.loop-line.text.items (lines_text (map entry c.lines-line-items.result.now)) c.loop-line-test.false (c.loop-line.invariant (subst AreTrees (sym e) w))
      ∙ ap (λ ls. lines_text (map entry ls)) e;
}
