use Rattle.std.proofs.Common.{List, IfOk, ap, ◌∙◌, subst}
use Rattle.match_knowledge.specs.Patterns.{Pattern}
use Rattle.match_knowledge.specs.View.{rows}
use Rattle.match_cover.specs.TreeView.{AnswersTree}
use Rattle.match_cover.proofs.trees.tree_of.Goals as goal

pub returns : goal.returns
returns c =
    let P : List Pattern → Type 0 = λ z. IfOk c.decision_of.result (AnswersTree c.args.program.now.types z) in
    subst P (ap rows c.deref.ensures.value ∙ c.in_ok-ps.ensures) c.decision_of.ensures
