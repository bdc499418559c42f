use Rattle.std.proofs.Common.{◌∙◌, ap, subst}
use Rattle.std.specs.Prelude.{IfOk}
use Rattle.match_knowledge.specs.Known.{Is}
use Rattle.match_knowledge.specs.Left.{AnswersLeft}
use Rattle.match_knowledge.specs.View.{rows}
use Rattle.match_cover.specs.Missing.{placed}
use Rattle.match_cover.specs.MissingView.{levels}
use Rattle.match_cover.proofs.MissingWalk.{known_node}
use Rattle.match_cover.proofs.missing.Search.may_stand.Goals as goal

pub returns : goal.returns
returns c = subst (λ z. IfOk c.left.result (AnswersLeft c.args.self.now.types.now (rows c.args.self.now.rows.now) z)) (c.in_ok-k.ensures ∙ ap (placed (levels c.args.at.now)) (known_node c.args.head c.in_ok-fields.fields ∙ ap (Is c.args.head) c.in_ok-fields.ensures)) c.left.ensures
