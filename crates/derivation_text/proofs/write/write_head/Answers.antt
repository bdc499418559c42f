use Rattle.std.proofs.Common.{[], ◌++◌, ap, ◌∙◌}
use Rattle.derivation_trees.specs.Trees.{head}
use Rattle.derivation_text.specs.ProofText.{variables_text, credits_text}
use Rattle.derivation_text.proofs.Writers.{head_written}
use Rattle.derivation_text.proofs.write.write_head.Goals as goal

pub returns : goal.returns
returns c =
    head_written (head c.args.node.now) c.args.text.now.items c.extend_from_slice.new.self.items c.push.new.self.items c.write_variables.new.text.items
    c.push-2.new.self.items c.write_credits.new.text.items c.push-3.new.self.items
    (c.in_ok-extend_from_slice.ensures.items ∙ ap (λ l. c.args.text.now.items ++ l) c.rule_text.ensures)
    c.in_ok-push.ensures.items
    (c.in_ok-write_variables.ensures ∙ ap (λ vs. c.push.new.self.items ++ variables_text vs []) c.as_slice.ensures.value)
    c.in_ok-push-2.ensures.items
    (c.in_ok-write_credits.ensures ∙ ap (λ cs. c.push-2.new.self.items ++ credits_text cs []) c.as_slice-2.ensures.value)
    c.in_ok-push-3.ensures.items
