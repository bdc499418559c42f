use Rattle.std.proofs.Common.{ap, ◌∙◌, arith, get_or}
use Rattle.lower_parts.specs.lowering_relation.declared.held.Held.TheVariants as H
use Rattle.lower_parts.specs.lowering_relation.Known.{holding}
use Rattle.lower_parts.specs.lowering_relation.LoweredBodies.{as_value}
use Rattle.lower_parts.proofs.Writing.{moves_word}
use Rattle.cell_lower.proofs.lowerer.Lowerer.move_word.Goals as goal

pub returns-clause-moves : goal.returns-clause-moves
returns-clause-moves c = moves_word c.args.self.now.frame c.set.new.self c.args.self.now.buffer c.add.new.self c.args.source c.args.destination (λ e. absurd (omega (arith, e, c.if-source-destination.false)))
    (c.set.ensures.held ∙ ap (λ h. holding c.use_up.new.self c.args.destination h) (c.as_value-held.ensures.same ∙ ap as_value c.at.ensures.held)
    ∙ ap (λ x. holding x c.args.destination (as_value (get_or c.args.self.now.frame.held c.args.source H.Nothing))) c.use_up.ensures.used)
    c.in_ok-add.ensures.added
