use Rattle.std.proofs.Common.{◌∙◌, refl, sym, ap, rules}
use Rattle.fip_grammar.specs.Machine as machine
use Rattle.parser_state.specs.StateView as view
use Rattle.parser_state.proofs.StateFacts as facts
use Rattle.fip_grammar.specs.Token as Pure
use Rattle.parser_bodies.proofs.body.operand_sign.Goals as goal
use Rattle.parser_state.specs.declared.state.Opener.TheVariants as O

pub returns-in_ok-push-in-If : goal.returns-in_ok-push-in-If
returns-in_ok-push-in-If c =
    let b = c.args.body in
    record {
      next =
          λ negated w x e. c.stays_in_body-in-If.ensures.next negated w x
          (e
          ∙ ap (λ s. machine.operand_start (view.body b) (Pure.Mark s) c.args.place) c.in-If.is
          ∙ ap (λ z. machine.in_body machine.AtOperand (record (view.body b) { partial = z }))
          (sym (facts.partial_opened b.partial c.push.new.self c.none_waits-body.result (O.If b.partial.waiting c.args.place) (view.operands b) c.in_ok-push-in-If.ensures.items c.none_waits-body.ensures refl)));
    }

pub returns-in_default : goal.returns-in_default
returns-in_default c = record { next = λ negated w x e. c.refused.ensures.next negated w x (e ∙ search rules) }
