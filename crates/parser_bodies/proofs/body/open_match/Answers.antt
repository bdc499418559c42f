use Rattle.std.proofs.Common.{◌∙◌, refl, sym, ap}
use Rattle.fip_grammar.specs.Machine as machine
use Rattle.parser_state.specs.StateView as view
use Rattle.parser_state.proofs.StateFacts as facts
use Rattle.parser_bodies.proofs.body.open_match.Goals as goal
use Rattle.parser_state.specs.declared.state.Opener.TheVariants as O

pub stays_in_body-requires : goal.stays_in_body-requires
stays_in_body-requires c =
    let b = c.args.body in
    record {
      well = (
        c.requires.well.0,
        facts.well_opened b.partial c.push.new.self c.none_waits-body.result (O.Match b.partial.waiting c.args.destructive c.args.place) (view.operands b) c.in_ok-push.ensures.items c.none_waits-body.ensures refl c.requires.well.1,
      );
    }

pub returns : goal.returns
returns c =
    let b = c.args.body in
    record {
      next =
          λ negated w x e. c.stays_in_body.ensures.next negated w x
          (e
          ∙ ap (λ z. machine.in_body machine.AtOperand (record (view.body b) { partial = z }))
          (sym (facts.partial_opened b.partial c.push.new.self c.none_waits-body.result (O.Match b.partial.waiting c.args.destructive c.args.place) (view.operands b) c.in_ok-push.ensures.items c.none_waits-body.ensures refl)));
    }
