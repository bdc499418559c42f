use Rattle.std.proofs.Common.{rules, ◌∙◌, true, refl, ap}
use Rattle.fip_grammar.specs.declared.token.Word.TheVariants as W
use Rattle.fip_grammar.specs.WordView.{word}
use Rattle.fip_grammar.specs.Machine as machine
use Rattle.parser_state.specs.StateView as view
use Rattle.parser_state.proofs.StepFacts as steps
use Rattle.std.specs.Int.{w64}
use Rattle.std.proofs.lemmas.Int.{to_z-of_z}
use Rattle.parser_state.proofs.TooLarge.{too_large}
use Rattle.parser_bodies.proofs.body.minus.Goals as goal

pub returns-in-Some : goal.returns-in-Some
returns-in-Some c =
    let b = c.args.body in
    let t = c.args.token in
    record {
      next =
          c.operand.ensures.next true _ _
          (ap (λ v. (machine.step_body (machine.Minus c.args.place) (view.body c.args.body)) (word v) t.place) c.in-Int.is
          ∙ steps.at_literal b _ _ c.args.place (to_z-of_z w64 c.in-Some.value (search rules) ∙ c.in-Some.ensures.some));
    }

pub returns-in-None : goal.returns-in-None
returns-in-None c = record {
  next = too_large true c.args.token (machine.step_body (machine.Minus c.args.place) (view.body c.args.body)) (W.Int c.in-Int.digits) c.in-Int.digits.now _ c.in-Int.is refl refl (c.in-None.ensures.none refl);
}

pub returns-in_default : goal.returns-in_default
returns-in_default c = record { next = c.refused.ensures.next true _ _ (search rules) }
