use Rattle.std.proofs.Common.{rules, ◌∙◌, false, refl, ap}
use Rattle.fip_grammar.specs.declared.token.Word.TheVariants as W
use Rattle.fip_grammar.specs.WordView.{word}
use Rattle.fip_grammar.specs.Machine as machine
use Rattle.parser_state.specs.StateView as view
use Rattle.parser_state.proofs.StepFacts as steps
use Rattle.std.specs.Int.{w64}
use Rattle.std.proofs.lemmas.Int.{to_z-of_z}
use Rattle.parser_state.proofs.TooLarge.{too_large}
use Rattle.parser_bodies.proofs.body.operand_start.Goals as goal

pub returns-in-Some : goal.returns-in-Some
returns-in-Some c =
    let b = c.args.body in
    let t = c.args.token in
    record {
      next =
          c.operand.ensures.next false _ _
          (ap (λ v. (machine.operand_start (view.body c.args.body)) (word v) t.place) c.in-Int.is
          ∙ steps.at_literal b _ _ t.place (to_z-of_z w64 c.in-Some.value (search rules) ∙ c.in-Some.ensures.some));
    }

pub returns-in-None : goal.returns-in-None
returns-in-None c = record {
  next = too_large false c.args.token (machine.operand_start (view.body c.args.body)) (W.Int c.in-Int.digits) c.in-Int.digits.now _ c.in-Int.is refl refl (c.in-None.ensures.none refl);
}
