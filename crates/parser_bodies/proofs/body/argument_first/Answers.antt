use Rattle.std.proofs.Common.{rules, ◌≡◌, ◌∙◌, false, [], map, sym, ap}
use Rattle.fip_grammar.specs.declared.Sign.TheVariants as S
use Rattle.fip_grammar.specs.declared.token.Word.TheVariants as W
use Rattle.fip_grammar.specs.WordView.{word}
use Rattle.fip_grammar.specs.Machine as machine
use Rattle.fip_base.specs.CoreView.{written}
use Rattle.fip_base.specs.SurfaceView.{expression}
use Rattle.parser_state.specs.StateView as view
use Rattle.parser_state.proofs.StepFacts as steps
use Rattle.parser_state.proofs.Rows.{answers_as}
use Rattle.parser_bodies.proofs.BodyRows.{argument_default}
use Rattle.parser_bodies.proofs.body.argument_first.Goals as goal
use Rattle.parser_bodies.proofs.body.argument_first.Goals.{in_default-via-in-Sign+in_default, in_default-via-in_default}

pub returns-in-Sign-RoundClose : goal.returns-in-Sign-RoundClose
returns-in-Sign-RoundClose c =
    let b = c.args.body in
    let t = c.args.token in
    let e1 : t.word ≡ W.Sign S.RoundClose = search rules in
    record {
      next =
          c.operand.ensures.next false _ _
          (ap (λ v. machine.step_body (machine.ArgumentFirst c.args.name c.args.place (map written c.args.statics.items)) (view.body b) (word v) t.place) e1
          ∙ steps.at_call b c.args.name c.args.place c.args.statics c.new.result [] (sym (ap (map expression) c.new.ensures.items)));
    }

pub returns-in_ok-inner-in_default : goal.returns-in_ok-inner-in_default
returns-in_ok-inner-in_default c =
    let b = c.args.body in
    let t = c.args.token in
    let n = c.args.name in
    let ts = map written c.args.statics.items in
    let other : c.args.token.word ≡ W.Sign S.RoundClose → ⊥ = λ e. elim c.in_default.branch [
      | in_default-via-in-Sign+in_default w ↦ search rules
      | in_default-via-in_default w ↦ search rules
    ] in
    let e1 = argument_default n c.args.place ts (view.body b) t.word t.place other in
    record {
      next =
          answers_as _ false _ _ _
          (e1
          ∙ ap (λ z. machine.operand_start (machine.enter (view.body b) (machine.ForArguments n c.args.place ts z)) (word t.word) t.place) (sym (ap (map expression) c.new-in_default.ensures.items))
          ∙ ap (λ z. machine.operand_start z (word t.word) t.place) (sym c.in_ok-inner-in_default.ensures.inner))
          c.operand_start.ensures.next;
    }
