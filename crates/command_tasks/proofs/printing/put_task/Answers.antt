use Rattle.std.proofs.Common.{◌∙◌, ◌++◌, ap, append_assoc}
use Rattle.std.specs.Fmt.{decimal}
use Rattle.std.specs.Prelude.{codes}
use Rattle.command_tasks.proofs.printing.put_task.Goals as goal

pub returns : goal.returns
returns c = record {
  line = λ a m at small answers.
      let number = c.as_bytes.result.now in
      let answer = c.in_ok-answer.answer.items in
      let text = c.as_bytes.ensures.value ∙ c.in_ok-number.ensures.text in (
        number ++ answer,
        (answer, c.in_ok-answer.ensures.reports a m at small answers, ap (λ t. t ++ answer) text ∙ append_assoc (decimal c.args.k) (codes ": ") answer),
        c.in_ok-extend_from_slice-2.ensures.items ∙ ap (λ t. t ++ c.as_slice.result.now) c.in_ok-extend_from_slice.ensures.items ∙ append_assoc c.args.out.now.items number c.as_slice.result.now ∙ ap (λ t. c.args.out.now.items ++ (number ++ t)) c.as_slice.ensures.value,
      );
}
