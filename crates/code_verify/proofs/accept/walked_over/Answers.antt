use Rattle.std.proofs.Common.{◌≡◌, ◌∙◌, ◌+◌, length, sym, ap, subst, arith}
use Rattle.std.proofs.lemmas.Grind.{common_steps}
use Rattle.std.proofs.lemmas.List.{length-map}
use Rattle.cell_code.specs.Plain.{plain_function, plain}
use Rattle.code_rows.specs.Noting.{better_if, Answers}
use Rattle.code_verify.specs.Surveying.{AreRowsBelow, OtherBelow}
use Rattle.code_verify.proofs.Surveyed.{first_survey, survey_more}
use Rattle.code_verify.proofs.accept.walked_over.Goals as goal

pub loop-number-init : goal.loop-number-init
loop-number-init c =
    first_survey (plain c.args.code.now) c.new-least.result.first c.new-calls.result.items c.new-waiting.result.items c.new-drops.result.items
    c.new-least.ensures.none c.new-calls.ensures.items c.new-waiting.ensures.items c.new-drops.ensures.items

pub loop-number-preserved : goal.loop-number-preserved
loop-number-preserved c =
    let before = c.loop-number in
    survey_more (plain c.args.code.now) c.loop-number.number (c.loop-number.number + 1) c.loop-number.least.first c.note_if_some.new.self.first
    c.loop-number.calls.items c.push.new.self.items c.loop-number.waiting.items c.push-in-loop-number.new.self.items
    c.loop-number.drops.items c.push-in-loop-number-2.new.self.items c.in_ok-found.found (omega arith)
    (c.note_if_some.ensures.noted ∙ ap (better_if c.loop-number.least.first) c.first.ensures.first)
    c.in_ok-push.ensures.items c.in_ok-push-2.ensures.items c.in_ok-push-3.ensures.items c.in_ok-found.ensures
    c.loop-number.invariant

pub returns : goal.returns
returns c =
    let code = c.args.code.now in
    let functions = code.functions.items in
    let all : c.loop-number.number ≡ length functions = grind (arith, common_steps) in
    let same : c.loop-number.number ≡ length (plain code).functions = all ∙ sym (length-map functions plain_function) in
    record {
      rows_are =
          subst (λ n. AreRowsBelow (plain code) n c.loop-number.calls.items c.loop-number.waiting.items c.loop-number.drops.items) same
          c.loop-number.invariant.rows;
      least = subst (λ n. Answers (OtherBelow (plain code) n) c.loop-number.least.first) same c.loop-number.invariant.least;
    }
