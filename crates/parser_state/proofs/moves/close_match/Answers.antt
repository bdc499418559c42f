use Rattle.std.proofs.Common.{◌∙◌}
use Rattle.parser_state.proofs.StepFacts as steps
use Rattle.parser_state.proofs.moves.close_match.Goals as goal

pub returns : goal.returns
returns c =
    let m = c.args.clauses in
    record { next = λ negated w x e. c.operand.ensures.next negated w x (e ∙ steps.at_match c.args.body m.destructive m.place m.clauses) }
