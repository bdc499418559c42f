use Rattle.std.proofs.Common.{◌+◌, ◌∙◌, Bool, sym, ap}
use Rattle.std.specs.Prelude.{if◌then◌else◌}
use Rattle.machine_step.specs.View.{words_of, state_of}
use Rattle.machine_step.specs.Coming.{moved}
use Rattle.machine_step.proofs.rows.branch.Goals as goal

pub returns-then-on-clause-state : goal.returns-then-on-clause-state
returns-then-on-clause-state c lent s =
    let cursor = c.args.cursor.now in
    let ws = c.args.words.now in
    c.go_to.ensures.state lent s ∙ ap (λ (on : Bool). moved (if on then cursor.at + 1 else c.args.target) (words_of ws cursor) (state_of c.args.verified.now c.args.bounds lent s ws cursor)) (sym c.if-on.true)

pub returns-else-on-clause-state : goal.returns-else-on-clause-state
returns-else-on-clause-state c lent s =
    let cursor = c.args.cursor.now in
    let ws = c.args.words.now in
    c.go_to-else-on.ensures.state lent s ∙ ap (λ (on : Bool). moved (if on then cursor.at + 1 else c.args.target) (words_of ws cursor) (state_of c.args.verified.now c.args.bounds lent s ws cursor)) (sym c.if-on.false)
