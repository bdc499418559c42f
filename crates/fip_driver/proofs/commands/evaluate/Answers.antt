use Rattle.std.proofs.Common.{◌≤◌, ℕ, List, length, sym, subst}
use Rattle.fip_language.specs.declared.limits.TheConstants.{MOST_FILE_BYTES}
use Rattle.command_answers.specs.command_library.command_eval.EvalAnswer.{Evaluates, OrNoMemory}
use Rattle.fip_driver.proofs.SourceEnds.{unread_says, read_says}
use Rattle.fip_driver.proofs.commands.evaluate.Goals as goal

pub returns-in-Ok-clause-outcome : goal.returns-in-Ok-clause-outcome
returns-in-Ok-clause-outcome g c = λ source name rooted.
    let within = subst (λ (xs : List ℕ). length xs ≤ MOST_FILE_BYTES) (sym c.as_slice.ensures.value) c.in-Ok.ensures.within in
    let means = subst (λ (xs : List ℕ). OrNoMemory (Evaluates source name xs c.args.room.calls c.args.room.frames) c.evaluate.result) c.as_slice.ensures.value (c.evaluate.ensures.means source name rooted within) in
    read_says (λ bytes. Evaluates source name bytes c.args.room.calls c.args.room.frames) (g.S.Source.left c.args.input.now) _ _ c.in-Ok.bytes.items c.evaluate.result c.in-Ok.ensures.all c.in-Ok.ensures.end c.in-Ok.ensures.within means

pub returns-in-Err-clause-outcome : goal.returns-in-Err-clause-outcome
returns-in-Err-clause-outcome g c = λ source name rooted. unread_says (λ bytes. Evaluates source name bytes c.args.room.calls c.args.room.frames) (g.S.Source.left c.args.input.now) _ _ _ c.in-Err.failure c.in-Err.ensures.fails
