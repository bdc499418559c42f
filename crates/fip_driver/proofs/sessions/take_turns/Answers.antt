use Rattle.std.proofs.Common.{◌≤◌, ℕ, List, length, sym, subst}
use Rattle.fip_language.specs.declared.limits.TheConstants.{MOST_FILE_BYTES}
use Rattle.command_words.specs.View.{room_of}
use Rattle.command_answers.specs.command_library.command_eval.EvalAnswer.{OrNoMemory}
use Rattle.command_answers.specs.command_tasks.TasksAnswer.{TakesTurns}
use Rattle.fip_driver.proofs.SourceEnds.{unread_says, read_says}
use Rattle.fip_driver.proofs.sessions.take_turns.Goals as goal

pub returns-in-Ok-clause-outcome : goal.returns-in-Ok-clause-outcome
returns-in-Ok-clause-outcome g c = λ source front.
    let within = subst (λ (xs : List ℕ). length xs ≤ MOST_FILE_BYTES) (sym c.as_slice.ensures.value) c.in-Ok.ensures.within in
    let means = subst (λ (xs : List ℕ). OrNoMemory (TakesTurns source xs (room_of c.args.room)) c.tasks.result) c.as_slice.ensures.value (c.tasks.ensures.means source front within) in
    read_says (λ bytes. TakesTurns source bytes (room_of c.args.room)) (g.S.Source.left c.args.input.now) _ _ c.in-Ok.bytes.items c.tasks.result c.in-Ok.ensures.all c.in-Ok.ensures.end c.in-Ok.ensures.within means

pub returns-in-Err-clause-outcome : goal.returns-in-Err-clause-outcome
returns-in-Err-clause-outcome g c = λ source front. unread_says (λ bytes. TakesTurns source bytes (room_of c.args.room)) (g.S.Source.left c.args.input.now) _ _ _ c.in-Err.failure c.in-Err.ensures.fails
