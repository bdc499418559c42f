use Rattle.std.proofs.Common.{refl}
use Rattle.clap.specs.Words.{rows_of, found_of}
use Rattle.command_words.proofs.Alone.{tasks_alone}
use Rattle.command_words.proofs.words.tasks.Goals as goal

pub returns-in_err-seed-clause-none : goal.returns-in_err-seed-clause-none
returns-in_err-seed-clause-none c = λ none. tasks_alone (rows_of (found_of c.args.matches.now)) (λ file seed turns room h. c.in_err-seed.ensures.none refl seed h.seed)

pub returns-in_err-turns-clause-none : goal.returns-in_err-turns-clause-none
returns-in_err-turns-clause-none c = λ none. tasks_alone (rows_of (found_of c.args.matches.now)) (λ file seed turns room h. c.in_err-turns.ensures.none refl turns h.turns)

pub returns-in_err-room-clause-none : goal.returns-in_err-room-clause-none
returns-in_err-room-clause-none c = λ none. tasks_alone (rows_of (found_of c.args.matches.now)) (λ file seed turns room h. c.in_err-room.ensures.none refl room h.room)
