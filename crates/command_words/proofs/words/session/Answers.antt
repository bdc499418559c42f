use Rattle.std.proofs.Common.{refl}
use Rattle.clap.specs.Words.{rows_of, found_of}
use Rattle.command_words.proofs.Alone.{session_alone}
use Rattle.command_words.proofs.words.session.Goals as goal

pub returns-in_err-room-clause-none : goal.returns-in_err-room-clause-none
returns-in_err-room-clause-none c = λ none. session_alone (rows_of (found_of c.args.matches.now)) (λ file room h. c.in_err-room.ensures.none refl room h.room)
