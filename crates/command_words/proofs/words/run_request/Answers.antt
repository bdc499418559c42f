use Rattle.std.proofs.Common.{refl}
use Rattle.command_words.proofs.words.run_request.Goals as goal

pub returns-in_err-room-clause-none : goal.returns-in_err-room-clause-none
returns-in_err-room-clause-none c = λ none r h. c.in_err-room.ensures.none refl r.room h.room
