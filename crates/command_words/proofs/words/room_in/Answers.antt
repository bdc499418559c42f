use Rattle.std.proofs.Common.{refl}
use Rattle.command_words.proofs.words.room_in.Goals as goal

pub returns-in_err-calls-clause-none : goal.returns-in_err-calls-clause-none
returns-in_err-calls-clause-none c = λ none r h. c.in_err-calls.ensures.none refl r.calls h.calls

pub returns-in_err-frames-clause-none : goal.returns-in_err-frames-clause-none
returns-in_err-frames-clause-none c = λ none r h. c.in_err-frames.ensures.none refl r.frames h.frames

pub returns-in_err-words-clause-none : goal.returns-in_err-words-clause-none
returns-in_err-words-clause-none c = λ none r h. c.in_err-words.ensures.none refl r.words h.words
