use Rattle.std.proofs.Common.{refl}
use Rattle.clap.specs.Words.{rows_of, found_of}
use Rattle.command_words.proofs.Alone.{eval_alone}
use Rattle.command_words.proofs.words.eval.Goals as goal

pub returns-in_err-calls-clause-none : goal.returns-in_err-calls-clause-none
returns-in_err-calls-clause-none c = λ none. eval_alone (rows_of (found_of c.args.matches.now)) (λ file entry calls frames h. c.in_err-calls.ensures.none refl calls h.calls)

pub returns-in_err-frames-clause-none : goal.returns-in_err-frames-clause-none
returns-in_err-frames-clause-none c = λ none. eval_alone (rows_of (found_of c.args.matches.now)) (λ file entry calls frames h. c.in_err-frames.ensures.none refl frames h.frames)
