use Rattle.std.proofs.Common.{refl}
use Rattle.clap.specs.Words.{rows_of, found_of}
use Rattle.command_words.proofs.Alone.{replay_alone}
use Rattle.command_words.proofs.words.replay.Goals as goal

pub returns-in_err-step-clause-none : goal.returns-in_err-step-clause-none
returns-in_err-step-clause-none c = λ none. replay_alone (rows_of (found_of c.args.matches.now)) (λ trace step h. c.in_err-step.ensures.none refl step h.step)
