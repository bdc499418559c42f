use Rattle.std.proofs.Common.{refl}
use Rattle.clap.specs.Words.{rows_of, found_of}
use Rattle.command_words.proofs.Alone.{gen_alone}
use Rattle.command_words.proofs.words.generate.Goals as goal

pub returns-in_err-seed-clause-none : goal.returns-in_err-seed-clause-none
returns-in_err-seed-clause-none c = λ none. gen_alone (rows_of (found_of c.args.matches.now)) (λ seed count h. c.in_err-seed.ensures.none refl seed h.seed)

pub returns-in_err-count-clause-none : goal.returns-in_err-count-clause-none
returns-in_err-count-clause-none c = λ none. gen_alone (rows_of (found_of c.args.matches.now)) (λ seed count h. c.in_err-count.ensures.none refl count h.count)
