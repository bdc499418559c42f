use Rattle.std.proofs.Common.{arith}
use Rattle.clap.proofs.WalkLemmas.{one_text-rows}
use Rattle.clap.specs.Words.{found_of, rows_of, one_text}
use Rattle.command_words.proofs.OptionValues.{number_read, number_unread, number_outside}
use Rattle.command_words.proofs.words.number_of.Goals as goal

pub returns-in-Some-clause-some : goal.returns-in-Some-clause-some
returns-in-Some-clause-some c = number_read c.args.id.now (rows_of (found_of c.args.matches.now)) (one_text (found_of c.args.matches.now) c.args.id.now) c.args.least c.args.most c.in-Some.n (one_text-rows (found_of c.args.matches.now) c.args.id.now) c.in-Some.ensures.none c.in-Some.ensures.value c.if-least-n.true c.if-n-most.true

pub returns-in_default-clause-none : goal.returns-in_default-clause-none
returns-in_default-clause-none c = λ none. number_outside c.args.id.now (rows_of (found_of c.args.matches.now)) (one_text (found_of c.args.matches.now) c.args.id.now) c.args.least c.args.most c.in-Some.n (one_text-rows (found_of c.args.matches.now) c.args.id.now) c.in-Some.ensures.value (λ above within. let no = c.if-n-most.false in absurd (omega arith))

pub returns-in_default-2-clause-none : goal.returns-in_default-2-clause-none
returns-in_default-2-clause-none c = λ none. number_outside c.args.id.now (rows_of (found_of c.args.matches.now)) (one_text (found_of c.args.matches.now) c.args.id.now) c.args.least c.args.most c.in-Some.n (one_text-rows (found_of c.args.matches.now) c.args.id.now) c.in-Some.ensures.value (λ above within. let no = c.if-least-n.false in absurd (omega arith))

pub returns-in_default-3-clause-none : goal.returns-in_default-3-clause-none
returns-in_default-3-clause-none c = λ none. number_unread c.args.id.now (rows_of (found_of c.args.matches.now)) (one_text (found_of c.args.matches.now) c.args.id.now) c.args.least c.args.most (one_text-rows (found_of c.args.matches.now) c.args.id.now) c.in_default.ensures.value
