use Rattle.clap.proofs.WalkLemmas.{one_text-rows}
use Rattle.clap.specs.Words.{found_of, rows_of, one_text}
use Rattle.command_words.proofs.OptionValues.{flag_read, flag_unread}
use Rattle.command_words.proofs.words.flag_of.Goals as goal

pub returns-clause-some : goal.returns-clause-some
returns-clause-some c = flag_read c.args.id.now (rows_of (found_of c.args.matches.now)) (one_text (found_of c.args.matches.now) c.args.id.now) c.get_one.result (one_text-rows (found_of c.args.matches.now) c.args.id.now) c.get_one.ensures.none c.get_one.ensures.value

pub returns-clause-none : goal.returns-clause-none
returns-clause-none c = flag_unread c.args.id.now (rows_of (found_of c.args.matches.now)) (one_text (found_of c.args.matches.now) c.args.id.now) c.get_one.result (one_text-rows (found_of c.args.matches.now) c.args.id.now) c.get_one.ensures.none c.get_one.ensures.value
