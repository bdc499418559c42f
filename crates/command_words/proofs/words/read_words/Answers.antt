use Rattle.std.proofs.Common.{◌≡◌, ◌∙◌, sym, map, string_bytes, rules}
use Rattle.clap.specs.Words.{app_of, found_of, rows_of, subcommand_rows_of}
use Rattle.clap.specs.declared.parser.matches.ArgMatches.TheViews.{out-ArgMatches}
use Rattle.command_words.specs.View.{command_of}
use Rattle.command_words.proofs.Understood.{simple_app, free_app, first_of_pair, understood, nothing_asked, nothing_entered, none_of_pair, refused}
use Rattle.command_words.proofs.words.read_words.Goals as goal

pub returns-in-Some-asked-clause-ok : goal.returns-in-Some-asked-clause-ok
returns-in-Some-asked-clause-ok c =
    let a = app_of c.in-Ok.command in
    let words = map string_bytes c.args.words.now in
    let m = c.in-Ok-try_get_matches_from.matches in
    let taken = c.in-Ok-try_get_matches_from.ensures in
    understood a words (command_of c.in-Some-asked.command) (subcommand_rows_of m) c.in-Some.name.now (rows_of (found_of c.in-Some.inner.now)) c.in-Ok.ensures.shape (taken.kinds (free_app a c.in-Ok.ensures.shape)) (taken.matches (simple_app a c.in-Ok.ensures.shape)).1 (c.in-Some.ensures.name ∙ sym (first_of_pair (out-ArgMatches m).subcommand _ _)) c.in-Some.ensures.rows c.in-Some-asked.ensures.some

pub returns-in-Ok-try_get_matches_from-clause-not_understood : goal.returns-in-Ok-try_get_matches_from-clause-not_understood
returns-in-Ok-try_get_matches_from-clause-not_understood c = λ _.
    let a = app_of c.in-Ok.command in
    let words = map string_bytes c.args.words.now in
    let m = c.in-Ok-try_get_matches_from.matches in
    let taken = c.in-Ok-try_get_matches_from.ensures in
    nothing_asked a words (subcommand_rows_of m) c.in-Some.name.now (rows_of (found_of c.in-Some.inner.now)) c.in-Ok.ensures.shape (taken.matches (simple_app a c.in-Ok.ensures.shape)).1 (c.in-Some.ensures.name ∙ sym (first_of_pair (out-ArgMatches m).subcommand _ _)) c.in-Some.ensures.rows (c.in-None.ensures.none (search rules))

pub returns-in_default-subcommand-clause-not_understood : goal.returns-in_default-subcommand-clause-not_understood
returns-in_default-subcommand-clause-not_understood c = λ _.
    let a = app_of c.in-Ok.command in
    let words = map string_bytes c.args.words.now in
    let m = c.in-Ok-try_get_matches_from.matches in
    let taken = c.in-Ok-try_get_matches_from.ensures in
    nothing_entered a words (subcommand_rows_of m) c.in-Ok.ensures.shape (taken.matches (simple_app a c.in-Ok.ensures.shape)).1 (none_of_pair (subcommand_rows_of m) (sym c.in_default-subcommand.ensures.rows))

pub returns : goal.returns
returns c = record {
  ok = tt;
  not_understood = λ _.
      let a = app_of c.in-Ok.command in
      let words = map string_bytes c.args.words.now in
      refused a words c.in-Err.e c.in-Ok.ensures.shape (c.in-Err.ensures.kinds (free_app a c.in-Ok.ensures.shape)) (λ same. c.in_default-kind.not-OutOfMemory (c.kind.ensures ∙ same));
}
