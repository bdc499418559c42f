use Rattle.std.proofs.Common.{sym, ap, subst, Err}
use Rattle.command_outcome.specs.declared.failure.Failure.TheVariants.{BadCode}
use Rattle.command_source.specs.Codes.{RefusesCode, LongFile, BadFile}
use Rattle.command_source.proofs.CodeFiles.{file_sound, file_unsound}
use Rattle.command_source.proofs.phases.code_of.Goals as goal

pub returns-then-bytes-gt-MOST_FILE_BYTES-clause-kept : goal.returns-then-bytes-gt-MOST_FILE_BYTES-clause-kept
returns-then-bytes-gt-MOST_FILE_BYTES-clause-kept c = LongFile c.if-bytes-gt-MOST_FILE_BYTES.true

pub returns-in-Ok-clause-sound : goal.returns-in-Ok-clause-sound
returns-in-Ok-clause-sound c = file_sound c.args.bytes.now c.in-Ok.code c.verified_of.result c.if-bytes-gt-MOST_FILE_BYTES.false c.in-Ok.ensures.text c.verified_of.ensures.same c.verified_of.ensures.sound

pub returns-in-Ok-clause-kept : goal.returns-in-Ok-clause-kept
returns-in-Ok-clause-kept c = file_unsound c.args.bytes.now c.in-Ok.code c.verified_of.result c.if-bytes-gt-MOST_FILE_BYTES.false c.in-Ok.ensures.text c.verified_of.ensures.least

pub returns-in-Err-BadCode-clause-kept : goal.returns-in-Err-BadCode-clause-kept
returns-in-Err-BadCode-clause-kept c =
    let bad = BadFile c.in-Err-BadCode.at c.if-bytes-gt-MOST_FILE_BYTES.false (c.in-Err-BadCode.ensures.place c.in-Err-BadCode.at (ap Err c.in-Err-BadCode.field-0-is)) in
    subst (λ n. RefusesCode c.args.bytes.now (BadCode n)) (sym c.in-Err-BadCode.at-is) bad
