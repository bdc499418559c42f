use Rattle.std.proofs.Common.{ap, subst, sym, Err}
use Rattle.source_report.specs.Report.{Reports}
use Rattle.source_report.proofs.Phases.{too_long, misspelt}
use Rattle.program_front.proofs.Unmatched.{long_unmatched, misspelt_unmatched}
use Rattle.program_front.proofs.phases.core_form_of.Goals as goal

pub returns-then-source-gt-MOST_SOURCE_BYTES-clause-reported :
    goal.returns-then-source-gt-MOST_SOURCE_BYTES-clause-reported
returns-then-source-gt-MOST_SOURCE_BYTES-clause-reported c = too_long c.args.source.now c.too_long.result c.if-source-gt-MOST_SOURCE_BYTES.true c.too_long.ensures.bare

pub returns-in-Err-Refused-clause-reported : goal.returns-in-Err-Refused-clause-reported
returns-in-Err-Refused-clause-reported c =
    let h = misspelt c.args.source.now c.in-Err-Refused.refusal c.if-source-gt-MOST_SOURCE_BYTES.false (c.in-Err-Refused.ensures.misspelt c.in-Err-Refused.refusal (ap Err c.in-Err-Refused.field-0-is)) in
    subst (Reports c.args.source.now) (sym c.in-Err-Refused.refusal-is) h

pub returns-then-source-gt-MOST_SOURCE_BYTES-clause-unmatched : goal.returns-then-source-gt-MOST_SOURCE_BYTES-clause-unmatched
returns-then-source-gt-MOST_SOURCE_BYTES-clause-unmatched c = long_unmatched c.args.source.now c.too_long.result c.if-source-gt-MOST_SOURCE_BYTES.true

pub returns-in-Err-Refused-clause-unmatched : goal.returns-in-Err-Refused-clause-unmatched
returns-in-Err-Refused-clause-unmatched c = misspelt_unmatched c.args.source.now c.in-Err-Refused.refusal (c.in-Err-Refused.ensures.misspelt c.in-Err-Refused.refusal (ap Err c.in-Err-Refused.field-0-is))
