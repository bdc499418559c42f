use Rattle.std.proofs.Common.{subst}
use Rattle.program_front.specs.source_report.Report.{Says}
use Rattle.program_front.specs.Unmatched.{IsUnmatched}
use Rattle.command_source.proofs.phases.failure_of.Goals as goal

pub returns-in-Refused-clause-reported : goal.returns-in-Refused-clause-reported
returns-in-Refused-clause-reported c = λ h. (c.in-Refused.refusal, subst (Says c.args.source.now) c.in-Refused.is h, c.placed.ensures.placed)

pub returns-in-Refused-clause-early : goal.returns-in-Refused-clause-early
returns-in-Refused-clause-early c = λ h k. ((c.in-Refused.refusal, subst (Says c.args.source.now) c.in-Refused.is h, c.placed.ensures.placed), subst (IsUnmatched c.args.source.now) c.in-Refused.is k)
