use Rattle.std.proofs.Common.{sym, subst}
use Rattle.fip_base.specs.CoreView.{core as core_view}
use Rattle.source_report.specs.Report.{IsParsed}
use Rattle.source_report.proofs.Phases.{by_declarations}
use Rattle.source_report.proofs.Steps.{flat_made, flat_refused}
use Rattle.program_front.proofs.Unmatched.{declarations_unmatched, flat_unmatched}
use Rattle.program_front.proofs.phases.flat_of.Goals as goal

pub returns-in-Err-clause-reported : goal.returns-in-Err-clause-reported
returns-in-Err-clause-reported c = λ source parsed. by_declarations source (core_view c.args.core.now) c.in-Err.error parsed c.in-Err.ensures.least

pub returns-in-Ok-clause-flat : goal.returns-in-Ok-clause-flat
returns-in-Ok-clause-flat c = λ source parsed.
    flat_made source c.in-Ok.declared.core c.in-Ok.declared.decls c.specialise.result c.in-Ok.ensures.declared
    (subst (λ x. IsParsed source (core_view x)) (sym c.in-Ok.ensures.core) parsed) c.specialise.ensures.accepted

pub returns-in-Ok-clause-reported : goal.returns-in-Ok-clause-reported
returns-in-Ok-clause-reported c = λ source parsed.
    flat_refused source c.in-Ok.declared.core c.in-Ok.declared.decls c.specialise.result c.in-Ok.ensures.declared
    (subst (λ x. IsParsed source (core_view x)) (sym c.in-Ok.ensures.core) parsed) c.specialise.ensures.refused

pub returns-in-Err-clause-unmatched : goal.returns-in-Err-clause-unmatched
returns-in-Err-clause-unmatched c = λ source parsed. declarations_unmatched source (core_view c.args.core.now) c.in-Err.error parsed c.in-Err.ensures.least

pub returns-in-Ok-clause-unmatched : goal.returns-in-Ok-clause-unmatched
returns-in-Ok-clause-unmatched c = λ source parsed.
    flat_unmatched source c.in-Ok.declared.core c.in-Ok.declared.decls c.specialise.result c.in-Ok.ensures.declared
    (subst (λ x. IsParsed source (core_view x)) (sym c.in-Ok.ensures.core) parsed) c.specialise.ensures.refused
