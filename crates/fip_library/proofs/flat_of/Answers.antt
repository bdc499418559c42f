use Rattle.fip_base.specs.CoreView.{core as core_view}
use Rattle.std.proofs.Common.{sym, subst}
use Rattle.source_report.specs.Report.{IsParsed}
use Rattle.fip_library.proofs.Phases.{not_declared, flat_is}
use Rattle.fip_library.proofs.flat_of.Goals as goal

pub returns-in-Err : goal.returns-in-Err
returns-in-Err c = record {
  flat = λ source p h parsed. not_declared source (core_view c.args.core.now) p c.in-Err.error h parsed c.in-Err.ensures.least;
}

pub returns-in-Ok : goal.returns-in-Ok
returns-in-Ok c = record {
  flat = λ source p h parsed.
      flat_is source c.in-Ok.declared.core c.in-Ok.declared.decls p c.specialise.result c.in-Ok.ensures.declared h
      (subst (λ x. IsParsed source (core_view x)) (sym c.in-Ok.ensures.core) parsed) c.specialise.ensures.accepted c.specialise.ensures.refused;
}
