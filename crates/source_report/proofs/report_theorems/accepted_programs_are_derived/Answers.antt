use Rattle.ownership_agreement.proofs.Instances.{programs_agree}
use Rattle.source_report.proofs.Sizing.{typed_sized}
use Rattle.source_report.proofs.report_theorems.accepted_programs_are_derived.Goals as goal

pub returns-clause-sized : goal.returns-clause-sized
returns-clause-sized c source p h = typed_sized source p h

pub returns-clause-derived : goal.returns-clause-derived
returns-clause-derived c source p h =
    (programs_agree p (typed_sized source p h.owned.matched.typed)).0 (record { owned = h.owned.unbroken; credited = h.unbroken })
