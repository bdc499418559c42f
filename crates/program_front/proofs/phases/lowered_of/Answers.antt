use Rattle.fip_trees.specs.TreeView.{program}
use Rattle.source_report.proofs.Phases.{by_ownership, by_credits, by_calls, by_limits}
use Rattle.program_front.proofs.WellMatched.{typed_well_matched}
use Rattle.program_front.proofs.phases.lowered_of.Goals as goal

pub returns-in-Err-clause-reported : goal.returns-in-Err-clause-reported
returns-in-Err-clause-reported c = λ source matched. by_ownership source (program c.args.typed.program) c.in-Err.error matched c.in-Err.ensures.least

pub returns-in-Err-check_credits-clause-reported : goal.returns-in-Err-check_credits-clause-reported
returns-in-Err-check_credits-clause-reported c = λ source matched.
    by_credits source (program c.args.typed.program) c.in-Err-check_credits.error
    (record { matched = matched; unbroken = c.in-Ok.ensures.owned }) c.in-Err-check_credits.ensures.least

pub returns-in-Err-groups-clause-reported : goal.returns-in-Err-groups-clause-reported
returns-in-Err-groups-clause-reported c = λ source matched.
    by_calls source (program c.args.typed.program) c.in-Err-groups.error
    (record { owned = record { matched = matched; unbroken = c.in-Ok.ensures.owned }; unbroken = c.in-Ok-check_credits.ensures.credited }) c.in-Err-groups.ensures.least

pub returns-in-Err-lower-clause-reported : goal.returns-in-Err-lower-clause-reported
returns-in-Err-lower-clause-reported c = λ source matched.
    by_limits source (program c.args.typed.program) c.in-Ok-groups.groups c.in-Err-lower.error
    (record {
      credited = record { owned = record { matched = matched; unbroken = c.in-Ok.ensures.owned }; unbroken = c.in-Ok-check_credits.ensures.credited };
      unbroken = c.in-Ok-groups.ensures.tail;
    }) c.in-Ok-groups.ensures.members c.in-Err-lower.ensures.least

pub returns-in-Ok-lower-clause-lowered : goal.returns-in-Ok-lower-clause-lowered
returns-in-Ok-lower-clause-lowered c = λ source matched.
    c.in-Ok-lower.ensures.lowered (typed_well_matched source (program c.args.typed.program) matched.typed)

pub returns-in-Ok-lower-clause-bounded : goal.returns-in-Ok-lower-clause-bounded
returns-in-Ok-lower-clause-bounded c = λ source matched.
    c.in-Ok-lower.ensures.bounded (typed_well_matched source (program c.args.typed.program) matched.typed)

pub returns-in-Ok-lower-clause-laid : goal.returns-in-Ok-lower-clause-laid
returns-in-Ok-lower-clause-laid c = λ source matched.
    c.in-Ok-lower.ensures.laid (typed_well_matched source (program c.args.typed.program) matched.typed)
