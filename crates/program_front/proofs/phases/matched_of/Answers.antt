use Rattle.fip_trees.specs.TreeView.{program}
use Rattle.source_report.proofs.Phases.{by_types}
use Rattle.source_report.proofs.Steps.{matched_from, cover_refused}
use Rattle.program_front.proofs.Unmatched.{types_unmatched, cover_unmatched}
use Rattle.program_front.proofs.phases.matched_of.Goals as goal

pub returns-in-Err-clause-reported : goal.returns-in-Err-clause-reported
returns-in-Err-clause-reported c = λ source flat. by_types source (program c.args.flat) c.in-Err.error flat c.in-Err.ensures.least

pub returns-in-Err-cover-clause-reported : goal.returns-in-Err-cover-clause-reported
returns-in-Err-cover-clause-reported c = λ source flat.
    cover_refused source c.args.flat c.in-Ok.typed.program c.in-Err-cover.error
    (record { typed = c.in-Ok.ensures.typed; tree = c.in-Ok.ensures.tree; slots = c.in-Ok.ensures.slots }) flat c.in-Err-cover.ensures.least

pub returns-in-Ok-cover-clause-typed : goal.returns-in-Ok-cover-clause-typed
returns-in-Ok-cover-clause-typed c = λ source flat.
    matched_from source c.args.flat c.in-Ok.typed.program
    (record { typed = c.in-Ok.ensures.typed; tree = c.in-Ok.ensures.tree; slots = c.in-Ok.ensures.slots }) flat c.in-Ok-cover.ensures.accepts

pub returns-in-Err-clause-unmatched : goal.returns-in-Err-clause-unmatched
returns-in-Err-clause-unmatched c = λ source flat. types_unmatched source (program c.args.flat) c.in-Err.error flat c.in-Err.ensures.least

pub returns-in-Err-cover-clause-unmatched : goal.returns-in-Err-cover-clause-unmatched
returns-in-Err-cover-clause-unmatched c = λ source flat.
    cover_unmatched source c.args.flat c.in-Ok.typed.program c.in-Err-cover.error
    (record { typed = c.in-Ok.ensures.typed; tree = c.in-Ok.ensures.tree; slots = c.in-Ok.ensures.slots }) flat c.in-Err-cover.ensures.least
