use Rattle.lowering_relation.proofs.Entries.{so_root}
use Rattle.lowering_relation.proofs.match_theorems.entries_report_what_is_so.Goals as goal

pub returns : goal.returns
returns c = record { theorem = so_root }
