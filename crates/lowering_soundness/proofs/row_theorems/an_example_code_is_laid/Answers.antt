use Rattle.std.proofs.Common.{refl}
use Rattle.lowering_soundness.proofs.Listing.{lists_are_laid, rev_within, rev_builds}
use Rattle.lowering_soundness.proofs.row_theorems.an_example_code_is_laid.Goals as goal

pub returns : goal.returns
returns c = record { laid = lists_are_laid; limits = rev_within; formed = refl; builds = rev_builds }
