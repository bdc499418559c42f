-- What a text denotes, if anything: no other program is its typed program. A text that breaks a rule denotes any
-- program; that one is accepted at all is another statement.
use Rattle.std.specs.Prelude.{◌≡◌, ℕ, List}
use Rattle.source_report.specs.fip_trees.Tree.{Program}
use Rattle.source_report.specs.Report.{IsAccepted}

abbrev pub ComesTo : List ℕ → Program → Type 0
ComesTo text p = (q : Program) → IsAccepted text q → q ≡ p
