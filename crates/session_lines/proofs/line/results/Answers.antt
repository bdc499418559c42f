use Rattle.std.proofs.Common.{◌∙◌, ◌∷◌, ◌++◌, [], List, ap}
use Rattle.std.specs.Borrow.{Bor}
use Rattle.std.proofs.Common.{ℕ}
use Rattle.session_lines.specs.Scanned.{left}
use Rattle.session_lines.specs.Said.{names_of}
use Rattle.session_lines.proofs.Reading.{results_read, no_more_results}
use Rattle.session_lines.proofs.line.results.Goals as goal

pub returns-then-branch-clause-read : goal.returns-then-branch-clause-read
returns-then-branch-clause-read c =
    let first = c.in-Some.first in
    let one = ap names_of (c.in_ok-push.ensures.items ∙ ap (λ (l : List (Bor (List ℕ))). l ++ first ∷ []) c.new-names.ensures.items) in
    results_read (left c.args.scanner.now) (left c.name.new.self) (left c.more_results.new.scanner) first.now (names_of c.push.new.self.items) (names_of c.more_results.new.names.items) c.in-Some.ensures.read one (c.in_ok-more_results.ensures.read c.if-branch.true)

pub returns-clause-none : goal.returns-clause-none
returns-clause-none c = λ same ns rest h.
    no_more_results (left c.args.scanner.now) (left c.name.new.self) rest c.in-Some.first.now ns c.in-Some.ensures.read (c.in_ok-more_results.ensures.none c.if-branch.false) h
