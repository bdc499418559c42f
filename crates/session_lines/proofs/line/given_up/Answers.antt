use Rattle.std.proofs.Common.{refl}
use Rattle.session_semantics.specs.Lines.{GivesUp}
use Rattle.session_lines.specs.Scanned.{left}
use Rattle.session_lines.proofs.Reading.{no_other_given_up}
use Rattle.session_lines.proofs.line.given_up.Goals as goal

pub returns-in-Some-clause-read : goal.returns-in-Some-clause-read
returns-in-Some-clause-read c = λ bytes s.
    let n = c.in-Some.ensures.read in
    record { line = GivesUp c.in-Some.name.now; is = refl; spelt = (left c.args.scanner.now, n.0, s, n.1, n.2) }

pub returns-in-None-clause-none : goal.returns-in-None-clause-none
returns-in-None-clause-none c = λ same cs s l h. no_other_given_up cs (left c.args.scanner.now) l s (λ n. c.in-None.ensures.none refl n) h
