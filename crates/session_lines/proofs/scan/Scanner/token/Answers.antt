use Rattle.std.proofs.Common.{subst}
use Rattle.session_lines.specs.Completed.{Completes}
use Rattle.session_lines.specs.Scanned.{left}
use Rattle.session_lines.proofs.scan.Scanner.token.Goals as goal

pub returns-in-Wants-clause-none : goal.returns-in-Wants-clause-none
returns-in-Wants-clause-none c = λ e rest h. c.first.ensures.none e rest (subst (λ s. Completes s c.args.depth.now (left c.args.self.now) rest) c.in-Wants.is h)
