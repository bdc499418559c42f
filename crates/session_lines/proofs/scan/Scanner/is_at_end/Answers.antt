use Rattle.std.proofs.Common.{◌<◌, length, arith}
use Rattle.std.proofs.lemmas.Bool.Decides.{nat_tests}
use Rattle.session_lines.proofs.Tokens.{something_left}
use Rattle.session_lines.proofs.scan.Scanner.is_at_end.Goals as goal

pub returns-clause-more : goal.returns-clause-more
returns-clause-more c = λ e.
    let s = c.args.self.now in
    let lt : c.after_blanks.result < length s.bytes.now = grind (arith, nat_tests) in
    something_left s.bytes.now s.at c.after_blanks.result c.after_blanks.ensures.skips lt
