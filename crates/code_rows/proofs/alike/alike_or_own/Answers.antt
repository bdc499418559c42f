use Rattle.std.proofs.Common.{rules}
use Rattle.code_rows.proofs.Steps.{alike_at}
use Rattle.code_rows.proofs.alike.alike_or_own.Goals as goal

pub returns-then-says_alike : goal.returns-then-says_alike
returns-then-says_alike c = record {
  alike = alike_at c.args.labels.now c.args.number c.args.earlier c.index-labels-number.result c.index-labels-earlier.result c.requires.within (search rules) c.index-labels-number.is c.index-labels-earlier.is (c.says_alike.ensures c.if-says_alike.true);
}
