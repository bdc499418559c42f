use Rattle.match_knowledge.specs.View.{row, rows, known}
use Rattle.match_knowledge.proofs.Arms.{if_ok}
use Rattle.match_knowledge.proofs.Matches.{pattern_search, reached_reports}
use Rattle.match_knowledge.proofs.unmatched.reached.Goals as goal

pub returns : goal.returns
returns c = if_ok c.left.result (λ b x. λ t q p. reached_reports c.args.types.now t (rows c.args.before.now) (row c.args.p.now) (known c.in_ok-k.k) b q p c.in_ok-k.ensures (x t (pattern_search c.args.types.now t (rows c.args.before.now) (row c.args.p.now) (known c.in_ok-k.k) q p c.in_ok-k.ensures))) c.left.ensures
