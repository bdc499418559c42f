use Rattle.match_knowledge.specs.View.{rows, known}
use Rattle.match_knowledge.proofs.Arms.{if_ok}
use Rattle.match_knowledge.proofs.Matches.{open_search, missed_reports}
use Rattle.match_knowledge.proofs.unmatched.missed.Goals as goal

pub returns : goal.returns
returns c = if_ok c.left.result (λ b x. λ t q. missed_reports c.args.types.now t (rows c.args.ps.now) (known c.open-k.result) b c.open-k.ensures (x t (open_search c.args.types.now t (rows c.args.ps.now) (known c.open-k.result) q c.open-k.ensures))) c.left.ensures
