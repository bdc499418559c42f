use Rattle.std.proofs.Common.{rules, drop}
use Rattle.match_knowledge.specs.View.{parts, knowns}
use Rattle.match_knowledge.specs.Known.{are_last}
use Rattle.match_knowledge.proofs.Steps.{last_done, no_knowns}
use Rattle.match_knowledge.proofs.sides.+last.Goals as goal

pub are_last-returns : goal.are_last-returns
are_last-returns t c = last_done c.args.types.now (parts (drop c.loop-k.j c.args.ps.now)) (knowns (drop c.loop-k.k-index c.args.ks.now)) (are_last c.args.types.now (parts c.args.ps.now) (knowns c.args.ks.now)) (no_knowns c.args.ks.now c.loop-k.k-index (search rules)) c.loop-k.invariant.found
