use Rattle.std.proofs.Common.{rules, arith, ap}
use Rattle.std.specs.Int.{w64}
use Rattle.std.proofs.lemmas.Int.{to_z_pos}
use Rattle.match_knowledge.specs.declared.heads.Head.TheVariants.{Number}
use Rattle.match_knowledge.specs.View.{rows}
use Rattle.match_cover.specs.Missing.{placed}
use Rattle.match_cover.specs.MissingView.{levels}
use Rattle.match_cover.proofs.LeastHeads.{no_numbers, number_next, number_found, number_none}
use Rattle.match_cover.proofs.missing.Search.least_number.Goals as goal

pub loop-n-init : goal.loop-n-init
loop-n-init c = no_numbers c.args.self.now.types.now (rows c.args.self.now.rows.now) (placed (levels c.args.at.now))

pub loop-n-preserved : goal.loop-n-preserved
loop-n-preserved c = number_next c.args.self.now.types.now (rows c.args.self.now.rows.now) (placed (levels c.args.at.now)) c.loop-n.n _ c.in_ok-may_stand.field-0 (ap Number (to_z_pos w64 c.loop-n.n (let a = c.requires in let b = c.loop-n-test.true in omega (arith, a, b)))) c.if-branch.false c.in_ok-may_stand.ensures c.loop-n.invariant

pub returns-then-branch : goal.returns-then-branch
returns-then-branch c = number_found c.args.self.now.types.now (rows c.args.self.now.rows.now) (placed (levels c.args.at.now)) c.args.end c.loop-n.n _ c.in_ok-may_stand.field-0 (ap Number (to_z_pos w64 c.loop-n.n (let a = c.requires in let b = c.loop-n-test.true in omega (arith, a, b)))) (search rules) c.if-branch.true c.in_ok-may_stand.ensures c.loop-n.invariant

pub returns : goal.returns
returns c = number_none c.args.self.now.types.now (rows c.args.self.now.rows.now) (placed (levels c.args.at.now)) c.args.end c.loop-n.n (search rules) c.loop-n.invariant
