use Rattle.std.proofs.Common.{◌≤◌, length, arith}
use Rattle.session_lines.proofs.Splitting.{free_on, line_ends, line_over}
use Rattle.session_lines.proofs.lines.line_at.Goals as goal

pub returns-then-input-i-eq10-clause-line : goal.returns-then-input-i-eq10-clause-line
returns-then-input-i-eq10-clause-line c = line_ends c.args.input.now c.args.at c.loop-i.i (let h = c.loop-i-test.true in omega (arith, h)) c.if-input-i-eq10.true c.loop-i.invariant

pub loop-i-preserved : goal.loop-i-preserved
loop-i-preserved c = free_on c.args.input.now c.args.at c.loop-i.i (let h = c.loop-i-test.true in omega (arith, h)) c.if-input-i-eq10.false c.loop-i.invariant

pub returns-clause-line : goal.returns-clause-line
returns-clause-line c =
    let end : length c.args.input.now ≤ c.loop-i.i = (let f = c.loop-i-test.false in let e = c.loop-i.auto.i-end in omega (arith, f, e)) in
    let past : length c.args.input.now ≤ c.saturating_add.result = (let s = c.saturating_add.ensures in omega (arith, s)) in
    line_over c.args.input.now c.args.at c.loop-i.i c.saturating_add.result c.requires.within end past c.loop-i.invariant
