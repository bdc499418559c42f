use Rattle.std.proofs.Common.{◌≡◌, ◌+◌, ◌++◌, suc, arith}
use Rattle.command_run.specs.GaugeText.{size_lines, stack_lines}
use Rattle.command_run.specs.Starting.{high_of, low_of, stack_of}
use Rattle.command_run.proofs.Gauging.{line_put, lines_put}
use Rattle.command_run.proofs.printing.put_gauge.Goals as goal

pub loop-smaller-preserved : goal.loop-smaller-preserved
loop-smaller-preserved c = λ n rest e.
    let low = low_of c.args.gauge.now in
    let high = high_of c.args.gauge.now in
    let more : c.loop-smaller.smaller + suc n ≡ 16 = omega (arith, e) in
    line_put low high c.loop-smaller.smaller n c.loop-smaller.text.items c.put_size.new.text.items (c.args.text.now.items ++ size_lines low high 16 rest) rest more c.in_ok-put_size.ensures.line (c.loop-smaller.invariant (suc n) rest more)

pub returns : goal.returns
returns c =
    let low = low_of c.args.gauge.now in
    let high = high_of c.args.gauge.now in
    let stack = stack_lines (stack_of c.args.gauge.now) c.args.bound in
    let all : c.loop-smaller.smaller + 0 ≡ 16 = omega (arith, c.loop-smaller-test.false, c.loop-smaller.auto.smaller-end) in
    record { lines = lines_put c.put_stack.result c.put_stack.new.text.items c.loop-smaller.text.items (c.args.text.now.items ++ size_lines low high 16 stack) stack c.put_stack.ensures.lines (c.loop-smaller.invariant 0 stack all) }
