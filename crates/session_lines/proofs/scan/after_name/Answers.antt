use Rattle.std.proofs.Common.{◌∙◌, sym, arith}
use Rattle.session_lines.proofs.Tokens.{reading_on}
use Rattle.session_lines.proofs.scan.after_name.Goals as goal

pub loop-i-preserved : goal.loop-i-preserved
loop-i-preserved c = reading_on c.args.bytes.now c.args.at c.loop-i.i (let h = c.loop-i-test.true in omega (arith, h)) (sym c.is_name_byte.ensures.named ∙ c.if-not-is_name_byte.false) c.loop-i.invariant
