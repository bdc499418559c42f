use Rattle.std.proofs.Common.{arith, refl, ◌∙◌}
use Rattle.value_text.specs.Machine.{Over}
use Rattle.value_text.proofs.Runs.{over_goes, over_stops, ends_whole}
use Rattle.value_text.proofs.scan.end_of_text.Goals as goal

pub returns-then-not-blank_or_line : goal.returns-then-not-blank_or_line
returns-then-not-blank_or_line c = λ tb vs. c.loop-i.invariant tb vs ∙ over_stops tb c.args.bytes.now vs c.loop-i.i (let h = c.loop-i-test.true in omega (arith, h)) (let h = c.if-not-blank_or_line.true in let k = c.blank_or_line.ensures in cc)

pub loop-i-preserved : goal.loop-i-preserved
loop-i-preserved c = λ tb vs. c.loop-i.invariant tb vs ∙ over_goes tb c.args.bytes.now vs c.loop-i.i (let h = c.loop-i-test.true in omega (arith, h)) (let h = c.if-not-blank_or_line.false in let k = c.blank_or_line.ensures in cc)

pub returns : goal.returns
returns c = λ tb vs. c.loop-i.invariant tb vs ∙ ends_whole tb c.args.bytes.now (Over vs) c.loop-i.i vs (let h = c.loop-i-test.false in let k = c.loop-i.auto.i-end in omega (arith, h, k, c.requires)) refl
