use Rattle.fip_rules.proofs.Waits.{note_end}
use Rattle.fip_rules.proofs.state.note_exposed.Goals as goal

pub returns-after-loop-mark : goal.returns-after-loop-mark
returns-after-loop-mark c = note_end c.args.marks.now c.args.from c.loop-mark.mark-index c.args.instance _ c.loop-mark.least c.args.least.now c.loop-mark-test.false c.loop-mark.invariant
