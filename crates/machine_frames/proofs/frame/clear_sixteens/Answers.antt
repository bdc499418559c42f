use Rattle.std.proofs.Common.{◌+◌, ◌-◌, arith}
use Rattle.machine_frames.proofs.Laid.{clears_both}
use Rattle.machine_frames.proofs.frame.clear_sixteens.Goals as goal

pub returns : goal.returns
returns c = clears_both c.args.from (c.args.from + 16) (c.args.to - 16) c.args.to c.args.words.now c.clear_eights.new.words c.clear_eights-2.new.words (omega arith) (omega arith) (omega arith) c.clear_eights.ensures c.clear_eights-2.ensures
