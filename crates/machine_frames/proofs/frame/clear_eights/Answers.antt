use Rattle.std.proofs.Common.{◌+◌, ◌-◌, arith}
use Rattle.machine_frames.proofs.Laid.{clears_both}
use Rattle.machine_frames.proofs.frame.clear_eights.Goals as goal

pub returns : goal.returns
returns c = clears_both c.args.from (c.args.from + 8) (c.args.to - 8) c.args.to c.args.words.now c.clear_fours.new.words c.clear_fours-2.new.words (omega arith) (omega arith) (omega arith) c.clear_fours.ensures c.clear_fours-2.ensures
