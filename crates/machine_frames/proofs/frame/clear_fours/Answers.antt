use Rattle.std.proofs.Common.{◌≡◌, ◌+◌, ◌-◌, subst, arith}
use Rattle.machine_frames.specs.Keeping.{Clears}
use Rattle.machine_frames.proofs.Laid.{clears_both}
use Rattle.machine_frames.proofs.frame.clear_fours.Goals as goal

pub returns : goal.returns
returns c =
    let to : c.args.to - 4 + 4 ≡ c.args.to = omega arith in
    clears_both c.args.from (c.args.from + 4) (c.args.to - 4) c.args.to c.args.words.now c.clear_four.new.words c.clear_four-2.new.words (omega arith) (omega arith) (omega arith) c.clear_four.ensures (subst (λ n. Clears (c.args.to - 4) n c.clear_four.new.words c.clear_four-2.new.words) to c.clear_four-2.ensures)
