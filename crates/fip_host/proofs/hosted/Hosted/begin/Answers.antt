use Rattle.std.proofs.Common.{refl}
use Rattle.fip_machine.specs.machine_cells.Small.{store_of}
use Rattle.fip_machine.specs.Pausing.{stand_of}
use Rattle.fip_host.proofs.hosted.Hosted.begin.Goals as goal

pub returns-clause-starts : goal.returns-clause-starts
returns-clause-starts c =
    let i = c.self.inside in
    record {
      stand = stand_of i.verified c.in_ok-task.task;
      is = refl;
      entry = refl;
      unseen = record { seen = c.new-self-inside.ensures.unseen; highest = c.new-self-inside.ensures.highest; frames = c.new-self-inside.ensures.frames; words = c.new-self-inside.ensures.words };
      can_be_read = refl;
      start = c.in_ok-task.ensures.starts (store_of i.cells.cells i.cells.released);
    }
