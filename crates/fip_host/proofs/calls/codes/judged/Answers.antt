use Rattle.fip_host.proofs.Judging.{verdict_sound}
use Rattle.fip_host.proofs.calls.codes.judged.Goals as goal

pub returns-then-hand_out-clause-is : goal.returns-then-hand_out-clause-is
returns-then-hand_out-clause-is c =
    let s = c.in-Ok.ensures.sound in
    verdict_sound c.args.bytes.now c.reported.result c.reported.ensures.status (record { code = c.in-Ok.verified.code; spelled = s.spelled; sound = s.sound })

pub returns-then-hand_out-clause-machine : goal.returns-then-hand_out-clause-machine
returns-then-hand_out-clause-machine c _ = record {
  code = c.in-Ok.verified;
  spelled = c.in-Ok.ensures.sound;
  machine = c.hand_out.ensures.machine c.if-hand_out.true;
}

pub returns-in-Err-clause-machine : goal.returns-in-Err-clause-machine
returns-in-Err-clause-machine c zero = absurd (c.verified_of.ensures.refused c.in-Err.refused c.in-Err.is zero)
