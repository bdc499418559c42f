use Rattle.std.proofs.Common.{subst}
use Rattle.cell_code.specs.Plain.{plain}
use Rattle.code_verify.specs.Releasing.{AreShort}
use Rattle.code_verify.proofs.OwnCalls.{survey_releases, survey_flows, survey_literals}
use Rattle.code_verify.proofs.Running.{runnable, formed_at}
use Rattle.code_verify.proofs.accept.settle.Goals as goal

pub new-requires : goal.new-requires
new-requires c =
    let code = c.args.code in
    let s = c.args.walked in
    let rows = c.requires.walked.rows_are in
    let short = subst AreShort c.deref.ensures.value (c.are_short.ensures c.if-not-are_short.false) in
    record {
      verified = record {
        tables = c.requires.tables;
        sound = c.requires.sound;
        literals =
            survey_literals (plain code) s.calls.items s.waiting.items s.drops.items rows
            (formed_at (plain code) c.requires.tables c.requires.sound);
        runnable =
            runnable code c.args.stacks.items c.requires.tables c.requires.sound c.requires.stacks
            (survey_flows (plain code) s.calls.items s.waiting.items s.drops.items rows) short;
        stacks_are = c.requires.stacks;
        releases = survey_releases (plain code) s.calls.items s.waiting.items s.drops.items rows;
      };
    }
