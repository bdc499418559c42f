use Rattle.std.proofs.Common.{refl}
use Rattle.command_words.specs.View.{room_of}
use Rattle.fip_trees.specs.TreeView as V
use Rattle.code_verify.specs.cell_code.Plain.{plain}
use Rattle.command_answers.specs.command_library.session_semantics.Talk.{Setting}
use Rattle.command_answers.proofs.command_session.Serving.{served}
use Rattle.command_answers.proofs.command_session.machine_correctness.Literals.{has_literals}
use Rattle.fip_driver.proofs.sessions.replies.Goals as goal

pub returns-in-Ok-clause-means : goal.returns-in-Ok-clause-means
returns-in-Ok-clause-means c = λ source is short.
    let f = c.args.front.now in
    let room = room_of c.args.room in
    let o : Setting = record { program = V.program f.typed.program; members = f.groups; words = room.words; calls = room.calls; frames = room.frames } in
    let serves = served source o f.verified.code is.accepted is.found is.sound (has_literals (plain f.verified.code) c.code.ensures.literals) is.code c.args.room.few_frames in
    let talks = c.in-Ok.ensures.talks o serves refl refl refl refl short in
    (o, record { accepted = is.accepted; found = is.found; words = refl; calls = refl; frames = refl }, talks)
