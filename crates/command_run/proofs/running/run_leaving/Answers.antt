use Rattle.std.proofs.Common.{subst}
use Rattle.fip_machine.specs.code_verify.Checked.{Checked, HasMachineInts}
use Rattle.command_words.specs.View.{room_of}
use Rattle.fip_machine.specs.GaugeView.{IsUnseen}
use Rattle.command_eval.specs.machine_correctness.code_rules.Breaks.{IsSound}
use Rattle.code_verify.specs.cell_code.Plain.{plain}
use Rattle.command_eval.specs.machine_correctness.code_rules.Tables.{AreSoundTables}
use Rattle.command_eval.proofs.machine_correctness.Literals.{has_literals}
use Rattle.command_eval.specs.command_source.Codes.{IsSpelt}
use Rattle.command_run.proofs.Entry as N
use Rattle.command_run.proofs.Execs as X
use Rattle.command_run.proofs.FileTypes.{file_table, spelt_table}
use Rattle.command_run.proofs.Leaving.{last_store}
use Rattle.command_run.proofs.Ran.{ran, safe}
use Rattle.command_run.proofs.RunsCode as D
use Rattle.command_run.proofs.running.run_leaving.Goals as goal

pub returns-in-Err-clause-means : goal.returns-in-Err-clause-means
returns-in-Err-clause-means c = λ source name ready is le.
    let r = c.args.ready.now in
    let literals = has_literals (plain r.checked.code) (subst (λ (v : Checked). HasMachineInts (plain v.code)) c.verified.ensures.same c.code.ensures.literals) in
    X.keeps_exec source name c.args.input.now r ready is literals (room_of c.args.room) c.args.gauge c.in-Err.failure (c.in-Err.ensures.keeps (N.table_sound source name r ready is) le)

pub returns-in-Err-clause-runs : goal.returns-in-Err-clause-runs
returns-in-Err-clause-runs c = λ bytes name is le.
    let r = c.args.ready.now in
    let tables = subst (λ (v : Checked). AreSoundTables (plain v.code)) c.verified.ensures.same c.code.ensures.tables in
    D.keeps_code bytes name c.args.input.now r is (room_of c.args.room) c.args.gauge c.in-Err.failure (c.in-Err.ensures.keeps (file_table bytes r.checked.code is.file tables) le)

pub returns-then-is_run_end-clause-means : goal.returns-then-is_run_end-clause-means
returns-then-is_run_end-clause-means c = λ source name ready is le.
    let r = c.args.ready.now in
    let sound = subst (λ (v : Checked). IsSound (plain v.code)) c.verified.ensures.same c.code.ensures.sound in
    let literals = has_literals (plain r.checked.code) (subst (λ (v : Checked). HasMachineInts (plain v.code)) c.verified.ensures.same c.code.ensures.literals) in
    let unseen : IsUnseen c.new-seen.result = record { seen = c.new-seen.ensures.unseen; highest = c.new-seen.ensures.highest; frames = c.new-seen.ensures.frames; words = c.new-seen.ensures.words } in
    let st = c.in-Ok.ensures.begins (N.table_sound source name r ready is) le in
    let q = ran r c.args.input.now (room_of c.args.room) c.in-Ok.machine st c.run_sure-ended.result c.run_sure-ended.new.self c.run_sure-ended.new.gauge (record { sound = sound; literals = literals }) c.run_sure-ended.ensures.run (c.run_sure-ended.ensures.gauge unseen) in
    X.finished source name c.args.input.now r ready is literals (room_of c.args.room) c.args.gauge c.in-Ok.machine st c.run_sure-ended.result c.run_sure-ended.new.self c.run_sure-ended.new.gauge q c.reported-end.result (c.reported-end.ensures.reports is.named.function st.has_frames.held is.named.there st.has_frames.stack q.small)

pub returns-then-is_run_end-clause-runs : goal.returns-then-is_run_end-clause-runs
returns-then-is_run_end-clause-runs c = λ bytes name is le.
    let r = c.args.ready.now in
    let sound = subst (λ (v : Checked). IsSound (plain v.code)) c.verified.ensures.same c.code.ensures.sound in
    let literals = has_literals (plain r.checked.code) (subst (λ (v : Checked). HasMachineInts (plain v.code)) c.verified.ensures.same c.code.ensures.literals) in
    let tables = subst (λ (v : Checked). AreSoundTables (plain v.code)) c.verified.ensures.same c.code.ensures.tables in
    let unseen : IsUnseen c.new-seen.result = record { seen = c.new-seen.ensures.unseen; highest = c.new-seen.ensures.highest; frames = c.new-seen.ensures.frames; words = c.new-seen.ensures.words } in
    let st = c.in-Ok.ensures.begins (file_table bytes r.checked.code is.file tables) le in
    let q = ran r c.args.input.now (room_of c.args.room) c.in-Ok.machine st c.run_sure-ended.result c.run_sure-ended.new.self c.run_sure-ended.new.gauge (record { sound = sound; literals = literals }) c.run_sure-ended.ensures.run (c.run_sure-ended.ensures.gauge unseen) in
    D.finished bytes name c.args.input.now r is (room_of c.args.room) c.args.gauge c.in-Ok.machine st c.run_sure-ended.result c.run_sure-ended.new.self c.run_sure-ended.new.gauge q c.reported-end.result (c.reported-end.ensures.reports is.named.function st.has_frames.held is.named.there st.has_frames.stack q.small)

pub returns-else-is_run_end-clause-means : goal.returns-else-is_run_end-clause-means
returns-else-is_run_end-clause-means c = λ source name ready is le.
    let r = c.args.ready.now in
    let sound = subst (λ (v : Checked). IsSound (plain v.code)) c.verified.ensures.same c.code.ensures.sound in
    let literals = has_literals (plain r.checked.code) (subst (λ (v : Checked). HasMachineInts (plain v.code)) c.verified.ensures.same c.code.ensures.literals) in
    let unseen : IsUnseen c.new-seen.result = record { seen = c.new-seen.ensures.unseen; highest = c.new-seen.ensures.highest; frames = c.new-seen.ensures.frames; words = c.new-seen.ensures.words } in
    let st = c.in-Ok.ensures.begins (N.table_sound source name r ready is) le in
    let q = ran r c.args.input.now (room_of c.args.room) c.in-Ok.machine st c.run_sure-ended.result c.run_sure-ended.new.self c.run_sure-ended.new.gauge (record { sound = sound; literals = literals }) c.run_sure-ended.ensures.run (c.run_sure-ended.ensures.gauge unseen) in
    X.finished source name c.args.input.now r ready is literals (room_of c.args.room) c.args.gauge c.in-Ok.machine st c.run_sure-ended.result c.run_sure-ended.new.self c.run_sure-ended.new.gauge q c.reported-end.result (c.reported-end.ensures.reports is.named.function st.has_frames.held is.named.there st.has_frames.stack q.small)

pub returns-else-is_run_end-clause-runs : goal.returns-else-is_run_end-clause-runs
returns-else-is_run_end-clause-runs c = λ bytes name is le.
    let r = c.args.ready.now in
    let sound = subst (λ (v : Checked). IsSound (plain v.code)) c.verified.ensures.same c.code.ensures.sound in
    let literals = has_literals (plain r.checked.code) (subst (λ (v : Checked). HasMachineInts (plain v.code)) c.verified.ensures.same c.code.ensures.literals) in
    let tables = subst (λ (v : Checked). AreSoundTables (plain v.code)) c.verified.ensures.same c.code.ensures.tables in
    let unseen : IsUnseen c.new-seen.result = record { seen = c.new-seen.ensures.unseen; highest = c.new-seen.ensures.highest; frames = c.new-seen.ensures.frames; words = c.new-seen.ensures.words } in
    let st = c.in-Ok.ensures.begins (file_table bytes r.checked.code is.file tables) le in
    let q = ran r c.args.input.now (room_of c.args.room) c.in-Ok.machine st c.run_sure-ended.result c.run_sure-ended.new.self c.run_sure-ended.new.gauge (record { sound = sound; literals = literals }) c.run_sure-ended.ensures.run (c.run_sure-ended.ensures.gauge unseen) in
    D.finished bytes name c.args.input.now r is (room_of c.args.room) c.args.gauge c.in-Ok.machine st c.run_sure-ended.result c.run_sure-ended.new.self c.run_sure-ended.new.gauge q c.reported-end.result (c.reported-end.ensures.reports is.named.function st.has_frames.held is.named.there st.has_frames.stack q.small)

pub returns-then-is_run_end-clause-meant : goal.returns-then-is_run_end-clause-meant
returns-then-is_run_end-clause-meant c = λ source name ready is le.
    let r = c.args.ready.now in
    let sound = subst (λ (v : Checked). IsSound (plain v.code)) c.verified.ensures.same c.code.ensures.sound in
    let literals = has_literals (plain r.checked.code) (subst (λ (v : Checked). HasMachineInts (plain v.code)) c.verified.ensures.same c.code.ensures.literals) in
    let unseen : IsUnseen c.new-seen.result = record { seen = c.new-seen.ensures.unseen; highest = c.new-seen.ensures.highest; frames = c.new-seen.ensures.frames; words = c.new-seen.ensures.words } in
    let st = c.in-Ok.ensures.begins (N.table_sound source name r ready is) le in
    let q = ran r c.args.input.now (room_of c.args.room) c.in-Ok.machine st c.run_sure-ended.result c.run_sure-ended.new.self c.run_sure-ended.new.gauge (record { sound = sound; literals = literals }) c.run_sure-ended.ensures.run (c.run_sure-ended.ensures.gauge unseen) in
    last_store r c.args.input.now (room_of c.args.room) c.in-Ok.machine st c.run_sure-ended.result c.run_sure-ended.new.self c.run_sure-ended.new.gauge c.into_sealed.result q c.into_sealed.ensures.cells

pub returns-then-is_run_end-clause-coded : goal.returns-then-is_run_end-clause-coded
returns-then-is_run_end-clause-coded c = λ bytes name is le.
    let r = c.args.ready.now in
    let sound = subst (λ (v : Checked). IsSound (plain v.code)) c.verified.ensures.same c.code.ensures.sound in
    let literals = has_literals (plain r.checked.code) (subst (λ (v : Checked). HasMachineInts (plain v.code)) c.verified.ensures.same c.code.ensures.literals) in
    let tables = subst (λ (v : Checked). AreSoundTables (plain v.code)) c.verified.ensures.same c.code.ensures.tables in
    let unseen : IsUnseen c.new-seen.result = record { seen = c.new-seen.ensures.unseen; highest = c.new-seen.ensures.highest; frames = c.new-seen.ensures.frames; words = c.new-seen.ensures.words } in
    let st = c.in-Ok.ensures.begins (file_table bytes r.checked.code is.file tables) le in
    let q = ran r c.args.input.now (room_of c.args.room) c.in-Ok.machine st c.run_sure-ended.result c.run_sure-ended.new.self c.run_sure-ended.new.gauge (record { sound = sound; literals = literals }) c.run_sure-ended.ensures.run (c.run_sure-ended.ensures.gauge unseen) in
    last_store r c.args.input.now (room_of c.args.room) c.in-Ok.machine st c.run_sure-ended.result c.run_sure-ended.new.self c.run_sure-ended.new.gauge c.into_sealed.result q c.into_sealed.ensures.cells

pub run_sure-ended-requires : goal.run_sure-ended-requires
run_sure-ended-requires c = record {
  safe = λ sure.
      let r = c.args.ready.now in
      let sound = subst (λ (v : Checked). IsSound (plain v.code)) c.verified.ensures.same c.code.ensures.sound in
      let literals = has_literals (plain r.checked.code) (subst (λ (v : Checked). HasMachineInts (plain v.code)) c.verified.ensures.same c.code.ensures.literals) in
      let tables = subst (λ (v : Checked). AreSoundTables (plain v.code)) c.verified.ensures.same c.code.ensures.tables in
      let spelt = subst (λ (v : Checked). IsSpelt (plain v.code)) c.verified.ensures.same c.verified.ensures.spelt in
      let st = c.in-Ok.ensures.begins (spelt_table spelt.0 r.checked.code spelt.1 tables) (c.is_short-sure.ensures sure) in
      safe r c.args.input.now (room_of c.args.room) c.in-Ok.machine st (record { sound = sound; literals = literals });
}
