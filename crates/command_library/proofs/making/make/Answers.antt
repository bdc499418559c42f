use Rattle.std.proofs.Common.{◌≤◌, ◌∙◌, false, length, Err, ap, sym, subst, arith}
use Rattle.fip_language.specs.declared.limits.TheConstants.{MOST_FILE_BYTES}
use Rattle.fip_machine.specs.code_verify.Checked.{Checked, HasMachineInts}
use Rattle.fip_machine.specs.GaugeView.{IsUnseen}
use Rattle.command_tasks.specs.command_run.machine_correctness.Starts.{IsSoundCode}
use Rattle.command_tasks.specs.command_run.Starting.{ReportsEnded}
use Rattle.command_tasks.specs.command_run.code_rules.Breaks.{IsSound}
use Rattle.fip_machine.specs.cell_code.Plain.{plain}
use Rattle.command_tasks.specs.command_run.code_rules.Tables.{AreSoundTables}
use Rattle.command_tasks.specs.command_run.command_source.Codes.{IsSpelt}
use Rattle.command_tasks.proofs.command_run.machine_correctness.Literals.{has_literals}
use Rattle.command_tasks.proofs.command_run.Entry as N
use Rattle.command_tasks.proofs.command_run.Execs as X
use Rattle.command_tasks.proofs.command_run.FileTypes.{spelt_table}
use Rattle.command_tasks.proofs.command_run.Leaving.{last_store}
use Rattle.command_tasks.specs.command_run.Leaving.{IsLastStore}
use Rattle.command_tasks.proofs.command_run.Ran.{ran, safe}
use Rattle.command_library.specs.GenAnswer.{build, gen_room}
use Rattle.command_library.proofs.Runs.{is_value, run_failed, failed_reported, or_memory, too_long, no_tree, tree}
use Rattle.command_library.proofs.making.make.Goals as goal

pub returns-then-len-gt-MOST_FILE_BYTES-clause-makes : goal.returns-then-len-gt-MOST_FILE_BYTES-clause-makes
returns-then-len-gt-MOST_FILE_BYTES-clause-makes c = λ source ready is. too_long source c.args.seed c.args.count c.in-Ok.input.items c.in-Ok.ensures.text (let h = c.if-len-gt-MOST_FILE_BYTES.true in let k = c.len.ensures in omega (arith, h, k))

pub returns-in-Err-started-clause-makes : goal.returns-in-Err-started-clause-makes
returns-in-Err-started-clause-makes c = λ source ready is.
    let r = c.args.ready.now in
    let input = c.as_slice.result.now in
    let text = c.as_slice.ensures.value ∙ c.in-Ok.ensures.text in
    let short : length input ≤ MOST_FILE_BYTES = (let h = c.if-len-gt-MOST_FILE_BYTES.false in let k = c.len.ensures in let e = ap length c.as_slice.ensures.value in omega (arith, h, k, e)) in
    let literals = has_literals (plain r.checked.code) (subst (λ (v : Checked). HasMachineInts (plain v.code)) c.verified.ensures.same c.code.ensures.literals) in
    no_tree source c.args.seed c.args.count input text short c.in-Err-started.failure (X.keeps_exec source build input r ready is literals gen_room false c.in-Err-started.failure (c.in-Err-started.ensures.keeps (N.table_sound source build r ready is) short))

pub returns-in-Some-clause-makes : goal.returns-in-Some-clause-makes
returns-in-Some-clause-makes c = λ source ready is.
    let r = c.args.ready.now in
    let input = c.as_slice.result.now in
    let text = c.as_slice.ensures.value ∙ c.in-Ok.ensures.text in
    let short : length input ≤ MOST_FILE_BYTES = (let h = c.if-len-gt-MOST_FILE_BYTES.false in let k = c.len.ensures in let e = ap length c.as_slice.ensures.value in omega (arith, h, k, e)) in
    let literals = has_literals (plain r.checked.code) (subst (λ (v : Checked). HasMachineInts (plain v.code)) c.verified.ensures.same c.code.ensures.literals) in
    let sound : IsSoundCode r.checked.code = record { sound = subst (λ (v : Checked). IsSound (plain v.code)) c.verified.ensures.same c.code.ensures.sound; literals = literals } in
    let m = c.in-Ok-started.machine in
    let st = c.in-Ok-started.ensures.begins (N.table_sound source build r ready is) short in
    let unseen : IsUnseen c.new-seen.result = record { seen = c.new-seen.ensures.unseen; highest = c.new-seen.ensures.highest; frames = c.new-seen.ensures.frames; words = c.new-seen.ensures.words } in
    let o = c.run_sure-ended.result in
    let new = c.run_sure-ended.new.self in
    let g = c.run_sure-ended.new.gauge in
    let q = ran r input gen_room m st o new g sound c.run_sure-ended.ensures.run (c.run_sure-ended.ensures.gauge unseen) in
    let failure = c.in-Some.failure in
    let reported = failed_reported r.checked.code.types is.named.function.results gen_room _ new.store new.stack.given o failure (sym c.failure_of.ensures.exact ∙ c.in-Some.is) in
    no_tree source c.args.seed c.args.count input text short failure (X.finished source build input r ready is literals gen_room false m st o new g q (Err failure) (or_memory (ReportsEnded r.checked.code.types is.named.function.results gen_room _ new.store new.stack.given o) failure reported))

pub returns-in-Some-clause-meant : goal.returns-in-Some-clause-meant
returns-in-Some-clause-meant c = λ source ready is.
    let r = c.args.ready.now in
    let input = c.as_slice.result.now in
    let text = c.as_slice.ensures.value ∙ c.in-Ok.ensures.text in
    let short : length input ≤ MOST_FILE_BYTES = (let h = c.if-len-gt-MOST_FILE_BYTES.false in let k = c.len.ensures in let e = ap length c.as_slice.ensures.value in omega (arith, h, k, e)) in
    let literals = has_literals (plain r.checked.code) (subst (λ (v : Checked). HasMachineInts (plain v.code)) c.verified.ensures.same c.code.ensures.literals) in
    let sound : IsSoundCode r.checked.code = record { sound = subst (λ (v : Checked). IsSound (plain v.code)) c.verified.ensures.same c.code.ensures.sound; literals = literals } in
    let m = c.in-Ok-started.machine in
    let st = c.in-Ok-started.ensures.begins (N.table_sound source build r ready is) short in
    let unseen : IsUnseen c.new-seen.result = record { seen = c.new-seen.ensures.unseen; highest = c.new-seen.ensures.highest; frames = c.new-seen.ensures.frames; words = c.new-seen.ensures.words } in
    let o = c.run_sure-ended.result in
    let new = c.run_sure-ended.new.self in
    let g = c.run_sure-ended.new.gauge in
    let q = ran r input gen_room m st o new g sound c.run_sure-ended.ensures.run (c.run_sure-ended.ensures.gauge unseen) in
    subst (λ bs. IsLastStore r bs gen_room c.into_sealed.result) text (last_store r input gen_room m st o new g c.into_sealed.result q c.into_sealed.ensures.cells)

pub returns-in-Some-clause-some : goal.returns-in-Some-clause-some
returns-in-Some-clause-some c = sym (run_failed c.run_sure-ended.result gen_room.calls gen_room.frames c.in-Some.failure (sym c.failure_of.ensures.exact ∙ c.in-Some.is))

pub returns-in-Ok-tree_of-clause-makes : goal.returns-in-Ok-tree_of-clause-makes
returns-in-Ok-tree_of-clause-makes c = λ source ready is.
    let r = c.args.ready.now in
    let input = c.as_slice.result.now in
    let text = c.as_slice.ensures.value ∙ c.in-Ok.ensures.text in
    let short : length input ≤ MOST_FILE_BYTES = (let h = c.if-len-gt-MOST_FILE_BYTES.false in let k = c.len.ensures in let e = ap length c.as_slice.ensures.value in omega (arith, h, k, e)) in
    let literals = has_literals (plain r.checked.code) (subst (λ (v : Checked). HasMachineInts (plain v.code)) c.verified.ensures.same c.code.ensures.literals) in
    let sound : IsSoundCode r.checked.code = record { sound = subst (λ (v : Checked). IsSound (plain v.code)) c.verified.ensures.same c.code.ensures.sound; literals = literals } in
    let m = c.in-Ok-started.machine in
    let st = c.in-Ok-started.ensures.begins (N.table_sound source build r ready is) short in
    let unseen : IsUnseen c.new-seen.result = record { seen = c.new-seen.ensures.unseen; highest = c.new-seen.ensures.highest; frames = c.new-seen.ensures.frames; words = c.new-seen.ensures.words } in
    let o = c.run_sure-ended.result in
    let new = c.run_sure-ended.new.self in
    let g = c.run_sure-ended.new.gauge in
    let q = ran r input gen_room m st o new g sound c.run_sure-ended.ensures.run (c.run_sure-ended.ensures.gauge unseen) in
    let value = is_value o gen_room.calls gen_room.frames (sym c.failure_of.ensures.exact ∙ c.in-None.is) in
    tree source c.args.seed c.args.count input text short r ready is literals m st o new g q value c.in-Ok-tree_of.text.items (λ vs p. c.in-Ok-tree_of.ensures.lines is.named.function vs is.named.there q.small p)

pub returns-in-Ok-tree_of-clause-meant : goal.returns-in-Ok-tree_of-clause-meant
returns-in-Ok-tree_of-clause-meant c = λ source ready is.
    let r = c.args.ready.now in
    let input = c.as_slice.result.now in
    let text = c.as_slice.ensures.value ∙ c.in-Ok.ensures.text in
    let short : length input ≤ MOST_FILE_BYTES = (let h = c.if-len-gt-MOST_FILE_BYTES.false in let k = c.len.ensures in let e = ap length c.as_slice.ensures.value in omega (arith, h, k, e)) in
    let literals = has_literals (plain r.checked.code) (subst (λ (v : Checked). HasMachineInts (plain v.code)) c.verified.ensures.same c.code.ensures.literals) in
    let sound : IsSoundCode r.checked.code = record { sound = subst (λ (v : Checked). IsSound (plain v.code)) c.verified.ensures.same c.code.ensures.sound; literals = literals } in
    let m = c.in-Ok-started.machine in
    let st = c.in-Ok-started.ensures.begins (N.table_sound source build r ready is) short in
    let unseen : IsUnseen c.new-seen.result = record { seen = c.new-seen.ensures.unseen; highest = c.new-seen.ensures.highest; frames = c.new-seen.ensures.frames; words = c.new-seen.ensures.words } in
    let o = c.run_sure-ended.result in
    let new = c.run_sure-ended.new.self in
    let g = c.run_sure-ended.new.gauge in
    let q = ran r input gen_room m st o new g sound c.run_sure-ended.ensures.run (c.run_sure-ended.ensures.gauge unseen) in
    subst (λ bs. IsLastStore r bs gen_room c.into_sealed-in-Ok-tree_of.result) text (last_store r input gen_room m st o new g c.into_sealed-in-Ok-tree_of.result q c.into_sealed-in-Ok-tree_of.ensures.cells)

-- the code has a file, so its table is sound, and the machine began rightly
pub run_sure-ended-requires : goal.run_sure-ended-requires
run_sure-ended-requires c = record {
  safe = λ sure.
      let r = c.args.ready.now in
      let input = c.as_slice.result.now in
      let short : length input ≤ MOST_FILE_BYTES = (let h = c.if-len-gt-MOST_FILE_BYTES.false in let k = c.len.ensures in let e = ap length c.as_slice.ensures.value in omega (arith, h, k, e)) in
      let literals = has_literals (plain r.checked.code) (subst (λ (v : Checked). HasMachineInts (plain v.code)) c.verified.ensures.same c.code.ensures.literals) in
      let sound : IsSoundCode r.checked.code = record { sound = subst (λ (v : Checked). IsSound (plain v.code)) c.verified.ensures.same c.code.ensures.sound; literals = literals } in
      let tables = subst (λ (v : Checked). AreSoundTables (plain v.code)) c.verified.ensures.same c.code.ensures.tables in
      let spelt = subst (λ (v : Checked). IsSpelt (plain v.code)) c.verified.ensures.same c.verified.ensures.spelt in
      let st = c.in-Ok-started.ensures.begins (spelt_table spelt.0 r.checked.code spelt.1 tables) short in
      safe r input gen_room c.in-Ok-started.machine st sound;
}
