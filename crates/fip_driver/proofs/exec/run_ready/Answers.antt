use Rattle.std.proofs.Common.{◌≤◌, ℕ, List, length, sym, subst}
use Rattle.std.specs.Prelude.{IfSome}
use Rattle.fip_language.specs.declared.limits.TheConstants.{MOST_FILE_BYTES}
use Rattle.command_words.specs.View.{room_of}
use Rattle.command_answers.specs.command_library.command_eval.EvalAnswer.{OrNoMemory}
use Rattle.command_answers.specs.command_library.command_run.CodeRun.{RunsCode}
use Rattle.command_answers.specs.command_library.command_run.ExecAnswer.{Execs}
use Rattle.command_answers.specs.command_library.command_source.Entries.{IsFunctionOf}
use Rattle.command_answers.specs.command_library.command_source.ProgramCode.{IsEntryOf}
use Rattle.command_answers.specs.command_library.command_run.Leaving.{IsLeftBy}
use Rattle.fip_driver.proofs.Remains.{read_ran, remains_on}
use Rattle.fip_driver.proofs.SourceEnds.{unread_says, read_says}
use Rattle.fip_driver.proofs.Telling.{whole_of}
use Rattle.fip_driver.proofs.exec.run_ready.Goals as goal

pub returns-in-Ok-clause-means : goal.returns-in-Ok-clause-means
returns-in-Ok-clause-means g c = λ source name ready entry.
    let within = subst (λ (xs : List ℕ). length xs ≤ MOST_FILE_BYTES) (sym c.as_slice.ensures.value) c.in-Ok.ensures.within in
    let means = subst (λ (xs : List ℕ). OrNoMemory (Execs source name xs (room_of c.args.room) c.args.gauge) c.run.result) c.as_slice.ensures.value (c.run.ensures.means source name ready entry within) in
    read_says (λ bytes. Execs source name bytes (room_of c.args.room) c.args.gauge) (g.S.Source.left c.args.input.now) _ _ c.in-Ok.bytes.items c.run.result c.in-Ok.ensures.all c.in-Ok.ensures.end c.in-Ok.ensures.within means

pub returns-in-Err-clause-means : goal.returns-in-Err-clause-means
returns-in-Err-clause-means g c = λ source name ready entry. unread_says (λ bytes. Execs source name bytes (room_of c.args.room) c.args.gauge) (g.S.Source.left c.args.input.now) _ _ _ c.in-Err.failure c.in-Err.ensures.fails

pub returns-in-Ok-clause-runs : goal.returns-in-Ok-clause-runs
returns-in-Ok-clause-runs g c = λ code name function.
    let within = subst (λ (xs : List ℕ). length xs ≤ MOST_FILE_BYTES) (sym c.as_slice.ensures.value) c.in-Ok.ensures.within in
    let runs = subst (λ (xs : List ℕ). OrNoMemory (RunsCode code name xs (room_of c.args.room) c.args.gauge) c.run.result) c.as_slice.ensures.value (c.run.ensures.runs code name function within) in
    read_says (λ bytes. RunsCode code name bytes (room_of c.args.room) c.args.gauge) (g.S.Source.left c.args.input.now) _ _ c.in-Ok.bytes.items c.run.result c.in-Ok.ensures.all c.in-Ok.ensures.end c.in-Ok.ensures.within runs

pub returns-in-Err-clause-runs : goal.returns-in-Err-clause-runs
returns-in-Err-clause-runs g c = λ code name function. unread_says (λ bytes. RunsCode code name bytes (room_of c.args.room) c.args.gauge) (g.S.Source.left c.args.input.now) _ _ _ c.in-Err.failure c.in-Err.ensures.fails

pub returns-in-Ok-clause-meant : goal.returns-in-Ok-clause-meant
returns-in-Ok-clause-meant g c = λ source name ready entry.
    let within = subst (λ (xs : List ℕ). length xs ≤ MOST_FILE_BYTES) (sym c.as_slice.ensures.value) c.in-Ok.ensures.within in
    let such = subst (λ xs. IfSome c.run.new.left (IsLeftBy c.args.ready xs (room_of c.args.room))) c.as_slice.ensures.value (c.run.ensures.meant source name ready entry within) in
    remains_on (IsEntryOf source name) (g.S.Source.left c.args.input.now) (room_of c.args.room) c.args.ready c.in-Ok.bytes.items _ c.run.new.left entry (whole_of (g.S.Source.left c.args.input.now) _ c.in-Ok.bytes.items c.in-Ok.ensures.all c.in-Ok.ensures.end) c.run.ensures.some such

pub returns-in-Err-clause-meant : goal.returns-in-Err-clause-meant
returns-in-Err-clause-meant g c = λ source name ready entry. read_ran (g.S.Source.left c.args.input.now) _ _ _ c.in-Err.failure c.in-Err.ensures.fails

pub returns-in-Ok-clause-coded : goal.returns-in-Ok-clause-coded
returns-in-Ok-clause-coded g c = λ code name function.
    let within = subst (λ (xs : List ℕ). length xs ≤ MOST_FILE_BYTES) (sym c.as_slice.ensures.value) c.in-Ok.ensures.within in
    let such = subst (λ xs. IfSome c.run.new.left (IsLeftBy c.args.ready xs (room_of c.args.room))) c.as_slice.ensures.value (c.run.ensures.coded code name function within) in
    remains_on (IsFunctionOf code name) (g.S.Source.left c.args.input.now) (room_of c.args.room) c.args.ready c.in-Ok.bytes.items _ c.run.new.left function (whole_of (g.S.Source.left c.args.input.now) _ c.in-Ok.bytes.items c.in-Ok.ensures.all c.in-Ok.ensures.end) c.run.ensures.some such

pub returns-in-Err-clause-coded : goal.returns-in-Err-clause-coded
returns-in-Err-clause-coded g c = λ code name function. read_ran (g.S.Source.left c.args.input.now) _ _ _ c.in-Err.failure c.in-Err.ensures.fails
