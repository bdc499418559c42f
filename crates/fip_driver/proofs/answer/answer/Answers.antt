use Rattle.std.proofs.Common.{◌≡◌, refl, sym, subst, inl, inr}
use Rattle.std.specs.Prelude.{◌⊎◌, None}
use Rattle.fip_outside.specs.Faults.{Rose}
use Rattle.command_words.specs.View.{command_of}
use Rattle.command_answers.specs.command_library.command_run.CodeRun.{is_run_end}
use Rattle.command_answers.specs.Asks.{stored_name, ComesToInput}
use Rattle.fip_driver.specs.Outcome.{CommandOutcome, AreKept, IsDone, IsRefused, Leaves}
use Rattle.command_answers.specs.command_trace.TraceAnswer.{code_of}
use Rattle.fip_driver.specs.HandedOut.{HasCode, bytes_in}
use Rattle.fip_driver.specs.Made.{MadeBy}
use Rattle.fip_driver.proofs.Remains.{leaves_gen}
use Rattle.command_words.specs.Words.{IsCommand, IsTextName}
use Rattle.fip_driver.proofs.SourceEnds.{file_outcome, audit_outcome, library_ends, gen_ends}
use Rattle.fip_driver.proofs.answer.answer.Goals as goal

pub returns-in-Check-clause-outcome : goal.returns-in-Check-clause-outcome
returns-in-Check-clause-outcome g c =
    let fr = Rose (g.F.Folder.faults c.args.folder.now) (g.F.Folder.faults c.check.new.folder) in
    let ir = Rose (g.S.Source.faults c.args.input.now) (g.S.Source.faults c.args.input.now) in
    subst (λ x. CommandOutcome (command_of x) (g.F.Folder.files c.args.folder.now) (g.S.Source.left c.args.input.now) fr ir c.check.result) (sym c.in-Check.is) (file_outcome _ (g.F.Folder.files c.args.folder.now) (g.S.Source.left c.args.input.now) fr ⊥ ir c.check.result (λ r. absurd r) (c.check.ensures.outcome (g.S.Source.left c.args.input.now)))

pub returns-in-Compile-clause-outcome : goal.returns-in-Compile-clause-outcome
returns-in-Compile-clause-outcome g c =
    let fr = Rose (g.F.Folder.faults c.args.folder.now) (g.F.Folder.faults c.compile.new.folder) in
    let ir = Rose (g.S.Source.faults c.args.input.now) (g.S.Source.faults c.args.input.now) in
    subst (λ x. CommandOutcome (command_of x) (g.F.Folder.files c.args.folder.now) (g.S.Source.left c.args.input.now) fr ir c.compile.result) (sym c.in-Compile.is) (file_outcome _ (g.F.Folder.files c.args.folder.now) (g.S.Source.left c.args.input.now) fr ⊥ ir c.compile.result (λ r. absurd r) (c.compile.ensures.outcome (g.S.Source.left c.args.input.now)))

pub returns-in-Verify-clause-outcome : goal.returns-in-Verify-clause-outcome
returns-in-Verify-clause-outcome g c =
    let fr = Rose (g.F.Folder.faults c.args.folder.now) (g.F.Folder.faults c.verify.new.folder) in
    let ir = Rose (g.S.Source.faults c.args.input.now) (g.S.Source.faults c.args.input.now) in
    subst (λ x. CommandOutcome (command_of x) (g.F.Folder.files c.args.folder.now) (g.S.Source.left c.args.input.now) fr ir c.verify.result) (sym c.in-Verify.is) (file_outcome _ (g.F.Folder.files c.args.folder.now) (g.S.Source.left c.args.input.now) fr ⊥ ir c.verify.result (λ r. absurd r) (c.verify.ensures.outcome (g.S.Source.left c.args.input.now)))

pub returns-in-Upgrade-clause-outcome : goal.returns-in-Upgrade-clause-outcome
returns-in-Upgrade-clause-outcome g c =
    let fr = Rose (g.F.Folder.faults c.args.folder.now) (g.F.Folder.faults c.upgrade.new.folder) in
    let ir = Rose (g.S.Source.faults c.args.input.now) (g.S.Source.faults c.args.input.now) in
    subst (λ x. CommandOutcome (command_of x) (g.F.Folder.files c.args.folder.now) (g.S.Source.left c.args.input.now) fr ir c.upgrade.result) (sym c.in-Upgrade.is) (file_outcome _ (g.F.Folder.files c.args.folder.now) (g.S.Source.left c.args.input.now) fr ⊥ ir c.upgrade.result (λ r. absurd r) (c.upgrade.ensures.outcome (g.S.Source.left c.args.input.now)))

pub returns-in-Derive-clause-outcome : goal.returns-in-Derive-clause-outcome
returns-in-Derive-clause-outcome g c =
    let fr = Rose (g.F.Folder.faults c.args.folder.now) (g.F.Folder.faults c.derive.new.folder) in
    let ir = Rose (g.S.Source.faults c.args.input.now) (g.S.Source.faults c.args.input.now) in
    subst (λ x. CommandOutcome (command_of x) (g.F.Folder.files c.args.folder.now) (g.S.Source.left c.args.input.now) fr ir c.derive.result) (sym c.in-Derive.is) (file_outcome _ (g.F.Folder.files c.args.folder.now) (g.S.Source.left c.args.input.now) fr ⊥ ir c.derive.result (λ r. absurd r) (c.derive.ensures.outcome (g.S.Source.left c.args.input.now)))

pub returns-in-Audit-clause-outcome : goal.returns-in-Audit-clause-outcome
returns-in-Audit-clause-outcome g c =
    let fr = Rose (g.F.Folder.faults c.args.folder.now) (g.F.Folder.faults c.audit.new.folder) in
    let ir = Rose (g.S.Source.faults c.args.input.now) (g.S.Source.faults c.args.input.now) in
    subst (λ x. CommandOutcome (command_of x) (g.F.Folder.files c.args.folder.now) (g.S.Source.left c.args.input.now) fr ir c.audit.result) (sym c.in-Audit.is) (audit_outcome _ (g.F.Folder.files c.args.folder.now) (g.S.Source.left c.args.input.now) fr ⊥ ir c.audit.result (λ r. absurd r) (c.audit.ensures.outcome (g.S.Source.left c.args.input.now)))

pub returns-in-Replay-clause-outcome : goal.returns-in-Replay-clause-outcome
returns-in-Replay-clause-outcome g c =
    let fr = Rose (g.F.Folder.faults c.args.folder.now) (g.F.Folder.faults c.replay.new.folder) in
    let ir = Rose (g.S.Source.faults c.args.input.now) (g.S.Source.faults c.args.input.now) in
    subst (λ x. CommandOutcome (command_of x) (g.F.Folder.files c.args.folder.now) (g.S.Source.left c.args.input.now) fr ir c.replay.result) (sym c.in-Replay.is) (file_outcome _ (g.F.Folder.files c.args.folder.now) (g.S.Source.left c.args.input.now) fr ⊥ ir c.replay.result (λ r. absurd r) (c.replay.ensures.outcome (g.S.Source.left c.args.input.now)))

pub returns-in-Exec-clause-outcome : goal.returns-in-Exec-clause-outcome
returns-in-Exec-clause-outcome g c =
    let fr = Rose (g.F.Folder.faults c.args.folder.now) (g.F.Folder.faults c.exec.new.folder) in
    let ir = Rose (g.S.Source.faults c.args.input.now) (g.S.Source.faults c.exec.new.input) in
    subst (λ x. CommandOutcome (command_of x) (g.F.Folder.files c.args.folder.now) (g.S.Source.left c.args.input.now) fr ir c.exec.result) (sym c.in-Exec.is) (file_outcome _ (g.F.Folder.files c.args.folder.now) (g.S.Source.left c.args.input.now) fr ir ir c.exec.result (λ r. r) c.exec.ensures.outcome)

pub returns-in-Run-clause-outcome : goal.returns-in-Run-clause-outcome
returns-in-Run-clause-outcome g c =
    let fr = Rose (g.F.Folder.faults c.args.folder.now) (g.F.Folder.faults c.run.new.folder) in
    let ir = Rose (g.S.Source.faults c.args.input.now) (g.S.Source.faults c.run.new.input) in
    subst (λ x. CommandOutcome (command_of x) (g.F.Folder.files c.args.folder.now) (g.S.Source.left c.args.input.now) fr ir c.run.result) (sym c.in-Run.is) (file_outcome _ (g.F.Folder.files c.args.folder.now) (g.S.Source.left c.args.input.now) fr ir ir c.run.result (λ r. r) c.run.ensures.outcome)

pub returns-in-Eval-clause-outcome : goal.returns-in-Eval-clause-outcome
returns-in-Eval-clause-outcome g c =
    let fr = Rose (g.F.Folder.faults c.args.folder.now) (g.F.Folder.faults c.eval.new.folder) in
    let ir = Rose (g.S.Source.faults c.args.input.now) (g.S.Source.faults c.eval.new.input) in
    subst (λ x. CommandOutcome (command_of x) (g.F.Folder.files c.args.folder.now) (g.S.Source.left c.args.input.now) fr ir c.eval.result) (sym c.in-Eval.is) (file_outcome _ (g.F.Folder.files c.args.folder.now) (g.S.Source.left c.args.input.now) fr ir ir c.eval.result (λ r. r) c.eval.ensures.outcome)

pub returns-in-Trace-clause-outcome : goal.returns-in-Trace-clause-outcome
returns-in-Trace-clause-outcome g c =
    let fr = Rose (g.F.Folder.faults c.args.folder.now) (g.F.Folder.faults c.trace.new.folder) in
    let ir = Rose (g.S.Source.faults c.args.input.now) (g.S.Source.faults c.trace.new.input) in
    subst (λ x. CommandOutcome (command_of x) (g.F.Folder.files c.args.folder.now) (g.S.Source.left c.args.input.now) fr ir c.trace.result) (sym c.in-Trace.is) (file_outcome _ (g.F.Folder.files c.args.folder.now) (g.S.Source.left c.args.input.now) fr ir ir c.trace.result (λ r. r) c.trace.ensures.outcome)

pub returns-in-Session-clause-outcome : goal.returns-in-Session-clause-outcome
returns-in-Session-clause-outcome g c =
    let fr = Rose (g.F.Folder.faults c.args.folder.now) (g.F.Folder.faults c.session.new.folder) in
    let ir = Rose (g.S.Source.faults c.args.input.now) (g.S.Source.faults c.session.new.input) in
    subst (λ x. CommandOutcome (command_of x) (g.F.Folder.files c.args.folder.now) (g.S.Source.left c.args.input.now) fr ir c.session.result) (sym c.in-Session.is) (file_outcome _ (g.F.Folder.files c.args.folder.now) (g.S.Source.left c.args.input.now) fr ir ir c.session.result (λ r. r) c.session.ensures.outcome)

pub returns-in-Tasks-clause-outcome : goal.returns-in-Tasks-clause-outcome
returns-in-Tasks-clause-outcome g c =
    let fr = Rose (g.F.Folder.faults c.args.folder.now) (g.F.Folder.faults c.tasks.new.folder) in
    let ir = Rose (g.S.Source.faults c.args.input.now) (g.S.Source.faults c.tasks.new.input) in
    subst (λ x. CommandOutcome (command_of x) (g.F.Folder.files c.args.folder.now) (g.S.Source.left c.args.input.now) fr ir c.tasks.result) (sym c.in-Tasks.is) (file_outcome _ (g.F.Folder.files c.args.folder.now) (g.S.Source.left c.args.input.now) fr ir ir c.tasks.result (λ r. r) c.tasks.ensures.outcome)

pub returns-in-Library-clause-outcome : goal.returns-in-Library-clause-outcome
returns-in-Library-clause-outcome g c =
    let asked = subst (λ x. IsCommand c.requires.asked.0 (command_of x)) c.in-Library.is c.requires.asked.1 in
    let known : IsTextName c.in-Library.name.now = asked.asks.known in
    let fr = Rose (g.F.Folder.faults c.args.folder.now) (g.F.Folder.faults c.args.folder.now) in
    let ir = Rose (g.S.Source.faults c.args.input.now) (g.S.Source.faults c.args.input.now) in
    subst (λ x. CommandOutcome (command_of x) (g.F.Folder.files c.args.folder.now) (g.S.Source.left c.args.input.now) fr ir c.library.result) (sym c.in-Library.is) (file_outcome _ (g.F.Folder.files c.args.folder.now) (g.S.Source.left c.args.input.now) fr ⊥ ir c.library.result (λ r. absurd r) (library_ends c.in-Library.name.now (g.F.Folder.files c.args.folder.now) (g.S.Source.left c.args.input.now) fr ⊥ c.library.result known c.library.ensures.text c.library.ensures.none))

pub returns-in-Gen-clause-outcome : goal.returns-in-Gen-clause-outcome
returns-in-Gen-clause-outcome g c =
    let fr = Rose (g.F.Folder.faults c.args.folder.now) (g.F.Folder.faults c.args.folder.now) in
    let ir = Rose (g.S.Source.faults c.args.input.now) (g.S.Source.faults c.args.input.now) in
    subst (λ x. CommandOutcome (command_of x) (g.F.Folder.files c.args.folder.now) (g.S.Source.left c.args.input.now) fr ir c.generate.result) (sym c.in-Gen.is) (file_outcome _ (g.F.Folder.files c.args.folder.now) (g.S.Source.left c.args.input.now) fr ⊥ ir c.generate.result (λ r. absurd r) (gen_ends _ _ (g.F.Folder.files c.args.folder.now) (g.S.Source.left c.args.input.now) fr ⊥ c.generate.result c.generate.ensures.generates))

-- ---- what is stored, whatever the input reported

pub returns-in-Compile-clause-files : goal.returns-in-Compile-clause-files
returns-in-Compile-clause-files g c = subst (λ x. AreKept (command_of x) (g.S.Source.left c.args.input.now) (stored_name (command_of x)) (Rose (g.F.Folder.faults c.args.folder.now) (g.F.Folder.faults c.compile.new.folder)) (g.F.Folder.files c.args.folder.now) (g.F.Folder.files c.compile.new.folder) c.compile.result) (sym c.in-Compile.is) (c.compile.ensures.kept (g.S.Source.left c.args.input.now))

pub returns-in-Upgrade-clause-files : goal.returns-in-Upgrade-clause-files
returns-in-Upgrade-clause-files g c = subst (λ x. AreKept (command_of x) (g.S.Source.left c.args.input.now) (stored_name (command_of x)) (Rose (g.F.Folder.faults c.args.folder.now) (g.F.Folder.faults c.upgrade.new.folder)) (g.F.Folder.files c.args.folder.now) (g.F.Folder.files c.upgrade.new.folder) c.upgrade.result) (sym c.in-Upgrade.is) (c.upgrade.ensures.kept (g.S.Source.left c.args.input.now))

pub returns-in-Derive-clause-files : goal.returns-in-Derive-clause-files
returns-in-Derive-clause-files g c = subst (λ x. AreKept (command_of x) (g.S.Source.left c.args.input.now) (stored_name (command_of x)) (Rose (g.F.Folder.faults c.args.folder.now) (g.F.Folder.faults c.derive.new.folder)) (g.F.Folder.files c.args.folder.now) (g.F.Folder.files c.derive.new.folder) c.derive.result) (sym c.in-Derive.is) (c.derive.ensures.kept (g.S.Source.left c.args.input.now))

-- ---- the input waits

pub returns-in-Exec-clause-waits : goal.returns-in-Exec-clause-waits
returns-in-Exec-clause-waits g c = subst (λ x. (c.exec.new.input ≡ c.args.input.now) ⊎ ComesToInput (command_of x) (g.F.Folder.files c.args.folder.now)) (sym c.in-Exec.is) c.exec.ensures.waits

pub returns-in-Run-clause-waits : goal.returns-in-Run-clause-waits
returns-in-Run-clause-waits g c = subst (λ x. (c.run.new.input ≡ c.args.input.now) ⊎ ComesToInput (command_of x) (g.F.Folder.files c.args.folder.now)) (sym c.in-Run.is) c.run.ensures.waits

pub returns-in-Eval-clause-waits : goal.returns-in-Eval-clause-waits
returns-in-Eval-clause-waits g c = subst (λ x. (c.eval.new.input ≡ c.args.input.now) ⊎ ComesToInput (command_of x) (g.F.Folder.files c.args.folder.now)) (sym c.in-Eval.is) c.eval.ensures.waits

pub returns-in-Trace-clause-waits : goal.returns-in-Trace-clause-waits
returns-in-Trace-clause-waits g c = subst (λ x. (c.trace.new.input ≡ c.args.input.now) ⊎ ComesToInput (command_of x) (g.F.Folder.files c.args.folder.now)) (sym c.in-Trace.is) c.trace.ensures.waits

pub returns-in-Session-clause-waits : goal.returns-in-Session-clause-waits
returns-in-Session-clause-waits g c = subst (λ x. (c.session.new.input ≡ c.args.input.now) ⊎ ComesToInput (command_of x) (g.F.Folder.files c.args.folder.now)) (sym c.in-Session.is) c.session.ensures.waits

pub returns-in-Tasks-clause-waits : goal.returns-in-Tasks-clause-waits
returns-in-Tasks-clause-waits g c = subst (λ x. (c.tasks.new.input ≡ c.args.input.now) ⊎ ComesToInput (command_of x) (g.F.Folder.files c.args.folder.now)) (sym c.in-Tasks.is) c.tasks.ensures.waits

pub returns-in-Check-clause-waits : goal.returns-in-Check-clause-waits
returns-in-Check-clause-waits g c = inl refl

pub returns-in-Compile-clause-waits : goal.returns-in-Compile-clause-waits
returns-in-Compile-clause-waits g c = inl refl

pub returns-in-Verify-clause-waits : goal.returns-in-Verify-clause-waits
returns-in-Verify-clause-waits g c = inl refl

pub returns-in-Upgrade-clause-waits : goal.returns-in-Upgrade-clause-waits
returns-in-Upgrade-clause-waits g c = inl refl

pub returns-in-Derive-clause-waits : goal.returns-in-Derive-clause-waits
returns-in-Derive-clause-waits g c = inl refl

pub returns-in-Audit-clause-waits : goal.returns-in-Audit-clause-waits
returns-in-Audit-clause-waits g c = inl refl

pub returns-in-Replay-clause-waits : goal.returns-in-Replay-clause-waits
returns-in-Replay-clause-waits g c = inl refl

pub returns-in-Library-clause-waits : goal.returns-in-Library-clause-waits
returns-in-Library-clause-waits g c = inl refl

pub returns-in-Gen-clause-waits : goal.returns-in-Gen-clause-waits
returns-in-Gen-clause-waits g c = inl refl

-- ---- what is left of a run

pub returns-in-Exec-clause-left : goal.returns-in-Exec-clause-left
returns-in-Exec-clause-left g c = subst (λ x. Leaves (command_of x) (g.F.Folder.files c.args.folder.now) (g.S.Source.left c.args.input.now) (is_run_end c.exec.result) c.exec.new.left) (sym c.in-Exec.is) c.exec.ensures.left

pub returns-in-Run-clause-left : goal.returns-in-Run-clause-left
returns-in-Run-clause-left g c = subst (λ x. Leaves (command_of x) (g.F.Folder.files c.args.folder.now) (g.S.Source.left c.args.input.now) (is_run_end c.run.result) c.run.new.left) (sym c.in-Run.is) c.run.ensures.left

pub returns-in-Trace-clause-left : goal.returns-in-Trace-clause-left
returns-in-Trace-clause-left g c = subst (λ x. Leaves (command_of x) (g.F.Folder.files c.args.folder.now) (g.S.Source.left c.args.input.now) (is_run_end c.trace.result) c.trace.new.left) (sym c.in-Trace.is) c.trace.ensures.left

pub returns-in-Gen-clause-left : goal.returns-in-Gen-clause-left
returns-in-Gen-clause-left g c = subst (λ x. Leaves (command_of x) (g.F.Folder.files c.args.folder.now) (g.S.Source.left c.args.input.now) (is_run_end c.generate.result) c.generate.new.left) (sym c.in-Gen.is)
    (leaves_gen _ _ (g.F.Folder.files c.args.folder.now) (g.S.Source.left c.args.input.now) _ c.generate.new.left c.generate.ensures.some c.generate.ensures.left)

-- ---- the code that was made

pub returns-in-Check-clause-made : goal.returns-in-Check-clause-made
returns-in-Check-clause-made g c = subst (λ x. MadeBy (command_of x) (g.F.Folder.files c.args.folder.now) (g.F.Folder.files c.check.new.folder) (g.S.Source.left c.args.input.now) (IsDone c.check.result) (IsRefused c.check.result) (bytes_in None) (code_of None None)) (sym c.in-Check.is) refl

pub returns-in-Compile-clause-made : goal.returns-in-Compile-clause-made
returns-in-Compile-clause-made g c = subst (λ x. MadeBy (command_of x) (g.F.Folder.files c.args.folder.now) (g.F.Folder.files c.compile.new.folder) (g.S.Source.left c.args.input.now) (IsDone c.compile.result) (IsRefused c.compile.result) (bytes_in c.compile.new.fetched) (code_of None c.compile.new.made)) (sym c.in-Compile.is) (c.compile.ensures.made (g.S.Source.left c.args.input.now))

pub returns-in-Verify-clause-made : goal.returns-in-Verify-clause-made
returns-in-Verify-clause-made g c = subst (λ x. MadeBy (command_of x) (g.F.Folder.files c.args.folder.now) (g.F.Folder.files c.verify.new.folder) (g.S.Source.left c.args.input.now) (IsDone c.verify.result) (IsRefused c.verify.result) (bytes_in None) (code_of None None)) (sym c.in-Verify.is) refl

pub returns-in-Upgrade-clause-made : goal.returns-in-Upgrade-clause-made
returns-in-Upgrade-clause-made g c = subst (λ x. MadeBy (command_of x) (g.F.Folder.files c.args.folder.now) (g.F.Folder.files c.upgrade.new.folder) (g.S.Source.left c.args.input.now) (IsDone c.upgrade.result) (IsRefused c.upgrade.result) (bytes_in c.upgrade.new.fetched) (code_of None None)) (sym c.in-Upgrade.is) (c.upgrade.ensures.made (g.S.Source.left c.args.input.now) (code_of None None))

pub returns-in-Derive-clause-made : goal.returns-in-Derive-clause-made
returns-in-Derive-clause-made g c = subst (λ x. MadeBy (command_of x) (g.F.Folder.files c.args.folder.now) (g.F.Folder.files c.derive.new.folder) (g.S.Source.left c.args.input.now) (IsDone c.derive.result) (IsRefused c.derive.result) (bytes_in c.derive.new.fetched) (code_of None None)) (sym c.in-Derive.is) (c.derive.ensures.made (g.S.Source.left c.args.input.now) (code_of None None))

pub returns-in-Audit-clause-made : goal.returns-in-Audit-clause-made
returns-in-Audit-clause-made g c = subst (λ x. MadeBy (command_of x) (g.F.Folder.files c.args.folder.now) (g.F.Folder.files c.audit.new.folder) (g.S.Source.left c.args.input.now) (IsDone c.audit.result) (IsRefused c.audit.result) (bytes_in None) (code_of None None)) (sym c.in-Audit.is) refl

pub returns-in-Replay-clause-made : goal.returns-in-Replay-clause-made
returns-in-Replay-clause-made g c = subst (λ x. MadeBy (command_of x) (g.F.Folder.files c.args.folder.now) (g.F.Folder.files c.replay.new.folder) (g.S.Source.left c.args.input.now) (IsDone c.replay.result) (IsRefused c.replay.result) (bytes_in None) (code_of None None)) (sym c.in-Replay.is) refl

pub returns-in-Exec-clause-made : goal.returns-in-Exec-clause-made
returns-in-Exec-clause-made g c = subst (λ x. MadeBy (command_of x) (g.F.Folder.files c.args.folder.now) (g.F.Folder.files c.exec.new.folder) (g.S.Source.left c.args.input.now) (IsDone c.exec.result) (IsRefused c.exec.result) (bytes_in None) (code_of c.exec.new.left None)) (sym c.in-Exec.is) refl

pub returns-in-Run-clause-made : goal.returns-in-Run-clause-made
returns-in-Run-clause-made g c = subst (λ x. MadeBy (command_of x) (g.F.Folder.files c.args.folder.now) (g.F.Folder.files c.run.new.folder) (g.S.Source.left c.args.input.now) (IsDone c.run.result) (IsRefused c.run.result) (bytes_in None) (code_of c.run.new.left None)) (sym c.in-Run.is) refl

pub returns-in-Eval-clause-made : goal.returns-in-Eval-clause-made
returns-in-Eval-clause-made g c = subst (λ x. MadeBy (command_of x) (g.F.Folder.files c.args.folder.now) (g.F.Folder.files c.eval.new.folder) (g.S.Source.left c.args.input.now) (IsDone c.eval.result) (IsRefused c.eval.result) (bytes_in None) (code_of None None)) (sym c.in-Eval.is) refl

pub returns-in-Trace-clause-made : goal.returns-in-Trace-clause-made
returns-in-Trace-clause-made g c = subst (λ x. MadeBy (command_of x) (g.F.Folder.files c.args.folder.now) (g.F.Folder.files c.trace.new.folder) (g.S.Source.left c.args.input.now) (IsDone c.trace.result) (IsRefused c.trace.result) (bytes_in c.trace.new.fetched) (code_of c.trace.new.left c.trace.new.made)) (sym c.in-Trace.is) c.trace.ensures.made

pub returns-in-Session-clause-made : goal.returns-in-Session-clause-made
returns-in-Session-clause-made g c = subst (λ x. MadeBy (command_of x) (g.F.Folder.files c.args.folder.now) (g.F.Folder.files c.session.new.folder) (g.S.Source.left c.args.input.now) (IsDone c.session.result) (IsRefused c.session.result) (bytes_in None) (code_of None None)) (sym c.in-Session.is) refl

pub returns-in-Tasks-clause-made : goal.returns-in-Tasks-clause-made
returns-in-Tasks-clause-made g c = subst (λ x. MadeBy (command_of x) (g.F.Folder.files c.args.folder.now) (g.F.Folder.files c.tasks.new.folder) (g.S.Source.left c.args.input.now) (IsDone c.tasks.result) (IsRefused c.tasks.result) (bytes_in None) (code_of None None)) (sym c.in-Tasks.is) refl

pub returns-in-Library-clause-made : goal.returns-in-Library-clause-made
returns-in-Library-clause-made g c = subst (λ x. MadeBy (command_of x) (g.F.Folder.files c.args.folder.now) (g.F.Folder.files c.args.folder.now) (g.S.Source.left c.args.input.now) (IsDone c.library.result) (IsRefused c.library.result) (bytes_in None) (code_of None None)) (sym c.in-Library.is) refl

pub returns-in-Gen-clause-made : goal.returns-in-Gen-clause-made
returns-in-Gen-clause-made g c = subst (λ x. MadeBy (command_of x) (g.F.Folder.files c.args.folder.now) (g.F.Folder.files c.args.folder.now) (g.S.Source.left c.args.input.now) (IsDone c.generate.result) (IsRefused c.generate.result) (bytes_in None) (code_of c.generate.new.left None)) (sym c.in-Gen.is) refl

-- ---- which commands hand a code out

pub returns-in-Compile-clause-only : goal.returns-in-Compile-clause-only
returns-in-Compile-clause-only g c = inr (refl, subst (λ x. HasCode (command_of x)) (sym c.in-Compile.is) tt)

pub returns-in-Trace-clause-only : goal.returns-in-Trace-clause-only
returns-in-Trace-clause-only g c = elim c.trace.ensures.apart as (λ _. (c.trace.new.made ≡ None) ⊎ ((c.trace.new.left ≡ None) × HasCode (command_of c.args.command.now))) [
  | inl e ↦ inr (e, subst (λ x. HasCode (command_of x)) (sym c.in-Trace.is) tt)
  | inr e ↦ inl e
]
