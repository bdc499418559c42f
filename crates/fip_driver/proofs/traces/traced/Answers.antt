use Rattle.std.proofs.Common.{◌≤◌, ℕ, List, length, sym, subst}
use Rattle.std.specs.Prelude.{IfSome}
use Rattle.fip_language.specs.declared.limits.TheConstants.{MOST_FILE_BYTES}
use Rattle.command_words.specs.View.{room_of}
use Rattle.command_answers.specs.command_trace.TraceAnswer.{Traces, KeptOrNoMemory}
use Rattle.command_answers.specs.Ends.{TracesTo}
use Rattle.command_answers.specs.command_library.command_source.ProgramCode.{IsEntryOf}
use Rattle.command_answers.specs.command_library.command_run.Leaving.{IsLeftBy}
use Rattle.fip_driver.proofs.Making.{read_runs, unread_runs}
use Rattle.fip_driver.proofs.Remains.{read_ran, remains_on}
use Rattle.fip_driver.proofs.SourceEnds.{unread_says, read_traces, trace_made}
use Rattle.fip_driver.proofs.Telling.{whole_of}
use Rattle.fip_driver.proofs.traces.traced.Goals as goal

pub returns-in-Ok-clause-outcome : goal.returns-in-Ok-clause-outcome
returns-in-Ok-clause-outcome g c = λ source name ready entry.
    let within = subst (λ (xs : List ℕ). length xs ≤ MOST_FILE_BYTES) (sym c.as_slice.ensures.value) c.in-Ok.ensures.within in
    let traces = subst (λ (xs : List ℕ). KeptOrNoMemory (Traces source name xs (room_of c.args.room)) c.trace.result) c.as_slice.ensures.value (c.trace.ensures.traces source name ready entry within) in
    read_traces source name (room_of c.args.room) (g.S.Source.left c.args.input.now) _ _ c.in-Ok.bytes.items c.trace.result c.in-Ok.ensures.all c.in-Ok.ensures.end c.in-Ok.ensures.within traces

pub returns-in-Err-clause-outcome : goal.returns-in-Err-clause-outcome
returns-in-Err-clause-outcome g c = λ source name ready entry. unread_says (λ input. TracesTo source name input (room_of c.args.room)) (g.S.Source.left c.args.input.now) _ _ _ c.in-Err.failure c.in-Err.ensures.fails

pub returns-in-Ok-clause-made : goal.returns-in-Ok-clause-made
returns-in-Ok-clause-made g c = λ source name ready entry.
    let within = subst (λ (xs : List ℕ). length xs ≤ MOST_FILE_BYTES) (sym c.as_slice.ensures.value) c.in-Ok.ensures.within in
    let traces = subst (λ (xs : List ℕ). KeptOrNoMemory (Traces source name xs (room_of c.args.room)) c.trace.result) c.as_slice.ensures.value (c.trace.ensures.traces source name ready entry within) in
    trace_made source name (room_of c.args.room) (g.S.Source.left c.args.input.now) _ c.in-Ok.bytes.items c.trace.result c.in-Ok.ensures.all c.in-Ok.ensures.end traces

pub returns-in-Ok-clause-left : goal.returns-in-Ok-clause-left
returns-in-Ok-clause-left g c = λ source name ready entry.
    let within = subst (λ (xs : List ℕ). length xs ≤ MOST_FILE_BYTES) (sym c.as_slice.ensures.value) c.in-Ok.ensures.within in
    let such = subst (λ xs. IfSome c.trace.new.left (IsLeftBy c.args.ready xs (room_of c.args.room))) c.as_slice.ensures.value (c.trace.ensures.meant source name ready entry within) in
    remains_on (IsEntryOf source name) (g.S.Source.left c.args.input.now) (room_of c.args.room) c.args.ready c.in-Ok.bytes.items _ c.trace.new.left entry (whole_of (g.S.Source.left c.args.input.now) _ c.in-Ok.bytes.items c.in-Ok.ensures.all c.in-Ok.ensures.end) c.trace.ensures.some such

pub returns-in-Err-clause-left : goal.returns-in-Err-clause-left
returns-in-Err-clause-left g c = λ source name ready entry. read_ran (g.S.Source.left c.args.input.now) _ _ _ c.in-Err.failure c.in-Err.ensures.fails

pub returns-in-Ok-clause-own : goal.returns-in-Ok-clause-own
returns-in-Ok-clause-own g c = λ source name ready entry.
    let within = subst (λ (xs : List ℕ). length xs ≤ MOST_FILE_BYTES) (sym c.as_slice.ensures.value) c.in-Ok.ensures.within in
    read_runs c.args.ready (room_of c.args.room) (g.S.Source.left c.args.input.now) _ c.in-Ok.bytes.items c.as_slice.result.now c.trace.result c.in-Ok.ensures.all c.in-Ok.ensures.end c.as_slice.ensures.value (c.trace.ensures.own source name ready entry within)

pub returns-in-Err-clause-own : goal.returns-in-Err-clause-own
returns-in-Err-clause-own g c = λ source name ready entry. unread_runs c.args.ready (room_of c.args.room) (g.S.Source.left c.args.input.now) _ _ _ c.in-Err.failure c.in-Err.ensures.fails
