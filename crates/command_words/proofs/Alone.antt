-- What asks for something after a command's name is of that command.
use Rattle.std.proofs.Common.{arith, ◌≡◌, ℕ, List, ap, codes, slice_index}
use Rattle.clap.specs.Words.{Text, Row}
use Rattle.command_words.specs.Words.{Room, Command, Check, Compile, Verify, Upgrade, Exec, Run, Eval, Trace, Session, Tasks, Derive, Audit, Replay, Library, Gen, IsAsked, AsksToEvaluate, AsksToTrace, AsksToTalk, AsksForTasks, AsksToReplay, AsksToGenerate}

pub eval_alone : (rows : List Row) → ((file : Text) (entry : Text) (calls : ℕ) (frames : ℕ) → AsksToEvaluate rows file entry calls frames → ⊥) → (c : Command) → IsAsked rows (codes "eval") c → ⊥
eval_alone rows never (Check file) h = let e : ◌≡◌ {A = ℕ} 101 99 = ap (λ (t : Text). slice_index t 0) h.named in absurd (omega arith)
eval_alone rows never (Compile file out) h = let e : ◌≡◌ {A = ℕ} 101 99 = ap (λ (t : Text). slice_index t 0) h.named in absurd (omega arith)
eval_alone rows never (Verify file) h = let e : ◌≡◌ {A = ℕ} 101 118 = ap (λ (t : Text). slice_index t 0) h.named in absurd (omega arith)
eval_alone rows never (Upgrade file out) h = let e : ◌≡◌ {A = ℕ} 101 117 = ap (λ (t : Text). slice_index t 0) h.named in absurd (omega arith)
eval_alone rows never (Exec r) h = let e : ◌≡◌ {A = ℕ} 118 120 = ap (λ (t : Text). slice_index t 1) h.named in absurd (omega arith)
eval_alone rows never (Run r) h = let e : ◌≡◌ {A = ℕ} 101 114 = ap (λ (t : Text). slice_index t 0) h.named in absurd (omega arith)
eval_alone rows never (Eval file entry calls frames) h = never file entry calls frames h.asks
eval_alone rows never (Trace file entry out room) h = let e : ◌≡◌ {A = ℕ} 101 116 = ap (λ (t : Text). slice_index t 0) h.named in absurd (omega arith)
eval_alone rows never (Session file room) h = let e : ◌≡◌ {A = ℕ} 101 115 = ap (λ (t : Text). slice_index t 0) h.named in absurd (omega arith)
eval_alone rows never (Tasks file seed turns room) h = let e : ◌≡◌ {A = ℕ} 101 116 = ap (λ (t : Text). slice_index t 0) h.named in absurd (omega arith)
eval_alone rows never (Derive file out) h = let e : ◌≡◌ {A = ℕ} 101 100 = ap (λ (t : Text). slice_index t 0) h.named in absurd (omega arith)
eval_alone rows never (Audit file proof) h = let e : ◌≡◌ {A = ℕ} 101 97 = ap (λ (t : Text). slice_index t 0) h.named in absurd (omega arith)
eval_alone rows never (Replay trace step) h = let e : ◌≡◌ {A = ℕ} 101 114 = ap (λ (t : Text). slice_index t 0) h.named in absurd (omega arith)
eval_alone rows never (Library name) h = let e : ◌≡◌ {A = ℕ} 101 108 = ap (λ (t : Text). slice_index t 0) h.named in absurd (omega arith)
eval_alone rows never (Gen seed count) h = let e : ◌≡◌ {A = ℕ} 101 103 = ap (λ (t : Text). slice_index t 0) h.named in absurd (omega arith)

pub trace_alone : (rows : List Row) → ((file : Text) (entry : Text) (out : Text) (room : Room) → AsksToTrace rows file entry out room → ⊥) → (c : Command) → IsAsked rows (codes "trace") c → ⊥
trace_alone rows never (Check file) h = let e : ◌≡◌ {A = ℕ} 116 99 = ap (λ (t : Text). slice_index t 0) h.named in absurd (omega arith)
trace_alone rows never (Compile file out) h = let e : ◌≡◌ {A = ℕ} 116 99 = ap (λ (t : Text). slice_index t 0) h.named in absurd (omega arith)
trace_alone rows never (Verify file) h = let e : ◌≡◌ {A = ℕ} 116 118 = ap (λ (t : Text). slice_index t 0) h.named in absurd (omega arith)
trace_alone rows never (Upgrade file out) h = let e : ◌≡◌ {A = ℕ} 116 117 = ap (λ (t : Text). slice_index t 0) h.named in absurd (omega arith)
trace_alone rows never (Exec r) h = let e : ◌≡◌ {A = ℕ} 116 101 = ap (λ (t : Text). slice_index t 0) h.named in absurd (omega arith)
trace_alone rows never (Run r) h = let e : ◌≡◌ {A = ℕ} 116 114 = ap (λ (t : Text). slice_index t 0) h.named in absurd (omega arith)
trace_alone rows never (Eval file entry calls frames) h = let e : ◌≡◌ {A = ℕ} 116 101 = ap (λ (t : Text). slice_index t 0) h.named in absurd (omega arith)
trace_alone rows never (Trace file entry out room) h = never file entry out room h.asks
trace_alone rows never (Session file room) h = let e : ◌≡◌ {A = ℕ} 116 115 = ap (λ (t : Text). slice_index t 0) h.named in absurd (omega arith)
trace_alone rows never (Tasks file seed turns room) h = let e : ◌≡◌ {A = ℕ} 114 97 = ap (λ (t : Text). slice_index t 1) h.named in absurd (omega arith)
trace_alone rows never (Derive file out) h = let e : ◌≡◌ {A = ℕ} 116 100 = ap (λ (t : Text). slice_index t 0) h.named in absurd (omega arith)
trace_alone rows never (Audit file proof) h = let e : ◌≡◌ {A = ℕ} 116 97 = ap (λ (t : Text). slice_index t 0) h.named in absurd (omega arith)
trace_alone rows never (Replay trace step) h = let e : ◌≡◌ {A = ℕ} 116 114 = ap (λ (t : Text). slice_index t 0) h.named in absurd (omega arith)
trace_alone rows never (Library name) h = let e : ◌≡◌ {A = ℕ} 116 108 = ap (λ (t : Text). slice_index t 0) h.named in absurd (omega arith)
trace_alone rows never (Gen seed count) h = let e : ◌≡◌ {A = ℕ} 116 103 = ap (λ (t : Text). slice_index t 0) h.named in absurd (omega arith)

pub session_alone : (rows : List Row) → ((file : Text) (room : Room) → AsksToTalk rows file room → ⊥) → (c : Command) → IsAsked rows (codes "session") c → ⊥
session_alone rows never (Check file) h = let e : ◌≡◌ {A = ℕ} 115 99 = ap (λ (t : Text). slice_index t 0) h.named in absurd (omega arith)
session_alone rows never (Compile file out) h = let e : ◌≡◌ {A = ℕ} 115 99 = ap (λ (t : Text). slice_index t 0) h.named in absurd (omega arith)
session_alone rows never (Verify file) h = let e : ◌≡◌ {A = ℕ} 115 118 = ap (λ (t : Text). slice_index t 0) h.named in absurd (omega arith)
session_alone rows never (Upgrade file out) h = let e : ◌≡◌ {A = ℕ} 115 117 = ap (λ (t : Text). slice_index t 0) h.named in absurd (omega arith)
session_alone rows never (Exec r) h = let e : ◌≡◌ {A = ℕ} 115 101 = ap (λ (t : Text). slice_index t 0) h.named in absurd (omega arith)
session_alone rows never (Run r) h = let e : ◌≡◌ {A = ℕ} 115 114 = ap (λ (t : Text). slice_index t 0) h.named in absurd (omega arith)
session_alone rows never (Eval file entry calls frames) h = let e : ◌≡◌ {A = ℕ} 115 101 = ap (λ (t : Text). slice_index t 0) h.named in absurd (omega arith)
session_alone rows never (Trace file entry out room) h = let e : ◌≡◌ {A = ℕ} 115 116 = ap (λ (t : Text). slice_index t 0) h.named in absurd (omega arith)
session_alone rows never (Session file room) h = never file room h.asks
session_alone rows never (Tasks file seed turns room) h = let e : ◌≡◌ {A = ℕ} 115 116 = ap (λ (t : Text). slice_index t 0) h.named in absurd (omega arith)
session_alone rows never (Derive file out) h = let e : ◌≡◌ {A = ℕ} 115 100 = ap (λ (t : Text). slice_index t 0) h.named in absurd (omega arith)
session_alone rows never (Audit file proof) h = let e : ◌≡◌ {A = ℕ} 115 97 = ap (λ (t : Text). slice_index t 0) h.named in absurd (omega arith)
session_alone rows never (Replay trace step) h = let e : ◌≡◌ {A = ℕ} 115 114 = ap (λ (t : Text). slice_index t 0) h.named in absurd (omega arith)
session_alone rows never (Library name) h = let e : ◌≡◌ {A = ℕ} 115 108 = ap (λ (t : Text). slice_index t 0) h.named in absurd (omega arith)
session_alone rows never (Gen seed count) h = let e : ◌≡◌ {A = ℕ} 115 103 = ap (λ (t : Text). slice_index t 0) h.named in absurd (omega arith)

pub tasks_alone : (rows : List Row) → ((file : Text) (seed : ℕ) (turns : ℕ) (room : Room) → AsksForTasks rows file seed turns room → ⊥) → (c : Command) → IsAsked rows (codes "tasks") c → ⊥
tasks_alone rows never (Check file) h = let e : ◌≡◌ {A = ℕ} 116 99 = ap (λ (t : Text). slice_index t 0) h.named in absurd (omega arith)
tasks_alone rows never (Compile file out) h = let e : ◌≡◌ {A = ℕ} 116 99 = ap (λ (t : Text). slice_index t 0) h.named in absurd (omega arith)
tasks_alone rows never (Verify file) h = let e : ◌≡◌ {A = ℕ} 116 118 = ap (λ (t : Text). slice_index t 0) h.named in absurd (omega arith)
tasks_alone rows never (Upgrade file out) h = let e : ◌≡◌ {A = ℕ} 116 117 = ap (λ (t : Text). slice_index t 0) h.named in absurd (omega arith)
tasks_alone rows never (Exec r) h = let e : ◌≡◌ {A = ℕ} 116 101 = ap (λ (t : Text). slice_index t 0) h.named in absurd (omega arith)
tasks_alone rows never (Run r) h = let e : ◌≡◌ {A = ℕ} 116 114 = ap (λ (t : Text). slice_index t 0) h.named in absurd (omega arith)
tasks_alone rows never (Eval file entry calls frames) h = let e : ◌≡◌ {A = ℕ} 116 101 = ap (λ (t : Text). slice_index t 0) h.named in absurd (omega arith)
tasks_alone rows never (Trace file entry out room) h = let e : ◌≡◌ {A = ℕ} 97 114 = ap (λ (t : Text). slice_index t 1) h.named in absurd (omega arith)
tasks_alone rows never (Session file room) h = let e : ◌≡◌ {A = ℕ} 116 115 = ap (λ (t : Text). slice_index t 0) h.named in absurd (omega arith)
tasks_alone rows never (Tasks file seed turns room) h = never file seed turns room h.asks
tasks_alone rows never (Derive file out) h = let e : ◌≡◌ {A = ℕ} 116 100 = ap (λ (t : Text). slice_index t 0) h.named in absurd (omega arith)
tasks_alone rows never (Audit file proof) h = let e : ◌≡◌ {A = ℕ} 116 97 = ap (λ (t : Text). slice_index t 0) h.named in absurd (omega arith)
tasks_alone rows never (Replay trace step) h = let e : ◌≡◌ {A = ℕ} 116 114 = ap (λ (t : Text). slice_index t 0) h.named in absurd (omega arith)
tasks_alone rows never (Library name) h = let e : ◌≡◌ {A = ℕ} 116 108 = ap (λ (t : Text). slice_index t 0) h.named in absurd (omega arith)
tasks_alone rows never (Gen seed count) h = let e : ◌≡◌ {A = ℕ} 116 103 = ap (λ (t : Text). slice_index t 0) h.named in absurd (omega arith)

pub replay_alone : (rows : List Row) → ((trace : Text) (step : ℕ) → AsksToReplay rows trace step → ⊥) → (c : Command) → IsAsked rows (codes "replay") c → ⊥
replay_alone rows never (Check file) h = let e : ◌≡◌ {A = ℕ} 114 99 = ap (λ (t : Text). slice_index t 0) h.named in absurd (omega arith)
replay_alone rows never (Compile file out) h = let e : ◌≡◌ {A = ℕ} 114 99 = ap (λ (t : Text). slice_index t 0) h.named in absurd (omega arith)
replay_alone rows never (Verify file) h = let e : ◌≡◌ {A = ℕ} 114 118 = ap (λ (t : Text). slice_index t 0) h.named in absurd (omega arith)
replay_alone rows never (Upgrade file out) h = let e : ◌≡◌ {A = ℕ} 114 117 = ap (λ (t : Text). slice_index t 0) h.named in absurd (omega arith)
replay_alone rows never (Exec r) h = let e : ◌≡◌ {A = ℕ} 114 101 = ap (λ (t : Text). slice_index t 0) h.named in absurd (omega arith)
replay_alone rows never (Run r) h = let e : ◌≡◌ {A = ℕ} 101 117 = ap (λ (t : Text). slice_index t 1) h.named in absurd (omega arith)
replay_alone rows never (Eval file entry calls frames) h = let e : ◌≡◌ {A = ℕ} 114 101 = ap (λ (t : Text). slice_index t 0) h.named in absurd (omega arith)
replay_alone rows never (Trace file entry out room) h = let e : ◌≡◌ {A = ℕ} 114 116 = ap (λ (t : Text). slice_index t 0) h.named in absurd (omega arith)
replay_alone rows never (Session file room) h = let e : ◌≡◌ {A = ℕ} 114 115 = ap (λ (t : Text). slice_index t 0) h.named in absurd (omega arith)
replay_alone rows never (Tasks file seed turns room) h = let e : ◌≡◌ {A = ℕ} 114 116 = ap (λ (t : Text). slice_index t 0) h.named in absurd (omega arith)
replay_alone rows never (Derive file out) h = let e : ◌≡◌ {A = ℕ} 114 100 = ap (λ (t : Text). slice_index t 0) h.named in absurd (omega arith)
replay_alone rows never (Audit file proof) h = let e : ◌≡◌ {A = ℕ} 114 97 = ap (λ (t : Text). slice_index t 0) h.named in absurd (omega arith)
replay_alone rows never (Replay trace step) h = never trace step h.asks
replay_alone rows never (Library name) h = let e : ◌≡◌ {A = ℕ} 114 108 = ap (λ (t : Text). slice_index t 0) h.named in absurd (omega arith)
replay_alone rows never (Gen seed count) h = let e : ◌≡◌ {A = ℕ} 114 103 = ap (λ (t : Text). slice_index t 0) h.named in absurd (omega arith)

pub gen_alone : (rows : List Row) → ((seed : ℕ) (count : ℕ) → AsksToGenerate rows seed count → ⊥) → (c : Command) → IsAsked rows (codes "gen") c → ⊥
gen_alone rows never (Check file) h = let e : ◌≡◌ {A = ℕ} 103 99 = ap (λ (t : Text). slice_index t 0) h.named in absurd (omega arith)
gen_alone rows never (Compile file out) h = let e : ◌≡◌ {A = ℕ} 103 99 = ap (λ (t : Text). slice_index t 0) h.named in absurd (omega arith)
gen_alone rows never (Verify file) h = let e : ◌≡◌ {A = ℕ} 103 118 = ap (λ (t : Text). slice_index t 0) h.named in absurd (omega arith)
gen_alone rows never (Upgrade file out) h = let e : ◌≡◌ {A = ℕ} 103 117 = ap (λ (t : Text). slice_index t 0) h.named in absurd (omega arith)
gen_alone rows never (Exec r) h = let e : ◌≡◌ {A = ℕ} 103 101 = ap (λ (t : Text). slice_index t 0) h.named in absurd (omega arith)
gen_alone rows never (Run r) h = let e : ◌≡◌ {A = ℕ} 103 114 = ap (λ (t : Text). slice_index t 0) h.named in absurd (omega arith)
gen_alone rows never (Eval file entry calls frames) h = let e : ◌≡◌ {A = ℕ} 103 101 = ap (λ (t : Text). slice_index t 0) h.named in absurd (omega arith)
gen_alone rows never (Trace file entry out room) h = let e : ◌≡◌ {A = ℕ} 103 116 = ap (λ (t : Text). slice_index t 0) h.named in absurd (omega arith)
gen_alone rows never (Session file room) h = let e : ◌≡◌ {A = ℕ} 103 115 = ap (λ (t : Text). slice_index t 0) h.named in absurd (omega arith)
gen_alone rows never (Tasks file seed turns room) h = let e : ◌≡◌ {A = ℕ} 103 116 = ap (λ (t : Text). slice_index t 0) h.named in absurd (omega arith)
gen_alone rows never (Derive file out) h = let e : ◌≡◌ {A = ℕ} 103 100 = ap (λ (t : Text). slice_index t 0) h.named in absurd (omega arith)
gen_alone rows never (Audit file proof) h = let e : ◌≡◌ {A = ℕ} 103 97 = ap (λ (t : Text). slice_index t 0) h.named in absurd (omega arith)
gen_alone rows never (Replay trace step) h = let e : ◌≡◌ {A = ℕ} 103 114 = ap (λ (t : Text). slice_index t 0) h.named in absurd (omega arith)
gen_alone rows never (Library name) h = let e : ◌≡◌ {A = ℕ} 103 108 = ap (λ (t : Text). slice_index t 0) h.named in absurd (omega arith)
gen_alone rows never (Gen seed count) h = never seed count h.asks
