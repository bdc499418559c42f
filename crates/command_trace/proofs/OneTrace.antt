-- An input has one run of a function, from where its values are loaded, and so one trace: a text has one meaning, and
-- the kinds before each instruction that a run reaches are the same, whichever are given.
use Rattle.std.proofs.Common.{◌≡◌, ◌∙◌, ℕ, zero, suc, List, [], ◌++◌, Option, refl, sym, ap, ap₂, subst}
use Rattle.std.proofs.lemmas.Option.{same_Some}
use Rattle.fip_language.specs.Character.{characters}
use Rattle.fip_language.specs.SoundTable.{AreTypes, IsSoundTable}
use Rattle.fip_language.specs.Table.{HaveTypes}
use Rattle.fip_language.specs.Values.{Values}
use Rattle.fip_language.specs.ValueText.{SpellsValues}
use Rattle.fip_base.specs.declared.plain.Stack.{Stack}
use Rattle.command_words.specs.Words.{Room}
use Rattle.trace_files.specs.machine_semantics.Runs.{End, Run, Going, Over, Ends, begun, comes, later, loaded}
use Rattle.trace_files.specs.machine_semantics.States.{State}
use Rattle.trace_files.specs.machine_semantics.Steps.{Kinds, act_at, changes_at, instr_of, kinds_of, next}
use Rattle.trace_files.specs.machine_semantics.Traces.{done_changes, events, events_of}
use Rattle.trace_files.specs.run_loading.Replaying.{loaded_from}
use Rattle.trace_files.specs.run_loading.TraceText.{Trace}
use Rattle.command_run.specs.code_rules.Breaks.{IsSound}
use Rattle.code_verify.specs.cell_code.Plain.{PlainFunction, PlainCode, results}
use Rattle.command_run.specs.separation.Alive.{IsAlive}
use Rattle.command_run.specs.separation.Codes.{HasLiterals, AreKinds}
use Rattle.command_run.specs.separation.Starts.{IsStart}
use Rattle.command_run.proofs.separation.Loading.{start_alive}
use Rattle.command_run.proofs.separation.Running.{GoodRun, begun_good, later_good}
use Rattle.command_run.proofs.separation.Sound.{formed, has_form}
use Rattle.command_run.proofs.machine_correctness.code_rules.Numbers.{has_once}
use Rattle.command_run.proofs.machine_correctness.run_loading.Begins.{begins}
use Rattle.command_run.proofs.machine_correctness.separation_bounds.Ending.{ends_once}
use Rattle.command_run.specs.machine_correctness.run_loading.Loading.{first_store, first_words}
use Rattle.command_run.specs.session_semantics.Talk.{frames_of}
use Rattle.command_run.specs.value_text.Loaded.{types_of}
use Rattle.command_run.proofs.value_text.Typed.{input_typed}
use Rattle.command_run.proofs.FirstLoad.{one_meaning}
use Rattle.command_run.proofs.RunTables.{params_known}
use Rattle.command_run.specs.LoadedRun.{InputRun, trace_of_run}
use Rattle.command_trace.specs.TraceAnswer.{IsRunTrace}

-- ---- the events of a run, whichever kinds are given

module _ (c : PlainCode) (before waits first other : Kinds) (kinds : AreKinds c before waits) (again : AreKinds c first other) (types kept : List ℕ) where
  same_kinds : (s : State) → IsAlive c types kept s → kinds_of before s ≡ kinds_of first s
  same_kinds s a = kinds.known s.running.function s.running.at a.function a.kinds a.is a.known ∙ sym (again.known s.running.function s.running.at a.function a.kinds a.is a.known)

  same_later : (s : State) (left n : ℕ) → IsAlive c types kept s → later before c (Going s left n) ≡ later first c (Going s left n)
  same_later s left n a = ap (λ ks. comes s left (suc n) (act_at c ks s (instr_of c s))) (same_kinds s a)

  same_events : (k : ℕ) (r : Run) → IsSound c → HasLiterals c → GoodRun c types kept r → events before c k r ≡ events first c k r
  same_events zero r sound literals g = refl
  same_events (suc k) (Going s left n) sound literals g =
      ap₂ (λ head tail. head ++ tail) (ap (λ ks. events_of (suc n) (done_changes (changes_at c ks s (instr_of c s)) (act_at c ks s (instr_of c s)))) (same_kinds s g))
      (same_events k (later before c (Going s left n)) sound literals (later_good c before waits types kept (Going s left n) sound literals kinds g)
      ∙ ap (events first c k) (same_later s left n g))
  same_events (suc k) (Over e s left n) sound literals g = refl

-- ---- two runs of a function on an input

module _ (c : PlainCode) (n : ℕ) (input : List ℕ) (room : Room) (sound : IsSound c) (literals : HasLiterals c) (table : IsSoundTable c.types) (r q : InputRun c n input room) where
  same_function : r.function ≡ q.function
  same_function = same_Some r.function q.function (sym r.there ∙ q.there)

  same_values : r.values ≡ q.values
  same_values =
      let known : AreTypes c.types (types_of r.function.params) = params_known c.types r.function.params (has_form c r.function (formed c n r.function sound r.there)).params in
      one_meaning c.types (types_of r.function.params) input r.values q.values table known r.spelt (subst (λ (f : PlainFunction). SpellsValues c.types (types_of f.params) input q.values) (sym same_function) q.spelt)

  same_held : r.held ≡ q.held
  same_held = has_once c n r.held q.held r.stack q.stack

  same_first : r.run.first ≡ q.run.first
  same_first =
      let values = same_values in
      let function = same_function in
      let held = same_held in
      same_Some r.run.first q.run.first (sym r.run.begins
      ∙ ((λ i. loaded c n (first_store (values i) (function i).credits) (first_words (values i) (function i).credits) (frames_of room.frames (held i))) ∙ q.run.begins))

  starts : IsStart c r.run.before r.run.waits n [] r.run.first
  starts =
      let typed : HaveTypes c.types (types_of r.function.params) r.values = input_typed c.types (types_of r.function.params) (characters input) r.values r.spelt in
      (begins c r.run.before r.run.waits n r.function r.values (frames_of room.frames r.held) r.run.first sound literals r.run.kinds r.there typed r.run.begins).0

  same_over : Over r.run.end r.run.last r.run.left r.run.steps ≡ Over q.run.end q.run.last q.run.left q.run.steps
  same_over = ends_once c r.run.before r.run.waits q.run.before q.run.waits n [] r.run.first room.calls r.run.end q.run.end r.run.last q.run.last r.run.left q.run.left r.run.steps q.run.steps starts q.run.kinds r.run.ends
      (subst (λ (s : State). Ends q.run.before c s room.calls q.run.end q.run.last q.run.left q.run.steps) (sym same_first) q.run.ends)

  pub ends_as : (r.run.end ≡ q.run.end) × (r.run.last ≡ q.run.last)
  ends_as =
      let same = same_over in
      let end : r.run.end ≡ q.run.end = cc in
      let last : r.run.last ≡ q.run.last = cc in
      (end, last)

  same_steps : r.run.steps ≡ q.run.steps
  same_steps = let same = same_over in cc

  pub same_trace : (t u : Trace) → t ≡ trace_of_run r.run → u ≡ trace_of_run q.run → t ≡ u
  same_trace t u e d =
      let first = same_first in
      let steps = same_steps in
      let reported = same_events c r.run.before r.run.waits q.run.before q.run.waits r.run.kinds q.run.kinds (results c n) [] r.run.steps (begun r.run.first room.calls) sound literals
      (begun_good c (results c n) [] r.run.first room.calls (start_alive c r.run.before r.run.waits n [] r.run.first starts)) in
      let all : events r.run.before c r.run.steps (begun r.run.first room.calls) ≡ events q.run.before c q.run.steps (begun q.run.first room.calls) =
      reported ∙ (λ i. events q.run.before c (steps i) (begun (first i) room.calls)) in
      e ∙ ((λ i. record { cells = loaded_from 0 (first i).store.cells; events = all i; steps = steps i }) ∙ sym d)

pub one_trace : (c : PlainCode) (n : ℕ) (input : List ℕ) (room : Room) (t u : Trace) → IsSound c → HasLiterals c → IsSoundTable c.types → IsRunTrace c n input room t → IsRunTrace c n input room u → t ≡ u
one_trace c n input room t u sound literals table x y = same_trace c n input room sound literals table x.by y.by t u x.is y.is

pub one_end : (c : PlainCode) (n : ℕ) (input : List ℕ) (room : Room) (r q : InputRun c n input room) → IsSound c → HasLiterals c → IsSoundTable c.types → (r.run.end ≡ q.run.end) × (r.run.last ≡ q.run.last)
one_end c n input room r q sound literals table = ends_as c n input room sound literals table r q
