-- A run of a code file ends in one thing: bytes encode one code, which has one function of a name and one stack number
-- of it; a text has one meaning; and runs on the same values are reported alike, wherever their cells lie.
use Rattle.std.proofs.Common.{◌≡◌, ℕ, ◌<◌, ◌≤◌, Bool, List, [], ◌∷◌, ◌++◌, Option, Some, length, refl, sym, ap, ap₂, ◌∙◌, subst, arith}
use Rattle.std.specs.Prelude.{Result, Ok, Err}
use Rattle.std.proofs.lemmas.Option.{same_Some}
use Rattle.fip_base.specs.declared.plain.Stack.{Stack}
use Rattle.fip_language.proofs.OnePlace.{IsPlace-unique, IsPlace-not_spelt}
use Rattle.fip_language.proofs.Search.{same_unless}
use Rattle.fip_language.specs.Gauge.{lowest}
use Rattle.fip_language.specs.Prefix.{IsPlace, Accepted}
use Rattle.fip_language.specs.PrintedText.{printed_lines}
use Rattle.fip_language.specs.Store.{values_of}
use Rattle.fip_language.specs.Table.{Table}
use Rattle.fip_language.specs.Values.{Values}
use Rattle.fip_language.specs.ValueText.{SpellsValues}
use Rattle.command_words.specs.Words.{Room}
use Rattle.command_outcome.specs.declared.failure.Failure.{Failure}
use Rattle.command_outcome.specs.declared.failure.Failure.TheVariants as F
use Rattle.code_verify.specs.cell_code.Plain.{PlainFunction, PlainCode, function_at, results_of, results}
use Rattle.command_eval.proofs.machine_correctness.code_file.Whole.{one_code}
use Rattle.command_eval.specs.machine_correctness.machine_semantics.Cells.{Store}
use Rattle.command_eval.specs.machine_correctness.machine_semantics.Gauges.{seen}
use Rattle.command_eval.specs.machine_correctness.machine_semantics.Runs as R
use Rattle.command_eval.specs.machine_correctness.machine_semantics.States.{State}
use Rattle.command_eval.specs.machine_correctness.code_rules.StackNumbers.{HasStack}
use Rattle.command_eval.specs.machine_correctness.code_rules.Tables.{AreSoundTables}
use Rattle.command_eval.proofs.machine_correctness.code_rules.Numbers.{has_once}
use Rattle.command_eval.proofs.machine_correctness.separation.Sound.{formed, has_form}
use Rattle.command_eval.specs.machine_correctness.tree_refinement.Agreement.{AreWordsOf}
use Rattle.command_eval.proofs.machine_correctness.tree_refinement.Values.{same_parts}
use Rattle.command_eval.specs.machine_correctness.tree_refinement.Alike.{IsAlike}
use Rattle.command_eval.proofs.machine_correctness.tree_refinement.Alike.{highest_alike, lowest_alike}
use Rattle.command_eval.proofs.machine_correctness.tree_refinement.Ends.{ends_alike}
use Rattle.command_eval.proofs.machine_correctness.tree_refinement.Stacks.{frames_alike, words_alike}
use Rattle.session_semantics.specs.Talk.{frames_of}
use Rattle.value_text.specs.Loaded.{types_of}
use Rattle.value_text.proofs.Exact.{accepts_text}
use Rattle.value_text.proofs.Tables.{is_table, types_alive}
use Rattle.command_eval.specs.command_source.Codes.{IsSoundFile}
use Rattle.command_run.specs.CodeRun as C
use Rattle.command_run.specs.CodeRun.{Chosen, RunsCode, Misspelt, Small, Ran, ReportsCode, all_seen, words_for}
use Rattle.command_run.specs.GaugeText.{gauge_by_states, if_asked}
use Rattle.command_run.proofs.FileTypes.{file_spelt}
use Rattle.command_run.proofs.Gauging.{gauge_same}
use Rattle.command_run.proofs.RunTables.{tables, sound_table, params_known, values_unless}

-- ---- what is run is one

-- a function of the code of some bytes, its number, and the stack that its runs hold
pub record What : Type 0 where
  pub code : PlainCode
  pub number : ℕ
  pub function : PlainFunction
  pub held : Option Stack

pub record IsWhat (bytes name : List ℕ) (w : What) : Type 0 where
  pub file : IsSoundFile bytes w.code
  pub there : function_at w.code w.number ≡ Some w.function
  pub named : (w.function).name ≡ name
  pub some : name ≡ [] → ⊥
  pub stack : HasStack w.code w.number w.held

abbrev pub what : {bytes name : List ℕ} → Chosen bytes name → What
what c = record { code = c.code; number = c.number; function = c.function; held = c.held }

pub what_is : {bytes name : List ℕ} (c : Chosen bytes name) → IsWhat bytes name (what c)
what_is c = record { file = c.file; there = c.there; named = c.named; some = c.some; stack = c.stack }

pub long : (name : List ℕ) → (name ≡ [] → ⊥) → 0 < length name
long [] h = absurd (h refl)
long (b ∷ name) h = omega arith

pub same_what : (bytes name : List ℕ) (w x : What) → IsWhat bytes name w → IsWhat bytes name x → w ≡ x
same_what bytes name w x h k =
    let code : w.code ≡ x.code = (one_code bytes (h.file).spelt.0 (k.file).spelt.0 w.code x.code (h.file).spelt.1 (k.file).spelt.1).1 in
    let there : function_at w.code x.number ≡ Some x.function = ap (λ (c : PlainCode). function_at c x.number) code ∙ k.there in
    let number : w.number ≡ x.number = same_unless w.number x.number (λ off. tables w.code (h.file).sound (λ t.
    off (t.names w.number x.number w.function x.function h.there there (subst (λ n. 0 < length n) (sym h.named) (long name h.some)) (h.named ∙ sym k.named)))) in
    let function : w.function ≡ x.function = same_Some w.function x.function (sym h.there ∙ ap (λ n. function_at w.code n) number ∙ there) in
    let stack : HasStack w.code w.number x.held =
    subst (λ n. HasStack w.code n x.held) (sym number) (subst (λ (c : PlainCode). HasStack c x.number x.held) (sym code) k.stack) in
    let held : w.held ≡ x.held = has_once w.code w.number w.held x.held h.stack stack in
    (λ k. record { code = code k; number = number k; function = function k; held = held k })

-- ---- what is reported

-- words stand for one list of values
pub results_once : (tb : Table) (s : Store) (ts ws : List ℕ) (vs us : Values) → AreWordsOf tb s ts ws vs → AreWordsOf tb s ts ws us → vs ≡ us
results_once tb s ts ws vs us h k = sym h.3 ∙ (ap values_of (same_parts tb s ts h.0 k.0 h.2 k.2 (sym h.1 ∙ k.1)) ∙ k.3)

-- ends that are alike are reported the same, where the same is after values
reports_alike : (tb : Table) (types : List ℕ) (calls frames : ℕ) (following beside : List ℕ) (s u : State) (e d : R.End) (x y : Result (List ℕ) Failure) → IsAlike tb types s.store e u.store d → ((ws us : List ℕ) → e ≡ R.Value ws → d ≡ R.Value us → following ≡ beside) → ReportsCode tb types calls frames following s e x → ReportsCode tb types calls frames beside u d y → x ≡ y
reports_alike tb types calls frames following beside s u (R.Value ws) (R.Value us) x y h same k l =
    let left : k.0 ≡ h.0 = results_once tb s.store types ws k.0 h.0 k.1 h.1 in
    let right : l.0 ≡ h.0 = results_once tb u.store types us l.0 h.0 l.1 h.2 in
    k.2 ∙ (ap₂ (λ vs lines. Ok (printed_lines tb types vs ++ lines)) (left ∙ sym right) (same ws us refl refl) ∙ sym l.2)
reports_alike tb types calls frames following beside s u (R.Trap kind line col) (R.Trap other row at) x y h same k l =
    k ∙ ((λ i. Err (F.Trap (h.0 i) (h.1 i) (h.2 i))) ∙ sym l)
reports_alike tb types calls frames following beside s u R.Out R.Out x y h same k l = k ∙ sym l
reports_alike tb types calls frames following beside s u R.Deep R.Deep x y h same k l = k ∙ sym l
reports_alike tb types calls frames following beside s u e d x y h same k l = absurd h

-- ---- two runs on the same values

module _ (c : PlainCode) (n : ℕ) (vs : Values) (calls frames : ℕ) (r q : C.Run c n vs calls frames) where
  free_same : (r.first).free ≡ (q.first).free
  free_same = r.free ∙ sym q.free

  alike : IsAlike c.types (results c n) (r.last).store r.end (q.last).store q.end
  alike = (ends_alike c r.before r.waits q.before q.waits n [] [] r.first q.first vs calls r.end q.end r.last q.last r.left q.left r.steps q.steps r.starts r.arguments q.starts q.arguments free_same r.ends q.ends).0

  lows_same : (ws us : List ℕ) (size : ℕ) → r.end ≡ R.Value ws → q.end ≡ R.Value us → 1 ≤ size → lowest size (all_seen r) ≡ lowest size (all_seen q)
  lows_same ws us size first second some =
      subst (λ e. (x : R.Ends r.before c r.first calls e r.last r.left r.steps) → lowest size (seen r.before c x.enough (R.begun r.first calls)) ≡ lowest size (all_seen q)) (sym first)
      (λ x. subst (λ d. (y : R.Ends q.before c q.first calls d q.last q.left q.steps) → lowest size (seen r.before c x.enough (R.begun r.first calls)) ≡ lowest size (seen q.before c y.enough (R.begun q.first calls))) (sym second)
      (λ y. lowest_alike c r.before r.waits q.before q.waits n r.first q.first vs calls ws us r.last q.last r.left q.left r.steps q.steps size r.starts r.arguments q.starts q.arguments free_same x y some) q.ends) r.ends

  -- they report the same gauge, where they give values
  pub gauges_same : (held : Option Stack) (ws us : List ℕ) → r.end ≡ R.Value ws → q.end ≡ R.Value us → gauge_by_states (all_seen r) held ≡ gauge_by_states (all_seen q) held
  gauges_same held ws us first second =
      gauge_same (all_seen r) (all_seen q) held (λ size some few. lows_same ws us size first second some)
      (λ size some few. highest_alike c r.before r.waits q.before q.waits n r.first q.first vs calls (r.ends).enough (q.ends).enough size r.starts r.arguments q.starts q.arguments some)
      (frames_alike c r.before r.waits q.before q.waits n [] [] r.first q.first vs calls r.end q.end r.last q.last r.left q.left r.steps q.steps r.starts r.arguments q.starts q.arguments free_same r.ends q.ends)
      (words_alike c r.before r.waits q.before q.waits n [] [] r.first q.first vs calls r.end q.end r.last q.last r.left q.left r.steps q.steps r.starts r.arguments q.starts q.arguments free_same r.ends q.ends)

  -- and they are reported the same
  pub runs_once : (types : List ℕ) (held : Option Stack) (gauge : Bool) (x y : Result (List ℕ) Failure) → results c n ≡ types → ReportsCode c.types types calls frames (if_asked gauge (gauge_by_states (all_seen r) held)) r.last r.end x → ReportsCode c.types types calls frames (if_asked gauge (gauge_by_states (all_seen q) held)) q.last q.end y → x ≡ y
  runs_once types held gauge x y is h k =
      reports_alike c.types types calls frames (if_asked gauge (gauge_by_states (all_seen r) held)) (if_asked gauge (gauge_by_states (all_seen q) held)) r.last q.last r.end q.end x y
      (subst (λ ts. IsAlike c.types ts (r.last).store r.end (q.last).store q.end) is alike)
      (λ ws us first second. ap (if_asked gauge) (gauges_same held ws us first second)) h k

-- ---- what a run ends in

abbrev pub Spelt : What → List ℕ → Values → Type 0
Spelt w input vs = SpellsValues (w.code).types (types_of (w.function).params) input vs

abbrev pub words_of : What → Values → ℕ
words_of w vs = words_for vs (w.function).credits

abbrev RunBy : What → Values → Room → Type 0
RunBy w vs room = C.Run w.code w.number vs room.calls (frames_of room.frames w.held)

-- the run on these values is reported so
record IsDone (w : What) (room : Room) (gauge : Bool) (vs : Values) (e : Result (List ℕ) Failure) : Type 0 where
  run : RunBy w vs room
  reported : ReportsCode (w.code).types (w.function).results room.calls (frames_of room.frames w.held) (if_asked gauge (gauge_by_states (all_seen run) w.held)) run.last run.end e

data Came (w : What) (input : List ℕ) (room : Room) (gauge : Bool) (e : Result (List ℕ) Failure) : Type 0 where
  Bad : (at : ℕ) → IsPlace (Spelt w) input at → e ≡ Err (F.BadInput at) → Came w input room gauge e
  Few : (vs : Values) → Spelt w input vs → room.words < words_of w vs → e ≡ Err (F.TooSmall (words_of w vs) room.words) → Came w input room gauge e
  Done : (vs : Values) → Spelt w input vs → words_of w vs ≤ room.words → IsDone w room gauge vs e → Came w input room gauge e

came : (bytes name input : List ℕ) (room : Room) (gauge : Bool) (e : Result (List ℕ) Failure) → RunsCode bytes name input room gauge e → (w : What) × IsWhat bytes name w × Came w input room gauge e
came bytes name input room gauge _ (Misspelt c at place) = (what c, what_is c, Bad at place refl)
came bytes name input room gauge _ (Small c vs spelt less) = (what c, what_is c, Few vs spelt less refl)
came bytes name input room gauge e (Ran c vs r _ spelt fits reported) = (what c, what_is c, Done vs spelt fits (record { run = r; reported = reported }))

module _ (bytes name : List ℕ) (w : What) (is : IsWhat bytes name w) where
  abbrev code : PlainCode
  code = w.code

  abbrev types : List ℕ
  types = types_of (w.function).params

  values_by : AreSoundTables code → (input : List ℕ) (vs us : Values) → Spelt w input vs → Spelt w input us → vs ≡ us
  values_by t input vs us h k =
      let table = sound_table code t (λ u m x at. file_spelt bytes w.code u m x is.file at) in
      let known = params_known code.types (w.function).params (has_form code w.function (formed code w.number w.function (is.file).sound is.there)).params in
      let a = accepts_text code.types (is_table code.types table) types (types_alive code.types table types known) input vs h in
      let b = accepts_text code.types (is_table code.types table) types (types_alive code.types table types known) input us k in
      let same : Accepted vs ≡ Accepted us = sym a ∙ b in
      cc

  -- a text has one meaning
  pub values_once : (input : List ℕ) (vs us : Values) → Spelt w input vs → Spelt w input us → vs ≡ us
  values_once input vs us h k = values_unless vs us (λ off. tables code (is.file).sound (λ t. off (values_by t input vs us h k)))

  came_once : (input : List ℕ) (room : Room) (gauge : Bool) (d e : Result (List ℕ) Failure) → Came w input room gauge d → Came w input room gauge e → d ≡ e
  came_once input room gauge d e (Bad at place h) (Bad to other k) = h ∙ (ap (λ n. Err (F.BadInput n)) (IsPlace-unique (Spelt w) input at to place other) ∙ sym k)
  came_once input room gauge d e (Bad at place h) (Few us spelt less k) = absurd (IsPlace-not_spelt (Spelt w) input at us place spelt)
  came_once input room gauge d e (Bad at place h) (Done us spelt fits done) = absurd (IsPlace-not_spelt (Spelt w) input at us place spelt)
  came_once input room gauge d e (Few vs spelt less h) (Bad to other k) = absurd (IsPlace-not_spelt (Spelt w) input to vs other spelt)
  came_once input room gauge d e (Few vs spelt less h) (Few us also more k) = h ∙ (ap (λ vs. Err (F.TooSmall (words_of w vs) room.words)) (values_once input vs us spelt also) ∙ sym k)
  came_once input room gauge d e (Few vs spelt less h) (Done us also fits done) =
      let same = ap (words_of w) (values_once input vs us spelt also) in
      absurd (omega (arith, less, fits, same))
  came_once input room gauge d e (Done vs spelt fits done) (Bad to other k) = absurd (IsPlace-not_spelt (Spelt w) input to vs other spelt)
  came_once input room gauge d e (Done vs spelt fits done) (Few us also less k) =
      let same = ap (words_of w) (values_once input vs us spelt also) in
      absurd (omega (arith, less, fits, same))
  came_once input room gauge d e (Done vs spelt fits done) (Done us also more other) =
      let there : IsDone w room gauge vs e = subst (λ vs. IsDone w room gauge vs e) (sym (values_once input vs us spelt also)) other in
      runs_once code w.number vs room.calls (frames_of room.frames w.held) done.run there.run (w.function).results w.held gauge d e (ap results_of is.there) done.reported there.reported

pub code_run_once : (bytes name input : List ℕ) (room : Room) (gauge : Bool) (d e : Result (List ℕ) Failure) → RunsCode bytes name input room gauge d → RunsCode bytes name input room gauge e → d ≡ e
code_run_once bytes name input room gauge d e h k =
    let x = came bytes name input room gauge d h in
    let y = came bytes name input room gauge e k in
    let same : y.0 ≡ x.0 = same_what bytes name y.0 x.0 y.1 x.1 in
    came_once bytes name x.0 x.1 input room gauge d e x.2 (subst (λ w. Came w input room gauge e) same y.2)

-- what is run is there
pub code_run_there : (bytes name input : List ℕ) (room : Room) (gauge : Bool) (e : Result (List ℕ) Failure) → RunsCode bytes name input room gauge e → (w : What) × IsWhat bytes name w
code_run_there bytes name input room gauge e h = let x = came bytes name input room gauge e h in (x.0, x.1)
