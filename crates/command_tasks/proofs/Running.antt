-- Tasks whose calls lie apart run by every schedule, and end as the source means.
use Rattle.std.proofs.Common.{◌≡◌, ◌≢◌, ◌∙◌, ◌++◌, ◌+◌, ◌<◌, ◌≤◌, ℕ, zero, suc, true, List, [], ◌∷◌, length, Option, Some, None, refl, sym, ap, subst, append_assoc, arith}
use Rattle.std.specs.Prelude.{codes, min, slice_get}
use Rattle.std.specs.Fmt.{decimal}
use Rattle.std.proofs.lemmas.Option.{none-some, same_Some}
use Rattle.fip_tasks.specs.task_semantics.Lying.{Lying, AreApart, LieApart, call_words, own_store}
use Rattle.fip_tasks.proofs.task_semantics.Beginning.{are_there, are_loaded, begin_together, lies_at, loads, once_by, state_over}
use Rattle.fip_tasks.proofs.task_semantics.Owning.{own_given}
use Rattle.cell_code.specs.declared.code.Code.{Code}
use Rattle.fip_tasks.specs.machine_semantics.Cells.{Store}
use Rattle.cell_code.specs.Plain.{PlainFunction, plain_function, plain, function_at}
use Rattle.fip_tasks.specs.machine_semantics.Runs.{loaded}
use Rattle.fip_tasks.specs.machine_semantics.Steps.{Kinds}
use Rattle.command_session.specs.command_run.separation.Codes.{AreKinds}
use Rattle.command_session.proofs.command_run.separation.KindsFound.{kinds_found}
use Rattle.code_verify.specs.Checked.{Checked}
use Rattle.fip_base.specs.declared.plain.Stack.{Stack}
use Rattle.fip_language.specs.Core.{Core}
use Rattle.fip_language.specs.Meaning.{Answer, Deep, meaning}
use Rattle.fip_language.specs.Statics.{NoClosed}
use Rattle.fip_language.specs.declared.limits.TheConstants.{MOST_FRAMES}
use Rattle.fip_machine.specs.Tasks.{state_with}
use Rattle.fip_tasks.specs.Shown.{AreStarted}
use Rattle.fip_tasks.specs.declared.task.Start.{Start}
use Rattle.command_session.specs.command_run.machine_correctness.Meant.{IsMeant}
use Rattle.command_session.specs.command_run.machine_correctness.Starts.{Begins, IsCodeOf}
use Rattle.command_session.proofs.command_run.machine_correctness.EvaluatedEnds.{not_deep}
use Rattle.task_correctness.proofs.EvaluatedAnywhere.{apart_answers_meant}
use Rattle.command_session.proofs.command_run.Bounded.{few_frames}
use Rattle.command_session.specs.command_run.session_semantics.Talk.{frames_of}
use Rattle.command_session.specs.command_run.code_rules.Codes.{is_fip}
use Rattle.command_session.specs.command_run.code_rules.StackNumbers.{HasStack, IsStack}
use Rattle.task_lines.specs.Called.{Called}
use Rattle.task_lines.specs.Started.{AreStarted as AreStartedSo, IsStarted}
use Rattle.fip_room.specs.declared.room.Room.{Room as RunRoom}
use Rattle.fip_tasks.specs.task_semantics.Projected.{Begun}
use Rattle.fip_tasks.specs.task_semantics.Schedules.{Shared}
use Rattle.fip_tasks.specs.task_semantics.Laid.{Task}
use Rattle.fip_tasks.specs.machine_semantics.States.{State}
use Rattle.command_tasks.specs.Called.{AreCallLines, AreNamed, IsCallLine, answer_of}
use Rattle.command_tasks.specs.Telling.{AreTaskLines, CanRun, EndAs, ReportsAnswer, result_types, results_of}
use Rattle.task_correctness.specs.Answered.{AreStartsAt, IsStartAt}
use Rattle.task_correctness.proofs.VerifiedAnywhere.{apart_started}
use Rattle.task_correctness.proofs.Started.{function_of}
use Rattle.task_correctness.proofs.Turned.{can_finish, can_turn}

-- ---- each start is that of a call

record At (code : Code) (limits : RunRoom) (cs : List Called) (ls : List Lying) (k : ℕ) (b : Start) : Type 0 where
  call : Called
  call_at : slice_get cs k ≡ Some call
  lying : Lying
  lying_at : slice_get ls k ≡ Some lying
  is : IsStarted code limits call lying b

at : (code : Code) (limits : RunRoom) (cs : List Called) (ls : List Lying) (bs : List Start) (k : ℕ) (b : Start) → AreStartedSo code limits cs ls bs → slice_get bs k ≡ Some b → At code limits cs ls k b
at code limits [] [] [] k b h e = absurd (none-some b e)
at code limits [] [] (x ∷ bs) k b h e = absurd h
at code limits [] (l ∷ ls) bs k b h e = absurd h
at code limits (c ∷ cs) [] bs k b h e = absurd h
at code limits (c ∷ cs) (l ∷ ls) [] k b h e = absurd h
at code limits (c ∷ cs) (l ∷ ls) (x ∷ bs) zero b h e = record { call = c; call_at = refl; lying = l; lying_at = refl; is = subst (IsStarted code limits c l) (same_Some x b e) h.0 }
at code limits (c ∷ cs) (l ∷ ls) (x ∷ bs) (suc k) b h e =
    let r = at code limits cs ls bs k b h.1 (cc) in
    record { call = r.call; call_at = r.call_at; lying = r.lying; lying_at = r.lying_at; is = r.is }

number : (code : Code) (limits : RunRoom) (cs : List Called) (ls : List Lying) (bs : List Start) → AreStartedSo code limits cs ls bs → length bs ≡ length ls
number code limits [] [] [] h = refl
number code limits [] [] (x ∷ bs) h = absurd h
number code limits [] (l ∷ ls) bs h = absurd h
number code limits (c ∷ cs) [] bs h = absurd h
number code limits (c ∷ cs) (l ∷ ls) [] h = absurd h
number code limits (c ∷ cs) (l ∷ ls) (x ∷ bs) h = ap suc (number code limits cs ls bs h.1)

start_at : (code : Code) (limits : RunRoom) (c : Called) (l : Lying) (b : Start) → IsStarted code limits c l b → IsStartAt l b
start_at code limits c l b h = record {
  entry = h.entry ∙ sym (ap (λ t. t.function) h.task);
  words = h.words;
  frames = sym (ap (λ t. t.frames) h.task);
  calls = h.calls ∙ sym (ap (λ t. t.calls) h.task);
}

starts_at : (code : Code) (limits : RunRoom) (cs : List Called) (ls : List Lying) (bs : List Start) → AreStartedSo code limits cs ls bs → AreStartsAt ls bs
starts_at code limits cs ls bs h = record {
  number = number code limits cs ls bs h;
  each = λ k l b e f.
      let r = at code limits cs ls bs k b h f in
      subst (λ (x : Lying). IsStartAt x b) (same_Some r.lying l (sym r.lying_at ∙ e)) (start_at code limits r.call r.lying b r.is);
}

-- ---- what each means

abbrev means_of : Core → RunRoom → List Called → List Start → List Answer
means_of core limits [] bs = []
means_of core limits (c ∷ cs) [] = []
means_of core limits (c ∷ cs) (b ∷ bs) = answer_of core limits b.frames c ∷ means_of core limits cs bs

means_long : (core : Core) (code : Code) (limits : RunRoom) (cs : List Called) (ls : List Lying) (bs : List Start) → AreStartedSo code limits cs ls bs → length (means_of core limits cs bs) ≡ length bs
means_long core code limits [] [] [] h = refl
means_long core code limits [] [] (x ∷ bs) h = absurd h
means_long core code limits [] (l ∷ ls) bs h = absurd h
means_long core code limits (c ∷ cs) [] bs h = absurd h
means_long core code limits (c ∷ cs) (l ∷ ls) [] h = absurd h
means_long core code limits (c ∷ cs) (l ∷ ls) (x ∷ bs) h = ap suc (means_long core code limits cs ls bs h.1)

mean_at : (core : Core) (limits : RunRoom) (cs : List Called) (bs : List Start) (k : ℕ) (c : Called) (b : Start) (m : Answer) → slice_get cs k ≡ Some c → slice_get bs k ≡ Some b → slice_get (means_of core limits cs bs) k ≡ Some m → answer_of core limits b.frames c ≡ m
mean_at core limits [] bs k c b m e f g = absurd (none-some c e)
mean_at core limits (x ∷ cs) [] k c b m e f g = absurd (none-some b f)
mean_at core limits (x ∷ cs) (y ∷ bs) zero c b m e f g =
    let s : x ≡ c = same_Some x c e in
    let t : y ≡ b = same_Some y b f in
    sym (λ i. answer_of core limits (t i).frames (s i)) ∙ same_Some (answer_of core limits y.frames x) m g
mean_at core limits (x ∷ cs) (y ∷ bs) (suc k) c b m e f g = mean_at core limits cs bs k c b m e f g

named_at : (cs : List Called) (k : ℕ) (c : Called) → AreNamed cs → slice_get cs k ≡ Some c → 0 < length c.function.name
named_at [] k c h e = absurd (none-some c e)
named_at (x ∷ cs) zero c h e = (let s : x ≡ c = same_Some x c e in subst (λ (y : Called). 0 < length y.function.name) s h.0)
named_at (x ∷ cs) (suc k) c h e = named_at cs k c h.1 e

-- ---- one call's

module _ (source : List ℕ) (core : Core) (v : Checked) (limits : RunRoom) (cs : List Called) (ls : List Lying) (bs : List Start) (alone : List Begun) (first : Shared) (code : IsCodeOf source core v.code) (named : AreNamed cs) (started : AreStartedSo v.code limits cs ls bs) (apart : AreApart (plain v.code) ls alone first) where
  begins_at : (k : ℕ) (l : Lying) → slice_get ls k ≡ Some l → Begins v.code l.task.function l.task.header l.task.arguments l.task.frames (state_over (plain v.code) (own_store first.store l) l)
  begins_at k l is =
      let c = plain v.code in
      let t = l.task in
      let lies = lies_at c first.store ls k l apart.apart.calls is in
      let once = once_by c first.store ls k l apart.apart is in
      record {
        is = lies.there;
        words = call_words l;
        given = own_given c first.store l apart.apart.store lies once;
        values = lies.values;
        loaded = loads c (own_store first.store l) l lies.there;
      }

  -- the function that is called is the code's
  types_at : (k : ℕ) (c : Called) (l : Lying) (b : Start) → slice_get ls k ≡ Some l → IsStarted v.code limits c l b → result_types v.code b.entry ≡ c.function.results
  types_at k c l b is s =
      let lies = lies_at (plain v.code) first.store ls k l apart.apart.calls is in
      let g = function_of v.code l.task.function l.task.header lies.there in
      ap (λ n. result_types v.code n) (s.entry ∙ sym (ap (λ t. t.function) s.task)) ∙ ap results_of g.1 ∙ ap (λ (f : PlainFunction). f.results) (g.2 ∙ ap (λ t. t.header) s.task)

  ends_as : (before waits : Kinds) → AreKinds (plain v.code) before waits → EndAs v before first bs (means_of core limits cs bs)
  ends_as before waits kinds t shown k b m a x bat mat tat ended =
      let r = at v.code limits cs ls bs k b started bat in
      let l = r.lying in
      let some : 0 < length l.task.header.name = subst (λ (n : List ℕ). 0 < length n) (sym (ap (λ t. t.header.name) r.is.task)) (named_at cs k r.call named r.call_at) in
      let meant = apart_answers_meant source core v before waits ls alone first shown.0 t k l a x code kinds apart shown.1 r.lying_at some tat ended in
      let is : IsMeant v.code.types r.call.function.results x (state_with a.stack [] t.store) a.stack.given (answer_of core limits b.frames r.call) = subst (λ q. IsMeant v.code.types q.header.results x (state_with a.stack [] t.store) a.stack.given (meaning core q.header.name NoClosed q.arguments q.calls q.frames).answer) r.is.task meant in
      let of : IsMeant v.code.types r.call.function.results x (state_with a.stack [] t.store) a.stack.given m = subst (IsMeant v.code.types r.call.function.results x (state_with a.stack [] t.store) a.stack.given) (mean_at core limits cs bs k r.call b m r.call_at bat mat) is in
      subst (λ ts. IsMeant v.code.types ts x (state_with a.stack [] t.store) a.stack.given m) (sym (types_at k r.call l b r.lying_at r.is)) of

  enough : (c : Called) (b : Start) (f : PlainFunction) → function_at (plain v.code) c.entry ≡ Some f → is_fip f.kind ≡ true → (frames : ℕ) (held : Option Stack) → HasStack (plain v.code) c.entry held → frames ≡ min (frames_of limits.frames held) MOST_FRAMES → (s : Stack) × IsStack (plain v.code) c.entry s × (s.frames ≤ frames)
  enough c b f there fip frames None stack are = absurd (stack (f, there, fip))
  enough c b f there fip frames (Some s) stack are =
      let few = few_frames (plain v.code) c.entry s code.is_sound.sound stack.1 in
      (s, stack.1, omega (arith, few, are))

  deep_at : (k : ℕ) (c : Called) (l : Lying) (b : Start) → slice_get ls k ≡ Some l → 0 < length c.function.name → IsStarted v.code limits c l b → is_fip c.function.kind ≡ true → answer_of core limits b.frames c ≢ Deep
  deep_at k c l b is some s fip =
      let begins = begins_at k l is in
      let t : Task = record { function = c.entry; header = plain_function c.function; arguments = c.values; calls = limits.calls; frames = b.frames } in
      let own : State = state_over (plain v.code) (own_store first.store l) l in
      let mine : Begins v.code c.entry (plain_function c.function) c.values b.frames own = subst (λ (q : Task). Begins v.code q.function q.header q.arguments q.frames own) s.task begins in
      let room = enough c b (plain_function c.function) mine.is fip b.frames s.frames.held s.frames.stack s.frames.are in
      not_deep source core v.code c.entry (plain_function c.function) c.values b.frames own limits.calls room.0 code mine some fip room.1 room.2

  line_of : (k : ℕ) (c : Called) (l : Lying) (b : Start) (line : List ℕ) → slice_get ls k ≡ Some l → 0 < length c.function.name → IsStarted v.code limits c l b → ReportsAnswer v.code.types (result_types v.code b.entry) b.calls b.frames (answer_of core limits b.frames c) line → IsCallLine core v.code limits c line
  line_of k c l b line is some s reported = record {
    frames = b.frames;
    has = s.frames;
    reported = subst (λ n. ReportsAnswer v.code.types c.function.results n b.frames (answer_of core limits b.frames c) line) s.calls (subst (λ ts. ReportsAnswer v.code.types ts b.calls b.frames (answer_of core limits b.frames c) line) (types_at k c l b is s) reported);
    never_deep = deep_at k c l b is some s;
  }

  -- lines of the tasks are lines of the calls
  lines_of_calls : (n k : ℕ) (ds : List Called) (ms : List Lying) (es : List Start) (text : List ℕ) → ((j : ℕ) (l : Lying) → slice_get ms j ≡ Some l → slice_get ls (k + j) ≡ Some l) → AreNamed ds → AreStartedSo v.code limits ds ms es → AreTaskLines v.code n es (means_of core limits ds es) text → AreCallLines core v.code limits n ds text
  lines_of_calls n k [] [] [] text on some s h = h
  lines_of_calls n k [] [] (b ∷ es) text on some s h = absurd s
  lines_of_calls n k [] (l ∷ ms) es text on some s h = absurd s
  lines_of_calls n k (c ∷ ds) [] es text on some s h = absurd s
  lines_of_calls n k (c ∷ ds) (l ∷ ms) [] text on some s h = absurd s
  lines_of_calls n k (c ∷ ds) (l ∷ ms) (b ∷ es) text on some s h =
      let line = h.2 in
      let here : slice_get ls k ≡ Some l = ap (slice_get ls) (let z : k ≡ k + 0 = omega arith in z) ∙ on 0 l refl in (
        line.0,
        h.1,
        line_of k c l b line.0 here some.0 s.0 line.1,
        h.3 ∙ ap (λ t. t ++ h.1) line.2 ∙ append_assoc (decimal n) (codes ": " ++ line.0) h.1,
        lines_of_calls (suc n) (suc k) ds ms es h.1 (λ j m e. ap (slice_get ls) (let z : suc k + j ≡ k + suc j = omega arith in z) ∙ on (suc j) m e) some.1 s.1 h.4,
      )

-- ---- all

-- tasks that run by every schedule and end so
pub record AreRunning (core : Core) (v : Checked) (limits : RunRoom) (cs : List Called) (s : Store) (bs : List Start) : Type 0 where
  pub kinds : Kinds
  pub first : Shared
  pub can : CanRun v kinds first
  pub started : AreStarted v s bs first
  pub means : List Answer
  pub long : length means ≡ length bs
  pub ends : EndAs v kinds first bs means
  pub lines : (text : List ℕ) → AreTaskLines v.code 0 bs means text → AreCallLines core v.code limits 0 cs text

pub are_running : (source : List ℕ) (core : Core) (v : Checked) (limits : RunRoom) (cs : List Called) (s : Store) (ls : List Lying) (bs : List Start) → IsCodeOf source core v.code → AreNamed cs → LieApart (plain v.code) s ls → AreStartedSo v.code limits cs ls bs → AreRunning core v limits cs s bs
are_running source core v limits cs s ls bs code named lie started =
    let c = plain v.code in
    let found = kinds_found c in
    let there = are_there c s ls lie in
    let alone = there.0 in
    let first = there.1 in
    let apart = there.3 in
    let sound = code.is_sound.sound in
    let literals = code.is_sound.literals in
    let loaded = are_loaded c found.0 found.1 ls alone first sound literals found.2 apart in
    let together = begin_together c found.0 found.1 ls alone first sound literals found.2 apart in
    record {
      kinds = found.0;
      first = first;
      can = record {
        turn = λ schedule k. can_turn v found.0 found.1 alone first schedule k loaded together;
        finish = λ schedule k. can_finish v found.0 found.1 alone first schedule k loaded together;
      };
      started = subst (λ (x : Store). AreStarted v x bs first) there.2 (apart_started v ls alone first bs sound apart (starts_at v.code limits cs ls bs started));
      means = means_of core limits cs bs;
      long = means_long core v.code limits cs ls bs started;
      ends = ends_as source core v limits cs ls bs alone first code named started apart found.0 found.1 found.2;
      lines = λ text h. lines_of_calls source core v limits cs ls bs alone first code named started apart 0 0 cs ls bs text (λ j l e. ap (slice_get ls) (let z : 0 + j ≡ j = omega arith in z) ∙ e) named started h;
    }
