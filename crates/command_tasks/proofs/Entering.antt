-- Calls of the code of a source are tasks of its program, and end in what the source means.
-- Idea: each function of the code has the header of an instance; the frames that the code's numbers give and those that
-- the program's give are both enough, so both runs answer the same.
use Rattle.std.proofs.Common.{◌≡◌, ◌≢◌, inl, inr, ◌∙◌, ◌<◌, ◌≤◌, ◌+◌, ℕ, zero, suc, Bool, true, false, List, [], ◌∷◌, length, map, Option, Some, None, slice_get, option_map, if◌then◌else◌, refl, sym, ap, subst, arith}
use Rattle.std.specs.Prelude.{min}
use Rattle.std.proofs.lemmas.Option.{none-some, same_Some, slice_get-map}
use Rattle.cell_code.specs.declared.code.Code.{Code}
use Rattle.cell_code.specs.declared.code.Function.{Function}
use Rattle.command_session.specs.command_run.cell_lower.Limits.{is_ruled, registers}
use Rattle.command_session.specs.command_run.cell_lower.Shape.{Header, header, header_of, and_if, headers_from, headers}
use Rattle.cell_code.specs.Plain.{PlainFunction, plain_function, plain, function_at}
use Rattle.command_session.specs.command_run.separation.Codes.{HasLiterals}
use Rattle.command_session.proofs.command_run.separation.Sound.{formed}
use Rattle.command_words.specs.Words.{Room}
use Rattle.command_outcome.specs.Texts.{line_end, out_of_calls_text, out_of_frames_text}
use Rattle.command_session.proofs.command_run.command_eval.Meant.{typed_of}
use Rattle.command_session.proofs.command_run.command_eval.SoundTypes.{typed_sound}
use Rattle.fip_base.specs.declared.plain.Stack.{Stack}
use Rattle.fip_language.specs.Core.{Core}
use Rattle.fip_language.specs.Meaning.{Answer, Gives, Trap, Out, Deep, Stuck, meaning}
use Rattle.fip_language.specs.SoundTable.{IsSoundTable}
use Rattle.fip_language.specs.Statics.{NoClosed}
use Rattle.fip_language.specs.Table.{Table, HaveTypes}
use Rattle.fip_language.specs.Values.{words_needed_by_all}
use Rattle.fip_language.specs.declared.FunKind.{FunKind}
use Rattle.fip_language.specs.declared.FunKind.TheVariants.{Fip, Fbip, Fun}
use Rattle.fip_language.specs.declared.limits.TheConstants.{MOST_FRAMES}
use Rattle.command_session.specs.command_run.fip_trees.declared.groups.Member.{Member}
use Rattle.command_session.specs.command_run.fip_trees.Tree.{Instance, Program}
use Rattle.task_lines.specs.instance_semantics.Meaning.{flat_meaning}
use Rattle.task_lines.proofs.instance_semantics.Frames.{more_frames}
use Rattle.task_correctness.specs.run_loading.Loading.{words_of_credits}
use Rattle.command_session.specs.command_run.machine_correctness.Starts.{IsCodeOf}
use Rattle.command_session.proofs.command_run.Bounded.{one_of_name}
use Rattle.command_session.proofs.command_run.Loaded.{IsLoadable, loadable}
use Rattle.command_session.specs.command_run.session_semantics.Lines.{Symbol, Blank, Open, Close, Comma, Equals, Question, Minus, Underscore, Digit, Small, Capital, Other, BeginsSmall, skip, symbols, word}
use Rattle.command_session.specs.command_run.session_semantics.Talk.{Setting, frames_of, free_frames}
use Rattle.command_session.specs.command_run.session_semantics.Talk.{answer_of as flat_answer}
use Rattle.command_session.specs.command_run.session_semantics.Turns.{AreTasks, IsBadFrom, IsTask, Task, TaskLines, TaskText, credit_words, type_of, joined, words_of_tasks}
use Rattle.command_session.specs.command_run.session_semantics.Typed.{AreValues}
use Rattle.command_session.specs.command_run.code_rules.Breaks.{IsSound}
use Rattle.command_session.specs.command_run.code_rules.Codes.{is_fip, code_kind}
use Rattle.command_session.specs.command_run.code_rules.StackNumbers.{HasStack}
use Rattle.command_session.specs.command_run.command_source.ProgramCode.{IsLoweredFrom}
use Rattle.command_session.proofs.command_run.machine_correctness.Entries.{headers_of}
use Rattle.task_correctness.proofs.specialisation_correctness.Meant.{root_meant}
use Rattle.command_session.specs.command_run.source_report.Report.{IsAccepted, IsTyped}
use Rattle.command_session.specs.command_run.tail_groups.Members.{AreMembers}
use Rattle.task_lines.specs.Called.{AreCalls, Called, IsCall, IsFirstBad}
use Rattle.task_lines.specs.session_values.Readable.{IsReadable}
use Rattle.fip_room.specs.declared.room.Room.{Room as RunRoom}
use Rattle.command_tasks.specs.Called.{AreCallLines, AreNamed, IsCallLine, answer_of}
use Rattle.command_tasks.specs.TasksAnswer.{IsSetting}
use Rattle.command_tasks.specs.Telling.{ReportsAnswer}
use Rattle.command_tasks.proofs.Frames.{free_given, never_deep}
use Rattle.command_tasks.proofs.Weighing.{HaveCredits, all_typed, words_of_calls}
use Rattle.value_text.specs.Loaded.{types_of}

-- ---- functions of instances, and instances of functions

header_first : (k : FunKind) (h : Header) (hs : List Header) → (k ≡ Fun → ⊥) → slice_get (and_if (is_ruled k) h hs) 0 ≡ Some h
header_first Fip h hs some = refl
header_first Fbip h hs some = refl
header_first Fun h hs some = absurd (some refl)

header_after : (k : FunKind) (h g : Header) (hs : List Header) (m : ℕ) → slice_get hs m ≡ Some g → (j : ℕ) × (slice_get (and_if (is_ruled k) h hs) j ≡ Some g)
header_after Fip h g hs m e = (suc m, e)
header_after Fbip h g hs m e = (suc m, e)
header_after Fun h g hs m e = (m, e)

header_at : (ms : List Member) (i : ℕ) (ds : List Instance) (place : ℕ) (d : Instance) → slice_get ds place ≡ Some d → (d.kind ≡ Fun → ⊥) → (m : ℕ) × (k : ℕ) × (slice_get (headers_from ms i ds) m ≡ Some (header_of k d))
header_at ms i [] place d e some = absurd (none-some d e)
header_at ms i (x ∷ ds) zero d e some =
    let same : x ≡ d = same_Some x d e in
    let ruled : x.kind ≡ Fun → ⊥ = subst (λ (y : Instance). y.kind ≡ Fun → ⊥) (sym same) some in
    (0, registers ms i, header_first x.kind (header_of (registers ms i) x) (headers_from ms (suc i) ds) ruled ∙ ap (λ y. Some (header_of (registers ms i) y)) same)
header_at ms i (x ∷ ds) (suc place) d e some =
    let r = header_at ms (suc i) ds place d e some in
    let j = header_after x.kind (header_of (registers ms i) x) (header_of r.1 d) (headers_from ms (suc i) ds) r.0 r.2 in
    (j.0, r.1, j.1)

function_with : (fs : List Function) (m : ℕ) (h : Header) → slice_get (map header fs) m ≡ Some h → (g : Function) × (slice_get fs m ≡ Some g) × (header g ≡ h)
function_with [] m h e = absurd (none-some h e)
function_with (g ∷ fs) zero h e = (g, refl, same_Some (header g) h e)
function_with (g ∷ fs) (suc m) h e = function_with fs m h e

record IsOf (ds : List Instance) (h : Header) : Type 0 where
  place : ℕ
  number : ℕ
  instance : Instance
  there : slice_get ds place ≡ Some instance
  runs : instance.kind ≢ Fun
  is : h ≡ header_of number instance

after_one : (x : Instance) (ds : List Instance) (h : Header) → IsOf ds h → IsOf (x ∷ ds) h
after_one x ds h r = record { place = suc r.place; number = r.number; instance = r.instance; there = r.there; runs = r.runs; is = r.is }

of_kind : (k : FunKind) (x : Instance) (ds : List Instance) (number : ℕ) (hs : List Header) (n : ℕ) (h : Header) → x.kind ≡ k → ((j : ℕ) → slice_get hs j ≡ Some h → IsOf ds h) → slice_get (and_if (is_ruled k) (header_of number x) hs) n ≡ Some h → IsOf (x ∷ ds) h
of_kind Fip x ds number hs zero h e rest at = record { place = 0; number = number; instance = x; there = refl; runs = λ f. (let z : Fip ≡ Fun = sym e ∙ f in absurd cc); is = sym (same_Some (header_of number x) h at) }
of_kind Fip x ds number hs (suc n) h e rest at = after_one x ds h (rest n at)
of_kind Fbip x ds number hs zero h e rest at = record { place = 0; number = number; instance = x; there = refl; runs = λ f. (let z : Fbip ≡ Fun = sym e ∙ f in absurd cc); is = sym (same_Some (header_of number x) h at) }
of_kind Fbip x ds number hs (suc n) h e rest at = after_one x ds h (rest n at)
of_kind Fun x ds number hs n h e rest at = after_one x ds h (rest n at)

instance_at : (ms : List Member) (i : ℕ) (ds : List Instance) (n : ℕ) (h : Header) → slice_get (headers_from ms i ds) n ≡ Some h → IsOf ds h
instance_at ms i [] n h e = absurd (none-some h e)
instance_at ms i (x ∷ ds) n h e = of_kind x.kind x ds (registers ms i) (headers_from ms (suc i) ds) n h refl (λ j f. instance_at ms (suc i) ds j h f) e

named_root : (b : Bool) (name called : List ℕ) → called ≡ (if b then name else []) → 0 < length called → (b ≡ true) × (called ≡ name)
named_root true name called e some = (refl, e)
named_root false name called e some = (let z = ap length e in absurd (omega (arith, some, z)))

word_some : (cs : List Symbol) → BeginsSmall cs → 0 < length (word cs)
word_some (Small b ∷ cs) h = omega arith
word_some [] h = absurd h
word_some (Blank ∷ cs) h = absurd h
word_some (Open ∷ cs) h = absurd h
word_some (Close ∷ cs) h = absurd h
word_some (Comma ∷ cs) h = absurd h
word_some (Equals ∷ cs) h = absurd h
word_some (Question ∷ cs) h = absurd h
word_some (Minus ∷ cs) h = absurd h
word_some (Underscore ∷ cs) h = absurd h
word_some (Digit d ∷ cs) h = absurd h
word_some (Capital b ∷ cs) h = absurd h
word_some (Other ∷ cs) h = absurd h

credits_same : (ks : List ℕ) → words_of_credits ks ≡ credit_words ks
credits_same [] = refl
credits_same (k ∷ ks) = (let r = credits_same ks in omega (arith, r))

-- a call and a task of the same function on the same values
pub record IsTwin (p : Program) (code : Code) (c : Called) (t : Task) : Type 0 where
  pub at : slice_get code.functions.items c.entry ≡ Some c.function
  pub there : slice_get p.instances t.entry ≡ Some t.header
  pub root : (t.header).root ≡ true
  pub runs : (t.header).kind ≢ Fun
  pub named : c.function.name ≡ (t.header).name
  pub some : 0 < length c.function.name
  pub kind : c.function.kind ≡ code_kind (t.header).kind
  pub credits : c.function.credits.items ≡ (t.header).credits
  pub results : c.function.results ≡ (t.header).results
  pub values : c.values ≡ t.values
  pub typed : HaveTypes p.types (map type_of (t.header).params) t.values

abbrev pub AreTwins : Program → Code → List Called → List Task → Type 0
AreTwins p code [] [] = Unit {0}
AreTwins p code (c ∷ cs) (t ∷ ts) = IsTwin p code c t × AreTwins p code cs ts
AreTwins p code cs ts = ⊥

pub twins_named : (p : Program) (code : Code) (cs : List Called) (ts : List Task) → AreTwins p code cs ts → AreNamed cs
twins_named p code [] [] h = tt
twins_named p code [] (t ∷ ts) h = absurd h
twins_named p code (c ∷ cs) [] h = absurd h
twins_named p code (c ∷ cs) (t ∷ ts) h = ((h.0).some, twins_named p code cs ts h.1)

pub twins_words : (p : Program) (code : Code) (cs : List Called) (ts : List Task) → AreTwins p code cs ts → words_of_calls cs ≡ words_of_tasks ts
twins_words p code [] [] h = refl
twins_words p code [] (t ∷ ts) h = absurd h
twins_words p code (c ∷ cs) [] h = absurd h
twins_words p code (c ∷ cs) (t ∷ ts) h =
    let a = ap words_needed_by_all (h.0).values in
    let b = ap words_of_credits (h.0).credits ∙ credits_same (t.header).credits in
    let r = twins_words p code cs ts h.1 in
    omega (arith, a, b, r)

module _ (source : List ℕ) (p : Program) (ms : List Member) (code : Code) (accepted : IsAccepted source p) (found : AreMembers p.instances ms) (sound : IsSound (plain code)) (lowered : IsLoweredFrom p (plain code)) where
  abbrev types : IsTyped source p
  types = typed_of source p accepted

  abbrev pub core : Core
  core = types.flat.core

  headed : map header code.functions.items ≡ headers lowered.members p.instances
  headed = sym (headers_of code.functions.items) ∙ lowered.functions

  pub code_of : HasLiterals (plain code) → IsCodeOf source core code
  code_of literals = record {
    program = p;
    members = lowered.members;
    parsed = types.flat.declared.parsed;
    accepted = accepted;
    types = lowered.types;
    functions = headed;
    lowered = lowered.lowered;
    is_sound = record { sound = sound; literals = literals };
  }

  plain_at : (n : ℕ) (g : Function) → slice_get code.functions.items n ≡ Some g → function_at (plain code) n ≡ Some (plain_function g)
  plain_at n g at = slice_get-map plain_function code.functions.items n ∙ ap (option_map plain_function) at

  loads : (n : ℕ) (g : Function) → slice_get code.functions.items n ≡ Some g → IsLoadable code.types (plain_function g)
  loads n g at = loadable (plain code) (plain_function g) (formed (plain code) n (plain_function g) sound (plain_at n g at))

  pub have_credits : HaveCredits code
  have_credits n g at = (loads n g at).credits

  pub table_sound : IsSoundTable code.types
  table_sound = subst IsSoundTable (sym lowered.types) (typed_sound source p types)

  pub readable : IsReadable code
  readable = record {
    table = table_sound;
    known = λ n g at. (loads n g at).known;
    credits = have_credits;
    names = λ name m n a b. one_of_name (plain code) m n (plain_function a.function) (plain_function b.function) sound (plain_at m a.function a.there) (plain_at n b.function b.there) (subst (λ (s : List ℕ). 0 < length s) (sym a.named) a.some) (a.named ∙ sym b.named);
  }

  -- ---- calls are tasks

  task_of : (line : List ℕ) (c : Called) → IsCall code line c → (t : Task) × IsTask p line t × IsTwin p code c t
  task_of line c h =
      let r = instance_at lowered.members 0 p.instances c.entry (header c.function) (ap (λ hs. slice_get hs c.entry) (sym headed) ∙ (slice_get-map header code.functions.items c.entry ∙ ap (option_map header) h.there)) in
      let d : Instance = r.instance in
      let some : 0 < length c.function.name = subst (λ (s : List ℕ). 0 < length s) (sym h.named) h.some in
      let name = named_root d.root d.name c.function.name (ap (λ (q : Header). q.name) r.is) some in
      let params : c.function.params ≡ d.params = ap (λ (q : Header). q.signature.params) r.is in
      let typed : AreValues p.types (map type_of d.params) h.parts c.values = subst (λ ps. AreValues p.types (map type_of ps) h.parts c.values) params (subst (λ (tb : Table). AreValues tb (types_of c.function.params) h.parts c.values) lowered.types h.typed) in
      let t : Task = record { entry = r.place; header = d; values = c.values } in (
        t,
        record {
          name = h.name;
          parts = h.parts;
          spelt = h.spelt;
          called = record { there = r.there; root = name.0; named = sym name.1 ∙ h.named; runs = r.runs };
          typed = typed;
        },
        record {
          at = h.there;
          there = r.there;
          root = name.0;
          runs = r.runs;
          named = name.1;
          some = some;
          kind = ap (λ (q : Header). q.signature.kind) r.is;
          credits = ap (λ (q : Header). q.signature.credits) r.is;
          results = ap (λ (q : Header). q.signature.results) r.is;
          values = refl;
          typed = all_typed p.types (map type_of d.params) h.parts c.values typed;
        },
      )

  call_of : (line : List ℕ) (t : Task) → IsTask p line t → (c : Called) × IsCall code line c
  call_of line t h =
      let d : Instance = t.header in
      let x = header_at lowered.members 0 p.instances t.entry d h.called.there h.called.runs in
      let y = function_with code.functions.items x.0 (header_of x.1 d) (ap (λ hs. slice_get hs x.0) headed ∙ x.2) in
      let g : Function = y.0 in
      let params : g.params ≡ d.params = ap (λ (q : Header). q.signature.params) y.2 in
      let called : g.name ≡ h.name = ap (λ (q : Header). q.name) y.2 ∙ (ap (λ b. if b then d.name else []) h.called.root ∙ h.called.named) in
      let named = h.spelt.3 in
      let c : Called = record { entry = x.0; function = g; values = t.values } in (
        c,
        record {
          name = h.name;
          parts = h.parts;
          spelt = h.spelt;
          there = y.1;
          named = called;
          some = subst (λ (s : List ℕ). 0 < length s) (sym named.is) (word_some (skip (symbols line)) named.small);
          typed = subst (λ ps. AreValues code.types (types_of ps) h.parts t.values) (sym params) (subst (λ (tb : Table). AreValues tb (map type_of d.params) h.parts t.values) (sym lowered.types) h.typed);
        },
      )

  pub tasks_of : (lines : List (List ℕ)) (cs : List Called) → AreCalls code lines cs → (ts : List Task) × AreTasks p lines ts × AreTwins p code cs ts
  tasks_of [] [] h = ([], tt, tt)
  tasks_of [] (c ∷ cs) h = absurd h
  tasks_of (line ∷ lines) [] h = absurd h
  tasks_of (line ∷ lines) (c ∷ cs) h =
      let one = task_of line c h.0 in
      let rest = tasks_of lines cs h.1 in
      (one.0 ∷ rest.0, (one.1, rest.1), (one.2, rest.2))

  pub bad_of : (n : ℕ) (lines : List (List ℕ)) (k : ℕ) → IsFirstBad code n lines k → IsBadFrom p n lines k
  bad_of n [] k h = absurd h
  bad_of n (line ∷ lines) k (inl (e, inl most)) = inl (e, inl most)
  bad_of n (line ∷ lines) k (inl (e, inr none)) = inl (e, inr (λ t is. (let c = call_of line t is in none c.0 c.1)))
  bad_of n (line ∷ lines) k (inr (less, some, rest)) =
      let t = task_of line some.0 some.1 in
      inr (less, (t.0, t.1), bad_of (suc n) lines k rest)

  -- ---- what a call ends in is what its task ends in

  module _ (room : Room) (limits : RunRoom) (calls : limits.calls ≡ room.calls) (frames : limits.frames ≡ room.frames) (few : room.frames ≤ MOST_FRAMES) where
    abbrev pub setting : Setting
    setting = record { program = p; members = ms; words = room.words; calls = room.calls; frames = room.frames }

    pub is_setting : IsSetting source room setting
    is_setting = record { accepted = accepted; found = found; words = refl; calls = refl; frames = refl }

    -- an answer is reported alike, if so is that of a run that was too deep
    reported_so : (c : Called) (t : Task) (n : ℕ) (a : Answer) (line : List ℕ) → IsTwin p code c t → (a ≡ Deep → n ≡ free_frames setting t.entry) → ReportsAnswer code.types c.function.results limits.calls n a line → TaskText setting t a line
    reported_so c t n (Gives vs left) line twin deep h = h ∙ (λ i. joined (lowered.types i) (twin.results i) vs line_end)
    reported_so c t n (Trap kind row col) line twin deep h = h
    reported_so c t n Out line twin deep h = h ∙ ap out_of_calls_text calls
    reported_so c t n Deep line twin deep h = h ∙ ap out_of_frames_text (deep refl)
    reported_so c t n Stuck line twin deep h = absurd h

    -- what the source means by the call is what the program means by its task
    flat_of : (c : Called) (t : Task) (n : ℕ) → IsTwin p code c t → answer_of core limits n c ≡ (flat_meaning p t.entry t.values room.calls n).answer
    flat_of c t n twin = (λ i. (meaning core (twin.named i) NoClosed (twin.values i) (calls i) n).answer) ∙ ap (λ r. r.answer) (sym (root_meant source p types core types.flat.declared.parsed t.entry t.header t.values room.calls n twin.there twin.root))

    -- a function that isn't fip has the frames that are given
    code_frames : (c : Called) (t : Task) (n : ℕ) (held : Option Stack) → IsTwin p code c t → (t.header).kind ≡ Fbip → HasStack (plain code) c.entry held → n ≡ min (frames_of limits.frames held) MOST_FRAMES → n ≡ room.frames
    code_frames c t n None twin kind stack are = omega (arith, are, frames, few)
    code_frames c t n (Some s) twin kind stack are =
        let f = stack.0 in
        let same : plain_function c.function ≡ f.0 = same_Some (plain_function c.function) f.0 (sym (plain_at c.entry c.function twin.at) ∙ f.1) in
        let fip : false ≡ true = ap is_fip (sym (ap code_kind kind) ∙ sym twin.kind ∙ ap (λ (q : PlainFunction). q.kind) same) ∙ f.2 in
        absurd cc

    text_by : (c : Called) (t : Task) (line : List ℕ) (k : FunKind) → IsTwin p code c t → (t.header).kind ≡ k → IsCallLine core code limits c line → TaskText setting t (flat_answer setting t.entry t.values) line
    text_by c t line Fun twin kind is = absurd (twin.runs kind)
    text_by c t line Fbip twin kind is =
        let n : is.frames ≡ room.frames = code_frames c t is.frames is.has.held twin kind is.has.stack is.has.are in
        let m : free_frames setting t.entry ≡ room.frames = free_given source setting accepted found t.entry t.header twin.there kind in
        let same : answer_of core limits is.frames c ≡ flat_answer setting t.entry t.values = flat_of c t is.frames twin ∙ ap (λ j. (flat_meaning p t.entry t.values room.calls j).answer) (n ∙ sym m) in
        subst (λ a. TaskText setting t a line) same (reported_so c t is.frames (answer_of core limits is.frames c) line twin (λ e. n ∙ sym m) is.reported)
    text_by c t line Fip twin kind is =
        let i = t.entry in
        let vs = t.values in
        let free = free_frames setting i in
        let shallow : (flat_meaning p i vs room.calls free).answer ≢ Deep = never_deep source setting accepted found i t.header vs twin.there kind twin.typed in
        let never : answer_of core limits is.frames c ≢ Deep = is.never_deep (ap is_fip (twin.kind ∙ ap code_kind kind)) in
        let flat = flat_of c t is.frames twin in
        let a = more_frames p i vs room.calls is.frames free (λ e. never (flat ∙ e)) in
        let b = more_frames p i vs room.calls free is.frames shallow in
        let both : flat_meaning p i vs room.calls is.frames ≡ flat_meaning p i vs room.calls free = sym a ∙ ap (flat_meaning p i vs room.calls) (let z : is.frames + free ≡ free + is.frames = omega arith in z) ∙ b in
        let same : answer_of core limits is.frames c ≡ flat_answer setting i vs = flat ∙ ap (λ x. x.answer) both in
        subst (λ x. TaskText setting t x line) same (reported_so c t is.frames (answer_of core limits is.frames c) line twin (λ e. absurd (never e)) is.reported)

    pub lines_reported : (n : ℕ) (cs : List Called) (ts : List Task) (text : List ℕ) → AreTwins p code cs ts → AreCallLines core code limits n cs text → TaskLines setting n ts text
    lines_reported n [] [] text twins h = h
    lines_reported n [] (t ∷ ts) text twins h = absurd twins
    lines_reported n (c ∷ cs) [] text twins h = absurd twins
    lines_reported n (c ∷ cs) (t ∷ ts) text twins h = (h.0, h.1, text_by c t h.0 (t.header).kind twins.0 refl h.2, h.3, lines_reported (suc n) cs ts h.1 twins.1 h.4)
