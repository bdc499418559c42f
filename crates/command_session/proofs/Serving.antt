-- The code of a source that breaks no rule serves its sessions.
-- Idea: a call begins rightly beside the cells of what else is held, so its run ends as the instance means; and the
-- code holds of the stack what the program's groups report of the instance, so both give one number of frames.
use Rattle.std.proofs.Common.{◌≡◌, ◌≢◌, ◌∙◌, ◌<◌, ◌≤◌, ◌+◌, ℕ, zero, suc, Bool, true, false, List, [], ◌∷◌, length, map, Option, Some, None, slice_get, option_map, if◌then◌else◌, refl, sym, ap, subst, arith}
use Rattle.std.specs.Prelude.{min}
use Rattle.std.proofs.lemmas.Option.{none-some, same_Some, slice_get-map}
use Rattle.command_run.specs.fip_trees.declared.groups.Member.{Member}
use Rattle.command_run.specs.fip_trees.Tree.{Instance, Program}
use Rattle.command_run.specs.cell_lower.Limits.{registers}
use Rattle.command_run.specs.cell_lower.Shape.{Header, header, header_of, headers}
use Rattle.command_run.specs.cell_lower.cell_code.Plain.{plain_function, plain, function_at}
use Rattle.command_run.specs.code_rules.Breaks.{IsSound}
use Rattle.command_run.specs.code_rules.StackNumbers.{HasStack}
use Rattle.command_run.specs.command_source.ProgramCode.{IsLoweredFrom}
use Rattle.command_run.specs.lowering_relation.LoweredBodies.{function_of, has_function, if_function, one_more}
use Rattle.command_run.specs.machine_correctness.Starts.{IsCodeOf}
use Rattle.command_run.specs.separation.Codes.{HasLiterals, AreKinds}
use Rattle.command_run.specs.session_semantics.Talk.{Setting, answer_of, frames_by, frames_of, free_frames}
use Rattle.command_run.specs.session_semantics.Typed.{IsEntry}
use Rattle.command_run.specs.source_report.Report.{IsAccepted, IsTyped}
use Rattle.command_run.specs.tail_groups.Members.{AreMembers}
use Rattle.command_run.proofs.Bounded.{few_frames, one_of_name}
use Rattle.command_run.proofs.Loaded.{IsLoadable, loadable}
use Rattle.command_run.proofs.command_eval.Meant.{typed_of}
use Rattle.command_run.proofs.command_eval.SoundTypes.{typed_sound}
use Rattle.command_run.proofs.machine_correctness.Entries.{headers_of}
use Rattle.command_run.proofs.compiler_correctness.Joined.{on_cells}
use Rattle.command_run.proofs.machine_correctness.Entries.{IsNamed, named}
use Rattle.command_run.proofs.machine_correctness.Made.{IsMadeOf, made_of}
use Rattle.command_run.proofs.machine_correctness.Peaks.{header_at}
use Rattle.command_run.proofs.machine_correctness.code_rules.Numbers.{has_once}
use Rattle.command_run.proofs.separation.Sound.{formed}
use Rattle.session_code.specs.Served.{ComesTo, IsOf, IsServed}
use Rattle.session_code.specs.session_correctness.Beside.{BeginsBeside}
use Rattle.session_code.specs.session_correctness.tree_refinement.cell_code.declared.code.Code.{Code}
use Rattle.session_code.specs.session_correctness.tree_refinement.cell_code.declared.code.Function.{Function}
use Rattle.session_code.specs.session_correctness.tree_refinement.fip_base.declared.plain.Stack.{Stack}
use Rattle.session_code.specs.session_correctness.tree_refinement.fip_language.Core.{Name}
use Rattle.session_code.specs.session_correctness.tree_refinement.fip_language.SoundTable.{IsSoundTable}
use Rattle.session_code.specs.session_correctness.tree_refinement.fip_language.Values.{Values}
use Rattle.session_code.specs.session_correctness.tree_refinement.fip_language.declared.FunKind.{FunKind}
use Rattle.session_code.specs.session_correctness.tree_refinement.fip_language.declared.FunKind.TheVariants.{Fip, Fbip, Fun}
use Rattle.session_code.specs.session_correctness.tree_refinement.fip_language.declared.limits.TheConstants.{MOST_FRAMES}
use Rattle.session_code.specs.session_correctness.tree_refinement.machine_semantics.States.{State}
use Rattle.session_code.specs.session_correctness.tree_refinement.machine_semantics.Steps.{Kinds}
use Rattle.session_code.specs.session_lines.Named.{HasFrames, HasName}
use Rattle.session_code.specs.session_lines.instance_semantics.Meaning.{flat_meaning}
use Rattle.session_code.specs.session_values.Readable.{IsReadable}
use Rattle.session_code.proofs.session_correctness.Beginning.{begins, free_is, start}

-- ---- instances and their functions

has_one : (k : FunKind) → (k ≡ Fun → ⊥) → has_function k ≡ true
has_one Fip some = refl
has_one Fbip some = refl
has_one Fun some = absurd (some refl)

some_more : (b : Bool) (n : ℕ) → (m : ℕ) × (one_more b (Some n) ≡ Some m)
some_more true n = (suc n, refl)
some_more false n = (n, refl)

-- an instance that isn't plain has a function
numbered : (ds : List Instance) (i : ℕ) (d : Instance) → slice_get ds i ≡ Some d → (d.kind ≡ Fun → ⊥) → (n : ℕ) × (function_of ds i ≡ Some n)
numbered [] i d there some = absurd (none-some d there)
numbered (x ∷ ds) zero d there some =
    let same : x ≡ d = same_Some x d there in
    (0, ap if_function (ap (λ (y : Instance). has_function y.kind) same ∙ has_one d.kind some))
numbered (x ∷ ds) (suc i) d there some =
    let r = numbered ds i d there some in
    let m = some_more (has_function x.kind) r.0 in
    (m.0, ap (one_more (has_function x.kind)) r.1 ∙ m.1)

one_less : (b : Bool) (o : Option ℕ) (n : ℕ) → one_more b o ≡ Some n → (m : ℕ) × (o ≡ Some m)
one_less b None n e = absurd (none-some n e)
one_less b (Some m) n e = (m, refl)

-- and only such a one
not_plain : (ds : List Instance) (i n : ℕ) (d : Instance) → function_of ds i ≡ Some n → slice_get ds i ≡ Some d → d.kind ≢ Fun
not_plain [] i n d e there plain = none-some d there
not_plain (x ∷ ds) zero n d e there plain =
    let kind : x.kind ≡ Fun = ap (λ (y : Instance). y.kind) (same_Some x d there) ∙ plain in
    none-some n (sym (ap (λ k. if_function (has_function k)) kind) ∙ e)
not_plain (x ∷ ds) (suc i) n d e there plain =
    let r = one_less (has_function x.kind) (function_of ds i) n e in
    not_plain ds i r.0 d r.1 there plain

-- each instance has a member
member_there : (ds : List Instance) (ms : List Member) (i : ℕ) (d : Instance) → length ms ≡ length ds → slice_get ds i ≡ Some d → (m : Member) × (slice_get ms i ≡ Some m)
member_there [] ms i d size there = absurd (none-some d there)
member_there (x ∷ ds) [] i d size there = absurd (omega (arith, size))
member_there (x ∷ ds) (m ∷ ms) zero d size there = (m, refl)
member_there (x ∷ ds) (m ∷ ms) (suc i) d size there = member_there ds ms i d (omega (arith, size)) there

-- a function of this header
of_header : (fs : List Function) (n : ℕ) (h : Header) → slice_get (map header fs) n ≡ Some h → (f : Function) × (slice_get fs n ≡ Some f) × (header f ≡ h)
of_header [] n h e = absurd (none-some h e)
of_header (f ∷ fs) zero h e = (f, refl, same_Some (header f) h e)
of_header (f ∷ fs) (suc n) h e = of_header fs n h e

-- ---- the code of a source

module _ (source : List ℕ) (o : Setting) (code : Code) (accepted : IsAccepted source o.program) (found : AreMembers (o.program).instances o.members) (sound : IsSound (plain code)) (literals : HasLiterals (plain code)) (lowered : IsLoweredFrom o.program (plain code)) (few : o.frames ≤ MOST_FRAMES) where
  abbrev p : Program
  p = o.program

  abbrev types : IsTyped source p
  types = typed_of source p accepted

  headed : map header code.functions.items ≡ headers lowered.members p.instances
  headed = sym (headers_of code.functions.items) ∙ lowered.functions

  abbrev code_of : IsCodeOf source types.flat.core code
  code_of = record {
    program = p;
    members = lowered.members;
    parsed = types.flat.declared.parsed;
    accepted = accepted;
    types = lowered.types;
    functions = headed;
    lowered = lowered.lowered;
    is_sound = record { sound = sound; literals = literals };
  }

  abbrev made : IsMadeOf source types.flat.core (plain code)
  made = made_of source types.flat.core code code_of

  plain_at : (n : ℕ) (f : Function) → slice_get code.functions.items n ≡ Some f → function_at (plain code) n ≡ Some (plain_function f)
  plain_at n f at = slice_get-map plain_function code.functions.items n ∙ ap (option_map plain_function) at

  loads : (n : ℕ) (f : Function) → slice_get code.functions.items n ≡ Some f → IsLoadable code.types (plain_function f)
  loads n f at = loadable (plain code) (plain_function f) (formed (plain code) n (plain_function f) sound (plain_at n f at))

  readable : IsReadable code
  readable = record {
    table = subst IsSoundTable (sym lowered.types) (typed_sound source p types);
    known = λ n f at. (loads n f at).known;
    credits = λ n f at. (loads n f at).credits;
    names = λ name m n a b. one_of_name (plain code) m n (plain_function a.function) (plain_function b.function) sound (plain_at m a.function a.there) (plain_at n b.function b.there) (subst (λ (s : Name). 0 < length s) (sym a.named) a.some) (a.named ∙ sym b.named);
  }

  -- ---- frames

  given : (n : ℕ) (s : Option Stack) → HasStack (plain code) n s → min (frames_of o.frames s) MOST_FRAMES ≡ frames_of o.frames s
  given n None h = omega (arith, few)
  given n (Some s) h = (let b = few_frames (plain code) n s sound h.1 in omega (arith, b))

  has_frames : (n i frames : ℕ) (m : Member) → function_of p.instances i ≡ Some n → slice_get o.members i ≡ Some m → HasFrames (plain code) n o.frames frames → frames ≡ free_frames o i
  has_frames n i frames m function there h =
      let stack : HasStack (plain code) n m.stack = lowered.stacks o.members found i n m function there in
      let same : h.held ≡ m.stack = has_once (plain code) n h.held m.stack h.stack stack in
      let free : free_frames o i ≡ frames_of o.frames m.stack = ap (frames_by o.frames) there in
      h.are ∙ ap (λ q. min (frames_of o.frames q) MOST_FRAMES) same ∙ given n m.stack stack ∙ sym free

  -- ---- runs

  comes : (n : ℕ) (f : Function) (x : IsNamed p (plain code) n (plain_function f)) (before waits : Kinds) (vs : Values) (kept : List ℕ) (s : State) → AreKinds (plain code) before waits → BeginsBeside code n (plain_function f) vs (free_frames o x.place) kept s → ComesTo (plain code) before n s o.calls (answer_of o x.place vs)
  comes n f x before waits vs kept s kinds b =
      let g = plain_function f in
      let frames = free_frames o x.place in
      let t = start code before waits n g vs frames kept s b sound literals kinds in
      let e = on_cells source p (plain code) accepted made.lowered before waits x.place n vs kept s o.calls x.of' t (begins code before waits n g vs frames kept s b sound literals kinds) in
      subst (λ free. ComesTo (plain code) before n s o.calls (flat_meaning p x.place vs o.calls free).answer) (free_is code before waits n g vs frames kept s b)
      (record { end = e.end; last = e.last; left = e.left; steps = e.steps; ends = e.ends; same = e.same })

  -- ---- functions and instances

  entry : (n : ℕ) (f : Function) → slice_get code.functions.items n ≡ Some f → 0 < length f.name → (i : ℕ) × (d : Instance) × IsOf o code n f i d
  entry n f at some =
      let x = named p made.members (plain code) n (plain_function f) made.types made.functions (plain_at n f at) some in
      let d = x.instance in
      let m = member_there p.instances o.members x.place d found.size x.there in (
        x.place,
        d,
        record {
          there = at;
          called = record { there = x.there; root = x.root; named = sym x.name; runs = not_plain p.instances x.place n d x.of'.function x.there };
          some = some;
          params = ap (λ (h : Header). h.signature.params) x.headed;
          results = ap (λ (h : Header). h.signature.results) x.headed;
          credits = ap (λ (h : Header). h.signature.credits) x.headed;
          runs = record { has = λ frames h. has_frames n x.place frames m.0 x.of'.function m.1 h; comes = comes n f x };
        },
      )

  function : (name : Name) (i : ℕ) (d : Instance) → 0 < length name → IsEntry p name i d → (n : ℕ) × HasName code.functions.items name n
  function name i d some e =
      let n = numbered p.instances i d e.there e.runs in
      let at = header_at lowered.members 0 p.instances i n.0 d n.1 e.there in
      let g = of_header code.functions.items n.0 (header_of (registers lowered.members (0 + i)) d) (ap (λ hs. slice_get hs n.0) headed ∙ at) in (
        n.0,
        record {
          function = g.0;
          there = g.1;
          named = ap (λ (h : Header). h.name) g.2 ∙ (ap (λ b. if b then d.name else []) e.root ∙ e.named);
          some = some;
        },
      )

  pub served : IsServed o code
  served = record {
    types = lowered.types;
    readable = readable;
    entry = entry;
    function = function;
    sound = sound;
    literals = literals;
  }
