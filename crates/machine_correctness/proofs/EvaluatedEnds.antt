-- What a machine answers is what the source means.
-- Idea: a run reaches one end, so the end that the machine reports is the one that stands for the meaning.
use Rattle.std.proofs.Common.{◌≡◌, ◌≢◌, ◌<◌, ◌≤◌, ℕ, true, List, [], length, Some, refl, sym, ap, ◌∙◌, subst}
use Rattle.fip_machine.specs.fip_language.Core.{Core}
use Rattle.fip_machine.specs.fip_language.Meaning.{Answer, Gives, Trap, Out, Deep, Stuck, meaning}
use Rattle.fip_machine.specs.fip_language.Statics.{NoClosed}
use Rattle.fip_machine.specs.fip_language.Table.{Table}
use Rattle.fip_machine.specs.fip_language.Values.{Values}
use Rattle.value_text.specs.fip_base.declared.plain.Stack.{Stack}
use Rattle.fip_machine.specs.cell_code.declared.code.Code.{Code}
use Rattle.fip_machine.specs.cell_code.Plain.{PlainFunction, PlainCode, plain, function_at, results_of, results}
use Rattle.compiler_correctness.specs.machine_semantics.Runs as C
use Rattle.compiler_correctness.specs.machine_semantics.Runs.{End, Run, Going, Over, Ends, begun, after}
use Rattle.compiler_correctness.specs.machine_semantics.States.{State}
use Rattle.compiler_correctness.specs.machine_semantics.Steps.{Kinds}
use Rattle.run_loading.specs.code_rules.Codes.{is_fip}
use Rattle.run_loading.specs.code_rules.StackNumbers.{IsStack}
use Rattle.run_loading.specs.separation.Codes.{AreKinds}
use Rattle.run_loading.specs.separation.Starts.{IsStart}
use Rattle.run_loading.proofs.separation.KindsFound.{kinds_found}
use Rattle.run_loading.proofs.separation_bounds.Ending.{ends_once}
use Rattle.run_loading.proofs.separation_bounds.FipRuns.{never_deep}
use Rattle.fip_machine.specs.code_verify.Checked.{Checked}
use Rattle.run_loading.specs.tree_refinement.Agreement.{AreWordsOf}
use Rattle.run_loading.specs.tree_refinement.Runs.{BeginsWith, IsSameEnd}
use Rattle.fip_machine.specs.declared.machine.Ended.{Ended}
use Rattle.fip_machine.specs.Ending.{KnowsRun, RunsTo}
use Rattle.machine_correctness.specs.Ended.{EndsJustAs, IsOverJust}
use Rattle.machine_correctness.proofs.Drops.{known}
use Rattle.machine_correctness.proofs.VerifiedEnds.{runs_just}
use Rattle.compiler_correctness.specs.lowering_simulation.CellEnds.{EndsAs}
use Rattle.compiler_correctness.proofs.Joined.{on_cells_meant}
use Rattle.machine_correctness.specs.Meant.{IsMeant}
use Rattle.machine_correctness.specs.Starts.{IsSoundCode, IsCodeOf, Begins}
use Rattle.machine_correctness.proofs.Entries.{named}
use Rattle.machine_correctness.proofs.Made.{IsMadeOf, made_of}
use Rattle.machine_correctness.proofs.Starting.{starts, free_is, fip}

-- ---- the run of the definition

pub ends_as : (source : List ℕ) (core : Core) (c : PlainCode) (before waits : Kinds) (n : ℕ) (f : PlainFunction) (vs : Values) (s : State) (calls : ℕ) → IsMadeOf source core c → IsStart c before waits n [] s → BeginsWith c n s vs → function_at c n ≡ Some f → 0 < length f.name → EndsAs c before n s calls (meaning core f.name NoClosed vs calls s.free).answer
ends_as source core c before waits n f vs s calls h t b is some =
    let x = named h.program h.members c n f h.types h.functions is some in
    let ends = on_cells_meant source core h.program c h.parsed h.accepted h.lowered before waits x.place n x.instance vs [] s calls x.there x.root x.of' t b in
    subst (λ name. EndsAs c before n s calls (meaning core name NoClosed vs calls s.free).answer) (sym x.name) ends

-- of code in memory
pub ends_as_meant : (source : List ℕ) (core : Core) (code : Code) (before waits : Kinds) (n : ℕ) (f : PlainFunction) (vs : Values) (frames : ℕ) (s : State) (calls : ℕ) → IsCodeOf source core code → AreKinds (plain code) before waits → Begins code n f vs frames s → 0 < length f.name → EndsAs (plain code) before n s calls (meaning core f.name NoClosed vs calls frames).answer
ends_as_meant source core code before waits n f vs frames s calls h kinds b some =
    let t = starts code before waits n f vs frames s h.is_sound kinds b in
    subst (λ free. EndsAs (plain code) before n s calls (meaning core f.name NoClosed vs calls free).answer) (free_is code n f vs frames s b)
    (ends_as source core (plain code) before waits n f vs s calls (made_of source core code h) t.0 t.1 b.is some)

-- ---- the machine's answer

value_meant : (tb : Table) (types ws : List ℕ) (l : State) (e : Ended) (new : State) (given : List ℕ) (vs : Values) (k : ℕ) → EndsJustAs (C.Value ws) l e new given → AreWordsOf tb l.store types ws vs → IsMeant tb types e new given (Gives vs k)
value_meant tb types ws l e new given vs k h same =
    let words : AreWordsOf tb l.store types given vs = subst (λ us. AreWordsOf tb l.store types us vs) (sym h.2) same in
    let there : AreWordsOf tb new.store types given vs = subst (λ (u : State). AreWordsOf tb u.store types given vs) (sym h.1) words in
    subst (λ e. IsMeant tb types e new given (Gives vs k)) (sym h.0) there

meant_by : (tb : Table) (types : List ℕ) (end : End) (l : State) (left : ℕ) (e : Ended) (new : State) (given : List ℕ) (a : Answer) → EndsJustAs end l e new given → IsSameEnd tb types l left end a → IsMeant tb types e new given a
meant_by tb types (C.Value ws) l left e new given (Gives vs k) h same = value_meant tb types ws l e new given vs k h same.0
meant_by tb types (C.Value ws) l left e new given (Trap kind line col) h same = absurd same
meant_by tb types (C.Value ws) l left e new given Out h same = absurd same
meant_by tb types (C.Value ws) l left e new given Deep h same = absurd same
meant_by tb types (C.Value ws) l left e new given Stuck h same = absurd same
meant_by tb types (C.Trap kind line col) l left e new given (Gives vs k) h same = absurd same
meant_by tb types (C.Trap kind line col) l left e new given (Trap other row at) h same = subst (λ e. IsMeant tb types e new given (Trap other row at)) (sym h.0) same
meant_by tb types (C.Trap kind line col) l left e new given Out h same = absurd same
meant_by tb types (C.Trap kind line col) l left e new given Deep h same = absurd same
meant_by tb types (C.Trap kind line col) l left e new given Stuck h same = absurd same
meant_by tb types C.Out l left e new given (Gives vs k) h same = absurd same
meant_by tb types C.Out l left e new given (Trap kind line col) h same = absurd same
meant_by tb types C.Out l left e new given Out h same = subst (λ e. IsMeant tb types e new given Out) (sym h.0) refl
meant_by tb types C.Out l left e new given Deep h same = absurd same
meant_by tb types C.Out l left e new given Stuck h same = absurd same
meant_by tb types C.Deep l left e new given (Gives vs k) h same = absurd same
meant_by tb types C.Deep l left e new given (Trap kind line col) h same = absurd same
meant_by tb types C.Deep l left e new given Out h same = absurd same
meant_by tb types C.Deep l left e new given Deep h same = subst (λ e. IsMeant tb types e new given Deep) (sym h.0) refl
meant_by tb types C.Deep l left e new given Stuck h same = absurd same
meant_by tb types C.Unsound l left e new given a h same = absurd h

-- the end of a run that is over
pub record IsEnded (r : Run) (e : Ended) (new : State) (given : List ℕ) : Type 0 where
  pub end : End
  pub last : State
  pub left : ℕ
  pub steps : ℕ
  pub is : r ≡ Over end last left steps
  pub as' : EndsJustAs end last e new given

pub ended : (r : Run) (e : Ended) (new : State) (given : List ℕ) → IsOverJust r e new given → IsEnded r e new given
ended (Going s left n) e new given h = absurd h
ended (Over end s left n) e new given h = record { end = end; last = s; left = left; steps = n; is = refl; as' = h }

pub knows : (v : Checked) (before waits : Kinds) (n : ℕ) (f : PlainFunction) (vs : Values) (frames : ℕ) (s : State) (calls : ℕ) → IsSoundCode v.code → AreKinds (plain v.code) before waits → Begins v.code n f vs frames s → KnowsRun v before s calls
knows v before waits n f vs frames s calls sound kinds b =
    known v before waits n [] s calls (starts v.code before waits n f vs frames s sound kinds b).0

-- the end that is reported is the end that there is
same_end : (tb : Table) (types : List ℕ) (end other : End) (l m : State) (left k steps j : ℕ) (e : Ended) (new : State) (given : List ℕ) (a : Answer) → Over end l left steps ≡ Over other m k j → EndsJustAs other m e new given → IsSameEnd tb types l left end a → IsMeant tb types e new given a
same_end tb types end other l m left k steps j e new given a is h same =
    let ends : end ≡ other = cc in
    let lasts : l ≡ m = cc in
    let other_end : IsSameEnd tb types l left other a = subst (λ x. IsSameEnd tb types l left x a) ends same in
    let other_last : IsSameEnd tb types m left other a = subst (λ (u : State). IsSameEnd tb types u left other a) lasts other_end in
    meant_by tb types other m left e new given a h other_last

pub answers_as_meant : (source : List ℕ) (core : Core) (v : Checked) (before waits : Kinds) (n : ℕ) (f : PlainFunction) (vs : Values) (frames : ℕ) (s : State) (calls : ℕ) (e : Ended) (new : State) (given : List ℕ) → IsCodeOf source core v.code → AreKinds (plain v.code) before waits → Begins v.code n f vs frames s → 0 < length f.name → RunsTo before (plain v.code) s calls e new given → IsMeant v.code.types f.results e new given (meaning core f.name NoClosed vs calls frames).answer
answers_as_meant source core v before waits n f vs frames s calls e new given h kinds b some runs =
    let c = plain v.code in
    let a = (meaning core f.name NoClosed vs calls frames).answer in
    let start = (starts v.code before waits n f vs frames s h.is_sound kinds b).0 in
    let meant = ends_as_meant source core v.code before waits n f vs frames s calls h kinds b some in
    let just = runs_just v before waits n [] s calls e new given start runs in
    let x = ended (after before (plain v.code) just.0 (begun s calls)) e new given just.1 in
    let reported : Ends before c s calls x.end x.last x.left x.steps = record { enough = just.0; is = x.is } in
    let once = ends_once c before waits before waits n [] s calls meant.end x.end meant.last x.last meant.left x.left meant.steps x.steps start kinds meant.ends reported in
    let types : results c n ≡ f.results = ap results_of b.is in
    subst (λ ts. IsMeant v.code.types ts e new given a) types
    (same_end v.code.types (results c n) meant.end x.end meant.last x.last meant.left x.left meant.steps x.steps e new given a once x.as' meant.same)

-- ---- a fip entry is never too deep

deep_end : (tb : Table) (types : List ℕ) (l : State) (left : ℕ) (end : End) → IsSameEnd tb types l left end Deep → end ≡ C.Deep
deep_end tb types l left (C.Value ws) h = absurd h
deep_end tb types l left (C.Trap kind line col) h = absurd h
deep_end tb types l left C.Out h = absurd h
deep_end tb types l left C.Deep h = refl
deep_end tb types l left C.Unsound h = absurd h

pub meant_not_deep : (source : List ℕ) (core : Core) (c : PlainCode) (before waits : Kinds) (n : ℕ) (f : PlainFunction) (vs : Values) (s : State) (calls : ℕ) (stack : Stack) → IsMadeOf source core c → IsStart c before waits n [] s → BeginsWith c n s vs → function_at c n ≡ Some f → 0 < length f.name → is_fip f.kind ≡ true → IsStack c n stack → stack.frames ≤ s.free → (meaning core f.name NoClosed vs calls s.free).answer ≢ Deep
meant_not_deep source core c before waits n f vs s calls stack h t b is some k number enough e =
    let meant = ends_as source core c before waits n f vs s calls h t b is some in
    let deep = deep_end c.types (results c n) meant.last meant.left meant.end (subst (IsSameEnd c.types (results c n) meant.last meant.left meant.end) e meant.same) in
    never_deep c before waits n [] s calls meant.ends.enough stack meant.last meant.left meant.steps t (fip c n f is k) number enough
    (meant.ends.is ∙ ap (λ end. Over end meant.last meant.left meant.steps) deep)

-- of code in memory
pub not_deep : (source : List ℕ) (core : Core) (code : Code) (n : ℕ) (f : PlainFunction) (vs : Values) (frames : ℕ) (s : State) (calls : ℕ) (stack : Stack) → IsCodeOf source core code → Begins code n f vs frames s → 0 < length f.name → is_fip f.kind ≡ true → IsStack (plain code) n stack → stack.frames ≤ frames → (meaning core f.name NoClosed vs calls frames).answer ≢ Deep
not_deep source core code n f vs frames s calls stack h b some k number enough =
    let found = kinds_found (plain code) in
    let t = starts code found.0 found.1 n f vs frames s h.is_sound found.2 b in
    let free = free_is code n f vs frames s b in
    subst (λ m. (meaning core f.name NoClosed vs calls m).answer ≢ Deep) free
    (meant_not_deep source core (plain code) found.0 found.1 n f vs s calls stack (made_of source core code h) t.0 t.1 b.is some k number (subst (λ m. stack.frames ≤ m) (sym free) enough))
