-- A step of a fip run: it releases nothing, and its frames stay covered by their numbers.
use Rattle.std.proofs.Common.{◌≡◌, ℕ, zero, suc, ◌+◌, ◌<◌, ◌≤◌, Bool, true, false, not, List, [], ◌∷◌, length, Option, Some, None, refl, sym, ap, ap₂, ◌∙◌, subst, true≢false, arith, nat_lt}
use Rattle.std.specs.Prelude.{option_and_then}
use Rattle.std.proofs.lemmas.Option.{none-some, same_Some}
use Rattle.separation.specs.fip_language.declared.TrapKind.{TrapKind}
use Rattle.separation.specs.cell_code.declared.code.Instr.{Instr}
use Rattle.separation.specs.cell_code.declared.code.Instr.TheVariants as I
use Rattle.separation.specs.call_groups.Stacks.{charge}
use Rattle.separation.specs.cell_code.Plain.{PlainFunction, PlainCode, function_at}
use Rattle.separation.specs.machine_semantics.Cells.{Store, changed_by}
use Rattle.separation.specs.machine_semantics.Rows as D
use Rattle.separation.specs.machine_semantics.States.{Frame, State, Next, Went, Entered, Gave, Trapped, TooDeep, Stuck}
use Rattle.separation.specs.machine_semantics.Steps.{Kinds, went, went_with, called, called_with, replaced, returned, resumed, trapped, act, act_at, next, instr_of, kinds_of}
use Rattle.separation.specs.machine_semantics.Steps as T
use Rattle.separation.specs.code_rules.Codes.{is_fip, is_weak, is_weaker}
use Rattle.separation.specs.code_rules.Ranges.{in_range}
use Rattle.separation.specs.code_rules.Endings.{releases}
use Rattle.separation.specs.code_rules.Calls.{IsCall, CallsAt}
use Rattle.separation.specs.code_rules.StackNumbers.{IsFip, FipCalls}
use Rattle.separation.specs.code_rules.Breaks.{IsSound}
use Rattle.separation.proofs.separation_kinds.Basics.{both, below}
use Rattle.separation.specs.Codes.{AreKinds}
use Rattle.separation.specs.Alive.{IsAlive}
use Rattle.separation.proofs.Sound.{formed, ranged, keeps_fip}
use Rattle.separation.proofs.Local.{reached}
use Rattle.separation.proofs.Returning.{run_instr_at}
use Rattle.separation.proofs.ReadingRows.{get_some}
use Rattle.separation_bounds.proofs.RowFacts.{IsQuiet, writes_keep, quiet}
use Rattle.separation_bounds.proofs.Chains.{AreCovered, cover_less, covered_frames}

-- numbers that solve the inequations of frames and of words, by what a frame that waits has of its own
pub record AreNumbers (c : PlainCode) (own frames weight words : ℕ → ℕ) : Type 0 where
  pub frames_in : (f g : ℕ) (k : Bool) → FipCalls c f g k → frames g + charge (own f) k ≤ frames f
  pub words_in : (f g : ℕ) (k : Bool) → FipCalls c f g k → words g + charge (weight f) k ≤ words f

-- The frames of a state of a run of function n are covered; d frames were free at first.
pub record InPlace (c : PlainCode) (own frames weight words : ℕ → ℕ) (n d : ℕ) (s : State) : Type 0 where
  pub fip : IsFip c s.running.function
  pub frames_covered : AreCovered c own frames (frames n) s.running.function s.waiting
  pub words_covered : AreCovered c weight words (words n) s.running.function s.waiting
  pub free : s.free + length s.waiting ≡ d

-- what comes after a state
abbrev pub StaysInPlace : PlainCode → (ℕ → ℕ) → (ℕ → ℕ) → (ℕ → ℕ) → (ℕ → ℕ) → ℕ → ℕ → State → Next → Type 0
StaysInPlace c own frames weight words n d s (Went t) = InPlace c own frames weight words n d t × (t.store.released ≡ s.store.released)
StaysInPlace c own frames weight words n d s (Entered t) = InPlace c own frames weight words n d t × (t.store.released ≡ s.store.released)
StaysInPlace c own frames weight words n d s (Gave ws) = Unit {0}
StaysInPlace c own frames weight words n d s (Trapped kind line col) = Unit {0}
StaysInPlace c own frames weight words n d s TooDeep = ((f : ℕ) → own f ≡ 1) → frames n ≤ d → ⊥
StaysInPlace c own frames weight words n d s Stuck = Unit {0}

with_in_place : (c : PlainCode) (own frames weight words : ℕ → ℕ) (n d : ℕ) (s : State) (e : D.Done) (o : Option Store) → changed_by e.changes s.store ≡ o → IsQuiet (Some e) → InPlace c own frames weight words n d s → StaysInPlace c own frames weight words n d s (went_with s e o)
with_in_place c own frames weight words n d s e None is q p = tt
with_in_place c own frames weight words n d s e (Some store) is q p = (record { fip = p.fip; frames_covered = p.frames_covered; words_covered = p.words_covered; free = p.free }, writes_keep e.changes s.store store q is)

went_in_place : (c : PlainCode) (own frames weight words : ℕ → ℕ) (n d : ℕ) (s : State) (o : Option D.Done) → IsQuiet o → InPlace c own frames weight words n d s → StaysInPlace c own frames weight words n d s (went s o)
went_in_place c own frames weight words n d s None q p = tt
went_in_place c own frames weight words n d s (Some e) q p = with_in_place c own frames weight words n d s e (changed_by e.changes s.store) refl q p

trapped_in_place : (c : PlainCode) (own frames weight words : ℕ → ℕ) (n d : ℕ) (s : State) (line col : ℕ) (t : Option TrapKind) (o : Option D.Done) → IsQuiet o → InPlace c own frames weight words n d s → StaysInPlace c own frames weight words n d s (trapped s line col t o)
trapped_in_place c own frames weight words n d s line col None o q p = went_in_place c own frames weight words n d s o q p
trapped_in_place c own frames weight words n d s line col (Some kind) o q p = tt

-- ---- calls

fip_of : (o : Option PlainFunction) (g : PlainFunction) → o ≡ Some g → is_weak o ≡ false → is_fip g.kind ≡ true
fip_of None g e w = absurd (none-some g e)
fip_of (Some f) g e w = subst (λ (f : PlainFunction). is_fip f.kind ≡ true) (same_Some f g e) (unweak (is_fip f.kind) w)
  where
    unweak : (b : Bool) → not b ≡ false → b ≡ true
    unweak true e = refl
    unweak false e = absurd (true≢false e)

pub callee_fip : (c : PlainCode) (g : ℕ) → g < length c.functions → is_weaker c g ≡ false → IsFip c g
callee_fip c g h w = let f = get_some c.functions g h in (f.0, f.1, fip_of (function_at c g) f.0 f.1 w)

-- the call of a running frame
calls_at : (c : PlainCode) (types kept : List ℕ) (s : State) (x : Instr) (g : ℕ) (waits : Bool) → IsSound c → (a : IsAlive c types kept s) → a.instr ≡ x → IsCall x g waits → g < length c.functions → CallsAt c s.running.function s.running.at g waits
calls_at c types kept s x g waits sound a e call h = record {
  function = a.function;
  is = a.is;
  formed = formed c s.running.function a.function sound a.is;
  kinds = a.kinds;
  instr = a.instr;
  reached = reached c types kept s a;
  call = subst (λ x. IsCall x g waits) (sym e) call;
  there = h;
}

called_in_place : (c : PlainCode) (own frames weight words : ℕ → ℕ) (n d : ℕ) (s : State) (g : ℕ) (o : Option PlainFunction) (vs : Option (List ℕ)) → AreNumbers c own frames weight words → IsFip c g → FipCalls c s.running.function g true → InPlace c own frames weight words n d s → StaysInPlace c own frames weight words n d s (called s g o vs)
called_in_place c own frames weight words n d s g None vs m fip calls p = tt
called_in_place c own frames weight words n d s g (Some f) None m fip calls p = tt
called_in_place c own frames weight words n d s g (Some f) (Some vs) m fip calls p = by s.free refl
  where
    by : (free : ℕ) → s.free ≡ free → StaysInPlace c own frames weight words n d s (called_with s g f free vs)
    by zero e = λ one enough.
        let a = m.frames_in s.running.function g true calls in
        let b = covered_frames c own frames (frames n) s.running.function s.waiting one p.frames_covered in
        let u = one s.running.function in
        let x = p.free in
        let z : ⊥ = omega arith in
        z
    by (suc free) e = (
      record {
        fip = fip;
        frames_covered = (p.fip, m.frames_in s.running.function g true calls, p.frames_covered);
        words_covered = (p.fip, m.words_in s.running.function g true calls, p.words_covered);
        free = (let x = p.free in omega arith);
      },
      refl,
    )

replaced_in_place : (c : PlainCode) (own frames weight words : ℕ → ℕ) (n d : ℕ) (s : State) (g : ℕ) (o : Option PlainFunction) (vs : Option (List ℕ)) → AreNumbers c own frames weight words → IsFip c g → FipCalls c s.running.function g false → InPlace c own frames weight words n d s → StaysInPlace c own frames weight words n d s (replaced s g o vs)
replaced_in_place c own frames weight words n d s g None vs m fip calls p = tt
replaced_in_place c own frames weight words n d s g (Some f) None m fip calls p = tt
replaced_in_place c own frames weight words n d s g (Some f) (Some vs) m fip calls p =
    let a = m.frames_in s.running.function g false calls in
    let b = m.words_in s.running.function g false calls in (
      record {
        fip = fip;
        frames_covered = cover_less c own frames (frames n) s.running.function g s.waiting (omega arith) p.frames_covered;
        words_covered = cover_less c weight words (words n) s.running.function g s.waiting (omega arith) p.words_covered;
        free = p.free;
      },
      refl,
    )

resumed_in_place : (c : PlainCode) (own frames weight words : ℕ → ℕ) (n d : ℕ) (s : State) (w : Frame) (ws : List Frame) (o : Option (List ℕ)) → s.waiting ≡ w ∷ ws → InPlace c own frames weight words n d s → StaysInPlace c own frames weight words n d s (resumed s w ws o)
resumed_in_place c own frames weight words n d s w ws None e p = tt
resumed_in_place c own frames weight words n d s w ws (Some vs) e p =
    let a = subst (AreCovered c own frames (frames n) s.running.function) e p.frames_covered in
    let b = subst (AreCovered c weight words (words n) s.running.function) e p.words_covered in
    (record { fip = a.0; frames_covered = a.2; words_covered = b.2; free = (let x = p.free in let l = ap length e in omega arith) }, refl)

returned_in_place : (c : PlainCode) (own frames weight words : ℕ → ℕ) (n d : ℕ) (s : State) (ws : List Frame) (o : Option (List ℕ)) → s.waiting ≡ ws → InPlace c own frames weight words n d s → StaysInPlace c own frames weight words n d s (returned c s ws o)
returned_in_place c own frames weight words n d s ws None e p = tt
returned_in_place c own frames weight words n d s [] (Some vs) e p = tt
returned_in_place c own frames weight words n d s (w ∷ ws) (Some vs) e p = resumed_in_place c own frames weight words n d s w ws (option_and_then (λ ds. D.write_all w.words ds vs) (T.destinations c w)) e p

-- ---- every step

act_in_place : (c : PlainCode) (own frames weight words : ℕ → ℕ) (n d : ℕ) (types kept : List ℕ) (s : State) (x : Instr) → IsSound c → AreNumbers c own frames weight words → (a : IsAlive c types kept s) → a.instr ≡ x → releases c x ≡ false → in_range c a.function s.running.at x ≡ true → InPlace c own frames weight words n d s → StaysInPlace c own frames weight words n d s (act c a.kinds s x)
act_in_place c own frames weight words n d types kept s (I.Const e v) sound m a is r b p = went_in_place c own frames weight words n d s _ (quiet c a.kinds s (I.Const e v) r) p
act_in_place c own frames weight words n d types kept s (I.Atom e t k) sound m a is r b p = went_in_place c own frames weight words n d s _ (quiet c a.kinds s (I.Atom e t k) r) p
act_in_place c own frames weight words n d types kept s (I.Move e q) sound m a is r b p = went_in_place c own frames weight words n d s _ (quiet c a.kinds s (I.Move e q) r) p
act_in_place c own frames weight words n d types kept s (I.Arith e o x y line col) sound m a is r b p = trapped_in_place c own frames weight words n d s line col _ _ (quiet c a.kinds s (I.Arith e o x y line col) r) p
act_in_place c own frames weight words n d types kept s (I.Test q k target) sound m a is r b p = went_in_place c own frames weight words n d s _ (quiet c a.kinds s (I.Test q k target) r) p
act_in_place c own frames weight words n d types kept s (I.TestInt q v target) sound m a is r b p = went_in_place c own frames weight words n d s _ (quiet c a.kinds s (I.TestInt q v target) r) p
act_in_place c own frames weight words n d types kept s (I.Peek e q i) sound m a is r b p = went_in_place c own frames weight words n d s _ (quiet c a.kinds s (I.Peek e q i) r) p
act_in_place c own frames weight words n d types kept s (I.Take q ds) sound m a is r b p = went_in_place c own frames weight words n d s _ (quiet c a.kinds s (I.Take q ds) r) p
act_in_place c own frames weight words n d types kept s (I.Put e t k rs) sound m a is r b p = went_in_place c own frames weight words n d s _ (quiet c a.kinds s (I.Put e t k rs) r) p
act_in_place c own frames weight words n d types kept s (I.Drop q) sound m a is r b p = absurd (true≢false r)
act_in_place c own frames weight words n d types kept s (I.Free q) sound m a is r b p = absurd (true≢false r)
act_in_place c own frames weight words n d types kept s (I.Call g rs ds) sound m a is r b p =
    let h = below g (length c.functions) (both (nat_lt g (length c.functions)) _ b).0 in
    called_in_place c own frames weight words n d s g _ _ m (callee_fip c g h r) (p.fip, (s.running.at, calls_at c types kept s (I.Call g rs ds) g true sound a is (refl, refl) h)) p
act_in_place c own frames weight words n d types kept s (I.Tail g rs) sound m a is r b p =
    let h = below g (length c.functions) (both (nat_lt g (length c.functions)) _ b).0 in
    replaced_in_place c own frames weight words n d s g _ _ m (callee_fip c g h r) (p.fip, (s.running.at, calls_at c types kept s (I.Tail g rs) g false sound a is (refl, refl) h)) p
act_in_place c own frames weight words n d types kept s (I.Ret rs) sound m a is r b p = returned_in_place c own frames weight words n d s s.waiting (D.read_all s.running.words rs) refl p
act_in_place c own frames weight words n d types kept s (I.Jump target) sound m a is r b p = went_in_place c own frames weight words n d s (D.done c.types a.kinds s (I.Jump target)) (quiet c a.kinds s (I.Jump target) r) p

pub next_in_place : (c : PlainCode) (before waits : Kinds) (own frames weight words : ℕ → ℕ) (n d : ℕ) (types kept : List ℕ) (s : State) → IsSound c → AreKinds c before waits → AreNumbers c own frames weight words → IsAlive c types kept s → InPlace c own frames weight words n d s → StaysInPlace c own frames weight words n d s (next before c s)
next_in_place c before waits own frames weight words n d types kept s sound kinds m a p =
    let instr : instr_of c s ≡ Some a.instr = run_instr_at c s.running.function s.running.at a.function a.instr a.is a.is_instr in
    let known : kinds_of before s ≡ a.kinds = kinds.known s.running.function s.running.at a.function a.kinds a.is a.known in
    let fip : is_fip a.function.kind ≡ true = ap (λ (f : PlainFunction). is_fip f.kind) (same_Some a.function p.fip.0 (sym a.is ∙ p.fip.1)) ∙ p.fip.2 in
    subst (StaysInPlace c own frames weight words n d s) (sym (ap₂ (λ ks x. act_at c ks s x) known instr))
    (act_in_place c own frames weight words n d types kept s a.instr sound m a refl (keeps_fip c s.running.function s.running.at a.function a.kinds a.instr sound a.is (reached c types kept s a) fip) (ranged c s.running.function s.running.at a.function a.instr sound a.is a.is_instr) p)
