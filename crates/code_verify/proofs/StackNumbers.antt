-- The stack numbers of a sound code's functions, by what was surveyed.
use Rattle.std.proofs.Common.{◌≡◌, inr, ℕ, zero, suc, ◌+◌, ◌<◌, Bool, true, false, not, List, [], ◌∷◌, length, map, get_or, Option, Some, None, slice_get, if◌then◌else◌, refl, sym, ap, ap₂, ◌∙◌, subst, arith}
use Rattle.std.specs.declared.vec.Vec.{Vec}
use Rattle.std.specs.declared.alloc.Global.{Global}
use Rattle.std.proofs.lemmas.Option.{same_Some, none-some}
use Rattle.std.proofs.lemmas.List.{length-map}
use Rattle.fip_base.specs.declared.plain.Stack.{Stack}
use Rattle.call_groups.specs.CallGraph.{group_number, IsPartition, rows, row}
use Rattle.call_groups.specs.Stacks.{number_of, Solves, LeastSolution, HasFrame, words_or_none, frame_words, FramedCalls, frames_in, words_in, base_frames, own_frames, AreStacks, AreAsked}
use Rattle.call_groups.specs.declared.search.Call.{Call}
use Rattle.call_groups.specs.declared.search.Partition.{Partition}
use Rattle.cell_code.specs.declared.code.Code.{Code}
use Rattle.cell_code.specs.declared.code.Function.{Function}
use Rattle.cell_code.specs.declared.code.Instr.{Instr}
use Rattle.cell_code.specs.declared.code.Instr.TheVariants as I
use Rattle.code_rules.specs.declared.rule.SoundRule.TheVariants.{S7, S8}
use Rattle.code_rules.specs.Limits as limits
use Rattle.cell_code.specs.Plain.{PlainFunction, PlainCode, plain_function, plain, function_at}
use Rattle.code_rules.specs.Codes.{is_fip, is_weak, is_weaker}
use Rattle.code_rules.specs.Headers.{is_formed}
use Rattle.code_rules.specs.Tables.{AreSoundTables}
use Rattle.code_rules.specs.Endings.{releases}
use Rattle.code_rules.specs.Calls.{IsCall, Calls, SameGroup, AreRows}
use Rattle.code_rules.specs.Breaks.{BreaksFip, BreaksGroup, IsSound}
use Rattle.code_rules.specs.StackNumbers.{IsFip, FipCalls, words_of, words_at, IsStack, HasStack}
use Rattle.code_verify.specs.declared.walk.Waiting.{Waiting}
use Rattle.code_verify.specs.declared.walk.DropType.{DropType}
use Rattle.code_verify.specs.Checked.{stack_or_none, HaveStacks}
use Rattle.code_verify.specs.Surveying.{frame_of, AreRowsBelow}
use Rattle.code_verify.proofs.OwnCalls.{are_rows, one_group}

-- ---- frames

abbrev FipIn : List Function → ℕ → Type 0
FipIn fs n = (f : PlainFunction) × (slice_get (map plain_function fs) n ≡ Some f) × (is_fip f.kind ≡ true)

framed : (b : Bool) (x w : ℕ) → ◌≡◌ {A = Option ℕ} (if b then Some x else None) (Some w) → b ≡ true
framed true x w e = refl
framed false x w e = absurd (none-some w e)

frame_fip : (fs : List Function) (n : ℕ) → HasFrame (map frame_of fs) n → FipIn fs n
frame_fip [] n h = absurd (none-some _ h.1)
frame_fip (g ∷ fs) zero h = (plain_function g, refl, framed (is_fip g.kind) _ h.0 (same_Some _ _ h.1))
frame_fip (g ∷ fs) (suc n) h = frame_fip fs n h

fip_frame : (fs : List Function) (n : ℕ) → FipIn fs n → HasFrame (map frame_of fs) n
fip_frame [] n h = absurd (none-some _ h.1)
fip_frame (g ∷ fs) zero h =
    let same : plain_function g ≡ h.0 = same_Some (plain_function g) h.0 h.1 in
    let fip : is_fip g.kind ≡ true = ap (λ (f : PlainFunction). is_fip f.kind) same ∙ h.2 in
    let frame : Bool → Option ℕ = λ b. if b then Some (g.registers + limits.frame_words) else None in
    (g.registers + limits.frame_words, ap Some (ap frame fip))
fip_frame (g ∷ fs) (suc n) h = fip_frame fs n h

choose : (b : Bool) (x : ℕ) → words_or_none (if b then Some x else None) ≡ (if b then x else 0)
choose true x = refl
choose false x = refl

same_words : (fs : List Function) (n : ℕ) → frame_words (map frame_of fs) n ≡ words_of (slice_get (map plain_function fs) n)
same_words [] n = refl
same_words (g ∷ fs) zero = choose (is_fip g.kind) _
same_words (g ∷ fs) (suc n) = same_words fs n

-- ---- what is required

releases_call : (c : PlainCode) (x : Instr) (g : ℕ) (w : Bool) → IsCall x g w → is_weaker c g ≡ true → releases c x ≡ true
releases_call c (I.Const d v) g w p e = absurd p
releases_call c (I.Atom d t k) g w p e = absurd p
releases_call c (I.Move d s) g w p e = absurd p
releases_call c (I.Arith d op a b line col) g w p e = absurd p
releases_call c (I.Test r k target) g w p e = absurd p
releases_call c (I.TestInt r v target) g w p e = absurd p
releases_call c (I.Peek d r i) g w p e = absurd p
releases_call c (I.Take r ds) g w p e = absurd p
releases_call c (I.Put d t k ss) g w p e = absurd p
releases_call c (I.Drop r) g w p e = absurd p
releases_call c (I.Free r) g w p e = absurd p
releases_call c (I.Call h rs ds) g w p e = ap (is_weaker c) p.0 ∙ e
releases_call c (I.Tail h rs) g w p e = ap (is_weaker c) p.0 ∙ e
releases_call c (I.Ret rs) g w p e = absurd p
releases_call c (I.Jump target) g w p e = absurd p

pub fip_calls_fip : (c : PlainCode) → AreSoundTables c → IsSound c → (m g : ℕ) (w : Bool) → IsFip c m → Calls c m g w → IsFip c g
fip_calls_fip c t sound m g w fip q = at (function_at c g) refl
  where
    own : is_fip q.1.function.kind ≡ true
    own = ap (λ (f : PlainFunction). is_fip f.kind) (same_Some q.1.function fip.0 (sym q.1.is ∙ fip.1)) ∙ fip.2

    never : is_weaker c g ≡ true → ⊥
    never e = sound m q.0 S7 (inr (t, (q.1.function, q.1.is, inr (q.1.formed, broken))))
      where
        broken : BreaksFip c q.1.function q.0
        broken = record { kinds = q.1.kinds; instr = q.1.instr; reached = q.1.reached; fip = own; breaks = releases_call c q.1.instr g w q.1.call e }

    at : (o : Option PlainFunction) → function_at c g ≡ o → IsFip c g
    at None e = absurd (missing c.functions g e q.1.there)
      where
        missing : (fs : List PlainFunction) (n : ℕ) → slice_get fs n ≡ None → n < length fs → ⊥
        missing [] n e l = omega (arith, l)
        missing (f ∷ fs) zero e l = none-some f (sym e)
        missing (f ∷ fs) (suc n) e l = missing fs n e (omega (arith, l))
    at (Some f) e = by (is_fip f.kind) refl
      where
        by : (b : Bool) → is_fip f.kind ≡ b → IsFip c g
        by true h = (f, e, h)
        by false h = absurd (never (ap is_weak e ∙ ap not h))

not_own : (c : PlainCode) → AreSoundTables c → IsSound c → (m g : ℕ) → IsFip c m → Calls c m g true → SameGroup c m g → ⊥
not_own c t sound m g fip q s = sound m q.0 S8 (inr (t, (fip.0, fip.1, inr (ap (is_formed c) same ∙ q.1.formed, broken))))
  where
    same : fip.0 ≡ q.1.function
    same = same_Some fip.0 q.1.function (sym fip.1 ∙ q.1.is)

    broken : BreaksGroup c m fip.0 q.0
    broken = record { callee = g; calls = q.1; fip = fip.2; breaks = s }

pub are_asked : (code : Code) (cs : List (Vec Call Global)) (ws : List (Vec Waiting Global)) (ds : List (Vec DropType Global)) (p : Partition) → AreSoundTables (plain code) → IsSound (plain code) → AreRowsBelow (plain code) (length (plain code).functions) cs ws ds → IsPartition (rows cs) p → AreAsked (rows cs) p (map frame_of code.functions.items)
are_asked code cs ws ds p t sound a q = record { groups = q; size = size; framed = framed_in; leaves = leaves }
  where
    h : AreRows (plain code) (rows cs)
    h = are_rows (plain code) cs ws ds a

    size : length (map frame_of code.functions.items) ≡ length (rows cs)
    size = length-map code.functions.items frame_of ∙ (sym (length-map code.functions.items plain_function) ∙ (sym a.calls_long ∙ sym (length-map cs row)))

    framed_in : (f g : ℕ) (k : Bool) → FramedCalls (rows cs) (map frame_of code.functions.items) f g k → HasFrame (map frame_of code.functions.items) g
    framed_in f g k x = fip_frame code.functions.items g (fip_calls_fip (plain code) t sound f g k (frame_fip code.functions.items f x.0) ((h f g k).1 x.1))

    leaves : (f g : ℕ) → FramedCalls (rows cs) (map frame_of code.functions.items) f g true → group_number p f ≡ group_number p g → ⊥
    leaves f g x e = not_own (plain code) t sound f g (frame_fip code.functions.items f x.0) ((h f g true).1 x.1) ((one_group (plain code) cs p h q f g).0 e)

-- ---- what is found

solves_same : (one other : ℕ → ℕ → Bool → Type 0) (base own number : ℕ → ℕ) → ((f g : ℕ) (k : Bool) → other f g k → one f g k) → Solves one base own number → Solves other base own number
solves_same one other base own number h s = record { base_in = s.base_in; calls_in = λ f g k x. s.calls_in f g k (h f g k x) }

least_same : (one other : ℕ → ℕ → Bool → Type 0) (base own number : ℕ → ℕ) → ((f g : ℕ) (k : Bool) → other f g k → one f g k) → ((f g : ℕ) (k : Bool) → one f g k → other f g k) → LeastSolution one base own number → LeastSolution other base own number
least_same one other base own number h k s = (solves_same one other base own number h s.0, λ m t. s.1 m (solves_same other one base own m k t))

pub have_stacks : (code : Code) (cs : List (Vec Call Global)) (ws : List (Vec Waiting Global)) (ds : List (Vec DropType Global)) (ss : List (Option Stack)) → AreRowsBelow (plain code) (length (plain code).functions) cs ws ds → AreStacks (rows cs) (map frame_of code.functions.items) ss → HaveStacks (plain code) ss
have_stacks code cs ws ds ss a s n = at (slice_get ss n) refl
  where
    h : AreRows (plain code) (rows cs)
    h = are_rows (plain code) cs ws ds a

    there : (f g : ℕ) (k : Bool) → FipCalls (plain code) f g k → FramedCalls (rows cs) (map frame_of code.functions.items) f g k
    there f g k x = (fip_frame code.functions.items f x.0, (h f g k).0 x.1)

    back : (f g : ℕ) (k : Bool) → FramedCalls (rows cs) (map frame_of code.functions.items) f g k → FipCalls (plain code) f g k
    back f g k x = (frame_fip code.functions.items f x.0, (h f g k).1 x.1)

    words : frame_words (map frame_of code.functions.items) ≡ words_at (plain code)
    words = λ i m. same_words code.functions.items m i

    some_in : (t : Stack) → slice_get ss n ≡ Some (Some t) → get_or ss n None ≡ Some t
    some_in t e = got ss n (Some t) e
      where
        got : (xs : List (Option Stack)) (m : ℕ) (o : Option Stack) → slice_get xs m ≡ Some o → get_or xs m None ≡ o
        got [] m o e = absurd (none-some o e)
        got (x ∷ xs) zero o e = same_Some x o e
        got (x ∷ xs) (suc m) o e = got xs m o e

    is_stack : (t : Stack) → slice_get ss n ≡ Some (Some t) → IsStack (plain code) n t
    is_stack t e = record {
      frames = frames_in ss;
      words = words_in ss;
      are_frames = least_same (FramedCalls (rows cs) (map frame_of code.functions.items)) (FipCalls (plain code)) base_frames own_frames (frames_in ss) there back s.least_frames;
      are_words = subst (λ w. LeastSolution (FipCalls (plain code)) w w (words_in ss)) words (least_same (FramedCalls (rows cs) (map frame_of code.functions.items)) (FipCalls (plain code)) (frame_words (map frame_of code.functions.items)) (frame_words (map frame_of code.functions.items)) (words_in ss) there back s.least_words);
      is = numbers;
    }
      where
        numbers : t ≡ record { frames = frames_in ss n; words = words_in ss n }
        numbers =
            let made : ℕ → ℕ → Stack = λ f w. record { frames = f; words = w } in
            let f : t.frames ≡ frames_in ss n = ap (number_of (λ u. u.frames)) (sym (some_in t e)) in
            let w : t.words ≡ words_in ss n = ap (number_of (λ u. u.words)) (sym (some_in t e)) in
            ap₂ made f w

    no_number : (o : Option (Option Stack)) → slice_get ss n ≡ o → ((t : Stack) → o ≡ Some (Some t) → ⊥) → IsFip (plain code) n → ⊥
    no_number o e never fip = (let r = s.some n (fip_frame code.functions.items n fip) in never r.0 (sym e ∙ r.1))

    at : (o : Option (Option Stack)) → slice_get ss n ≡ o → HasStack (plain code) n (stack_or_none o)
    at None e = no_number None e (λ t q. none-some (Some t) q)
    at (Some None) e = no_number (Some None) e (λ t q. none-some t (same_Some None (Some t) q))
    at (Some (Some t)) e = (frame_fip code.functions.items n (s.none n t e), is_stack t e)
