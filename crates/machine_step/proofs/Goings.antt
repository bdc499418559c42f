-- Instructions that a machine does in one turn, each reported by what the definition says comes next.
use Rattle.std.proofs.Common.{◌≡◌, ◌≢◌, ℕ, zero, suc, ◌+◌, ◌<◌, ◌≤◌, Bool, true, false, List, [], length, get_or, Option, Some, None, refl, sym, ap, subst, ◌∙◌, arith}
use Rattle.std.specs.Prelude.{slice_get, slice_set, if◌then◌else◌}
use Rattle.std.proofs.lemmas.Option.{same_Some, slice_get-get_or}
use Rattle.std.proofs.lemmas.List.{get_or-set_same, length-set}
use Rattle.cell_code.specs.declared.code.Instr.{Instr}
use Rattle.cell_code.specs.declared.kind.Kind.{Kind}
use Rattle.cell_store.specs.Cells.{Cells}
use Rattle.code_verify.specs.Checked.{Checked}
use Rattle.cell_code.specs.Plain.{PlainCode, plain}
use Rattle.machine_frames.specs.machine_semantics.Codes.{instr_at, instr_in}
use Rattle.machine_frames.specs.machine_semantics.Cells.{Store}
use Rattle.machine_frames.specs.machine_semantics.Rows.{constructor_of}
use Rattle.machine_frames.specs.machine_semantics.States.{Typed, State, Next}
use Rattle.machine_frames.specs.machine_semantics.Steps.{Kinds, act, act_at, next}
use Rattle.machine_frames.proofs.Viewed.{frame_get}
use Rattle.machine_cells.specs.Outcomes.{truth_word}
use Rattle.machine_step.specs.declared.cursor.Bounds.{Bounds}
use Rattle.machine_step.specs.declared.cursor.Cursor.{Cursor}
use Rattle.machine_step.specs.declared.rows.Stepped.{Stepped}
use Rattle.machine_step.specs.declared.rows.Stepped.TheVariants as S
use Rattle.machine_step.specs.Placed.{IsPlaced}
use Rattle.machine_step.specs.View.{words_of, state_of}
use Rattle.machine_step.specs.Coming.{Comes}
use Rattle.machine_step.specs.Going.{Lead, HasGone, ComesWithMore, Names}
use Rattle.machine_step.proofs.Calls.{plain_at}

-- the instruction at which a run is
pub instr_is : (v : Checked) (b : Bounds) (n : ℕ) (c : Cursor) (x : Instr) → IsPlaced v b n c → slice_get c.instrs.now c.at ≡ Some x → instr_at (plain v.code) c.function c.at ≡ Some x
instr_is v b n c x p e = ap (λ o. instr_in o c.at) (plain_at v.code.functions.items c.function p.is.0 p.is.1) ∙ ap (λ (xs : List Instr). slice_get xs c.at) p.is.3 ∙ e

-- what an instruction ended in is what came next
pub next_is : (v : Checked) (b : Bounds) (n : ℕ) (kinds : Kinds) (lent : List Typed) (s : Store) (ws : List ℕ) (c : Cursor) (x : Instr) (r : Stepped) (t : State) (given : List ℕ) → IsPlaced v b n c → slice_get c.instrs.now c.at ≡ Some x → Comes (state_of v b lent s ws c) (act (plain v.code) (kinds c.function c.at) (state_of v b lent s ws c) x) r t given → Comes (state_of v b lent s ws c) (next kinds (plain v.code) (state_of v b lent s ws c)) r t given
next_is v b n kinds lent s ws c x r t given p e h =
    let old = state_of v b lent s ws c in
    subst (λ o. Comes old (act_at (plain v.code) (kinds c.function c.at) old o) r t given) (sym (instr_is v b n c x p e)) h

pub none_gone : (kinds : Kinds) (code : PlainCode) (old new : State) → new ≡ old → HasGone kinds code old new
none_gone kinds code old new e = (0, e)

pub one_gone : (kinds : Kinds) (code : PlainCode) (old new : State) → Comes old (next kinds code old) S.Went new [] → HasGone kinds code old new
one_gone kinds code old new h = (suc zero, (old, refl, h))

lead_on : (kinds : Kinds) (code : PlainCode) (a b : State) (m : ℕ) → Lead kinds code m a b → (n : ℕ) (c : State) → Lead kinds code n b c → HasGone kinds code a c
lead_on kinds code a b m h zero c l = subst (λ (t : State). HasGone kinds code a t) (sym l) (m, h)
lead_on kinds code a b m h (suc n) c l = let r = lead_on kinds code a b m h n l.0 l.1 in (suc r.0, (l.0, r.1, l.2))

pub both_gone : (kinds : Kinds) (code : PlainCode) (a b c : State) → HasGone kinds code a b → HasGone kinds code b c → HasGone kinds code a c
both_gone kinds code a b c h l = lead_on kinds code a b h.0 h.1 l.0 c l.1

-- an instruction that was done alone
pub alone : (kinds : Kinds) (code : PlainCode) (loop : Bool) (old : State) (x : Next) (r : Stepped) (new : State) (given : List ℕ) → Comes old x r new given → (m : ComesWithMore kinds code old x r new given) × (loop ≡ false → new ≡ m.mid)
alone kinds code loop old x r new given h = (record { mid = new; comes = h; more = none_gone kinds code new new refl; last = λ n. refl }, λ once. refl)

-- one after which more went
pub with_more : (kinds : Kinds) (code : PlainCode) (loop : Bool) (old : State) (x : Next) (mid new : State) (given : List ℕ) → (loop ≡ false → ⊥) → Comes old x S.Went mid given → HasGone kinds code mid new → (m : ComesWithMore kinds code old x S.Went new given) × (loop ≡ false → new ≡ m.mid)
with_more kinds code loop old x mid new given in_loop h more = (record { mid = mid; comes = h; more = more; last = λ n. absurd (n refl) }, λ once. absurd (in_loop once))

-- the constructor of a bool's word
pub flag_is : (s : Store) (holds : Bool) (z : ℕ) → constructor_of s (truth_word holds) ≡ Some z → z ≡ (if holds then 1 else 0)
flag_is s true z e = sym (same_Some 1 z e)
flag_is s false z e = sym (same_Some 0 z e)

-- a word that names a cell, in a register of the running frame
pub named_word : (cs : Cells) (ws : List ℕ) (c : Cursor) (r p : ℕ) (n : Names cs (words_of ws c) r p) → r < c.registers → c.base + c.registers ≤ length ws → n.word ≡ get_or ws (c.base + r) 0
named_word cs ws c r p n h l = same_Some n.word (get_or ws (c.base + r) 0) (sym n.is ∙ frame_get c.base c.registers r ws h l)

pub some_there : {A : Type 0} (o : Option A) → o ≢ None → (x : A) × (o ≡ Some x)
some_there None h = absurd (h refl)
some_there (Some x) h = (x, refl)

-- the same of an instruction that is it
pub same_done : (kinds : Kinds) (code : PlainCode) (ks : List Kind) (loop : Bool) (old : State) (r : Stepped) (new : State) (given : List ℕ) (x y : Instr) → x ≡ y → (m : ComesWithMore kinds code old (act code ks old y) r new given) × (loop ≡ false → new ≡ m.mid) → (m : ComesWithMore kinds code old (act code ks old x) r new given) × (loop ≡ false → new ≡ m.mid)
same_done kinds code ks loop old r new given x y e h = subst (λ (z : Instr). (m : ComesWithMore kinds code old (act code ks old z) r new given) × (loop ≡ false → new ≡ m.mid)) (sym e) h

-- a register that was written has its word
pub written_there : (ws : List ℕ) (r w : ℕ) → r < length ws → slice_get (slice_set ws r w) r ≡ Some w
written_there ws r w h =
    let long = length-set ws r w in
    slice_get-get_or (slice_set ws r w) r 0 (omega (arith, h, long)) ∙ ap Some (get_or-set_same ws r w 0 h)
