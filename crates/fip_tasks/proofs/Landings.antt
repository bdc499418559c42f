-- A task's turn leads to where the written run stands one step later.
-- The idea: a task that goes on is in a state of its run but for the cells, which are those of the store. What its step
-- came to is reported by what the definition says comes next, and each way that this may come about is a case.
use Rattle.std.proofs.Common.{◌≡◌, ◌≢◌, ℕ, zero, suc, ◌-◌, ◌<◌, arith, Bool, true, false, List, [], Option, Some, None, refl, sym, ap, subst, ◌∙◌}
use Rattle.cell_store.specs.Made.{Stored}
use Rattle.code_verify.specs.Checked.{Checked}
use Rattle.code_verify.specs.cell_code.Plain.{plain}
use Rattle.task_semantics.specs.machine_semantics.Cells.{Store}
use Rattle.task_semantics.specs.machine_semantics.States.{Typed, State, Next, Went, Entered, Gave, Trapped, TooDeep, Stuck}
use Rattle.task_semantics.specs.machine_semantics.Steps.{Kinds, instr_of, kinds_of, next}
use Rattle.task_semantics.specs.machine_semantics.Gauges.{seen}
use Rattle.task_semantics.specs.machine_semantics.Runs.{End, Value, Trap, Out, Deep, Unsound, Run, Going, Over, state_of, begun, comes, later, after}
use Rattle.fip_machine.specs.machine_cells.Small.{IsSmall}
use Rattle.fip_machine.specs.machine_step.declared.rows.Stepped.{Stepped}
use Rattle.fip_machine.specs.machine_step.declared.rows.Stepped.TheVariants as S
use Rattle.fip_machine.specs.machine_step.Coming.{Comes, KnowsAt}
use Rattle.fip_machine.specs.declared.machine.Ended.{Ended}
use Rattle.fip_machine.specs.declared.machine.Ended.TheVariants as M
use Rattle.fip_machine.specs.Along.{is_call_in, calls_next}
use Rattle.fip_machine.specs.Tasks.{Stand, state_with, ended_by, IsMeasured, IsRaised, IsFresh}
use Rattle.task_semantics.specs.Schedules.{in_store}
use Rattle.fip_machine.proofs.machine_cells.Counts.{counts_none, counts_on}
use Rattle.fip_tasks.specs.Gauged.{HasCounted}
use Rattle.fip_tasks.specs.Landing.{IsLanded, IsWithin, HasRisen, Lands, Goes, IsNew, HasBegun, Begins, cells_of}
use Rattle.fip_tasks.specs.Shown.{IsAt, HasEnded, StandsAt, CanGo, IsStarted}
use Rattle.fip_tasks.specs.Turns.{Standing}
use Rattle.fip_tasks.specs.declared.task.Start.{Start}
use Rattle.fip_machine.specs.machine_cells.Counting.{freed_of}
use Rattle.task_semantics.specs.machine_semantics.States.{frames_held, words_held}
use Rattle.fip_tasks.proofs.Called.{IsCalling, calling, out}
use Rattle.fip_tasks.proofs.Risen.{both, after_both, risen_none, risen_over, risen_ended, risen_step, risen_both, within_after, came_state}
use Rattle.fip_language.proofs.Facts.{true_is_not_false as not_both}
pub use Rattle.fip_language.proofs.Facts.{none_of as not_some}

-- ---- the cells of a run

-- the state of a task over other cells
pub at_cells : (u : Stand) (s : State) (cells : Store) → state_with u s.lent s.store ≡ s → state_with u s.lent cells ≡ record s { store = cells }
at_cells u s cells e = ap (λ (q : State). record q { store = cells }) e

pub over_cells : (v : Checked) (t : Standing) (cells : Store) (r : Run) → StandsAt v t r → StandsAt v t (in_store cells r)
over_cells v t cells (Going s l n) h = record {
  code = h.code;
  state = at_cells t.stack s cells h.state;
  going = h.going;
  on = h.on;
  left = h.left;
}
over_cells v t cells (Over (Value ws) s l n) h = h
over_cells v t cells (Over (Trap kind line col) s l n) h = h
over_cells v t cells (Over Out s l n) h = h
over_cells v t cells (Over Deep s l n) h = h
over_cells v t cells (Over Unsound s l n) h = h

pub from_cells : (v : Checked) (t : Standing) (cells : Store) (r : Run) → StandsAt v t (in_store cells r) → StandsAt v t r
from_cells v t cells (Going s l n) h = record {
  code = h.code;
  state = at_cells t.stack (record s { store = cells }) s.store h.state;
  going = h.going;
  on = h.on;
  left = h.left;
}
from_cells v t cells (Over (Value ws) s l n) h = h
from_cells v t cells (Over (Trap kind line col) s l n) h = h
from_cells v t cells (Over Out s l n) h = h
from_cells v t cells (Over Deep s l n) h = h
from_cells v t cells (Over Unsound s l n) h = h

pub cells_in : (cells : Store) (r : Run) → (state_of (in_store cells r)).store ≡ cells
cells_in cells (Going s l n) = refl
cells_in cells (Over e s l n) = refl

pub own_cells : (r : Run) → in_store (state_of r).store r ≡ r
own_cells (Going s l n) = refl
own_cells (Over e s l n) = refl

pub in_own : (cells : Store) (r : Run) → (state_of r).store ≡ cells → in_store cells r ≡ r
in_own cells r e = ap (λ c. in_store c r) (sym e) ∙ own_cells r

-- ---- one step

-- the calls that are left and the end, by what a step came to
abbrev pub Fits : Stepped → ℕ → Standing → Type 0
Fits S.Went l u = (u.ended ≡ None) × (u.left ≡ l)
Fits S.Entered zero u = Unit {0}
Fits S.Entered (suc l) u = (u.ended ≡ None) × (u.left ≡ l)
Fits S.Value l u = u.ended ≡ Some M.Value
Fits (S.Trap kind line col) l u = u.ended ≡ Some (M.Trap kind line col)
Fits S.Deep l u = u.ended ≡ Some M.Deep

landed_going : (v : Checked) (s t : State) (l k : ℕ) (u : Standing) (cells : Store) → state_with u.stack s.lent cells ≡ t → u.stack.code ≡ v → u.stack.ended ≡ None → u.ended ≡ None → u.left ≡ l → IsLanded v u cells (Going t l k)
landed_going v s t l k u cells e code going on left = subst (λ (q : State). IsLanded v u cells (Going q l k)) e (record {
  stands = record { code = code; state = refl; going = going; on = on; left = left };
  cells = refl;
})

same_cells : (s : State) (u : Standing) (cells : Store) → state_with u.stack s.lent cells ≡ s → s.store ≡ cells
same_cells s u cells e = sym (ap (λ (q : State). q.store) e)

came : (v : Checked) (s : State) (l k : ℕ) (call : Bool) (x : Next) (r : Stepped) (u : Standing) (cells : Store) → Comes s x r (state_with u.stack s.lent cells) u.stack.given → x ≢ Stuck → IsCalling call x → (l ≡ 0 → call ≡ false) → u.stack.code ≡ v → u.stack.ended ≡ ended_by r → Fits r l u → IsLanded v u cells (comes s l k x)
came v s l k call (Went t) r u cells h known calls none code ends fits =
    let f : Fits S.Went l u = subst (λ q. Fits q l u) h.0 fits in
    landed_going v s t l k u cells h.1 code (ends ∙ ap ended_by h.0) f.0 f.1
came v s zero k call (Entered t) r u cells h known calls none code ends fits = not_both call calls (none refl)
came v s (suc l) k call (Entered t) r u cells h known calls none code ends fits =
    let f : Fits S.Entered (suc l) u = subst (λ q. Fits q (suc l) u) h.0 fits in
    landed_going v s t l k u cells h.1 code (ends ∙ ap ended_by h.0) f.0 f.1
came v s l k call (Gave ws) r u cells h known calls none code ends fits =
    let f : Fits S.Value l u = subst (λ q. Fits q l u) h.0 fits in
    record { stands = (f, h.2); cells = same_cells s u cells h.1 }
came v s l k call (Trapped kind line col) r u cells h known calls none code ends fits =
    let f : Fits (S.Trap kind line col) l u = subst (λ q. Fits q l u) h.0 fits in
    record { stands = f; cells = same_cells s u cells h.1 }
came v s zero k call TooDeep r u cells h known calls none code ends fits = not_both call calls (none refl)
came v s (suc l) k call TooDeep r u cells h known calls none code ends fits =
    let f : Fits S.Deep (suc l) u = subst (λ q. Fits q (suc l) u) h.0 fits in
    record { stands = f; cells = same_cells s u cells h.1 }
came v s l k call Stuck r u cells h known calls none code ends fits = absurd (known refl)

pub not_ended : {A : Type 0} (t : Standing) (e : End) → HasEnded t e → t.ended ≡ None → A
not_ended t (Value ws) h e = let f = h.0 in absurd cc
not_ended t (Trap kind line col) h e = absurd cc
not_ended t Out h e = absurd cc
not_ended t Deep h e = absurd cc
not_ended t Unsound h e = absurd h

-- what is reported of a task's step over the cells of a store
abbrev pub IsReported : Standing → Stored → Stepped → Standing → Stored → Type 0
IsReported old before r new following = (kinds : Kinds) → KnowsAt old.stack.code kinds old.stack.running.function old.stack.running.at → old.stack.ended ≡ None → IsSmall before.cells → before.pushed ≡ [] → (lent : List Typed) → Comes (state_with old.stack lent (cells_of before)) (next kinds (plain old.stack.code.code) (state_with old.stack lent (cells_of before))) r (state_with new.stack lent (cells_of following)) new.stack.given

-- what a step came to, over these cells, and that it was no call where none was left
record WentOn (v : Checked) (kinds : Kinds) (old new : Standing) (before following : Stored) (r : Stepped) (s : State) : Type 0 where
  comes : Comes (record s { store = cells_of before }) (next kinds (plain v.code) (record s { store = cells_of before })) r (state_with new.stack s.lent (cells_of following)) new.stack.given
  call : old.left ≡ 0 → is_call_in (instr_of (plain v.code) (record s { store = cells_of before })) ≡ false

went : (v : Checked) (kinds : Kinds) (old new : Standing) (before following : Stored) (r : Stepped) (s : State) (l n : ℕ) → (old.left ≡ 0 → calls_next old.stack.code old.stack ≡ false) → IsReported old before r new following → IsSmall before.cells → before.pushed ≡ [] → IsAt v old s l → CanGo v kinds (Going (record s { store = cells_of before }) l n) → WentOn v kinds old new before following r s
went v kinds old new before following r s l n none reported small empty at can =
    let here : State = record s { store = cells_of before } in
    let e : state_with old.stack s.lent (cells_of before) ≡ here = at_cells old.stack s (cells_of before) at.state in
    let knows : KnowsAt old.stack.code kinds old.stack.running.function old.stack.running.at =
    subst (λ (w : Checked). KnowsAt w kinds old.stack.running.function old.stack.running.at) (sym at.code)
    (subst (λ (q : State). KnowsAt v kinds q.running.function q.running.at) (sym e) can.0) in
    let first : Comes (state_with old.stack s.lent (cells_of before)) (next kinds (plain v.code) (state_with old.stack s.lent (cells_of before))) r (state_with new.stack s.lent (cells_of following)) new.stack.given =
    subst (λ (w : Checked). Comes (state_with old.stack s.lent (cells_of before)) (next kinds (plain w.code) (state_with old.stack s.lent (cells_of before))) r (state_with new.stack s.lent (cells_of following)) new.stack.given) at.code (reported kinds knows at.going small empty s.lent) in
    record {
      comes = subst (λ (q : State). Comes q (next kinds (plain v.code) q) r (state_with new.stack s.lent (cells_of following)) new.stack.given) e first;
      call = λ z.
          subst (λ (q : State). is_call_in (instr_of (plain v.code) q) ≡ false) e
          (subst (λ (w : Checked). calls_next w old.stack ≡ false) at.code (none z));
    }

went_on : (v : Checked) (kinds : Kinds) (old new : Standing) (before following : Stored) (r : Stepped) (s : State) (l n : ℕ) → WentOn v kinds old new before following r s → new.stack.code ≡ old.stack.code → new.stack.ended ≡ ended_by r → Fits r old.left new → IsAt v old s l → CanGo v kinds (Going (record s { store = cells_of before }) l n) → IsLanded v new (cells_of following) (comes (record s { store = cells_of before }) l (suc n) (next kinds (plain v.code) (record s { store = cells_of before })))
went_on v kinds old new before following r s l n w code ends fits at can =
    let here : State = record s { store = cells_of before } in
    came v here l (suc n) (is_call_in (instr_of (plain v.code) here)) (next kinds (plain v.code) here) r new (cells_of following) w.comes can.1 (calling (plain v.code) (kinds_of kinds here) here (instr_of (plain v.code) here)) (λ z. w.call (at.left ∙ z)) (code ∙ at.code) ends (subst (λ m. Fits r m new) at.left fits)

went_risen : (v : Checked) (kinds : Kinds) (old new : Standing) (before following : Stored) (r : Stepped) (s : State) (l n : ℕ) → WentOn v kinds old new before following r s → IsMeasured new.stack → IsRaised old.stack new.stack → IsAt v old s l → CanGo v kinds (Going (record s { store = cells_of before }) l n) → IsWithin old (Going s l n) → HasRisen old new (seen kinds (plain v.code) 1 (Going (record s { store = cells_of before }) l n))
went_risen v kinds old new before following r s l n w measured raised at can within =
    let here : State = record s { store = cells_of before } in
    let is : state_of (later kinds (plain v.code) (Going here l n)) ≡ state_with new.stack s.lent (cells_of following) =
    came_state here l (suc n) (is_call_in (instr_of (plain v.code) here)) (next kinds (plain v.code) here) r (state_with new.stack s.lent (cells_of following)) new.stack.given w.comes can.1 (calling (plain v.code) (kinds_of kinds here) here (instr_of (plain v.code) here)) (λ z. w.call (at.left ∙ z)) in
    risen_step kinds (plain v.code) old new here l n (state_with new.stack s.lent (cells_of following)) measured raised is (sym measured.frames) (sym measured.words) within

pub step_lands : (old new : Standing) (before following : Stored) (r : Stepped) → old.ended ≡ None → (old.stack.ended ≡ None → old.left ≡ 0 → calls_next old.stack.code old.stack ≡ false) → new.stack.code ≡ old.stack.code → (IsSmall before.cells → IsSmall following.cells) → (before.pushed ≡ [] → following.pushed ≡ []) → (old.stack.ended ≡ None → new.stack.ended ≡ ended_by r) → Fits r old.left new → IsReported old before r new following → IsMeasured new.stack → (old.stack.ended ≡ None → IsRaised old.stack new.stack) → HasCounted old (cells_of before) new (cells_of following) → Lands old before new following
step_lands old new before following r on none code small empty ends fits reported measured raised counted = record {
  small = small;
  empty = empty;
  counted = counted;
  turn = by;
  risen = rises;
}
  where
    by : (v : Checked) (kinds : Kinds) (q : Run) → IsSmall before.cells → before.pushed ≡ [] → StandsAt v old q → CanGo v kinds (in_store (cells_of before) q) → IsLanded v new (cells_of following) (later kinds (plain v.code) (in_store (cells_of before) q))
    by v kinds (Going s l n) few top at can = went_on v kinds old new before following r s l n (went v kinds old new before following r s l n (none at.going) reported few top at can) code (ends at.going) fits at can
    by v kinds (Over e s l n) few top at can = not_ended old e at on

    rises : (v : Checked) (kinds : Kinds) (q : Run) → IsSmall before.cells → before.pushed ≡ [] → StandsAt v old q → CanGo v kinds (in_store (cells_of before) q) → IsWithin old q → HasRisen old new (seen kinds (plain v.code) 1 (in_store (cells_of before) q))
    rises v kinds (Going s l n) few top at can within = went_risen v kinds old new before following r s l n (went v kinds old new before following r s l n (none at.going) reported few top at can) measured (raised at.going) at can within
    rises v kinds (Over e s l n) few top at can within = not_ended old e at on

-- ---- a task that has ended, and one that is out of calls

pub ended_lands : (t : Standing) (before : Stored) (e : Ended) → t.ended ≡ Some e → Lands t before t before
ended_lands t before e over = record {
  small = λ h. h;
  empty = λ h. h;
  counted = record { started = refl; counted = counts_none before.cells before.released t.stack.freed };
  turn = by;
  risen = rises;
}
  where
    by : (v : Checked) (kinds : Kinds) (q : Run) → IsSmall before.cells → before.pushed ≡ [] → StandsAt v t q → CanGo v kinds (in_store (cells_of before) q) → IsLanded v t (cells_of before) (later kinds (plain v.code) (in_store (cells_of before) q))
    by v kinds (Going s l n) few top at can = let f = at.on in absurd cc
    by v kinds (Over f s l n) few top at can = record { stands = over_cells v t (cells_of before) (Over f s l n) at; cells = refl }

    rises : (v : Checked) (kinds : Kinds) (q : Run) → IsSmall before.cells → before.pushed ≡ [] → StandsAt v t q → CanGo v kinds (in_store (cells_of before) q) → IsWithin t q → HasRisen t t (seen kinds (plain v.code) 1 (in_store (cells_of before) q))
    rises v kinds (Going s l n) few top at can within = let f = at.on in absurd cc
    rises v kinds (Over f s l n) few top at can within = risen_ended kinds (plain v.code) t f (record s { store = cells_of before }) l n within

pub out_lands : (t : Standing) (before : Stored) → t.ended ≡ None → t.left ≡ 0 → (t.stack.ended ≡ None → calls_next t.stack.code t.stack ≡ true) → Lands t before (record t { ended = Some M.Out }) before
out_lands t before on left call = record {
  small = λ h. h;
  empty = λ h. h;
  counted = record { started = refl; counted = counts_none before.cells before.released t.stack.freed };
  turn = by;
  risen = rises;
}
  where
    is_out : (v : Checked) (kinds : Kinds) (s : State) (l n : ℕ) → StandsAt v t (Going s l n) → CanGo v kinds (in_store (cells_of before) (Going s l n)) → later kinds (plain v.code) (Going (record s { store = cells_of before }) l n) ≡ Over Out (record s { store = cells_of before }) 0 (suc n)
    is_out v kinds s l n at can =
        let here : State = record s { store = cells_of before } in
        let e : state_with t.stack s.lent (cells_of before) ≡ here = at_cells t.stack s (cells_of before) at.state in
        let calls : is_call_in (instr_of (plain v.code) here) ≡ true =
        subst (λ (q : State). is_call_in (instr_of (plain v.code) q) ≡ true) e
        (subst (λ (w : Checked). calls_next w t.stack ≡ true) at.code (call at.going)) in
        let is : IsCalling true (next kinds (plain v.code) here) =
        subst (λ b. IsCalling b (next kinds (plain v.code) here)) calls (calling (plain v.code) (kinds_of kinds here) here (instr_of (plain v.code) here)) in
        let zero_left : l ≡ 0 = sym at.left ∙ left in
        ap (λ m. comes here m (suc n) (next kinds (plain v.code) here)) zero_left ∙ out here (suc n) (next kinds (plain v.code) here) is can.1

    by : (v : Checked) (kinds : Kinds) (q : Run) → IsSmall before.cells → before.pushed ≡ [] → StandsAt v t q → CanGo v kinds (in_store (cells_of before) q) → IsLanded v (record t { ended = Some M.Out }) (cells_of before) (later kinds (plain v.code) (in_store (cells_of before) q))
    by v kinds (Going s l n) few top at can = subst (λ (q : Run). IsLanded v (record t { ended = Some M.Out }) (cells_of before) q) (sym (is_out v kinds s l n at can)) (record { stands = refl; cells = refl })
    by v kinds (Over e s l n) few top at can = not_ended t e at on

    rises : (v : Checked) (kinds : Kinds) (q : Run) → IsSmall before.cells → before.pushed ≡ [] → StandsAt v t q → CanGo v kinds (in_store (cells_of before) q) → IsWithin t q → HasRisen t (record t { ended = Some M.Out }) (seen kinds (plain v.code) 1 (in_store (cells_of before) q))
    rises v kinds (Going s l n) few top at can within = risen_over kinds (plain v.code) t (record t { ended = Some M.Out }) (record s { store = cells_of before }) l n Out (suc n) refl (is_out v kinds s l n at can) within
    rises v kinds (Over e s l n) few top at can within = not_ended t e at on

-- ---- many turns

counted_both : (a b c : Standing) (x y z : Store) → HasCounted a x b y → HasCounted b y c z → HasCounted a x c z
counted_both a b c x y z f g = record {
  started = g.started ∙ f.started;
  counted = counts_on x.cells y.cells z.cells x.released y.released z.released a.stack.freed b.stack.freed c.stack.freed f.counted g.counted;
}

pub goes_none : (t : Standing) (before : Stored) → Goes t before t before
goes_none t before = record {
  small = λ h. h;
  empty = λ h. h;
  counted = record { started = refl; counted = counts_none before.cells before.released t.stack.freed };
  turns = λ v kinds r few top at can. (0, record { stands = over_cells v t (cells_of before) r at; cells = cells_in (cells_of before) r }, λ within. risen_none kinds (plain v.code) t (cells_of before) r within);
}

pub goes_on : (a b c : Standing) (x y z : Stored) → Goes a x b y → Lands b y c z → Goes a x c z
goes_on a b c x y z g l = record {
  small = λ h. l.small (g.small h);
  empty = λ h. l.empty (g.empty h);
  counted = counted_both a b c (cells_of x) (cells_of y) (cells_of z) g.counted l.counted;
  turns = λ v kinds r few top at can.
      let h = g.turns v kinds r few top at can in
      let first : Run = in_store (cells_of x) r in
      let q : Run = after kinds (plain v.code) h.0 first in
      let own : in_store (cells_of y) q ≡ q = in_own (cells_of y) q h.1.cells in
      let next : IsLanded v c (cells_of z) (later kinds (plain v.code) (in_store (cells_of y) q)) = l.turn v kinds q (g.small few) (g.empty top) h.1.stands (subst (λ (m : Run). CanGo v kinds m) (sym own) (can h.0)) in
      let can_now : CanGo v kinds (in_store (cells_of y) q) = subst (λ (m : Run). CanGo v kinds m) (sym own) (can h.0) in (
        both h.0 1,
        subst (λ (m : Run). IsLanded v c (cells_of z) m) (ap (λ m. later kinds (plain v.code) m) own ∙ sym (after_both kinds (plain v.code) h.0 1 first)) next,
        λ within.
            let rises = h.2 within in
            let more : HasRisen b c (seen kinds (plain v.code) 1 (in_store (cells_of y) q)) = l.risen v kinds q (g.small few) (g.empty top) h.1.stands can_now (within_after kinds (plain v.code) a b h.0 first rises) in
            risen_both kinds (plain v.code) a b c h.0 1 first rises (subst (λ (m : Run). HasRisen b c (seen kinds (plain v.code) 1 m)) own more),
      );
}

pub goes_far : (a b c : Standing) (x y z : Stored) → Goes a x b y → Goes b y c z → Goes a x c z
goes_far a b c x y z g l = record {
  small = λ h. l.small (g.small h);
  empty = λ h. l.empty (g.empty h);
  counted = counted_both a b c (cells_of x) (cells_of y) (cells_of z) g.counted l.counted;
  turns = λ v kinds r few top at can.
      let h = g.turns v kinds r few top at can in
      let first : Run = in_store (cells_of x) r in
      let q : Run = after kinds (plain v.code) h.0 first in
      let own : in_store (cells_of y) q ≡ q = in_own (cells_of y) q h.1.cells in
      let can_on : (n : ℕ) → CanGo v kinds (after kinds (plain v.code) n (in_store (cells_of y) q)) = λ n.
      subst (λ (m : Run). CanGo v kinds m) (after_both kinds (plain v.code) h.0 n first ∙ sym (ap (λ m. after kinds (plain v.code) n m) own)) (can (both h.0 n)) in
      let w = l.turns v kinds q (g.small few) (g.empty top) h.1.stands can_on in (
        both h.0 w.0,
        subst (λ (m : Run). IsLanded v c (cells_of z) m) (ap (λ m. after kinds (plain v.code) w.0 m) own ∙ sym (after_both kinds (plain v.code) h.0 w.0 first)) w.1,
        λ within.
            let rises = h.2 within in
            let more : HasRisen b c (seen kinds (plain v.code) w.0 (in_store (cells_of y) q)) = w.2 (within_after kinds (plain v.code) a b h.0 first rises) in
            risen_both kinds (plain v.code) a b c h.0 w.0 first rises (subst (λ (m : Run). HasRisen b c (seen kinds (plain v.code) w.0 m)) own more),
      );
}

-- ---- the start

-- what is known of new frames
abbrev pub IsLoaded : Checked → Start → Stand → Type 0
IsLoaded v start u = (cells : Store) (r : Run) (h : IsStarted v cells start r) → state_with u h.first.lent cells ≡ h.first

pub is_new : (v : Checked) (start : Start) (t : Standing) → t.stack.code ≡ v → t.stack.ended ≡ None → IsLoaded v start t.stack → (start.calls ≡ 0 → t.ended ≡ Some M.Out) → ((n : ℕ) → start.calls ≡ suc n → (t.ended ≡ None) × (t.left ≡ n)) → IsNew v start t
is_new v start t code going loads out some cells r h =
    let e = loads cells r h in
    let state : state_with t.stack h.first.lent h.first.store ≡ h.first = ap (λ (q : State). record q { store = h.first.store }) e in
    subst (λ (q : Run). StandsAt v t q) (sym h.run) (by start.calls out some state)
  where
    by : (n : ℕ) → (n ≡ 0 → t.ended ≡ Some M.Out) → ((m : ℕ) → n ≡ suc m → (t.ended ≡ None) × (t.left ≡ m)) → state_with t.stack h.first.lent h.first.store ≡ h.first → StandsAt v t (begun h.first n)
    by zero out some state = out refl
    by (suc n) out some state = record { code = code; state = state; going = going; on = (some n refl).0; left = (some n refl).1 }

-- what a new task has seen is the state where it begins
pub has_begun : (v : Checked) (start : Start) (t : Standing) → IsLoaded v start t.stack → IsFresh t.stack → IsMeasured t.stack → ((size : ℕ) → freed_of t.stack.freed size ≡ 0) → Begins v start t
has_begun v start t loads fresh measured freed cells r h =
    let e : state_with t.stack h.first.lent cells ≡ h.first = loads cells r h in
    let now : state_of r ≡ state_with t.stack h.first.lent cells = ap (λ (q : Run). state_of q) h.run ∙ at_first h.first start.calls ∙ sym e in
    let fs = ap frames_held now in
    let ws = ap words_held now in
    record {
      frames = fresh.frames ∙ measured.frames ∙ sym fs;
      words = fresh.words ∙ measured.words ∙ sym ws;
      freed = freed;
    }
  where
    at_first : (s : State) (n : ℕ) → state_of (begun s n) ≡ s
    at_first s zero = refl
    at_first s (suc n) = refl

-- ---- for the answers of a task's steps

pub entered_fits : (l : ℕ) (u : Standing) → 0 < l → u.ended ≡ None → u.left ≡ l - 1 → Fits S.Entered l u
entered_fits zero u some on left = tt
entered_fits (suc l) u some on left = (on, let z = left in omega (arith, z))

pub spent_fits : (l : ℕ) (u : Standing) → l ≡ 0 → Fits S.Entered l u
spent_fits zero u z = tt
spent_fits (suc l) u z = absurd (omega (arith, z))
