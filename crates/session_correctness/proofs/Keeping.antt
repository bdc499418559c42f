-- The kept cells stay through a run.
-- The idea: a step changes only cells that the running frame owns, and a kept cell is none of these.
use Rattle.std.proofs.Common.{◌≡◌, inl, inr, ℕ, zero, suc, ◌<◌, List, [], ◌∷◌, length, Option, Some, None, refl, sym, ap, ap₂, ◌∙◌, subst, arith}
use Rattle.tree_refinement.specs.fip_language.declared.Operator.{Operator}
use Rattle.tree_refinement.specs.fip_language.Store.{count}
use Rattle.tree_refinement.specs.cell_code.declared.code.Instr.{Instr}
use Rattle.tree_refinement.specs.cell_code.declared.code.Instr.TheVariants as I
use Rattle.tree_refinement.specs.machine_semantics.Cells.{cell_at}
use Rattle.tree_refinement.specs.cell_code.Plain.{PlainFunction, PlainCode, results}
use Rattle.tree_refinement.specs.machine_semantics.Rows as D
use Rattle.tree_refinement.specs.machine_semantics.Runs.{Run, Going, Over, state_of, begun, comes, later, after}
use Rattle.tree_refinement.specs.machine_semantics.States.{Frame, State, Next, Went, Entered, Gave, Trapped, TooDeep, Stuck}
use Rattle.tree_refinement.specs.machine_semantics.Steps.{Kinds, went, went_with, trapped, called, called_with, replaced, returned, resumed, act, act_at, next, instr_of, kinds_of}
use Rattle.tree_refinement.specs.code_rules.Breaks.{IsSound}
use Rattle.tree_refinement.specs.code_rules.Kinds.{at}
use Rattle.tree_refinement.specs.separation_kinds.Meanings.{owned_by}
use Rattle.tree_refinement.specs.separation.Rows.{IsReady, IsDone}
use Rattle.tree_refinement.proofs.separation.Stores.{there_few}
use Rattle.tree_refinement.proofs.separation.PlainRows.{const_row, atom_row, move_row, jump_row, test_int_row}
use Rattle.tree_refinement.proofs.separation.ReadingRows.{IsCalculated, arith_row, test_row, peek_row}
use Rattle.tree_refinement.proofs.separation.TakeRow.{take_row}
use Rattle.tree_refinement.proofs.separation.CellRows.{put_row, free_row, drop_row}
use Rattle.tree_refinement.specs.separation.Alive.{lower_trees, IsAlive}
use Rattle.tree_refinement.specs.separation.Codes.{HasLiterals, AreKinds}
use Rattle.tree_refinement.specs.separation.Starts.{IsStart}
use Rattle.tree_refinement.proofs.separation.Loading.{start_alive}
use Rattle.tree_refinement.proofs.separation.Local.{ready}
use Rattle.tree_refinement.proofs.separation.Returning.{run_instr_at}
use Rattle.tree_refinement.proofs.separation.Running.{GoodRun, later_good, begun_good}

-- ---- a step

-- At this place the same cell is there after the state.
abbrev Stays : ℕ → State → Next → Type 0
Stays q s (Went t) = cell_at t.store q ≡ cell_at s.store q
Stays q s (Entered t) = cell_at t.store q ≡ cell_at s.store q
Stays q s (Gave ws) = Unit {0}
Stays q s (Trapped kind line col) = Unit {0}
Stays q s TooDeep = Unit {0}
Stays q s Stuck = Unit {0}

module _ (c : PlainCode) (types kept : List ℕ) (s : State) (q : ℕ) (some : 0 < count q kept) where
  went_stays : (x : Instr) (a : IsAlive c types kept s) → IsDone c a.function (lower_trees a.frozen a.lent) a.kinds a.holds s x → Stays q s (went s (D.done c.types a.kinds s x))
  went_stays x a d =
      let none : owned_by q (at a.kinds) a.holds (length a.kinds) ≡ 0 = (let o = a.once q in let t = there_few s.store q in omega arith) in
      subst (Stays q s) (sym (ap (went s) d.is ∙ ap (went_with s d.done) d.changed)) (d.elsewhere q none)

  trapped_stays : (o : Operator) (x y line col : ℕ) (i : Instr) (a : IsAlive c types kept s) → IsCalculated c a.function (lower_trees a.frozen a.lent) a.kinds a.holds s o x y i → Stays q s (trapped s line col (D.trap (D.operated s o x y)) (D.done c.types a.kinds s i))
  trapped_stays o x y line col i a h = elim h as (λ v. Stays q s (trapped s line col (D.trap (D.operated s o x y)) (D.done c.types a.kinds s i))) [
    | inl d ↦ subst (λ t. Stays q s (trapped s line col t (D.done c.types a.kinds s i))) (sym d.0) (went_stays i a d.1)
    | inr k ↦ subst (λ t. Stays q s (trapped s line col t (D.done c.types a.kinds s i))) (sym k.1) tt
  ]

  called_stays : (n : ℕ) (o : Option PlainFunction) (vs : Option (List ℕ)) → Stays q s (called s n o vs)
  called_stays n None vs = tt
  called_stays n (Some g) None = tt
  called_stays n (Some g) (Some ws) = by s.free
    where
      by : (free : ℕ) → Stays q s (called_with s n g free ws)
      by zero = tt
      by (suc free) = refl

  replaced_stays : (n : ℕ) (o : Option PlainFunction) (vs : Option (List ℕ)) → Stays q s (replaced s n o vs)
  replaced_stays n None vs = tt
  replaced_stays n (Some g) None = tt
  replaced_stays n (Some g) (Some ws) = refl

  resumed_stays : (w : Frame) (below : List Frame) (o : Option (List ℕ)) → Stays q s (resumed s w below o)
  resumed_stays w below None = tt
  resumed_stays w below (Some ws) = refl

  returned_stays : (ws : List Frame) (o : Option (List ℕ)) → Stays q s (returned c s ws o)
  returned_stays ws None = tt
  returned_stays [] (Some vs) = tt
  returned_stays (w ∷ below) (Some vs) = resumed_stays w below _

  act_stays : (x : Instr) (a : IsAlive c types kept s) → IsReady c a.function (lower_trees a.frozen a.lent) a.kinds a.holds s x → Stays q s (act c a.kinds s x)
  act_stays (I.Const d v) a r = went_stays (I.Const d v) a (const_row c a.function (lower_trees a.frozen a.lent) a.kinds a.holds s d v r)
  act_stays (I.Atom d t k) a r = went_stays (I.Atom d t k) a (atom_row c a.function (lower_trees a.frozen a.lent) a.kinds a.holds s d t k r)
  act_stays (I.Move d o) a r = went_stays (I.Move d o) a (move_row c a.function (lower_trees a.frozen a.lent) a.kinds a.holds s d o r)
  act_stays (I.Arith d o x y line col) a r = trapped_stays o x y line col (I.Arith d o x y line col) a (arith_row c a.function (lower_trees a.frozen a.lent) a.kinds a.holds s d o x y line col r)
  act_stays (I.Test o k target) a r = went_stays (I.Test o k target) a (test_row c a.function (lower_trees a.frozen a.lent) a.kinds a.holds s o k target r)
  act_stays (I.TestInt o v target) a r = went_stays (I.TestInt o v target) a (test_int_row c a.function (lower_trees a.frozen a.lent) a.kinds a.holds s o v target r)
  act_stays (I.Peek d o i) a r = went_stays (I.Peek d o i) a (peek_row c a.function (lower_trees a.frozen a.lent) a.kinds a.holds s d o i r)
  act_stays (I.Take o ds) a r = went_stays (I.Take o ds) a (take_row c a.function (lower_trees a.frozen a.lent) a.kinds a.holds s o ds r)
  act_stays (I.Put d t k rs) a r = went_stays (I.Put d t k rs) a (put_row c a.function (lower_trees a.frozen a.lent) a.kinds a.holds s d t k rs r)
  act_stays (I.Drop o) a r = went_stays (I.Drop o) a (drop_row c a.function (lower_trees a.frozen a.lent) a.kinds a.holds s o r)
  act_stays (I.Free o) a r = went_stays (I.Free o) a (free_row c a.function (lower_trees a.frozen a.lent) a.kinds a.holds s o r)
  act_stays (I.Call g rs ds) a r = called_stays g _ _
  act_stays (I.Tail g rs) a r = replaced_stays g _ _
  act_stays (I.Ret rs) a r = returned_stays s.waiting (D.read_all s.running.words rs)
  act_stays (I.Jump target) a r = went_stays (I.Jump target) a (jump_row c a.function (lower_trees a.frozen a.lent) a.kinds a.holds s target r)

  next_stays : (before waits : Kinds) → IsSound c → HasLiterals c → AreKinds c before waits → (a : IsAlive c types kept s) → Stays q s (next before c s)
  next_stays before waits sound literals kinds a =
      let instr : instr_of c s ≡ Some a.instr = run_instr_at c s.running.function s.running.at a.function a.instr a.is a.is_instr in
      let known : kinds_of before s ≡ a.kinds = kinds.known s.running.function s.running.at a.function a.kinds a.is a.known in
      subst (Stays q s) (sym (ap₂ (λ ks x. act_at c ks s x) known instr)) (act_stays a.instr a (ready c types kept s sound literals a))

-- ---- a run

comes_stays : (q : ℕ) (s : State) (left n : ℕ) (x : Next) → Stays q s x → cell_at (state_of (comes s left n x)).store q ≡ cell_at s.store q
comes_stays q s left n (Went t) h = h
comes_stays q s zero n (Entered t) h = refl
comes_stays q s (suc left) n (Entered t) h = h
comes_stays q s left n (Gave ws) h = refl
comes_stays q s left n (Trapped kind line col) h = refl
comes_stays q s zero n TooDeep h = refl
comes_stays q s (suc left) n TooDeep h = refl
comes_stays q s left n Stuck h = refl

module _ (c : PlainCode) (before waits : Kinds) (types kept : List ℕ) (q : ℕ) (some : 0 < count q kept) (sound : IsSound c) (literals : HasLiterals c) (kinds : AreKinds c before waits) where
  later_stays : (r : Run) → GoodRun c types kept r → cell_at (state_of (later before c r)).store q ≡ cell_at (state_of r).store q
  later_stays (Going s left n) g = comes_stays q s left (suc n) (next before c s) (next_stays c types kept s q some before waits sound literals kinds g)
  later_stays (Over e s left n) g = refl

  after_stays : (k : ℕ) (r : Run) → GoodRun c types kept r → cell_at (state_of (after before c k r)).store q ≡ cell_at (state_of r).store q
  after_stays zero r g = refl
  after_stays (suc k) r g = after_stays k (later before c r) (later_good c before waits types kept r sound literals kinds g) ∙ later_stays r g

begun_state : (s : State) (calls : ℕ) → state_of (begun s calls) ≡ s
begun_state s zero = refl
begun_state s (suc left) = refl

-- A kept cell is the same in every state of a run.
pub run_keeps : (c : PlainCode) (before waits : Kinds) (n : ℕ) (kept : List ℕ) (s : State) (calls k q : ℕ) → IsStart c before waits n kept s → 0 < count q kept → cell_at (state_of (after before c k (begun s calls))).store q ≡ cell_at s.store q
run_keeps c before waits n kept s calls k q t some =
    after_stays c before waits (results c n) kept q some t.sound t.literals t.kinds k (begun s calls)
    (begun_good c (results c n) kept s calls (start_alive c before waits n kept s t))
    ∙ ap (λ (u : State). cell_at u.store q) (begun_state s calls)
