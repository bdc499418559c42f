-- A step inside a frame: the instruction is done, and the state after it is alive.
use Rattle.std.proofs.Common.{◌≡◌, inl, inr, ℕ, ◌<◌, List, length, map, refl, sym, ap, ◌∙◌, subst, arith}
use Rattle.separation_kinds.specs.fip_language.declared.Operator.{Operator}
use Rattle.separation_kinds.specs.cell_code.declared.code.Instr.{Instr}
use Rattle.separation_kinds.specs.machine_semantics.Cells.{Store}
use Rattle.separation_kinds.specs.machine_semantics.States.{State}
use Rattle.separation_kinds.specs.machine_semantics.Rows as R
use Rattle.separation_kinds.specs.machine_semantics.Steps.{went, went_with, trapped}
use Rattle.separation_kinds.specs.cell_code.Plain.{PlainCode}
use Rattle.separation_kinds.specs.code_rules.Kinds.{at}
use Rattle.separation_kinds.specs.code_rules.Flow.{IsReachedAt}
use Rattle.separation_kinds.specs.code_rules.Breaks.{IsSound}
use Rattle.separation_kinds.specs.Meanings.{owned_by, word_at}
use Rattle.separation.specs.Rows.{IsReady, IsDone}
use Rattle.separation.proofs.Stores.{there_few}
use Rattle.separation.proofs.ReadingRows.{IsCalculated}
use Rattle.separation.specs.Codes.{HasLiterals}
use Rattle.separation.specs.Alive.{frozen_slots, lower_trees, IsAlive, IsGood}
use Rattle.separation.proofs.Sound.{ranged, asked_sources, asked_destinations, truth}
use Rattle.separation.proofs.Lower.{below_uses, lower_uses, all_agree, trees_agree}
use Rattle.separation.proofs.Arrive.{Arrives, arrive}

pub reached : (c : PlainCode) (types kept : List ℕ) (s : State) → (a : IsAlive c types kept s) → IsReachedAt c a.function s.running.at a.kinds a.instr
reached c types kept s a = record { known = a.known; instr = a.is_instr }

-- before the instruction
pub ready : (c : PlainCode) (types kept : List ℕ) (s : State) → IsSound c → HasLiterals c → (a : IsAlive c types kept s) → IsReady c a.function (lower_trees a.frozen a.lent) a.kinds a.holds s a.instr
ready c types kept s sound literals a = record {
  truths = (truth c 0 sound (_, refl, refl), truth c 1 sound (_, refl, refl));
  literal = literals s.running.function s.running.at a.function a.instr a.is a.is_instr;
  reached = reached c types kept s a;
  ranged = ranged c s.running.function s.running.at a.function a.instr sound a.is a.is_instr;
  sources = asked_sources c s.running.function s.running.at a.function a.kinds a.instr sound a.is (reached c types kept s a);
  destinations = asked_destinations c s.running.function s.running.at a.function a.kinds a.instr sound a.is (reached c types kept s a);
  wide = a.wide;
  long = a.long;
  store = a.store;
  meant = a.meant;
  once = λ q. let o = a.once q in let b = below_uses q (map frozen_slots a.frozen) a.lent in omega arith;
}

-- the state after an instruction that is done
abbrev pub state_after : State → R.Done → Store → State
state_after s d store = record s {
  store = store;
  running = record { function = s.running.function; at = d.at; words = d.words };
}

pub done_alive : (c : PlainCode) (types kept : List ℕ) (s : State) (x : Instr) → IsSound c → (a : IsAlive c types kept s) → (d : IsDone c a.function (lower_trees a.frozen a.lent) a.kinds a.holds s x) → IsAlive c types kept (state_after s d.done d.store)
done_alive c types kept s x sound a d =
    let r : Arrives c a.function d.store (lower_trees a.frozen a.lent) d.done.at d.left (word_at d.done.words) d.holds = arrive c s.running.function s.running.at d.done.at a.function d.store (lower_trees a.frozen a.lent) d.left (word_at d.done.words) d.holds sound a.is d.goes d.meant in
    let same : (q : ℕ) → 0 < lower_uses q a.frozen a.lent → owned_by q (at a.kinds) a.holds (length a.kinds) ≡ 0 = λ q some. let o = a.once q in let t = there_few s.store q in omega arith in
    record {
      store = d.good;
      function = a.function;
      is = a.is;
      kinds = r.kinds;
      known = r.known;
      instr = r.instr;
      is_instr = r.is_instr;
      wide = r.wide ∙ d.wide ∙ a.wide;
      long = d.long ∙ a.long ∙ sym (r.wide ∙ d.wide);
      holds = d.holds;
      frozen = a.frozen;
      lent = a.lent;
      meant = r.meant;
      waiting = all_agree c s.store d.store a.lent types s.running.function s.waiting a.frozen (λ q some. d.elsewhere q (same q some)) a.waiting;
      arguments = trees_agree c.types s.store d.store s.lent a.lent (λ q some. d.elsewhere q (same q (omega arith))) a.arguments;
      once = λ q.
          let e = d.count q in
          let o = a.once q in
          let t = d.cells q in
          let y = r.count q in
          let l = ap (owned_by q (at d.left) d.holds) d.wide in
          omega arith;
    }

pub went_good : (c : PlainCode) (types kept : List ℕ) (s : State) (x : Instr) → IsSound c → (a : IsAlive c types kept s) → IsDone c a.function (lower_trees a.frozen a.lent) a.kinds a.holds s x → IsGood c types kept s (went s (R.done c.types a.kinds s x))
went_good c types kept s x sound a d = subst (IsGood c types kept s) (sym (ap (went s) d.is ∙ ap (went_with s d.done) d.changed)) (done_alive c types kept s x sound a d)

-- an instruction of an operator
pub trapped_good : (c : PlainCode) (types kept : List ℕ) (s : State) (o : Operator) (x y line col : ℕ) (i : Instr) → IsSound c → (a : IsAlive c types kept s) → IsCalculated c a.function (lower_trees a.frozen a.lent) a.kinds a.holds s o x y i → IsGood c types kept s (trapped s line col (R.trap (R.operated s o x y)) (R.done c.types a.kinds s i))
trapped_good c types kept s o x y line col i sound a h = elim h as (λ v. IsGood c types kept s (trapped s line col (R.trap (R.operated s o x y)) (R.done c.types a.kinds s i))) [
  | inl d ↦ subst (λ t. IsGood c types kept s (trapped s line col t (R.done c.types a.kinds s i))) (sym d.0) (went_good c types kept s i sound a d.1)
  | inr k ↦ subst (λ t. IsGood c types kept s (trapped s line col t (R.done c.types a.kinds s i))) (sym k.1) tt
]
