-- A step inside a frame ends in the same alone and among others.
use Rattle.std.proofs.Common.{◌≡◌, inl, inr, ℕ, ◌<◌, List, length, Some, refl, sym, ap, ◌∙◌, subst, arith}
use Rattle.std.proofs.lemmas.Option.{same_Some, none-some}
use Rattle.run_loading.specs.fip_language.declared.Operator.{Operator}
use Rattle.run_loading.specs.cell_code.declared.code.Instr.{Instr}
use Rattle.run_loading.specs.machine_semantics.Cells.{Store, cell_at, there, changed_by}
use Rattle.run_loading.specs.machine_semantics.States.{State}
use Rattle.run_loading.specs.machine_semantics.Rows as R
use Rattle.run_loading.specs.machine_semantics.Steps.{Kinds, went, went_with, trapped}
use Rattle.run_loading.specs.machine_semantics.Apart.{trees_uses}
use Rattle.run_loading.specs.cell_code.Plain.{PlainCode}
use Rattle.run_loading.specs.code_rules.Kinds.{at}
use Rattle.run_loading.specs.code_rules.Breaks.{IsSound}
use Rattle.run_loading.specs.separation_kinds.Meanings.{owned_by, word_at}
use Rattle.run_loading.specs.separation.Rows.{IsDone}
use Rattle.run_loading.proofs.separation.Stores.{there_few}
use Rattle.run_loading.proofs.separation.ReadingRows.{IsCalculated}
use Rattle.run_loading.specs.separation.Codes.{AreKinds}
use Rattle.run_loading.specs.separation.Alive.{lower_trees, IsAlive}
use Rattle.run_loading.proofs.separation.Lower.{lower_uses}
use Rattle.run_loading.proofs.separation.Local.{done_alive}
use Rattle.task_semantics.specs.Projected.{Renaming, IsThere, IsProjected}
use Rattle.task_semantics.proofs.SameCells.{there_some}
use Rattle.task_semantics.proofs.AlikeWords.{AreAlike, AreKept}
use Rattle.task_semantics.proofs.PlainPairs.{Pairs, PairsOrTraps}
use Rattle.task_semantics.proofs.Arriving.{arrive_alike}
use Rattle.task_semantics.proofs.Frames.{in_order, frames_kept, arguments_kept, NextAlike}

-- ---- the instruction is done

pub went_alike : (f : Renaming) (c : PlainCode) (before waits : Kinds) (types kept : List ℕ) (s u : State) (x : Instr) → IsSound c → AreKinds c before waits → (a : IsAlive c types kept s) → IsProjected before waits c f s u → IsDone c a.function (lower_trees a.frozen a.lent) a.kinds a.holds s x → Pairs f c a.function a.kinds a.holds s u x → NextAlike before waits c f types s u (went s (R.done c.types a.kinds s x)) (went u (R.done c.types a.kinds u x))
went_alike f c before waits types kept s u x sound kinds a m d p =
    let done : d.done ≡ p.done = same_Some d.done p.done (sym d.is ∙ p.is) in
    let store : d.store ≡ p.store = same_Some d.store p.store (sym d.changed ∙ ap (λ (e : R.Done). changed_by e.changes s.store) done ∙ p.changed) in
    let free : (q : ℕ) → 0 < lower_uses q a.frozen a.lent → owned_by q (at a.kinds) a.holds (length a.kinds) ≡ 0 = λ q some. let o = a.once q in let z = there_few s.store q in omega arith in
    let here : (q : ℕ) → 0 < lower_uses q a.frozen a.lent → IsThere s.store q = λ q some. there_some s.store q (let o = a.once q in omega arith) in
    let kept_cells : AreKept f s.store p.store u.store p.other (λ q. lower_uses q a.frozen a.lent) = record {
      alone = λ q some. subst (λ (t : Store). cell_at t q ≡ cell_at s.store q) store (d.elsewhere q (free q some));
      among = λ q some. p.elsewhere q (here q some) (free q some);
    } in
    let lent_cells : AreKept f s.store p.store u.store p.other (λ q. trees_uses q a.lent) = record {
      alone = λ q some. kept_cells.alone q (omega arith);
      among = λ q some. kept_cells.among q (omega arith);
    } in
    let following = done_alive c types kept s x sound a d in
    let n : ℕ = s.running.function in
    let known : before n d.done.at ≡ following.kinds = kinds.known n d.done.at following.function following.kinds following.is following.known in
    let wide : length d.done.words ≡ length (before n d.done.at) = following.long ∙ sym (ap (λ ks. length ks) known) in
    let same : length p.done.words ≡ length (before n p.done.at) = subst (λ (e : R.Done). length e.words ≡ length (before n e.at)) done wide in
    let alike : AreAlike c.types f p.store p.other (at (before n p.done.at)) (word_at p.done.words) (word_at p.mate.words) = arrive_alike f c before waits n s.running.at p.done.at a.function p.store p.other p.left (word_at p.done.words) (word_at p.mate.words) sound kinds a.is p.goes p.alike in
    let next : went s (R.done c.types a.kinds s x) ≡ went_with s p.done (Some p.store) = ap (went s) p.is ∙ ap (went_with s p.done) p.changed in
    let also : went u (R.done c.types a.kinds u x) ≡ went_with u p.mate (Some p.other) = ap (went u) p.mate_is ∙ ap (went_with u p.mate) p.other_changed in
    subst (λ y. NextAlike before waits c f types s u y (went u (R.done c.types a.kinds u x))) (sym next)
    (subst (λ y. NextAlike before waits c f types s u (went_with s p.done (Some p.store)) y) (sym also) (record {
      state = record {
        cells = p.cells;
        running = record {
          function = m.running.function;
          at = p.to;
          words = in_order c.types f p.store p.other (before n p.done.at) p.done.words p.mate.words same p.long alike;
        };
        waiting = frames_kept f c before waits s.store p.store u.store p.other a.lent types n s.waiting u.waiting a.frozen kinds a.waiting kept_cells m.waiting;
        free = m.free;
        lent = arguments_kept c.types f s.store p.store u.store p.other s.lent u.lent a.lent a.arguments lent_cells m.lent;
      };
      good = p.good;
      there = λ q. subst (λ (t : Store). there t q ≡ there s.store q) store (d.cells q);
      beyond = p.beyond;
    }))

-- an instruction of an operator
pub trapped_alike : (f : Renaming) (c : PlainCode) (before waits : Kinds) (types kept : List ℕ) (s u : State) (o : Operator) (x y line col : ℕ) (i : Instr) → IsSound c → AreKinds c before waits → (a : IsAlive c types kept s) → IsProjected before waits c f s u → IsCalculated c a.function (lower_trees a.frozen a.lent) a.kinds a.holds s o x y i → PairsOrTraps f c a.function a.kinds a.holds s u o x y i → NextAlike before waits c f types s u (trapped s line col (R.trap (R.operated s o x y)) (R.done c.types a.kinds s i)) (trapped u line col (R.trap (R.operated u o x y)) (R.done c.types a.kinds u i))
trapped_alike f c before waits types kept s u o x y line col i sound kinds a m h k = elim k as (λ v. NextAlike before waits c f types s u (trapped s line col (R.trap (R.operated s o x y)) (R.done c.types a.kinds s i)) (trapped u line col (R.trap (R.operated u o x y)) (R.done c.types a.kinds u i))) [
  | inl p ↦ elim h as (λ v. NextAlike before waits c f types s u (trapped s line col (R.trap (R.operated s o x y)) (R.done c.types a.kinds s i)) (trapped u line col (R.trap (R.operated u o x y)) (R.done c.types a.kinds u i))) [
    | inl d ↦
        subst (λ z. NextAlike before waits c f types s u (trapped s line col z (R.done c.types a.kinds s i)) (trapped u line col (R.trap (R.operated u o x y)) (R.done c.types a.kinds u i))) (sym p.0)
        (subst (λ z. NextAlike before waits c f types s u (went s (R.done c.types a.kinds s i)) (trapped u line col z (R.done c.types a.kinds u i))) (sym p.1)
        (went_alike f c before waits types kept s u i sound kinds a m d.1 p.2))
    | inr e ↦ absurd (none-some e.0 (sym p.0 ∙ e.1))
  ]
  | inr t ↦
      subst (λ z. NextAlike before waits c f types s u (trapped s line col z (R.done c.types a.kinds s i)) (trapped u line col (R.trap (R.operated u o x y)) (R.done c.types a.kinds u i))) (sym t.1)
      (subst (λ z. NextAlike before waits c f types s u (trapped s line col (Some t.0) (R.done c.types a.kinds s i)) (trapped u line col z (R.done c.types a.kinds u i))) (sym t.2) (refl, refl, refl))
]
