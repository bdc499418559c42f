-- Every step of a task ends in the same alone and among others.
use Rattle.std.proofs.Common.{◌≡◌, ℕ, List, Some, sym, ap₂, ◌∙◌, subst}
use Rattle.run_loading.specs.cell_code.declared.code.Instr.{Instr}
use Rattle.run_loading.specs.cell_code.declared.code.Instr.TheVariants as I
use Rattle.run_loading.specs.cell_code.Plain.{PlainCode}
use Rattle.run_loading.specs.machine_semantics.Codes as C
use Rattle.run_loading.specs.machine_semantics.Cells.{IsStore}
use Rattle.run_loading.specs.machine_semantics.States.{State}
use Rattle.run_loading.specs.machine_semantics.Steps.{Kinds, act, act_at, next, instr_of, kinds_of}
use Rattle.run_loading.specs.code_rules.Breaks.{IsSound}
use Rattle.run_loading.specs.separation.Rows.{IsReady}
use Rattle.run_loading.proofs.separation.PlainRows.{asked, const_row, atom_row, move_row, jump_row, test_int_row}
use Rattle.run_loading.proofs.separation.ReadingRows.{arith_row, test_row, peek_row}
use Rattle.run_loading.proofs.separation.TakeRow.{take_row}
use Rattle.run_loading.proofs.separation.CellRows.{put_row, free_row, drop_row}
use Rattle.run_loading.specs.separation.Codes.{HasLiterals, AreKinds}
use Rattle.run_loading.specs.separation.Alive.{lower_trees, IsAlive}
use Rattle.run_loading.proofs.separation.Local.{ready}
use Rattle.run_loading.proofs.separation.Returning.{run_instr_at}
use Rattle.task_semantics.specs.Projected.{Renaming, AreRenamedWords, IsProjected}
use Rattle.task_semantics.proofs.PlainPairs.{IsPair, const_pair, atom_pair, move_pair, jump_pair, test_int_pair, arith_pair}
use Rattle.task_semantics.proofs.ReadingPairs.{test_pair, peek_pair}
use Rattle.task_semantics.proofs.CellPairs.{put_pair, free_pair, drop_pair}
use Rattle.task_semantics.proofs.TakePairs.{take_pair}
use Rattle.task_semantics.proofs.Frames.{by_number, words_even, NextAlike}
use Rattle.task_semantics.proofs.Inside.{went_alike, trapped_alike}
use Rattle.task_semantics.proofs.Entering.{call_alike, tail_alike}
use Rattle.task_semantics.proofs.Resuming.{ret_alike}

act_alike : (f : Renaming) (c : PlainCode) (before waits : Kinds) (types kept : List ℕ) (s u : State) (x : Instr) → IsSound c → AreKinds c before waits → (a : IsAlive c types kept s) → IsProjected before waits c f s u → IsPair f c a.kinds s u → IsReady c a.function (lower_trees a.frozen a.lent) a.kinds a.holds s x → NextAlike before waits c f types s u (act c a.kinds s x) (act c a.kinds u x)
act_alike f c before waits types kept s u (I.Const d v) sound kinds a m p r = went_alike f c before waits types kept s u (I.Const d v) sound kinds a m (const_row c a.function (lower_trees a.frozen a.lent) a.kinds a.holds s d v r) (const_pair f c a.function (lower_trees a.frozen a.lent) a.kinds a.holds s u d v r p)
act_alike f c before waits types kept s u (I.Atom d t k) sound kinds a m p r = went_alike f c before waits types kept s u (I.Atom d t k) sound kinds a m (atom_row c a.function (lower_trees a.frozen a.lent) a.kinds a.holds s d t k r) (atom_pair f c a.function (lower_trees a.frozen a.lent) a.kinds a.holds s u d t k r p)
act_alike f c before waits types kept s u (I.Move d q) sound kinds a m p r = went_alike f c before waits types kept s u (I.Move d q) sound kinds a m (move_row c a.function (lower_trees a.frozen a.lent) a.kinds a.holds s d q r) (move_pair f c a.function (lower_trees a.frozen a.lent) a.kinds a.holds s u d q r p)
act_alike f c before waits types kept s u (I.Arith d o x y line col) sound kinds a m p r = trapped_alike f c before waits types kept s u o x y line col (I.Arith d o x y line col) sound kinds a m (arith_row c a.function (lower_trees a.frozen a.lent) a.kinds a.holds s d o x y line col r) (arith_pair f c a.function (lower_trees a.frozen a.lent) a.kinds a.holds s u d o x y line col r p)
act_alike f c before waits types kept s u (I.Test q k target) sound kinds a m p r = went_alike f c before waits types kept s u (I.Test q k target) sound kinds a m (test_row c a.function (lower_trees a.frozen a.lent) a.kinds a.holds s q k target r) (test_pair f c a.function (lower_trees a.frozen a.lent) a.kinds a.holds s u q k target r p)
act_alike f c before waits types kept s u (I.TestInt q v target) sound kinds a m p r = went_alike f c before waits types kept s u (I.TestInt q v target) sound kinds a m (test_int_row c a.function (lower_trees a.frozen a.lent) a.kinds a.holds s q v target r) (test_int_pair f c a.function (lower_trees a.frozen a.lent) a.kinds a.holds s u q v target r p)
act_alike f c before waits types kept s u (I.Peek d q i) sound kinds a m p r = went_alike f c before waits types kept s u (I.Peek d q i) sound kinds a m (peek_row c a.function (lower_trees a.frozen a.lent) a.kinds a.holds s d q i r) (peek_pair f c a.function (lower_trees a.frozen a.lent) a.kinds a.holds s u d q i r p)
act_alike f c before waits types kept s u (I.Take q ds) sound kinds a m p r = went_alike f c before waits types kept s u (I.Take q ds) sound kinds a m (take_row c a.function (lower_trees a.frozen a.lent) a.kinds a.holds s q ds r) (take_pair f c a.function (lower_trees a.frozen a.lent) a.kinds a.holds s u q ds r p)
act_alike f c before waits types kept s u (I.Put d t k rs) sound kinds a m p r = went_alike f c before waits types kept s u (I.Put d t k rs) sound kinds a m (put_row c a.function (lower_trees a.frozen a.lent) a.kinds a.holds s d t k rs r) (put_pair f c a.function (lower_trees a.frozen a.lent) a.kinds a.holds s u d t k rs r p)
act_alike f c before waits types kept s u (I.Drop q) sound kinds a m p r = went_alike f c before waits types kept s u (I.Drop q) sound kinds a m (drop_row c a.function (lower_trees a.frozen a.lent) a.kinds a.holds s q r) (drop_pair f c a.function (lower_trees a.frozen a.lent) a.kinds a.holds s u q r p)
act_alike f c before waits types kept s u (I.Free q) sound kinds a m p r = went_alike f c before waits types kept s u (I.Free q) sound kinds a m (free_row c a.function (lower_trees a.frozen a.lent) a.kinds a.holds s q r) (free_pair f c a.function (lower_trees a.frozen a.lent) a.kinds a.holds s u q r p)
act_alike f c before waits types kept s u (I.Call g rs ds) sound kinds a m p r = call_alike f c before waits types kept s u g rs ds sound kinds a m p r.reached.instr (asked c a.function (lower_trees a.frozen a.lent) a.kinds a.holds s (I.Call g rs ds) r)
act_alike f c before waits types kept s u (I.Tail g rs) sound kinds a m p r = tail_alike f c before waits types kept s u g rs sound kinds a m p (asked c a.function (lower_trees a.frozen a.lent) a.kinds a.holds s (I.Tail g rs) r)
act_alike f c before waits types kept s u (I.Ret rs) sound kinds a m p r = ret_alike f c before waits types kept s u rs sound kinds a m p (asked c a.function (lower_trees a.frozen a.lent) a.kinds a.holds s (I.Ret rs) r)
act_alike f c before waits types kept s u (I.Jump target) sound kinds a m p r = went_alike f c before waits types kept s u (I.Jump target) sound kinds a m (jump_row c a.function (lower_trees a.frozen a.lent) a.kinds a.holds s target r) (jump_pair f c a.function (lower_trees a.frozen a.lent) a.kinds a.holds s u target r p)

pub next_alike : (f : Renaming) (c : PlainCode) (before waits : Kinds) (types kept : List ℕ) (s u : State) → IsSound c → HasLiterals c → AreKinds c before waits → IsAlive c types kept s → IsStore u.store → IsProjected before waits c f s u → NextAlike before waits c f types s u (next before c s) (next before c u)
next_alike f c before waits types kept s u sound literals kinds a good m =
    let n : ℕ = s.running.function in
    let i : ℕ = s.running.at in
    let instr : instr_of c s ≡ Some a.instr = run_instr_at c n i a.function a.instr a.is a.is_instr in
    let also : instr_of c u ≡ Some a.instr = ap₂ (λ n i. C.instr_at c n i) m.running.function m.running.at ∙ instr in
    let known : kinds_of before s ≡ a.kinds = kinds.known n i a.function a.kinds a.is a.known in
    let mate_known : kinds_of before u ≡ a.kinds = ap₂ (λ n i. before n i) m.running.function m.running.at ∙ known in
    let words : AreRenamedWords c.types f s.store u.store a.kinds s.running.words u.running.words = subst (λ ks. AreRenamedWords c.types f s.store u.store ks s.running.words u.running.words) known m.running.words in
    let pair : IsPair f c a.kinds s u = record {
      cells = m.cells;
      good = good;
      instr = m.running.at;
      long = words_even c.types f s.store u.store a.kinds s.running.words u.running.words words;
      alike = by_number c.types f s.store u.store a.kinds s.running.words u.running.words words;
    } in
    subst (λ y. NextAlike before waits c f types s u y (next before c u)) (sym (ap₂ (λ ks x. act_at c ks s x) known instr))
    (subst (λ y. NextAlike before waits c f types s u (act c a.kinds s a.instr) y) (sym (ap₂ (λ ks x. act_at c ks u x) mate_known also))
    (act_alike f c before waits types kept s u a.instr sound kinds a m pair (ready c types kept s sound literals a)))
