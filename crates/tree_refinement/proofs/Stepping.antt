-- Every step of a state that is alive ends in the same on cells and on trees.
use Rattle.std.proofs.Common.{◌≡◌, ℕ, List, Some, sym, ap₂, subst}
use Rattle.separation_bounds.specs.cell_code.declared.code.Instr.{Instr}
use Rattle.separation_bounds.specs.cell_code.declared.code.Instr.TheVariants as I
use Rattle.separation_bounds.specs.cell_code.Plain.{PlainCode}
use Rattle.tree_semantics.specs.machine_semantics.Codes as C
use Rattle.tree_semantics.specs.machine_semantics.States.{State}
use Rattle.tree_semantics.specs.machine_semantics.Steps.{Kinds, act, act_at, next, instr_of, kinds_of}
use Rattle.tree_semantics.specs.States as U
use Rattle.tree_semantics.specs.Steps as N
use Rattle.separation_bounds.specs.code_rules.Kinds.{at}
use Rattle.separation_bounds.specs.code_rules.Breaks.{IsSound}
use Rattle.separation_bounds.specs.separation_kinds.Meanings.{word_at}
use Rattle.separation_bounds.specs.separation.Rows.{IsReady}
use Rattle.separation_bounds.proofs.separation.PlainRows.{asked, const_row, atom_row, move_row, jump_row, test_int_row}
use Rattle.separation_bounds.proofs.separation.ReadingRows.{arith_row, test_row, peek_row}
use Rattle.separation_bounds.proofs.separation.TakeRow.{take_row}
use Rattle.separation_bounds.proofs.separation.CellRows.{put_row, free_row, drop_row}
use Rattle.separation_bounds.specs.separation.Codes.{HasLiterals, AreKinds}
use Rattle.separation_bounds.specs.separation.Alive.{lower_trees, IsAlive}
use Rattle.separation_bounds.proofs.separation.Local.{ready}
use Rattle.separation_bounds.proofs.separation.Returning.{run_instr_at}
use Rattle.tree_refinement.specs.Agreement.{AreShown, IsSame, IsSameNext}
use Rattle.tree_refinement.proofs.PlainFollows.{const_follows, atom_follows, move_follows, jump_follows, test_int_follows, arith_follows}
use Rattle.tree_refinement.proofs.ReadingFollows.{test_follows, peek_follows}
use Rattle.tree_refinement.proofs.CellFollows.{put_follows, free_follows, drop_follows}
use Rattle.tree_refinement.proofs.TakeFollows.{take_follows}
use Rattle.tree_refinement.proofs.Inside.{went_same, trapped_same}
use Rattle.tree_refinement.proofs.Entering.{call_same, tail_same}
use Rattle.tree_refinement.proofs.Resuming.{ret_same}

act_same : (c : PlainCode) (before waits : Kinds) (types kept : List ℕ) (s : State) (t : U.State) (x : Instr) → IsSound c → AreKinds c before waits → (a : IsAlive c types kept s) → IsSame c.types before waits s t → AreShown c.types s.store (at a.kinds) (word_at s.running.words) t.running.contents → IsReady c a.function (lower_trees a.frozen a.lent) a.kinds a.holds s x → IsSameNext c.types before waits types s (act c a.kinds s x) (N.act c t x)
act_same c before waits types kept s t (I.Const d v) sound kinds a m w r = went_same c before waits types kept s (I.Const d v) t _ sound kinds a m (const_row c a.function (lower_trees a.frozen a.lent) a.kinds a.holds s d v r) (const_follows c a.function (lower_trees a.frozen a.lent) a.kinds a.holds s c t d v r m.running.instr w)
act_same c before waits types kept s t (I.Atom d u k) sound kinds a m w r = went_same c before waits types kept s (I.Atom d u k) t _ sound kinds a m (atom_row c a.function (lower_trees a.frozen a.lent) a.kinds a.holds s d u k r) (atom_follows c a.function (lower_trees a.frozen a.lent) a.kinds a.holds s c t d u k r m.running.instr w)
act_same c before waits types kept s t (I.Move d q) sound kinds a m w r = went_same c before waits types kept s (I.Move d q) t _ sound kinds a m (move_row c a.function (lower_trees a.frozen a.lent) a.kinds a.holds s d q r) (move_follows c a.function (lower_trees a.frozen a.lent) a.kinds a.holds s c t d q r m.running.instr w)
act_same c before waits types kept s t (I.Arith d o x y line col) sound kinds a m w r = trapped_same c before waits types kept s o x y line col (I.Arith d o x y line col) t _ sound kinds a m (arith_row c a.function (lower_trees a.frozen a.lent) a.kinds a.holds s d o x y line col r) (arith_follows c a.function (lower_trees a.frozen a.lent) a.kinds a.holds s c t d o x y line col r m.running.instr w)
act_same c before waits types kept s t (I.Test q k target) sound kinds a m w r = went_same c before waits types kept s (I.Test q k target) t _ sound kinds a m (test_row c a.function (lower_trees a.frozen a.lent) a.kinds a.holds s q k target r) (test_follows c a.function (lower_trees a.frozen a.lent) a.kinds a.holds s c t q k target r m.running.instr w)
act_same c before waits types kept s t (I.TestInt q v target) sound kinds a m w r = went_same c before waits types kept s (I.TestInt q v target) t _ sound kinds a m (test_int_row c a.function (lower_trees a.frozen a.lent) a.kinds a.holds s q v target r) (test_int_follows c a.function (lower_trees a.frozen a.lent) a.kinds a.holds s c t q v target r m.running.instr w)
act_same c before waits types kept s t (I.Peek d q i) sound kinds a m w r = went_same c before waits types kept s (I.Peek d q i) t _ sound kinds a m (peek_row c a.function (lower_trees a.frozen a.lent) a.kinds a.holds s d q i r) (peek_follows c a.function (lower_trees a.frozen a.lent) a.kinds a.holds s c t d q i r m.running.instr w)
act_same c before waits types kept s t (I.Take q ds) sound kinds a m w r = went_same c before waits types kept s (I.Take q ds) t _ sound kinds a m (take_row c a.function (lower_trees a.frozen a.lent) a.kinds a.holds s q ds r) (take_follows c a.function (lower_trees a.frozen a.lent) a.kinds a.holds s c t q ds r m.running.instr w)
act_same c before waits types kept s t (I.Put d u k rs) sound kinds a m w r = went_same c before waits types kept s (I.Put d u k rs) t _ sound kinds a m (put_row c a.function (lower_trees a.frozen a.lent) a.kinds a.holds s d u k rs r) (put_follows c a.function (lower_trees a.frozen a.lent) a.kinds a.holds s c t d u k rs r m.running.instr w)
act_same c before waits types kept s t (I.Drop q) sound kinds a m w r = went_same c before waits types kept s (I.Drop q) t _ sound kinds a m (drop_row c a.function (lower_trees a.frozen a.lent) a.kinds a.holds s q r) (drop_follows c a.function (lower_trees a.frozen a.lent) a.kinds a.holds s c t q r m.running.instr w)
act_same c before waits types kept s t (I.Free q) sound kinds a m w r = went_same c before waits types kept s (I.Free q) t _ sound kinds a m (free_row c a.function (lower_trees a.frozen a.lent) a.kinds a.holds s q r) (free_follows c a.function (lower_trees a.frozen a.lent) a.kinds a.holds s c t q r m.running.instr w)
act_same c before waits types kept s t (I.Call g rs ds) sound kinds a m w r = call_same c before waits types kept s t g rs ds sound kinds a m r.reached.instr (asked c a.function (lower_trees a.frozen a.lent) a.kinds a.holds s (I.Call g rs ds) r) w
act_same c before waits types kept s t (I.Tail g rs) sound kinds a m w r = tail_same c before waits types kept s t g rs sound kinds a m (asked c a.function (lower_trees a.frozen a.lent) a.kinds a.holds s (I.Tail g rs) r) w
act_same c before waits types kept s t (I.Ret rs) sound kinds a m w r = ret_same c before waits types kept s t rs sound kinds a m (asked c a.function (lower_trees a.frozen a.lent) a.kinds a.holds s (I.Ret rs) r) w
act_same c before waits types kept s t (I.Jump target) sound kinds a m w r = went_same c before waits types kept s (I.Jump target) t _ sound kinds a m (jump_row c a.function (lower_trees a.frozen a.lent) a.kinds a.holds s target r) (jump_follows c a.function (lower_trees a.frozen a.lent) a.kinds a.holds s c t target r w)

pub next_same : (c : PlainCode) (before waits : Kinds) (types kept : List ℕ) (s : State) (t : U.State) → IsSound c → HasLiterals c → AreKinds c before waits → IsAlive c types kept s → IsSame c.types before waits s t → IsSameNext c.types before waits types s (next before c s) (N.next c t)
next_same c before waits types kept s t sound literals kinds a m =
    let instr : instr_of c s ≡ Some a.instr = run_instr_at c s.running.function s.running.at a.function a.instr a.is a.is_instr in
    let also : C.instr_at c t.running.function t.running.at ≡ Some a.instr = subst (λ f. C.instr_at c f t.running.at ≡ Some a.instr) m.running.function (subst (λ i. C.instr_at c s.running.function i ≡ Some a.instr) m.running.instr instr) in
    let known : kinds_of before s ≡ a.kinds = kinds.known s.running.function s.running.at a.function a.kinds a.is a.known in
    let shown : AreShown c.types s.store (at a.kinds) (word_at s.running.words) t.running.contents = subst (λ ks. AreShown c.types s.store (at ks) (word_at s.running.words) t.running.contents) known m.running.shown in
    subst (λ y. IsSameNext c.types before waits types s y (N.next c t)) (sym (ap₂ (λ ks x. act_at c ks s x) known instr))
    (subst (λ x. IsSameNext c.types before waits types s (act c a.kinds s a.instr) (N.act_at c t x)) (sym also)
    (act_same c before waits types kept s t a.instr sound kinds a m shown (ready c types kept s sound literals a)))
