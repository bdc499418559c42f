-- Every step of a state that is alive can be done, and what comes after it is alive.
use Rattle.std.proofs.Common.{◌≡◌, ℕ, List, Some, sym, ap₂, subst}
use Rattle.separation_kinds.specs.cell_code.declared.code.Instr.{Instr}
use Rattle.separation_kinds.specs.cell_code.declared.code.Instr.TheVariants as I
use Rattle.separation_kinds.specs.machine_semantics.States.{State}
use Rattle.separation_kinds.specs.machine_semantics.Steps.{Kinds, act, act_at, next, instr_of, kinds_of}
use Rattle.separation_kinds.specs.cell_code.Plain.{PlainCode}
use Rattle.separation_kinds.specs.code_rules.Breaks.{IsSound}
use Rattle.separation.specs.Rows.{IsReady}
use Rattle.separation.proofs.PlainRows.{asked, const_row, atom_row, move_row, jump_row, test_int_row}
use Rattle.separation.proofs.ReadingRows.{arith_row, test_row, peek_row}
use Rattle.separation.proofs.TakeRow.{take_row}
use Rattle.separation.proofs.CellRows.{put_row, free_row, drop_row}
use Rattle.separation.specs.Codes.{HasLiterals, AreKinds}
use Rattle.separation.specs.Alive.{lower_trees, IsAlive, IsGood}
use Rattle.separation.proofs.Local.{ready, went_good, trapped_good}
use Rattle.separation.proofs.Calling.{call_good, tail_good}
use Rattle.separation.proofs.Returning.{run_instr_at, ret_good}

act_good : (c : PlainCode) (types kept : List ℕ) (s : State) (x : Instr) → IsSound c → (a : IsAlive c types kept s) → IsReady c a.function (lower_trees a.frozen a.lent) a.kinds a.holds s x → IsGood c types kept s (act c a.kinds s x)
act_good c types kept s (I.Const d v) sound a r = went_good c types kept s (I.Const d v) sound a (const_row c a.function (lower_trees a.frozen a.lent) a.kinds a.holds s d v r)
act_good c types kept s (I.Atom d t k) sound a r = went_good c types kept s (I.Atom d t k) sound a (atom_row c a.function (lower_trees a.frozen a.lent) a.kinds a.holds s d t k r)
act_good c types kept s (I.Move d q) sound a r = went_good c types kept s (I.Move d q) sound a (move_row c a.function (lower_trees a.frozen a.lent) a.kinds a.holds s d q r)
act_good c types kept s (I.Arith d o x y line col) sound a r = trapped_good c types kept s o x y line col (I.Arith d o x y line col) sound a (arith_row c a.function (lower_trees a.frozen a.lent) a.kinds a.holds s d o x y line col r)
act_good c types kept s (I.Test q k target) sound a r = went_good c types kept s (I.Test q k target) sound a (test_row c a.function (lower_trees a.frozen a.lent) a.kinds a.holds s q k target r)
act_good c types kept s (I.TestInt q v target) sound a r = went_good c types kept s (I.TestInt q v target) sound a (test_int_row c a.function (lower_trees a.frozen a.lent) a.kinds a.holds s q v target r)
act_good c types kept s (I.Peek d q i) sound a r = went_good c types kept s (I.Peek d q i) sound a (peek_row c a.function (lower_trees a.frozen a.lent) a.kinds a.holds s d q i r)
act_good c types kept s (I.Take q ds) sound a r = went_good c types kept s (I.Take q ds) sound a (take_row c a.function (lower_trees a.frozen a.lent) a.kinds a.holds s q ds r)
act_good c types kept s (I.Put d t k rs) sound a r = went_good c types kept s (I.Put d t k rs) sound a (put_row c a.function (lower_trees a.frozen a.lent) a.kinds a.holds s d t k rs r)
act_good c types kept s (I.Drop q) sound a r = went_good c types kept s (I.Drop q) sound a (drop_row c a.function (lower_trees a.frozen a.lent) a.kinds a.holds s q r)
act_good c types kept s (I.Free q) sound a r = went_good c types kept s (I.Free q) sound a (free_row c a.function (lower_trees a.frozen a.lent) a.kinds a.holds s q r)
act_good c types kept s (I.Call g rs ds) sound a r = call_good c types kept s g rs ds sound a r.reached.instr (asked c a.function (lower_trees a.frozen a.lent) a.kinds a.holds s (I.Call g rs ds) r)
act_good c types kept s (I.Tail g rs) sound a r = tail_good c types kept s g rs sound a r.reached.instr (asked c a.function (lower_trees a.frozen a.lent) a.kinds a.holds s (I.Tail g rs) r)
act_good c types kept s (I.Ret rs) sound a r = ret_good c types kept s rs sound a r.reached.instr (asked c a.function (lower_trees a.frozen a.lent) a.kinds a.holds s (I.Ret rs) r)
act_good c types kept s (I.Jump target) sound a r = went_good c types kept s (I.Jump target) sound a (jump_row c a.function (lower_trees a.frozen a.lent) a.kinds a.holds s target r)

pub next_good : (c : PlainCode) (before waits : Kinds) (types kept : List ℕ) (s : State) → IsSound c → HasLiterals c → AreKinds c before waits → IsAlive c types kept s → IsGood c types kept s (next before c s)
next_good c before waits types kept s sound literals kinds a =
    let instr : instr_of c s ≡ Some a.instr = run_instr_at c s.running.function s.running.at a.function a.instr a.is a.is_instr in
    let known : kinds_of before s ≡ a.kinds = kinds.known s.running.function s.running.at a.function a.kinds a.is a.known in
    subst (IsGood c types kept s) (sym (ap₂ (λ ks x. act_at c ks s x) known instr)) (act_good c types kept s a.instr sound a (ready c types kept s sound literals a))
