use Rattle.std.proofs.Common.{◌≡◌, ◌+◌, ◌*◌, ◌∙◌, List, [], ◌++◌, ℕ, rules, arith, refl, sym, ap, subst, length, take, get_or}
use Rattle.cell_code.specs.declared.code.Instr.TheVariants as I
use Rattle.cell_code.specs.Runnable.{CanCall, Row, IsSafe}
use Rattle.std.specs.Int.{w64}
use Rattle.std.proofs.lemmas.Int.{to_z-of_z}
use mir.Val.{SFits, of_z}
use Rattle.fip_language.specs.Matching.{same_int}
use Rattle.machine_frames.specs.machine_semantics.Words.{int_of}
use Rattle.cell_code.specs.Plain.{plain}
use Rattle.machine_frames.specs.machine_semantics.Steps.{act}
use Rattle.machine_cells.specs.Small.{store_of}
use Rattle.machine_cells.specs.Counting.{CountsReleased, held_or_freed}
use Rattle.machine_cells.proofs.Counts.{counts_none}
use Rattle.machine_step.specs.declared.rows.Stepped.TheVariants as S
use Rattle.machine_step.specs.Placed.{body_at}
use Rattle.machine_step.specs.View.{state_of}
use Rattle.machine_step.specs.Coming.{Comes}
use Rattle.machine_step.proofs.RowNexts.{const_next, atom_next, move_next, test_int_next, jump_next, free_next, drop_next, free_reported, drop_reported}
use Rattle.machine_step.proofs.Helps.{same_instr, int_word_is}
use Rattle.machine_step.proofs.Goings.{alone, same_done}
use Rattle.machine_step.proofs.Highs.{raised_same}
use Rattle.machine_step.specs.Telling.{IsKnown, act_reports}
use Rattle.machine_step.proofs.Tellings.{reported_nothing}
use Rattle.cell_code.specs.declared.code.Instr.{Instr}
use Rattle.machine_step.specs.Sure.{IsSureOf}
use Rattle.machine_step.proofs.rows.act.Goals as goal

pub call-requires-clause-callee : goal.call-requires-clause-callee
call-requires-clause-callee g c =
    let v = c.args.verified.now in
    let b = body_at v c.args.cursor.now in
    let row = subst (Row b c.args.cursor.now.at (IsSafe b)) c.in-Call.is c.requires.row in
    subst (λ rs. CanCall v.code.functions.items c.in-Call.function (length rs)) (sym c.as_slice-in-Call.ensures.same) row.2

pub tail-requires-clause-callee : goal.tail-requires-clause-callee
tail-requires-clause-callee g c =
    let v = c.args.verified.now in
    let b = body_at v c.args.cursor.now in
    let row = subst (Row b c.args.cursor.now.at (IsSafe b)) c.in-Tail.is c.requires.row in
    subst (λ rs. CanCall v.code.functions.items c.in-Tail.function (length rs)) (sym c.as_slice-in-Tail.ensures.same) row.1

pub returns-in-Const-clause-next : goal.returns-in-Const-clause-next
returns-in-Const-clause-next g c kinds ks known small empty lent =
    let v = c.args.verified.now in
    let b = c.args.bounds in
    let ws = c.args.words.now in
    let cursor = c.args.cursor.now in
    let room = c.requires.placed.room in
    let cs = g.C.Cells.cells c.args.cells.now in
    let s = store_of cs (g.C.Cells.released c.args.cells.now) in
    let old = state_of v b lent s ws cursor in
    let given = take c.args.beside.now.given c.args.beside.now.results in
    let row = subst (Row (body_at v cursor) cursor.at (IsSafe (body_at v cursor))) c.in-Const.is c.requires.row in
    let new = state_of v b lent s c.write.new.words c.write.new.cursor in
    let fits : SFits w64 c.in-Const.value = record { sfits = omega arith } in
    alone kinds (plain v.code) _ old (act (plain v.code) ks old c.args.instr.now) _ new given (same_instr (plain v.code) ks old c.write.result new given c.args.instr.now (I.Const c.in-Const.destination c.in-Const.value) c.in-Const.is (const_next v b ks lent s ws cursor c.write.result new given c.in-Const.destination c.in-Const.value c.cast_unsigned-word.result (int_word_is c.in-Const.value ∙ sym (c.cast_unsigned-word.ensures ∙ ap (of_z w64) (to_z-of_z w64 c.in-Const.value fits))) row.0 room c.write.ensures.went (c.write.ensures.state lent s)))

pub returns-in-Atom-clause-next : goal.returns-in-Atom-clause-next
returns-in-Atom-clause-next g c kinds ks known small empty lent =
    let v = c.args.verified.now in
    let b = c.args.bounds in
    let ws = c.args.words.now in
    let cursor = c.args.cursor.now in
    let room = c.requires.placed.room in
    let cs = g.C.Cells.cells c.args.cells.now in
    let s = store_of cs (g.C.Cells.released c.args.cells.now) in
    let old = state_of v b lent s ws cursor in
    let given = take c.args.beside.now.given c.args.beside.now.results in
    let row = subst (Row (body_at v cursor) cursor.at (IsSafe (body_at v cursor))) c.in-Atom.is c.requires.row in
    let new = state_of v b lent s c.write-in-Atom.new.words c.write-in-Atom.new.cursor in
    alone kinds (plain v.code) _ old (act (plain v.code) ks old c.args.instr.now) _ new given (same_instr (plain v.code) ks old c.write-in-Atom.result new given c.args.instr.now (I.Atom c.in-Atom.destination c.in-Atom.ty c.in-Atom.constructor) c.in-Atom.is (atom_next v b ks lent s ws cursor c.write-in-Atom.result new given c.in-Atom.destination c.in-Atom.ty c.in-Atom.constructor (2 * c.from-word.result) (ap (λ k. 2 * k) c.from-word.ensures) row.0 room c.write-in-Atom.ensures.went (c.write-in-Atom.ensures.state lent s)))

pub returns-in-Move-clause-next : goal.returns-in-Move-clause-next
returns-in-Move-clause-next g c kinds ks known small empty lent =
    let v = c.args.verified.now in
    let b = c.args.bounds in
    let ws = c.args.words.now in
    let cursor = c.args.cursor.now in
    let room = c.requires.placed.room in
    let cs = g.C.Cells.cells c.args.cells.now in
    let s = store_of cs (g.C.Cells.released c.args.cells.now) in
    let old = state_of v b lent s ws cursor in
    let given = take c.args.beside.now.given c.args.beside.now.results in
    let row = subst (Row (body_at v cursor) cursor.at (IsSafe (body_at v cursor))) c.in-Move.is c.requires.row in
    let new = state_of v b lent s c.write-in-Move.new.words c.write-in-Move.new.cursor in
    alone kinds (plain v.code) _ old (act (plain v.code) ks old c.args.instr.now) _ new given (same_instr (plain v.code) ks old c.write-in-Move.result new given c.args.instr.now (I.Move c.in-Move.destination c.in-Move.source) c.in-Move.is (move_next v b ks lent s ws cursor c.write-in-Move.result new given c.in-Move.destination c.in-Move.source row.0 row.1 room c.write-in-Move.ensures.went (c.write-in-Move.ensures.state lent s)))

pub returns-in-Arith-clause-next : goal.returns-in-Arith-clause-next
returns-in-Arith-clause-next g c kinds ks known small empty lent =
    let v = c.args.verified.now in
    let b = c.args.bounds in
    let ws = c.args.words.now in
    let cursor = c.args.cursor.now in
    let room = c.requires.placed.room in
    let cs = g.C.Cells.cells c.args.cells.now in
    let s = store_of cs (g.C.Cells.released c.args.cells.now) in
    let old = state_of v b lent s ws cursor in
    let given = take c.args.beside.now.given c.args.beside.now.results in
    let row = subst (Row (body_at v cursor) cursor.at (IsSafe (body_at v cursor))) c.in-Arith.is c.requires.row in
    let new = state_of v b lent s c.calculate.new.words c.calculate.new.cursor in
    same_done kinds (plain v.code) ks _ old c.calculate.result new given c.args.instr.now (I.Arith c.in-Arith.destination c.in-Arith.operator c.in-Arith.left c.in-Arith.right c.in-Arith.line c.in-Arith.col) c.in-Arith.is (c.calculate.ensures.next kinds ks s given lent)

pub returns-in-Test-clause-next : goal.returns-in-Test-clause-next
returns-in-Test-clause-next g c kinds ks known small empty lent =
    let v = c.args.verified.now in
    let b = c.args.bounds in
    let ws = c.args.words.now in
    let cursor = c.args.cursor.now in
    let room = c.requires.placed.room in
    let cs = g.C.Cells.cells c.args.cells.now in
    let s = store_of cs (g.C.Cells.released c.args.cells.now) in
    let old = state_of v b lent s ws cursor in
    let given = take c.args.beside.now.given c.args.beside.now.results in
    let row = subst (Row (body_at v cursor) cursor.at (IsSafe (body_at v cursor))) c.in-Test.is c.requires.row in
    let new = state_of v b lent (store_of (g.C.Cells.cells c.test.new.cells) (g.C.Cells.released c.test.new.cells)) c.test.new.words c.test.new.cursor in
    same_done kinds (plain v.code) ks _ old c.test.result new given c.args.instr.now (I.Test c.in-Test.register c.in-Test.constructor c.in-Test.target) c.in-Test.is (c.test.ensures.next kinds ks given small lent)

pub returns-in-TestInt-clause-next : goal.returns-in-TestInt-clause-next
returns-in-TestInt-clause-next g c kinds ks known small empty lent =
    let v = c.args.verified.now in
    let b = c.args.bounds in
    let ws = c.args.words.now in
    let cursor = c.args.cursor.now in
    let room = c.requires.placed.room in
    let cs = g.C.Cells.cells c.args.cells.now in
    let s = store_of cs (g.C.Cells.released c.args.cells.now) in
    let old = state_of v b lent s ws cursor in
    let given = take c.args.beside.now.given c.args.beside.now.results in
    let row = subst (Row (body_at v cursor) cursor.at (IsSafe (body_at v cursor))) c.in-TestInt.is c.requires.row in
    let new = state_of v b lent s ws c.branch-verified.new.cursor in
    let fits : SFits w64 c.in-TestInt.value = search rules in
    alone kinds (plain v.code) _ old (act (plain v.code) ks old c.args.instr.now) _ new given (same_instr (plain v.code) ks old c.branch-verified.result new given c.args.instr.now (I.TestInt c.in-TestInt.register c.in-TestInt.value c.in-TestInt.target) c.in-TestInt.is (test_int_next v b ks lent s ws cursor c.branch-verified.result new given c.in-TestInt.register c.in-TestInt.value c.in-TestInt.target c.is_int-on.result row.0 room (ap (same_int (int_of (get_or ws (cursor.base + c.in-TestInt.register) 0))) (sym (to_z-of_z w64 c.in-TestInt.value fits)) ∙ sym c.is_int-on.ensures) c.branch-verified.ensures.went (c.branch-verified.ensures.state lent s)))

pub returns-in-Peek-clause-next : goal.returns-in-Peek-clause-next
returns-in-Peek-clause-next g c kinds ks known small empty lent =
    let v = c.args.verified.now in
    let b = c.args.bounds in
    let ws = c.args.words.now in
    let cursor = c.args.cursor.now in
    let room = c.requires.placed.room in
    let cs = g.C.Cells.cells c.args.cells.now in
    let s = store_of cs (g.C.Cells.released c.args.cells.now) in
    let old = state_of v b lent s ws cursor in
    let given = take c.args.beside.now.given c.args.beside.now.results in
    let row = subst (Row (body_at v cursor) cursor.at (IsSafe (body_at v cursor))) c.in-Peek.is c.requires.row in
    let new = state_of v b lent s c.peek.new.words c.peek.new.cursor in
    alone kinds (plain v.code) _ old (act (plain v.code) ks old c.args.instr.now) _ new given (same_instr (plain v.code) ks old c.peek.result new given c.args.instr.now (I.Peek c.in-Peek.destination c.in-Peek.register c.in-Peek.field) c.in-Peek.is (c.peek.ensures.next ks given small lent))

pub returns-in-Take-clause-next : goal.returns-in-Take-clause-next
returns-in-Take-clause-next g c kinds ks known small empty lent =
    let v = c.args.verified.now in
    let b = c.args.bounds in
    let ws = c.args.words.now in
    let cursor = c.args.cursor.now in
    let room = c.requires.placed.room in
    let cs = g.C.Cells.cells c.args.cells.now in
    let s = store_of cs (g.C.Cells.released c.args.cells.now) in
    let old = state_of v b lent s ws cursor in
    let given = take c.args.beside.now.given c.args.beside.now.results in
    let row = subst (Row (body_at v cursor) cursor.at (IsSafe (body_at v cursor))) c.in-Take.is c.requires.row in
    let new = state_of v b lent s c.take_cell.new.words c.take_cell.new.cursor in
    alone kinds (plain v.code) _ old (act (plain v.code) ks old c.args.instr.now) _ new given (same_instr (plain v.code) ks old c.take_cell.result new given c.args.instr.now (I.Take c.in-Take.register c.in-Take.fields) c.in-Take.is (subst (λ (ds : List ℕ). Comes old (act (plain v.code) ks old (I.Take c.in-Take.register ds)) c.take_cell.result new given) c.as_slice.ensures.same (c.take_cell.ensures.next ks given small lent)))

pub returns-in-Put-clause-next : goal.returns-in-Put-clause-next
returns-in-Put-clause-next g c kinds ks known small empty lent =
    let v = c.args.verified.now in
    let b = c.args.bounds in
    let ws = c.args.words.now in
    let cursor = c.args.cursor.now in
    let room = c.requires.placed.room in
    let cs = g.C.Cells.cells c.args.cells.now in
    let s = store_of cs (g.C.Cells.released c.args.cells.now) in
    let old = state_of v b lent s ws cursor in
    let given = take c.args.beside.now.given c.args.beside.now.results in
    let row = subst (Row (body_at v cursor) cursor.at (IsSafe (body_at v cursor))) c.in-Put.is c.requires.row in
    let new = state_of v b lent (store_of (g.C.Cells.cells c.put_cell.new.cells) (g.C.Cells.released c.put_cell.new.cells)) ws c.put_cell.new.cursor in
    alone kinds (plain v.code) _ old (act (plain v.code) ks old c.args.instr.now) _ new given (same_instr (plain v.code) ks old c.put_cell.result new given c.args.instr.now (I.Put c.in-Put.register c.in-Put.ty c.in-Put.constructor c.in-Put.fields) c.in-Put.is (subst (λ (ds : List ℕ). Comes old (act (plain v.code) ks old (I.Put c.in-Put.register c.in-Put.ty c.in-Put.constructor ds)) c.put_cell.result new given) c.as_slice-in-Put.ensures.same (c.put_cell.ensures.next ks given c.in-Put.ty small lent)))

pub returns-in-Drop-clause-next : goal.returns-in-Drop-clause-next
returns-in-Drop-clause-next g c kinds ks known small empty lent =
    let v = c.args.verified.now in
    let b = c.args.bounds in
    let ws = c.args.words.now in
    let cursor = c.args.cursor.now in
    let room = c.requires.placed.room in
    let cs = g.C.Cells.cells c.args.cells.now in
    let s = store_of cs (g.C.Cells.released c.args.cells.now) in
    let old = state_of v b lent s ws cursor in
    let given = take c.drop_tree.new.beside.given c.drop_tree.new.beside.results in
    let row = subst (Row (body_at v cursor) cursor.at (IsSafe (body_at v cursor))) c.in-Drop.is c.requires.row in
    let n = store_of (g.C.Cells.cells c.drop_tree.new.cells) (g.C.Cells.released c.drop_tree.new.cells) in
    let new = state_of v b lent n ws c.go_on.new.cursor in
    alone kinds (plain v.code) _ old (act (plain v.code) ks old c.args.instr.now) _ new given (same_instr (plain v.code) ks old c.go_on.result new given c.args.instr.now (I.Drop c.in-Drop.register) c.in-Drop.is (drop_next v b ks lent s ws cursor c.go_on.result new given c.in-Drop.register n row.0 room (λ ty y u owned tree goes. c.drop_tree.ensures.released ty (known c.in-Drop.register ty c.in-Drop.is owned) small empty y u tree goes) c.go_on.ensures.went (c.go_on.ensures.state lent n)))

pub returns-in-Free-clause-next : goal.returns-in-Free-clause-next
returns-in-Free-clause-next g c kinds ks known small empty lent =
    let v = c.args.verified.now in
    let b = c.args.bounds in
    let ws = c.args.words.now in
    let cursor = c.args.cursor.now in
    let room = c.requires.placed.room in
    let cs = g.C.Cells.cells c.args.cells.now in
    let s = store_of cs (g.C.Cells.released c.args.cells.now) in
    let old = state_of v b lent s ws cursor in
    let given = take c.args.beside.now.given c.args.beside.now.results in
    let row = subst (Row (body_at v cursor) cursor.at (IsSafe (body_at v cursor))) c.in-Free.is c.requires.row in
    let n = store_of (g.C.Cells.cells c.release_cell.new.cells) (g.C.Cells.released c.release_cell.new.cells) in
    let new = state_of v b lent n ws c.go_on-in-Free.new.cursor in
    alone kinds (plain v.code) _ old (act (plain v.code) ks old c.args.instr.now) _ new given (same_instr (plain v.code) ks old c.go_on-in-Free.result new given c.args.instr.now (I.Free c.in-Free.register) c.in-Free.is (free_next v b ks lent s ws cursor c.go_on-in-Free.result new given c.in-Free.register n row.0 room (λ u goes. c.release_cell.ensures.released small u goes) c.go_on-in-Free.ensures.went (c.go_on-in-Free.ensures.state lent n)))

pub returns-in-Call-clause-next : goal.returns-in-Call-clause-next
returns-in-Call-clause-next g c kinds ks known small empty lent =
    let v = c.args.verified.now in
    let b = c.args.bounds in
    let ws = c.args.words.now in
    let cursor = c.args.cursor.now in
    let room = c.requires.placed.room in
    let cs = g.C.Cells.cells c.args.cells.now in
    let s = store_of cs (g.C.Cells.released c.args.cells.now) in
    let old = state_of v b lent s ws cursor in
    let given = take c.args.beside.now.given c.args.beside.now.results in
    let row = subst (Row (body_at v cursor) cursor.at (IsSafe (body_at v cursor))) c.in-Call.is c.requires.row in
    let new = state_of v b lent s c.call.new.words c.call.new.cursor in
    alone kinds (plain v.code) _ old (act (plain v.code) ks old c.args.instr.now) _ new given (same_instr (plain v.code) ks old c.call.result new given c.args.instr.now (I.Call c.in-Call.function c.in-Call.arguments c.in-Call.destinations) c.in-Call.is (subst (λ (ss : List ℕ). Comes old (act (plain v.code) ks old (I.Call c.in-Call.function ss c.in-Call.destinations)) c.call.result new given) c.as_slice-in-Call.ensures.same (c.call.ensures.next ks s given c.in-Call.destinations lent)))

pub returns-in-Tail-clause-next : goal.returns-in-Tail-clause-next
returns-in-Tail-clause-next g c kinds ks known small empty lent =
    let v = c.args.verified.now in
    let b = c.args.bounds in
    let ws = c.args.words.now in
    let cursor = c.args.cursor.now in
    let room = c.requires.placed.room in
    let cs = g.C.Cells.cells c.args.cells.now in
    let s = store_of cs (g.C.Cells.released c.args.cells.now) in
    let old = state_of v b lent s ws cursor in
    let given = take c.args.beside.now.given c.args.beside.now.results in
    let row = subst (Row (body_at v cursor) cursor.at (IsSafe (body_at v cursor))) c.in-Tail.is c.requires.row in
    let new = state_of v b lent s c.tail.new.words c.tail.new.cursor in
    alone kinds (plain v.code) _ old (act (plain v.code) ks old c.args.instr.now) _ new given (same_instr (plain v.code) ks old c.tail.result new given c.args.instr.now (I.Tail c.in-Tail.function c.in-Tail.arguments) c.in-Tail.is (subst (λ (ss : List ℕ). Comes old (act (plain v.code) ks old (I.Tail c.in-Tail.function ss)) c.tail.result new given) c.as_slice-in-Tail.ensures.same (c.tail.ensures.next ks s given lent)))

pub returns-in-Ret-clause-next : goal.returns-in-Ret-clause-next
returns-in-Ret-clause-next g c kinds ks known small empty lent =
    let v = c.args.verified.now in
    let b = c.args.bounds in
    let ws = c.args.words.now in
    let cursor = c.args.cursor.now in
    let room = c.requires.placed.room in
    let cs = g.C.Cells.cells c.args.cells.now in
    let s = store_of cs (g.C.Cells.released c.args.cells.now) in
    let old = state_of v b lent s ws cursor in
    let given = take c.give_back.new.beside.given c.give_back.new.beside.results in
    let row = subst (Row (body_at v cursor) cursor.at (IsSafe (body_at v cursor))) c.in-Ret.is c.requires.row in
    let new = state_of v b lent s c.give_back.new.words c.give_back.new.cursor in
    alone kinds (plain v.code) _ old (act (plain v.code) ks old c.args.instr.now) _ new given (same_instr (plain v.code) ks old c.give_back.result new given c.args.instr.now (I.Ret c.in-Ret.results) c.in-Ret.is (subst (λ (rs : List ℕ). Comes old (act (plain v.code) ks old (I.Ret rs)) c.give_back.result new given) c.as_slice-in-Ret.ensures.same (c.give_back.ensures.next ks s lent)))

pub returns-in-Jump-clause-next : goal.returns-in-Jump-clause-next
returns-in-Jump-clause-next g c kinds ks known small empty lent =
    let v = c.args.verified.now in
    let b = c.args.bounds in
    let ws = c.args.words.now in
    let cursor = c.args.cursor.now in
    let room = c.requires.placed.room in
    let cs = g.C.Cells.cells c.args.cells.now in
    let s = store_of cs (g.C.Cells.released c.args.cells.now) in
    let old = state_of v b lent s ws cursor in
    let given = take c.args.beside.now.given c.args.beside.now.results in
    let row = subst (Row (body_at v cursor) cursor.at (IsSafe (body_at v cursor))) c.in-Jump.is c.requires.row in
    let new = state_of v b lent s ws c.go_to.new.cursor in
    alone kinds (plain v.code) _ old (act (plain v.code) ks old c.args.instr.now) _ new given (same_instr (plain v.code) ks old S.Went new given c.args.instr.now (I.Jump c.in-Jump.target) c.in-Jump.is (jump_next v b ks lent s ws cursor S.Went new given c.in-Jump.target refl (c.go_to.ensures.state lent s)))

pub returns-in-Const-clause-raised : goal.returns-in-Const-clause-raised
returns-in-Const-clause-raised g c high = raised_same c.args.cursor.now c.write.new.cursor c.write.ensures.same high

pub returns-in-Atom-clause-raised : goal.returns-in-Atom-clause-raised
returns-in-Atom-clause-raised g c high = raised_same c.args.cursor.now c.write-in-Atom.new.cursor c.write-in-Atom.ensures.same high

pub returns-in-Move-clause-raised : goal.returns-in-Move-clause-raised
returns-in-Move-clause-raised g c high = raised_same c.args.cursor.now c.write-in-Move.new.cursor c.write-in-Move.ensures.same high

pub returns-in-Arith-clause-raised : goal.returns-in-Arith-clause-raised
returns-in-Arith-clause-raised g c high = raised_same c.args.cursor.now c.calculate.new.cursor c.calculate.ensures.same high

pub returns-in-Test-clause-raised : goal.returns-in-Test-clause-raised
returns-in-Test-clause-raised g c high = raised_same c.args.cursor.now c.test.new.cursor c.test.ensures.same high

pub returns-in-TestInt-clause-raised : goal.returns-in-TestInt-clause-raised
returns-in-TestInt-clause-raised g c high = raised_same c.args.cursor.now c.branch-verified.new.cursor c.branch-verified.ensures.same high

pub returns-in-Peek-clause-raised : goal.returns-in-Peek-clause-raised
returns-in-Peek-clause-raised g c high = raised_same c.args.cursor.now c.peek.new.cursor c.peek.ensures.same high

pub returns-in-Take-clause-raised : goal.returns-in-Take-clause-raised
returns-in-Take-clause-raised g c high = raised_same c.args.cursor.now c.take_cell.new.cursor c.take_cell.ensures.same high

pub returns-in-Put-clause-raised : goal.returns-in-Put-clause-raised
returns-in-Put-clause-raised g c high = raised_same c.args.cursor.now c.put_cell.new.cursor c.put_cell.ensures.same high

pub returns-in-Drop-clause-raised : goal.returns-in-Drop-clause-raised
returns-in-Drop-clause-raised g c high = raised_same c.args.cursor.now c.go_on.new.cursor c.go_on.ensures.same high

pub returns-in-Free-clause-raised : goal.returns-in-Free-clause-raised
returns-in-Free-clause-raised g c high = raised_same c.args.cursor.now c.go_on-in-Free.new.cursor c.go_on-in-Free.ensures.same high

pub returns-in-Jump-clause-raised : goal.returns-in-Jump-clause-raised
returns-in-Jump-clause-raised g c high = raised_same c.args.cursor.now c.go_to.new.cursor c.go_to.ensures.same high

pub returns-in-Const-clause-reported : goal.returns-in-Const-clause-reported
returns-in-Const-clause-reported g c ks lent known once small empty goes first ts reported =
    let v = c.args.verified.now in
    let b = c.args.bounds in
    let ws = c.args.words.now in
    let cursor = c.args.cursor.now in
    let s = store_of (g.C.Cells.cells c.args.cells.now) (g.C.Cells.released c.args.cells.now) in
    let old = state_of v b lent s ws cursor in
    reported_nothing (λ us. g.C.Cells.was_reported first us c.args.cells.now) (plain v.code) ks old c.args.instr.now (I.Const c.in-Const.destination c.in-Const.value) ts c.in-Const.is refl reported

pub returns-in-Atom-clause-reported : goal.returns-in-Atom-clause-reported
returns-in-Atom-clause-reported g c ks lent known once small empty goes first ts reported =
    let v = c.args.verified.now in
    let b = c.args.bounds in
    let ws = c.args.words.now in
    let cursor = c.args.cursor.now in
    let s = store_of (g.C.Cells.cells c.args.cells.now) (g.C.Cells.released c.args.cells.now) in
    let old = state_of v b lent s ws cursor in
    reported_nothing (λ us. g.C.Cells.was_reported first us c.args.cells.now) (plain v.code) ks old c.args.instr.now (I.Atom c.in-Atom.destination c.in-Atom.ty c.in-Atom.constructor) ts c.in-Atom.is refl reported

pub returns-in-Move-clause-reported : goal.returns-in-Move-clause-reported
returns-in-Move-clause-reported g c ks lent known once small empty goes first ts reported =
    let v = c.args.verified.now in
    let b = c.args.bounds in
    let ws = c.args.words.now in
    let cursor = c.args.cursor.now in
    let s = store_of (g.C.Cells.cells c.args.cells.now) (g.C.Cells.released c.args.cells.now) in
    let old = state_of v b lent s ws cursor in
    reported_nothing (λ us. g.C.Cells.was_reported first us c.args.cells.now) (plain v.code) ks old c.args.instr.now (I.Move c.in-Move.destination c.in-Move.source) ts c.in-Move.is refl reported

pub returns-in-Arith-clause-reported : goal.returns-in-Arith-clause-reported
returns-in-Arith-clause-reported g c ks lent known once small empty goes first ts reported =
    let v = c.args.verified.now in
    let b = c.args.bounds in
    let ws = c.args.words.now in
    let cursor = c.args.cursor.now in
    let s = store_of (g.C.Cells.cells c.args.cells.now) (g.C.Cells.released c.args.cells.now) in
    let old = state_of v b lent s ws cursor in
    reported_nothing (λ us. g.C.Cells.was_reported first us c.args.cells.now) (plain v.code) ks old c.args.instr.now (I.Arith c.in-Arith.destination c.in-Arith.operator c.in-Arith.left c.in-Arith.right c.in-Arith.line c.in-Arith.col) ts c.in-Arith.is refl reported

pub returns-in-TestInt-clause-reported : goal.returns-in-TestInt-clause-reported
returns-in-TestInt-clause-reported g c ks lent known once small empty goes first ts reported =
    let v = c.args.verified.now in
    let b = c.args.bounds in
    let ws = c.args.words.now in
    let cursor = c.args.cursor.now in
    let s = store_of (g.C.Cells.cells c.args.cells.now) (g.C.Cells.released c.args.cells.now) in
    let old = state_of v b lent s ws cursor in
    reported_nothing (λ us. g.C.Cells.was_reported first us c.args.cells.now) (plain v.code) ks old c.args.instr.now (I.TestInt c.in-TestInt.register c.in-TestInt.value c.in-TestInt.target) ts c.in-TestInt.is refl reported

pub returns-in-Peek-clause-reported : goal.returns-in-Peek-clause-reported
returns-in-Peek-clause-reported g c ks lent known once small empty goes first ts reported =
    let v = c.args.verified.now in
    let b = c.args.bounds in
    let ws = c.args.words.now in
    let cursor = c.args.cursor.now in
    let s = store_of (g.C.Cells.cells c.args.cells.now) (g.C.Cells.released c.args.cells.now) in
    let old = state_of v b lent s ws cursor in
    reported_nothing (λ us. g.C.Cells.was_reported first us c.args.cells.now) (plain v.code) ks old c.args.instr.now (I.Peek c.in-Peek.destination c.in-Peek.register c.in-Peek.field) ts c.in-Peek.is refl reported

pub returns-in-Take-clause-reported : goal.returns-in-Take-clause-reported
returns-in-Take-clause-reported g c ks lent known once small empty goes first ts reported =
    let v = c.args.verified.now in
    let b = c.args.bounds in
    let ws = c.args.words.now in
    let cursor = c.args.cursor.now in
    let s = store_of (g.C.Cells.cells c.args.cells.now) (g.C.Cells.released c.args.cells.now) in
    let old = state_of v b lent s ws cursor in
    reported_nothing (λ us. g.C.Cells.was_reported first us c.args.cells.now) (plain v.code) ks old c.args.instr.now (I.Take c.in-Take.register c.in-Take.fields) ts c.in-Take.is refl reported

pub returns-in-Call-clause-reported : goal.returns-in-Call-clause-reported
returns-in-Call-clause-reported g c ks lent known once small empty goes first ts reported =
    let v = c.args.verified.now in
    let b = c.args.bounds in
    let ws = c.args.words.now in
    let cursor = c.args.cursor.now in
    let s = store_of (g.C.Cells.cells c.args.cells.now) (g.C.Cells.released c.args.cells.now) in
    let old = state_of v b lent s ws cursor in
    reported_nothing (λ us. g.C.Cells.was_reported first us c.args.cells.now) (plain v.code) ks old c.args.instr.now (I.Call c.in-Call.function c.in-Call.arguments c.in-Call.destinations) ts c.in-Call.is refl reported

pub returns-in-Tail-clause-reported : goal.returns-in-Tail-clause-reported
returns-in-Tail-clause-reported g c ks lent known once small empty goes first ts reported =
    let v = c.args.verified.now in
    let b = c.args.bounds in
    let ws = c.args.words.now in
    let cursor = c.args.cursor.now in
    let s = store_of (g.C.Cells.cells c.args.cells.now) (g.C.Cells.released c.args.cells.now) in
    let old = state_of v b lent s ws cursor in
    reported_nothing (λ us. g.C.Cells.was_reported first us c.args.cells.now) (plain v.code) ks old c.args.instr.now (I.Tail c.in-Tail.function c.in-Tail.arguments) ts c.in-Tail.is refl reported

pub returns-in-Ret-clause-reported : goal.returns-in-Ret-clause-reported
returns-in-Ret-clause-reported g c ks lent known once small empty goes first ts reported =
    let v = c.args.verified.now in
    let b = c.args.bounds in
    let ws = c.args.words.now in
    let cursor = c.args.cursor.now in
    let s = store_of (g.C.Cells.cells c.args.cells.now) (g.C.Cells.released c.args.cells.now) in
    let old = state_of v b lent s ws cursor in
    reported_nothing (λ us. g.C.Cells.was_reported first us c.args.cells.now) (plain v.code) ks old c.args.instr.now (I.Ret c.in-Ret.results) ts c.in-Ret.is refl reported

pub returns-in-Jump-clause-reported : goal.returns-in-Jump-clause-reported
returns-in-Jump-clause-reported g c ks lent known once small empty goes first ts reported =
    let v = c.args.verified.now in
    let b = c.args.bounds in
    let ws = c.args.words.now in
    let cursor = c.args.cursor.now in
    let s = store_of (g.C.Cells.cells c.args.cells.now) (g.C.Cells.released c.args.cells.now) in
    let old = state_of v b lent s ws cursor in
    reported_nothing (λ us. g.C.Cells.was_reported first us c.args.cells.now) (plain v.code) ks old c.args.instr.now (I.Jump c.in-Jump.target) ts c.in-Jump.is refl reported

pub returns-in-Test-clause-reported : goal.returns-in-Test-clause-reported
returns-in-Test-clause-reported g c ks lent known once small empty goes first ts reported =
    let v = c.args.verified.now in
    let b = c.args.bounds in
    let ws = c.args.words.now in
    let cursor = c.args.cursor.now in
    let s = store_of (g.C.Cells.cells c.args.cells.now) (g.C.Cells.released c.args.cells.now) in
    let old = state_of v b lent s ws cursor in
    reported_nothing (λ us. g.C.Cells.was_reported first us c.test.new.cells) (plain v.code) ks old c.args.instr.now (I.Test c.in-Test.register c.in-Test.constructor c.in-Test.target) ts c.in-Test.is refl (subst (g.C.Cells.was_reported first ts) (sym (c.test.ensures.once once)) reported)

pub returns-in-Put-clause-reported : goal.returns-in-Put-clause-reported
returns-in-Put-clause-reported g c ks lent known once small empty goes first ts reported =
    let v = c.args.verified.now in
    let b = c.args.bounds in
    let ws = c.args.words.now in
    let cursor = c.args.cursor.now in
    let s = store_of (g.C.Cells.cells c.args.cells.now) (g.C.Cells.released c.args.cells.now) in
    let old = state_of v b lent s ws cursor in
    let rs = c.as_slice-in-Put.result.now in
    let same : c.args.instr.now ≡ I.Put c.in-Put.register c.in-Put.ty c.in-Put.constructor rs = c.in-Put.is ∙ ap (I.Put c.in-Put.register c.in-Put.ty c.in-Put.constructor) (sym c.as_slice-in-Put.ensures.same) in
    subst (λ x. g.C.Cells.was_reported first (ts ++ act_reports (plain v.code) ks old x) c.put_cell.new.cells) (sym same) (c.put_cell.ensures.reported ks lent c.in-Put.ty small (subst (λ x. IsKnown (act (plain v.code) ks old x)) same goes) first ts reported)

pub returns-in-Drop-clause-reported : goal.returns-in-Drop-clause-reported
returns-in-Drop-clause-reported g c ks lent known once small empty goes first ts reported =
    let v = c.args.verified.now in
    let b = c.args.bounds in
    let ws = c.args.words.now in
    let cursor = c.args.cursor.now in
    let s = store_of (g.C.Cells.cells c.args.cells.now) (g.C.Cells.released c.args.cells.now) in
    let old = state_of v b lent s ws cursor in
    let room = c.requires.placed.room in
    let row = subst (Row (body_at v cursor) cursor.at (IsSafe (body_at v cursor))) c.in-Drop.is c.requires.row in
    let r = c.in-Drop.register in
    let z = drop_reported v b ks lent s ws cursor S.Went old [] r row.0 room (subst (λ x. IsKnown (act (plain v.code) ks old x)) c.in-Drop.is goes) in
    subst (λ us. g.C.Cells.was_reported first (ts ++ us) c.drop_tree.new.cells) (sym (ap (act_reports (plain v.code) ks old) c.in-Drop.is ∙ z.6)) (c.drop_tree.ensures.reported z.0 (known r z.0 c.in-Drop.is z.3) small empty z.1 z.2 z.4 z.5 first ts reported)

pub returns-in-Free-clause-reported : goal.returns-in-Free-clause-reported
returns-in-Free-clause-reported g c ks lent known once small empty goes first ts reported =
    let v = c.args.verified.now in
    let b = c.args.bounds in
    let ws = c.args.words.now in
    let cursor = c.args.cursor.now in
    let s = store_of (g.C.Cells.cells c.args.cells.now) (g.C.Cells.released c.args.cells.now) in
    let old = state_of v b lent s ws cursor in
    let room = c.requires.placed.room in
    let row = subst (Row (body_at v cursor) cursor.at (IsSafe (body_at v cursor))) c.in-Free.is c.requires.row in
    let r = c.in-Free.register in
    let z = free_reported v b ks lent s ws cursor S.Went old [] r row.0 room (subst (λ x. IsKnown (act (plain v.code) ks old x)) c.in-Free.is goes) in
    subst (λ us. g.C.Cells.was_reported first (ts ++ us) c.release_cell.new.cells) (sym (ap (act_reports (plain v.code) ks old) c.in-Free.is ∙ z.2)) (c.release_cell.ensures.reported small z.0 z.1 first ts reported)

pub returns-in-Test-clause-counted : goal.returns-in-Test-clause-counted
returns-in-Test-clause-counted g c once =
    let cs = g.C.Cells.cells c.args.cells.now in
    let rs = g.C.Cells.released c.args.cells.now in
    let freed = c.args.beside.now.freed in
    subst (λ k. CountsReleased cs rs freed (g.C.Cells.cells k) (g.C.Cells.released k) freed) (sym (c.test.ensures.once once)) (counts_none cs rs freed)

pub returns-in-Put-clause-counted : goal.returns-in-Put-clause-counted
returns-in-Put-clause-counted g c once = c.put_cell.ensures.counted c.args.beside.now.freed

pub returns-in-Drop-clause-counted : goal.returns-in-Drop-clause-counted
returns-in-Drop-clause-counted g c once = c.drop_tree.ensures.counted

pub returns-in-Free-clause-counted : goal.returns-in-Free-clause-counted
returns-in-Free-clause-counted g c once = c.release_cell.ensures.counted

pub returns-in-Ret-clause-counted : goal.returns-in-Ret-clause-counted
returns-in-Ret-clause-counted g c once k low high few = ap (held_or_freed k (g.C.Cells.cells c.args.cells.now) (g.C.Cells.released c.args.cells.now)) c.give_back.ensures.freed

pub test-requires-clause-sure : goal.test-requires-clause-sure
test-requires-clause-sure g c sure = subst (λ (x : Instr). IsSureOf c.args.verified.now c.args.bounds x (g.C.Cells.cells c.args.cells.now) (g.C.Cells.released c.args.cells.now) c.args.words.now c.args.cursor.now) c.in-Test.is (c.requires.sure sure)

pub peek-requires-clause-sure : goal.peek-requires-clause-sure
peek-requires-clause-sure g c sure = subst (λ (x : Instr). IsSureOf c.args.verified.now c.args.bounds x (g.C.Cells.cells c.args.cells.now) (g.C.Cells.released c.args.cells.now) c.args.words.now c.args.cursor.now) c.in-Peek.is (c.requires.sure sure)

pub take_cell-requires-clause-sure : goal.take_cell-requires-clause-sure
take_cell-requires-clause-sure g c sure = subst (λ (x : Instr). IsSureOf c.args.verified.now c.args.bounds x (g.C.Cells.cells c.args.cells.now) (g.C.Cells.released c.args.cells.now) c.args.words.now c.args.cursor.now) (c.in-Take.is ∙ ap (λ (ds : List ℕ). I.Take c.in-Take.register ds) (sym c.as_slice.ensures.same)) (c.requires.sure sure)

pub put_cell-requires-clause-sure : goal.put_cell-requires-clause-sure
put_cell-requires-clause-sure g c sure = (c.in-Put.ty, subst (λ (x : Instr). IsSureOf c.args.verified.now c.args.bounds x (g.C.Cells.cells c.args.cells.now) (g.C.Cells.released c.args.cells.now) c.args.words.now c.args.cursor.now) (c.in-Put.is ∙ ap (λ (ds : List ℕ). I.Put c.in-Put.register c.in-Put.ty c.in-Put.constructor ds) (sym c.as_slice-in-Put.ensures.same)) (c.requires.sure sure))
