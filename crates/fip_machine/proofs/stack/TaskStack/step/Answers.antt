use Rattle.std.proofs.Common.{◌≡◌, ◌+◌, ◌≤◌, ◌∙◌, ◌++◌, ℕ, List, rules, refl, sym, ap, subst, arith, length, take}
use Rattle.std.specs.Vec.{with_items}
use Rattle.std.proofs.lemmas.List.{with_items_is}
use Rattle.cell_code.specs.Plain.{plain}
use Rattle.machine_cells.specs.machine_semantics.States.{State}
use Rattle.machine_cells.specs.machine_semantics.Steps.{next}
use Rattle.machine_cells.specs.Small.{store_of}
use Rattle.machine_cells.specs.Counting.{CountsReleased}
use Rattle.machine_step.specs.View.{state_of}
use Rattle.machine_step.specs.Coming.{Comes, KnowsAt}
use Rattle.machine_step.specs.Telling.{IsKnown, next_reports}
use Rattle.machine_step.proofs.Highs.{high_raised}
use Rattle.fip_machine.specs.Tasks.{Stand, IsMeasured, state_with}
use Rattle.fip_machine.proofs.Measured.{measured_of}
use Rattle.fip_machine.proofs.Tasked.{room_same}
use Rattle.machine_step.specs.Placed.{Waiting}
use Rattle.machine_step.proofs.Stacked.{keeps_less, waiting_keeps}
use Rattle.fip_machine.proofs.stack.TaskStack.step.Goals as goal

pub advance-stepped-requires-clause-waiting : goal.advance-stepped-requires-clause-waiting
advance-stepped-requires-clause-waiting g c =
    let i = c.self.inside in
    let room = c.self.invariant.placed.room in
    let base : i.cursor.base ≤ length i.words.items = omega (arith, room) in
    subst (λ ws. Waiting i.verified.now i.bounds ws i.cursor.frames i.cursor.base) (sym c.as_mut_slice.ensures.value)
    (waiting_keeps i.verified.now i.bounds i.words.items c.make_room.new.words.items i.cursor.frames i.cursor.base (keeps_less (length i.words.items) i.cursor.base i.words.items c.make_room.new.words.items base c.make_room.ensures.keeps) c.self.invariant.waiting)

pub returns-clause-next : goal.returns-clause-next
returns-clause-next g c kinds known going small empty lent =
    let i = c.self.inside in
    let v = i.verified.now in
    let b = i.bounds in
    let ws = i.words.items in
    let cursor = i.cursor in
    let s = store_of (g.C.Cells.cells c.args.cells.now) (g.C.Cells.released c.args.cells.now) in
    let t = store_of (g.C.Cells.cells c.advance-stepped.new.cells) (g.C.Cells.released c.advance-stepped.new.cells) in
    let r = c.advance-stepped.result in
    let us = c.advance-stepped.new.words in
    let after = c.advance-stepped.new.cursor in
    let given = take c.advance-stepped.new.beside.given c.advance-stepped.new.beside.results in
    let old = state_of v b lent s ws cursor in
    let mid = c.as_mut_slice.result.now in
    let knows : KnowsAt v kinds cursor.function cursor.at = subst (λ (w : Stand). KnowsAt w.code kinds w.running.function w.running.at) (sym c.self.view_is) known in
    let reported = c.advance-stepped.ensures.next kinds knows refl small empty lent in
    let same : state_of v b lent s mid cursor ≡ old = ap (λ xs. state_of v b lent s xs cursor) c.as_mut_slice.ensures.value ∙ room_same v b lent s ws c.make_room.new.words.items cursor c.self.invariant.placed.room c.make_room.ensures.more c.make_room.ensures.keeps in
    let first = subst (λ (st : State). Comes st (next kinds (plain v.code) st) r (state_of v b lent t us after) given) same reported in
    let items : (with_items c.make_room.new.words us).items ≡ us = with_items_is c.make_room.new.words us (search rules) in
    let second = subst (λ (xs : List ℕ). Comes old (next kinds (plain v.code) old) r (state_of v b lent t xs after) given) (sym items) first in
    subst (λ (w : Stand). Comes (state_with w lent s) (next kinds (plain w.code.code) (state_with w lent s)) r (state_of v b lent t (with_items c.make_room.new.words us).items after) given) c.self.view_is second

pub returns-in-Some-clause-measured : goal.returns-in-Some-clause-measured
returns-in-Some-clause-measured g c =
    let i = c.self.inside in
    let m = measured_of i.verified.now i.bounds i.words.items i.cursor i.beside c.self.invariant.placed.room c.self.invariant.waiting c.self.invariant.high in
    subst (λ (t : Stand). IsMeasured t) c.self.view_is (record { frames = m.frames; words = m.words; most_frames = m.most_frames; most_words = m.most_words })

pub returns-clause-measured : goal.returns-clause-measured
returns-clause-measured g c =
    let i = c.self.inside in
    let us = c.advance-stepped.new.words in
    let after = c.advance-stepped.new.cursor in
    let all = with_items c.make_room.new.words us in
    let items : all.items ≡ us = with_items_is c.make_room.new.words us (search rules) in
    let placed = c.advance-stepped.ensures.placed in
    let room : after.base + after.registers ≤ length all.items = subst (λ (xs : List ℕ). after.base + after.registers ≤ length xs) (sym items) placed.room in
    let waiting = subst (λ (xs : List ℕ). Waiting i.verified.now i.bounds xs after.frames after.base) (sym items) c.advance-stepped.ensures.waiting in
    let m = measured_of i.verified.now i.bounds all.items after c.advance-stepped.new.beside room waiting (high_raised i.cursor after (c.advance-stepped.ensures.raised c.self.invariant.high)) in
    record { frames = m.frames; words = m.words; most_frames = m.most_frames; most_words = m.most_words }

pub returns-clause-reported : goal.returns-clause-reported
returns-clause-reported g c kinds lent known going small empty goes first ts reported =
    let i = c.self.inside in
    let v = i.verified.now in
    let b = i.bounds in
    let ws = i.words.items in
    let cursor = i.cursor in
    let s = store_of (g.C.Cells.cells c.args.cells.now) (g.C.Cells.released c.args.cells.now) in
    let old = state_of v b lent s ws cursor in
    let mid = c.as_mut_slice.result.now in
    let knows : KnowsAt v kinds cursor.function cursor.at = subst (λ (w : Stand). KnowsAt w.code kinds w.running.function w.running.at) (sym c.self.view_is) known in
    let next_is : IsKnown (next kinds (plain v.code) old) = subst (λ (w : Stand). IsKnown (next kinds (plain w.code.code) (state_with w lent s))) (sym c.self.view_is) goes in
    let same : state_of v b lent s mid cursor ≡ old = ap (λ xs. state_of v b lent s xs cursor) c.as_mut_slice.ensures.value ∙ room_same v b lent s ws c.make_room.new.words.items cursor c.self.invariant.placed.room c.make_room.ensures.more c.make_room.ensures.keeps in
    let done = c.advance-stepped.ensures.reported kinds lent knows refl small empty (subst (λ (st : State). IsKnown (next kinds (plain v.code) st)) (sym same) next_is) first ts reported in
    let here = subst (λ (st : State). g.C.Cells.was_reported first (ts ++ next_reports kinds (plain v.code) st) c.advance-stepped.new.cells) same done in
    subst (λ (w : Stand). g.C.Cells.was_reported first (ts ++ next_reports kinds (plain w.code.code) (state_with w lent s)) c.advance-stepped.new.cells) c.self.view_is here

pub returns-in-Some-clause-counted : goal.returns-in-Some-clause-counted
returns-in-Some-clause-counted g c k low high few = refl

pub returns-clause-counted : goal.returns-clause-counted
returns-clause-counted g c =
    let m = c.advance-stepped.new.cells in
    subst (λ (t : Stand). CountsReleased (g.C.Cells.cells c.args.cells.now) (g.C.Cells.released c.args.cells.now) t.freed (g.C.Cells.cells m) (g.C.Cells.released m) c.advance-stepped.new.beside.freed) c.self.view_is (c.advance-stepped.ensures.counted refl)
