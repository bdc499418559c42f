use Rattle.std.proofs.Common.{◌≡◌, ◌∙◌, ◌++◌, map, Option, Some, refl, sym, ap, subst, length, take}
use Rattle.cell_code.specs.Plain.{plain}
use Rattle.machine_frames.specs.machine_semantics.States.{State}
use Rattle.cell_code.specs.declared.code.Instr.{Instr}
use Rattle.machine_frames.specs.machine_semantics.Steps.{act, act_at, changes_at, instr_of, next}
use Rattle.machine_frames.specs.machine_semantics.Traces.{done_changes}
use Rattle.machine_cells.specs.Telling.{as_reported}
use Rattle.machine_step.specs.Telling.{IsKnown, act_reports, next_reports}
use Rattle.machine_cells.specs.Small.{store_of}
use Rattle.machine_step.specs.View.{state_of}
use Rattle.machine_step.specs.Coming.{Comes}
use Rattle.machine_step.proofs.Goings.{instr_is, next_is}
use Rattle.machine_step.proofs.Sures.{can_act}
use Rattle.machine_step.proofs.rows.advance.Goals as goal

pub returns-clause-next : goal.returns-clause-next
returns-clause-next g c kinds known once small empty lent =
    let v = c.args.verified.now in
    let b = c.args.bounds in
    let ws = c.args.words.now in
    let cursor = c.args.cursor.now in
    let s = store_of (g.C.Cells.cells c.args.cells.now) (g.C.Cells.released c.args.cells.now) in
    let old = state_of v b lent s ws cursor in
    let new = state_of v b lent (store_of (g.C.Cells.cells c.act.new.cells) (g.C.Cells.released c.act.new.cells)) c.act.new.words c.act.new.cursor in
    let given = take c.act.new.beside.given c.act.new.beside.results in
    let x = c.next_of-instr.result.now in
    let at = instr_is v b (length ws) cursor x c.requires.placed c.next_of-instr.ensures.is in
    let ks = kinds cursor.function cursor.at in
    let m = c.act.ensures.next kinds ks (λ r t e owned. known r t (at ∙ ap Some e) owned) small empty lent in
    let reported = next_is v b (length ws) kinds lent s ws cursor x c.act.result m.0.mid given c.requires.placed c.next_of-instr.ensures.is m.0.comes in
    subst (λ (t : State). Comes old (next kinds (plain v.code) old) c.act.result t given) (sym (m.1 once)) reported

pub returns-clause-more : goal.returns-clause-more
returns-clause-more g c kinds known small empty lent =
    let v = c.args.verified.now in
    let b = c.args.bounds in
    let ws = c.args.words.now in
    let cursor = c.args.cursor.now in
    let s = store_of (g.C.Cells.cells c.args.cells.now) (g.C.Cells.released c.args.cells.now) in
    let given = take c.act.new.beside.given c.act.new.beside.results in
    let x = c.next_of-instr.result.now in
    let at = instr_is v b (length ws) cursor x c.requires.placed c.next_of-instr.ensures.is in
    let ks = kinds cursor.function cursor.at in
    let m = c.act.ensures.next kinds ks (λ r t e owned. known r t (at ∙ ap Some e) owned) small empty lent in
    record {
      mid = m.0.mid;
      comes = next_is v b (length ws) kinds lent s ws cursor x c.act.result m.0.mid given c.requires.placed c.next_of-instr.ensures.is m.0.comes;
      more = m.0.more;
      last = m.0.last;
    }

pub returns-clause-reported : goal.returns-clause-reported
returns-clause-reported g c kinds lent known once small empty goes first ts reported =
    let v = c.args.verified.now in
    let b = c.args.bounds in
    let ws = c.args.words.now in
    let cursor = c.args.cursor.now in
    let s = store_of (g.C.Cells.cells c.args.cells.now) (g.C.Cells.released c.args.cells.now) in
    let old = state_of v b lent s ws cursor in
    let x = c.next_of-instr.result.now in
    let at = instr_is v b (length ws) cursor x c.requires.placed c.next_of-instr.ensures.is in
    let ks = kinds cursor.function cursor.at in
    let acts : act_at (plain v.code) ks old (instr_of (plain v.code) old) ≡ act (plain v.code) ks old x = ap (act_at (plain v.code) ks old) (at ∙ refl) in
    let reports : next_reports kinds (plain v.code) old ≡ act_reports (plain v.code) ks old x = ap (λ (o : Option Instr). map as_reported (done_changes (changes_at (plain v.code) ks old o) (act_at (plain v.code) ks old o))) at in
    subst (λ us. g.C.Cells.was_reported first (ts ++ us) c.act.new.cells) (sym reports) (c.act.ensures.reported ks lent (λ r t e owned. known r t (at ∙ ap Some e) owned) once small empty (subst IsKnown acts goes) first ts reported)

pub act-requires-clause-sure : goal.act-requires-clause-sure
act-requires-clause-sure g c sure =
    let v = c.args.verified.now in
    let ws = c.args.words.now in
    let cursor = c.args.cursor.now in
    let s = store_of (g.C.Cells.cells c.args.cells.now) (g.C.Cells.released c.args.cells.now) in
    let known = c.requires.sure sure in
    record {
      small = known.small;
      kinds = known.kinds;
      before = known.kinds cursor.function cursor.at;
      lent = known.lent;
      acts = can_act v c.args.bounds (length ws) known.kinds known.lent s ws cursor c.next_of-instr.result.now c.requires.placed c.next_of-instr.ensures.is known.goes;
    }
