use Rattle.std.proofs.Common.{◌≡◌, ◌≢◌, ◌/◌, ◌∙◌, [], ◌∷◌, ◌++◌, None, Some, true, false, sym, ap, subst, arith}
use Rattle.std.specs.Prelude.{slice_get, slice_set}
use Rattle.cell_store.specs.Cells.{cell_at}
use Rattle.cell_store.specs.Reported.{Released}
use Rattle.machine_cells.specs.Counting.{CountsReleased}
use Rattle.machine_cells.proofs.Counts.{counts_release}
use Rattle.machine_cells.specs.Small.{store_of}
use Rattle.machine_cells.proofs.Pendings.{place_within, same_cell, is_there, given}
use Rattle.machine_cells.proofs.release.release_cell.Goals as goal

pub returns-in-Some-clause-released : goal.returns-in-Some-clause-released
returns-in-Some-clause-released g c small s is =
    let cs = g.C.Cells.cells c.args.cells.now in
    let rs = g.C.Cells.released c.args.cells.now in
    let p = c.args.word / 2 in
    let up = given (store_of cs rs) p s is in
    let there = is_there (cell_at cs p) up.cell (same_cell cs p ∙ up.at) in
    let within = place_within cs p there in
    let place = c.place_of.ensures (omega (arith, within, small)) in
    let same = c.in-Some.ensures.same ∙ place in
    (λ i. store_of (c.release.ensures.cells i) ((c.release.ensures.released ∙ ap (λ q. slice_set rs q true) same) i)) ∙ sym up.is

pub returns-in_default-clause-released : goal.returns-in_default-clause-released
returns-in_default-clause-released g c small s is =
    let cs = g.C.Cells.cells c.args.cells.now in
    let rs = g.C.Cells.released c.args.cells.now in
    let p = c.args.word / 2 in
    let up = given (store_of cs rs) p s is in
    let there = is_there (cell_at cs p) up.cell (same_cell cs p ∙ up.at) in
    let within = place_within cs p there in
    let place = c.place_of.ensures (omega (arith, within, small)) in
    absurd (c.in_default.not-Some c.place_of.result (c.live_cell_at.ensures.found (subst (λ q. cell_at cs q ≢ None) (sym place) there) (subst (λ q. slice_get rs q ≡ Some false) (sym place) up.live)))

pub returns-in-Some-clause-reported : goal.returns-in-Some-clause-reported
returns-in-Some-clause-reported g c small s is first ts reported =
    let cs = g.C.Cells.cells c.args.cells.now in
    let rs = g.C.Cells.released c.args.cells.now in
    let p = c.args.word / 2 in
    let up = given (store_of cs rs) p s is in
    let there = is_there (cell_at cs p) up.cell (same_cell cs p ∙ up.at) in
    let within = place_within cs p there in
    let place = c.place_of.ensures (omega (arith, within, small)) in
    subst (λ q. g.C.Cells.was_reported first (ts ++ Released q ∷ []) c.release.new.self) (c.in-Some.ensures.same ∙ place) (c.release.ensures.reported first ts reported)

pub returns-in_default-clause-reported : goal.returns-in_default-clause-reported
returns-in_default-clause-reported g c small s is first ts reported =
    let cs = g.C.Cells.cells c.args.cells.now in
    let rs = g.C.Cells.released c.args.cells.now in
    let p = c.args.word / 2 in
    let up = given (store_of cs rs) p s is in
    let there = is_there (cell_at cs p) up.cell (same_cell cs p ∙ up.at) in
    let within = place_within cs p there in
    let place = c.place_of.ensures (omega (arith, within, small)) in
    absurd (c.in_default.not-Some c.place_of.result (c.live_cell_at.ensures.found (subst (λ q. cell_at cs q ≢ None) (sym place) there) (subst (λ q. slice_get rs q ≡ Some false) (sym place) up.live)))

pub returns-in-Some-clause-counted : goal.returns-in-Some-clause-counted
returns-in-Some-clause-counted g c =
    let cs = g.C.Cells.cells c.args.cells.now in
    let rs = g.C.Cells.released c.args.cells.now in
    let freed = c.args.freed.now in
    let counts = c.count_one.new.freed in
    let one = counts_release cs rs c.in-Some.place c.cell_size.result freed counts c.in-Some.ensures.live c.cell_size.ensures.size c.count_one.ensures.one in
    subst (λ ds. CountsReleased cs rs freed ds (g.C.Cells.released c.release.new.self) counts) (sym c.release.ensures.cells) (subst (λ qs. CountsReleased cs rs freed cs qs counts) (sym c.release.ensures.released) one)
