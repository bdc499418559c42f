use Rattle.std.proofs.Common.{◌∙◌, sym}
use Rattle.std.proofs.lemmas.Option.{none-some}
use Rattle.machine_step.proofs.Helps.{same_place}
use Rattle.machine_frames.specs.machine_semantics.Trees.{tree_of}
use Rattle.machine_cells.specs.Small.{store_of}
use Rattle.machine_step.proofs.rows.drop_tree.Goals as goal

pub returns-in-Some-clause-released : goal.returns-in-Some-clause-released
returns-in-Some-clause-released g c t known small empty x s tree goes =
    let first = store_of (g.C.Cells.cells c.args.cells.now) (g.C.Cells.released c.args.cells.now) in
    let type = same_place c.drop_type.result t c.in-Some.ty ((c.drop_type.ensures.exact t).1 known) c.in-Some.is in
    c.release_tree.ensures.released small empty x s ((λ i. tree_of (c.code.ensures.same i).types first (sym type i) c.args.word) ∙ tree) goes

pub returns-in_default-clause-released : goal.returns-in_default-clause-released
returns-in_default-clause-released g c t known small empty x s tree goes = absurd (none-some t (sym c.in_default.is ∙ (c.drop_type.ensures.exact t).1 known))

pub returns-in-Some-clause-reported : goal.returns-in-Some-clause-reported
returns-in-Some-clause-reported g c t known small empty x s tree goes first ts reported =
    let now = store_of (g.C.Cells.cells c.args.cells.now) (g.C.Cells.released c.args.cells.now) in
    let type = same_place c.drop_type.result t c.in-Some.ty ((c.drop_type.ensures.exact t).1 known) c.in-Some.is in
    c.release_tree.ensures.reported small empty x s ((λ i. tree_of (c.code.ensures.same i).types now (sym type i) c.args.word) ∙ tree) goes first ts reported

pub returns-in_default-clause-reported : goal.returns-in_default-clause-reported
returns-in_default-clause-reported g c t known small empty x s tree goes first ts reported = absurd (none-some t (sym c.in_default.is ∙ (c.drop_type.ensures.exact t).1 known))
