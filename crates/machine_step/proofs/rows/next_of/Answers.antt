use Rattle.std.proofs.Common.{◌∙◌, length, refl, sym, subst}
use Rattle.std.proofs.lemmas.Option.{same_Some, slice_get_read}
use Rattle.cell_code.specs.Runnable.{Row, IsSafe}
use Rattle.cell_code.proofs.Following.{safe_here}
use Rattle.machine_step.specs.Placed.{body_at}
use Rattle.machine_step.proofs.rows.next_of.Goals as goal

pub returns : goal.returns
returns c =
    let b = body_at c.args.verified.now c.args.cursor.now in
    let instrs = c.args.cursor.now.instrs.now in
    let at = c.args.cursor.now.at in
    let h = safe_here b at c.requires.placed.safe in
    let read = slice_get_read instrs (length instrs) at c.index-instrs-cursor.result refl c.requires.placed.within c.index-instrs-cursor.is in
    record { row = subst (Row b at (IsSafe b)) (same_Some h.0 c.index-instrs-cursor.result (sym h.1 ∙ read)) h.2; is = read }
