use Rattle.std.proofs.Common.{◌∙◌, ◌+◌, ◌++◌, [], ◌∷◌, map, ap, subst, sym}
use Rattle.std.proofs.lemmas.List.{map-append}
use Rattle.std.proofs.lemmas.Result.{err_from_is_err_and}
use Rattle.trace_files.specs.Plain.{plain_cell}
use Rattle.trace_files.specs.Reading.{cells_of}
use Rattle.trace_files.proofs.Live.{UpTo, up_more, up_rising}
use Rattle.trace_files.proofs.Steps.{cells_more, cells_err}
use Rattle.trace_files.proofs.read.read_cells.Goals as goal

pub returns-in_err-cell-clause-reads : goal.returns-in_err-cell-clause-reads
returns-in_err-cell-clause-reads c =
    let p = err_from_is_err_and c.from_residual-in_err-cell.result c.from_residual-in_err-cell.ensures.1 in
    rw (p.1, p.2) (cells_err plain_cell cells_of c.in_ok-count.count c.loop-i.i c.loop-i.least c.loop-i.reader c.read_cell.new.reader c.read_cell.new.reader (cells_of c.loop-i.cells) c.in_err-cell.field-0.0 _ c.loop-i-test.true c.loop-i.invariant.reads c.in_err-cell.ensures.reads)

pub loop-i-preserved : goal.loop-i-preserved
loop-i-preserved c =
    let same = ap (map plain_cell) c.in_ok-push.ensures.items ∙ map-append plain_cell c.loop-i.cells.items (c.in_ok-cell.cell ∷ []) in
    let next = ap (λ n. n + 1) c.from-least.ensures in record {
      reads = cells_more c.in_ok-count.count c.loop-i.i c.loop-i.least (c.from-least.result + 1) (plain_cell c.in_ok-cell.cell) c.loop-i.reader c.read_cell.new.reader (cells_of c.loop-i.cells) (cells_of c.push.new.self) _ c.loop-i-test.true same next c.in_ok-cell.ensures.reads c.loop-i.invariant.reads;
      up = subst (λ xs. UpTo 0 xs (c.from-least.result + 1)) (sym same) (subst (UpTo 0 (cells_of c.loop-i.cells ++ plain_cell c.in_ok-cell.cell ∷ [])) (sym next) (up_more 0 c.loop-i.least (cells_of c.loop-i.cells) (plain_cell c.in_ok-cell.cell) c.loop-i.invariant.up c.in_ok-cell.ensures.above));
    }

pub returns-clause-rising : goal.returns-clause-rising
returns-clause-rising c = up_rising 0 c.loop-i.least (cells_of c.loop-i.cells) c.loop-i.invariant.up
