use Rattle.std.proofs.Common.{◌≡◌, ◌+◌, ◌-◌, ◌/◌, ◌<◌, Some, slice_get, get_or, length, arith}
use Rattle.std.proofs.lemmas.Option.{slice_get-get_or}
use Rattle.trace_files.proofs.Live.{cells_in_order}
use Rattle.trace_files.proofs.read.number_of.Goals as goal

pub returns-then-at-place-clause-found : goal.returns-then-at-place-clause-found
returns-then-at-place-clause-found c =
    let list = c.args.cells.now in
    let m = c.loop-low.low + (c.loop-low.high - c.loop-low.low) / 2 in
    let d = get_or list m c.index-cells-middle.result in
    let t = c.loop-low-test.true in
    let within = c.loop-low.invariant.within in
    let lt : m < length list = omega (arith, t, within) in
    (d, slice_get-get_or list m c.index-cells-middle.result lt, c.if-at-place.true)

pub loop-low-preserved-then-at-place-2 : goal.loop-low-preserved-then-at-place-2
loop-low-preserved-then-at-place-2 c =
    let list = c.args.cells.now in
    let m = c.loop-low.low + (c.loop-low.high - c.loop-low.low) / 2 in
    let d = get_or list m c.index-cells-middle.result in
    let t = c.loop-low-test.true in
    let within = c.loop-low.invariant.within in
    let lt : m < length list = omega (arith, t, within) in
    let there : slice_get list m ≡ Some d = slice_get-get_or list m c.index-cells-middle.result lt in
    let less = c.if-at-place-2.true in record {
      within = within;
      before = λ rising k e is below. let le = cells_in_order list k m e d rising is there (omega (arith, below)) in omega (arith, le, less);
      following = c.loop-low.invariant.following;
    }

pub loop-low-preserved : goal.loop-low-preserved
loop-low-preserved c =
    let list = c.args.cells.now in
    let m = c.loop-low.low + (c.loop-low.high - c.loop-low.low) / 2 in
    let d = get_or list m c.index-cells-middle.result in
    let t = c.loop-low-test.true in
    let within = c.loop-low.invariant.within in
    let lt : m < length list = omega (arith, t, within) in
    let there : slice_get list m ≡ Some d = slice_get-get_or list m c.index-cells-middle.result lt in
    let other = c.if-at-place.false in
    let more = c.if-at-place-2.false in record {
      within = omega (arith, lt);
      before = c.loop-low.invariant.before;
      following = λ rising k e is above. let le = cells_in_order list m k d e rising there is above in omega (arith, le, other, more);
    }
