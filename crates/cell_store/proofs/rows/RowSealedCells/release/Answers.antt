use Rattle.std.proofs.Common.{◌-◌, ◌≤◌, ◌∙◌, true, ap, sym, subst, arith, length-set, get_or, slice_set}
use Rattle.cell_store.specs.Cells.{size_of}
use Rattle.cell_store.specs.Flat.{IsCounted}
use Rattle.cell_store.proofs.Parsed.{counted_flag, counted_some}
use Rattle.cell_store.proofs.Rowed.{rows, row_within, row_is}
use Rattle.cell_store.proofs.rows.RowSealedCells.release.Goals as goal

pub overflow_sub-self : goal.overflow_sub-self
overflow_sub-self c =
    let there = rw (← c.self.view_is) at c.requires.there in
    let live = rw (← c.self.view_is) at c.requires.live in
    let within = row_within c.self.inside.rows.items c.args.p there in
    let is = row_is c.self.inside.rows.items c.args.p c.index.result.now within c.index.ensures in
    let bound = c.self.invariant.small c.args.p c.index.result.now within in
    let read = ap size_of c.index.ensures in
    let few : size_of c.index.result.now ≤ 16 = omega (arith, bound, read) in
    subst (λ n. 1 ≤ get_or c.self.inside.counts n 0) (sym c.size-size.ensures) (counted_some (rows c.self.inside.rows.items) c.self.inside.released.items c.self.inside.counts c.args.p c.index.result.now c.self.invariant.counted is live few)

pub bounds-self-inside-size-2 : goal.bounds-self-inside-size-2
bounds-self-inside-size-2 c =
    let there = rw (← c.self.view_is) at c.requires.there in
    let live = rw (← c.self.view_is) at c.requires.live in
    let within = row_within c.self.inside.rows.items c.args.p there in
    let is = row_is c.self.inside.rows.items c.args.p c.index.result.now within c.index.ensures in
    let bound = c.self.invariant.small c.args.p c.index.result.now within in
    let read = ap size_of c.index.ensures in
    let few : size_of c.index.result.now ≤ 16 = omega (arith, bound, read) in
    let size = c.size-size.ensures in
    omega (arith, few, size)

pub invariant_of-self : goal.invariant_of-self
invariant_of-self c =
    let there = rw (← c.self.view_is) at c.requires.there in
    let live = rw (← c.self.view_is) at c.requires.live in
    let within = row_within c.self.inside.rows.items c.args.p there in
    let is = row_is c.self.inside.rows.items c.args.p c.index.result.now within c.index.ensures in
    let bound = c.self.invariant.small c.args.p c.index.result.now within in
    let read = ap size_of c.index.ensures in
    let few : size_of c.index.result.now ≤ 16 = omega (arith, bound, read) in
    record {
      flags = length-set c.self.inside.released.items c.args.p true ∙ c.self.invariant.flags;
      small = c.self.invariant.small;
      counted = subst (λ n. IsCounted (rows c.self.inside.rows.items) (slice_set c.self.inside.released.items c.args.p true) (slice_set c.self.inside.counts n (get_or c.self.inside.counts n 0 - 1))) (sym c.size-size.ensures) (counted_flag (rows c.self.inside.rows.items) c.self.inside.released.items c.self.inside.counts c.args.p c.index.result.now c.self.invariant.counted is live few);
      room = c.self.invariant.room;
    }
