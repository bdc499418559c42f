-- The words with the new header and fields are those of the same cells, but for this one.
use Rattle.std.proofs.Common.{arith, ap, ◌∙◌, ◌+◌, ◌*◌, ◌%◌, ◌≡◌, suc, length, slice_set, get_or, Some, sym}
use Rattle.std.specs.Vec.{vec_capacity}
use Rattle.cell_store.specs.Cells.{sizes}
use Rattle.cell_store.specs.Made.{Stored}
use Rattle.cell_store.specs.Flat.{parse, flags, over_at}
use Rattle.cell_store.proofs.Parsed.{known, overwrites, over_head, read_twice}
use Rattle.cell_store.proofs.Keeps.{kept_overwritten}
use Rattle.cell_store.proofs.flat.Flat.overwrite.Goals as goal

pub rewrite-requires : goal.rewrite-requires
rewrite-requires c =
    let ws = c.self.inside.words.items in
    let there = rw (← c.self.view_is) at c.requires.there in
    let head = read_twice ws c.args.p c.self.invariant.laid there in
    let o = overwrites ws c.args.p c.args.tag (get_or ws c.args.p 0) c.args.fields.now c.self.inside.counts c.self.invariant.laid there (rw (← c.self.view_is) at c.requires.size) c.self.invariant.counted head c.ranges.tag.fits in
    let room = o.room in
    omega (arith, room)

pub invariant_of-self : goal.invariant_of-self
invariant_of-self c =
    let i = c.self.inside in
    let ws = i.words.items in
    let h = get_or ws c.args.p 0 in
    let there = rw (← c.self.view_is) at c.requires.there in
    let head = read_twice ws c.args.p c.self.invariant.laid there in
    let words = c.rewrite.ensures.written ∙ ap (λ k. over_at (slice_set ws c.args.p (64 * c.args.tag + 2 * length c.args.fields.now + h % 2)) k c.args.fields.now) (let e : c.args.p + 1 ≡ suc c.args.p = omega arith in e) ∙ over_head ws c.args.p (64 * c.args.tag + 2 * length c.args.fields.now + h % 2) c.args.fields.now in
    let kept = kept_overwritten ws i.marks.items i.counts i.free.items i.made (vec_capacity i.pushed) i.left c.args.p c.args.tag h c.args.fields.now c.self.invariant there (rw (← c.self.view_is) at c.requires.size) head c.ranges.tag.fits in
    rw words kept

pub returns-clause-cells : goal.returns-clause-cells
returns-clause-cells c =
    let ws = c.self.inside.words.items in
    let h = get_or ws c.args.p 0 in
    let there = rw (← c.self.view_is) at c.requires.there in
    let head = read_twice ws c.args.p c.self.invariant.laid there in
    let o = overwrites ws c.args.p c.args.tag h c.args.fields.now c.self.inside.counts c.self.invariant.laid there (rw (← c.self.view_is) at c.requires.size) c.self.invariant.counted head c.ranges.tag.fits in
    let words = c.rewrite.ensures.written ∙ ap (λ k. over_at (slice_set ws c.args.p (64 * c.args.tag + 2 * length c.args.fields.now + h % 2)) k c.args.fields.now) (let e : c.args.p + 1 ≡ suc c.args.p = omega arith in e) ∙ over_head ws c.args.p (64 * c.args.tag + 2 * length c.args.fields.now + h % 2) c.args.fields.now in
    ap (parse 0) words ∙ o.cells ∙ ap (λ (s : Stored). slice_set s.cells c.args.p (Some (record { tag = c.args.tag; fields = c.args.fields.now }))) c.self.view_is

pub returns-clause-sizes : goal.returns-clause-sizes
returns-clause-sizes c =
    let ws = c.self.inside.words.items in
    let h = get_or ws c.args.p 0 in
    let there = rw (← c.self.view_is) at c.requires.there in
    let head = read_twice ws c.args.p c.self.invariant.laid there in
    let o = overwrites ws c.args.p c.args.tag h c.args.fields.now c.self.inside.counts c.self.invariant.laid there (rw (← c.self.view_is) at c.requires.size) c.self.invariant.counted head c.ranges.tag.fits in
    let words = c.rewrite.ensures.written ∙ ap (λ k. over_at (slice_set ws c.args.p (64 * c.args.tag + 2 * length c.args.fields.now + h % 2)) k c.args.fields.now) (let e : c.args.p + 1 ≡ suc c.args.p = omega arith in e) ∙ over_head ws c.args.p (64 * c.args.tag + 2 * length c.args.fields.now + h % 2) c.args.fields.now in
    ap (λ us. sizes (parse 0 us)) words ∙ ap sizes o.cells ∙ o.sizes ∙ ap (λ (s : Stored). sizes s.cells) c.self.view_is

pub returns-clause-released : goal.returns-clause-released
returns-clause-released c =
    let ws = c.self.inside.words.items in
    let h = get_or ws c.args.p 0 in
    let there = rw (← c.self.view_is) at c.requires.there in
    let head = read_twice ws c.args.p c.self.invariant.laid there in
    let o = overwrites ws c.args.p c.args.tag h c.args.fields.now c.self.inside.counts c.self.invariant.laid there (rw (← c.self.view_is) at c.requires.size) c.self.invariant.counted head c.ranges.tag.fits in
    let words = c.rewrite.ensures.written ∙ ap (λ k. over_at (slice_set ws c.args.p (64 * c.args.tag + 2 * length c.args.fields.now + h % 2)) k c.args.fields.now) (let e : c.args.p + 1 ≡ suc c.args.p = omega arith in e) ∙ over_head ws c.args.p (64 * c.args.tag + 2 * length c.args.fields.now + h % 2) c.args.fields.now in
    ap (flags 0) words ∙ o.released ∙ ap (λ (s : Stored). s.released) c.self.view_is
