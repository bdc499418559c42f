use Rattle.std.proofs.Common.{arith, sym, ap, subst, ◌∙◌, ◌+◌, ◌<◌, ◌-◌, ◌≡◌, get_or, slice_set, true}
use Rattle.std.specs.Vec.{vec_capacity}
use Rattle.cell_store.specs.Made.{Stored}
use Rattle.cell_store.specs.Flat.{size}
use Rattle.cell_store.specs.Kept.{IsKept}
use Rattle.cell_store.proofs.Parsed.{known, read_or, releases, same_read}
use Rattle.cell_store.proofs.Keeps.{kept_put, kept_released}
use Rattle.cell_store.proofs.flat.Flat.release.Goals as goal

pub index-requires : goal.index-requires
index-requires c =
    let k = known 0 c.self.inside.words.items c.args.p c.self.invariant.laid (rw (← c.self.view_is) at c.requires.there) in
    let within = k.found.within in
    let ok = c.self.inside.words.ok.0 in
    omega (arith, within, ok)

pub index_mut-requires : goal.index_mut-requires
index_mut-requires c =
    let k = known 0 c.self.inside.words.items c.args.p c.self.invariant.laid (rw (← c.self.view_is) at c.requires.there) in
    let within = k.found.within in
    let ok = c.self.inside.words.ok.0 in
    omega (arith, within, ok)

pub overflow_add-index_mut : goal.overflow_add-index_mut
overflow_add-index_mut c =
    let k = known 0 c.self.inside.words.items c.args.p c.self.invariant.laid (rw (← c.self.view_is) at c.requires.there) in
    let small = k.found.small in
    let word = read_or c.self.inside.words.items c.args.p c.index_mut.result.now k.found.head c.index_mut.result.now k.found.read c.index_mut.ensures.value in
    omega (arith, small, word)

pub bounds-self-inside-size : goal.bounds-self-inside-size
bounds-self-inside-size c =
    let k = known 0 c.self.inside.words.items c.args.p c.self.invariant.laid (rw (← c.self.view_is) at c.requires.there) in
    let few = k.found.few in
    let word = read_or c.self.inside.words.items c.args.p c.index.result.now k.found.head c.index.result.now k.found.read c.index.ensures in
    subst (λ w. size w < 17) (sym word) (omega (arith, few))

pub overflow_sub-self : goal.overflow_sub-self
overflow_sub-self c =
    let r = releases c.self.inside.words.items c.args.p c.index.result.now c.self.inside.counts c.self.invariant.laid (rw (← c.self.view_is) at c.requires.there) (rw (← c.self.view_is) at c.requires.live) c.self.invariant.counted c.index.ensures in
    r.some

pub bounds-self-inside-size-2 : goal.bounds-self-inside-size-2
bounds-self-inside-size-2 c =
    let k = known 0 c.self.inside.words.items c.args.p c.self.invariant.laid (rw (← c.self.view_is) at c.requires.there) in
    let few = k.found.few in
    let word = read_or c.self.inside.words.items c.args.p c.index.result.now k.found.head c.index.result.now k.found.read c.index.ensures in
    subst (λ w. size w < 17) (sym word) (omega (arith, few))

pub put-requires : goal.put-requires
put-requires c =
    let i = c.self.inside in
    kept_put i.words.items i.marks.items i.counts i.free.items i.made (vec_capacity i.pushed) i.left c.args.p c.index.result.now c.self.invariant (rw (← c.self.view_is) at c.requires.there) (rw (← c.self.view_is) at c.requires.live) c.index.ensures

pub invariant_of-self : goal.invariant_of-self
invariant_of-self c =
    let i = c.self.inside in
    let same : c.index_mut.result.now ≡ c.index.result.now = same_read i.words.items c.args.p c.index_mut.result.now c.index.result.now (let k = known 0 i.words.items c.args.p c.self.invariant.laid (rw (← c.self.view_is) at c.requires.there) in k.found) c.index_mut.ensures.value c.index.ensures in
    subst (λ w. IsKept (slice_set i.words.items c.args.p (w + 1)) i.marks.items (slice_set i.counts (size c.index.result.now) (get_or i.counts (size c.index.result.now) 0 - 1)) c.put.new.stacks.items i.made (vec_capacity i.pushed) i.left) (sym same) (
    kept_released i.words.items i.marks.items i.counts i.free.items c.put.new.stacks.items i.made (vec_capacity i.pushed) i.left c.args.p c.index.result.now c.self.invariant (rw (← c.self.view_is) at c.requires.there) (rw (← c.self.view_is) at c.requires.live) c.index.ensures c.put.ensures.places c.put.ensures.room c.put.ensures.others)

pub returns-clause-cells : goal.returns-clause-cells
returns-clause-cells c =
    let r = releases c.self.inside.words.items c.args.p c.index_mut.result.now c.self.inside.counts c.self.invariant.laid (rw (← c.self.view_is) at c.requires.there) (rw (← c.self.view_is) at c.requires.live) c.self.invariant.counted c.index_mut.ensures.value in
    r.done.cells ∙ ap (λ (s : Stored). s.cells) c.self.view_is

pub returns-clause-released : goal.returns-clause-released
returns-clause-released c =
    let r = releases c.self.inside.words.items c.args.p c.index_mut.result.now c.self.inside.counts c.self.invariant.laid (rw (← c.self.view_is) at c.requires.there) (rw (← c.self.view_is) at c.requires.live) c.self.invariant.counted c.index_mut.ensures.value in
    r.done.released ∙ ap (λ (s : Stored). slice_set s.released c.args.p true) c.self.view_is
