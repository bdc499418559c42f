-- The place on top of the stack is that of a released cell of the size, and its words become those of the new cell.
use Rattle.std.proofs.Common.{◌+◌, ◌*◌, ◌≡◌, ◌∙◌, ◌∷◌, false, Some, arith, refl, ap, sym, suc, length, length-set, slice_set, slice_get}
use Rattle.std.specs.Prelude.{option_map}
use Rattle.std.specs.Vec.{vec_capacity}
use Rattle.fip_language.specs.Store.{Cell}
use Rattle.cell_store.specs.Cells.{cell_at, size_of}
use Rattle.cell_store.specs.Flat.{over_at, parse, flags}
use Rattle.cell_store.specs.Free.{stack_at}
use Rattle.cell_store.specs.Made.{Stored}
use Rattle.cell_store.proofs.Parsed.{over_head, count_le, length_parse}
use Rattle.cell_store.proofs.Keeps.{retakes, kept_retaken, kept_roomier}
use Rattle.cell_store.proofs.flat.Flat.retake.Goals as goal

pub index_mut-requires : goal.index_mut-requires
index_mut-requires c =
    let i = c.self.inside in
    let t = retakes i.words.items i.marks.items i.counts i.free.items i.made (vec_capacity i.pushed) i.left c.in-Some.p c.args.tag c.args.fields.now (stack_at c.take.new.stacks.items (length c.args.fields.now)).places c.self.invariant c.requires.few c.ranges.tag.fits c.in-Some.ensures.places in
    let room = t.1.room in
    let ok = i.words.ok.0 in
    omega (arith, room, ok)

pub write_words-requires : goal.write_words-requires
write_words-requires c =
    let i = c.self.inside in
    let t = retakes i.words.items i.marks.items i.counts i.free.items i.made (vec_capacity i.pushed) i.left c.in-Some.p c.args.tag c.args.fields.now (stack_at c.take.new.stacks.items (length c.args.fields.now)).places c.self.invariant c.requires.few c.ranges.tag.fits c.in-Some.ensures.places in
    let room = t.1.room in
    let set = length-set i.words.items c.in-Some.p (64 * c.args.tag + 2 * length c.args.fields.now) in
    record { room = omega (arith, room, set) }

pub overflow_add-self : goal.overflow_add-self
overflow_add-self c =
    let i = c.self.inside in
    let kept = c.self.invariant in
    let e = kept.counted.exact (length c.args.fields.now) c.requires.few in
    let l = count_le (length c.args.fields.now) (parse 0 i.words.items) (flags 0 i.words.items) in
    let n = length_parse 0 i.words.items in
    let few = kept.few in
    omega (arith, e, l, n, few)

pub invariant_of-self : goal.invariant_of-self
invariant_of-self c =
    let i = c.self.inside in
    let h = 64 * c.args.tag + 2 * length c.args.fields.now in
    let words : c.write_words.new.words.items ≡ over_at i.words.items c.in-Some.p (h ∷ c.args.fields.now) = c.write_words.ensures.written ∙ ap (λ k. over_at (slice_set i.words.items c.in-Some.p h) k c.args.fields.now) (let e : c.in-Some.p + 1 ≡ suc c.in-Some.p = omega arith in e) ∙ over_head i.words.items c.in-Some.p h c.args.fields.now in
    let kept = kept_retaken i.words.items i.marks.items i.counts i.free.items c.take.new.stacks.items i.made (vec_capacity i.pushed) i.left c.in-Some.p c.args.tag c.args.fields.now c.self.invariant c.requires.few c.ranges.tag.fits c.in-Some.ensures.places c.in-Some.ensures.room c.in-Some.ensures.others in
    rw words kept

pub invariant_of-self-in-None : goal.invariant_of-self-in-None
invariant_of-self-in-None c =
    let i = c.self.inside in
    kept_roomier i.words.items i.marks.items i.marks.items i.counts i.free.items c.take.new.stacks.items i.made (vec_capacity i.pushed) (vec_capacity i.pushed) i.left c.self.invariant (omega arith) (λ q. refl) c.in-None.ensures.none (omega arith)

pub returns-in-Some-clause-made : goal.returns-in-Some-clause-made
returns-in-Some-clause-made c =
    let i = c.self.inside in
    let h = 64 * c.args.tag + 2 * length c.args.fields.now in
    let words : c.write_words.new.words.items ≡ over_at i.words.items c.in-Some.p (h ∷ c.args.fields.now) = c.write_words.ensures.written ∙ ap (λ k. over_at (slice_set i.words.items c.in-Some.p h) k c.args.fields.now) (let e : c.in-Some.p + 1 ≡ suc c.in-Some.p = omega arith in e) ∙ over_head i.words.items c.in-Some.p h c.args.fields.now in
    let t = retakes i.words.items i.marks.items i.counts i.free.items i.made (vec_capacity i.pushed) i.left c.in-Some.p c.args.tag c.args.fields.now (stack_at c.take.new.stacks.items (length c.args.fields.now)).places c.self.invariant c.requires.few c.ranges.tag.fits c.in-Some.ensures.places in
    let d : Cell = record { tag = c.args.tag; fields = c.args.fields.now } in
    record {
      size = ap (λ (s : Stored). option_map size_of (cell_at s.cells c.in-Some.p)) (sym c.self.view_is) ∙ ap (option_map size_of) t.1.is ∙ ap (λ n. Some n) t.1.size;
      free = ap (λ (s : Stored). slice_get s.released c.in-Some.p) (sym c.self.view_is) ∙ t.1.released;
      cells = ap (parse 0) words ∙ t.1.cells ∙ ap (λ (s : Stored). slice_set s.cells c.in-Some.p (Some d)) c.self.view_is;
      released = ap (flags 0) words ∙ t.1.flags ∙ ap (λ (s : Stored). slice_set s.released c.in-Some.p false) c.self.view_is;
      left = ap (λ (s : Stored). s.left) c.self.view_is;
    }
