-- The words end with the new cell's header and fields, and a bit marks its place.
use Rattle.std.proofs.Common.{◌≡◌, ◌∙◌, ◌++◌, ◌∷◌, Some, None, true, false, nat_eq, arith, ap, length}
use Rattle.std.specs.Prelude.{replicate, if◌then◌else◌}
use Rattle.std.specs.Vec.{vec_capacity}
use Rattle.fip_language.specs.Store.{Cell}
use Rattle.cell_store.specs.Flat.{header, parse, flags}
use Rattle.cell_store.specs.Made.{Stored}
use Rattle.cell_store.proofs.Parsed.{appended, count_le, length_parse}
use Rattle.cell_store.proofs.Keeps.{kept_appended}
use Rattle.cell_store.proofs.flat.Flat.append.Goals as goal

pub overflow_add-self-inside-2 : goal.overflow_add-self-inside-2
overflow_add-self-inside-2 c =
    let i = c.self.inside in
    let e = c.self.invariant.counted.exact (length c.args.fields.now) c.requires.few in
    let l = count_le (length c.args.fields.now) (parse 0 i.words.items) (flags 0 i.words.items) in
    let n = length_parse 0 i.words.items in
    let few = c.self.invariant.few in
    omega (arith, e, l, n, few)

pub take_room-requires-clause-near : goal.take_room-requires-clause-near
take_room-requires-clause-near c =
    let wide = c.self.invariant.marked.wide in
    let n = length_parse 0 c.self.inside.words.items in
    let ok = c.self.inside.words.ok.0 in
    let bits = c.self.inside.marks.ok.0 in
    let place = c.len-place.ensures in
    let few = c.requires.few in
    omega (arith, wide, n, ok, bits, place, few)

pub overflow_add-self-2 : goal.overflow_add-self-2
overflow_add-self-2 c =
    let i = c.self.inside in
    let e = c.self.invariant.counted.exact (length c.args.fields.now) c.requires.few in
    let l = count_le (length c.args.fields.now) (parse 0 i.words.items) (flags 0 i.words.items) in
    let n = length_parse 0 i.words.items in
    let few = c.self.invariant.few in
    omega (arith, e, l, n, few)

pub invariant_of-self-2 : goal.invariant_of-self-2
invariant_of-self-2 c =
    let i = c.self.inside in
    let old = i.words.items in
    let fs = c.args.fields.now in
    let h = header c.args.tag (length fs) in
    let words : c.push_words.new.words.items ≡ old ++ h ∷ fs = c.in_ok-push_words.ensures.items in
    let ok = i.words.ok.0 in
    let place = c.len-place.ensures in
    let length_is : c.len-place.result ≡ length old = omega (arith, ok, place) in
    let wide = c.in_ok-take_room.ensures.marks_wide in
    let same = c.mark.ensures.same in
    let left = c.if-self-size.false in
    rw words (kept_appended old i.marks.items c.mark.new.bits.items i.counts i.free.items c.take_room.new.free.items i.made (vec_capacity i.pushed) (vec_capacity c.take_room.new.pushed) i.left _ c.args.tag fs c.self.invariant c.requires.some c.requires.few c.ranges.tag.fits
    (omega (arith, wide, same, length_is))
    (λ q. c.mark.ensures.marked q ∙ (λ j. if nat_eq q (length_is j) then true else c.take_room.ensures.marks q j))
    c.take_room.ensures.free
    c.in_ok-take_room.ensures.free_more
    c.in_ok-take_room.ensures.pushed_more
    (omega (arith, left)))

pub returns-clause-made : goal.returns-clause-made
returns-clause-made c =
    let i = c.self.inside in
    let old = i.words.items in
    let fs = c.args.fields.now in
    let d : Cell = record { tag = c.args.tag; fields = fs } in
    let h = header c.args.tag (length fs) in
    let words : c.push_words.new.words.items ≡ old ++ h ∷ fs = c.in_ok-push_words.ensures.items in
    let a = appended old c.args.tag fs i.counts c.self.invariant.laid c.self.invariant.counted c.requires.some c.requires.few c.ranges.tag.fits in
    let ok = i.words.ok.0 in
    let place = c.len-place.ensures in
    let long = length_parse 0 old in
    let cells = ap (λ (s : Stored). length s.cells) c.self.view_is in
    let left = c.if-self-size.false in
    let left_is = ap (λ (s : Stored). s.left) c.self.view_is in
    record {
      place = omega (arith, ok, place, long, cells);
      cells = ap (parse 0) words ∙ a.cells ∙ ap (λ (s : Stored). s.cells ++ Some d ∷ replicate (length fs) None) c.self.view_is;
      released = ap (flags 0) words ∙ a.released ∙ ap (λ (s : Stored). s.released ++ false ∷ replicate (length fs) false) c.self.view_is;
      left = omega (arith, left, left_is);
    }
