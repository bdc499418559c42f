use Rattle.std.proofs.Common.{◌≡◌, false, [], ◌∷◌, ◌++◌, ◌≤◌, length, length-append, sym, ◌∙◌, ap, arith}
use Rattle.std.proofs.lemmas.List.{map-append, length-map}
use Rattle.std.proofs.lemmas.List.Elements.{All-push}
use Rattle.std.proofs.lemmas.Slice.{pushed}
use Rattle.cell_store.specs.Cells.{size_of}
use Rattle.cell_store.proofs.Rowed.{row_count_le, row_counted, row_number}
use Rattle.cell_store.proofs.rows.RowLoader.cell.Goals as goal

pub overflow_add-self : goal.overflow_add-self
overflow_add-self c =
    let few = c.self.invariant.few in
    let most = row_count_le (length c.args.fields.now) c.self.inside.rows.items c.self.inside.released.items in
    let exact = c.self.invariant.counted.exact (length c.args.fields.now) c.requires.few in
    let ok = c.self.inside.rows.ok.0 in
    omega (arith, few, most, exact, ok)

pub invariant_of-self-2 : goal.invariant_of-self-2
invariant_of-self-2 c =
    let kept = c.self.invariant in
    let old = c.self.inside.rows.items in
    let rows = pushed (c.in_ok-row.row ∷ []) c.reserve-3.ensures.items c.unwrap.ensures c.push.ensures.items in
    let flags = pushed (false ∷ []) c.reserve-2.ensures.items c.unwrap-2.ensures c.push-2.ensures.items in
    let long : length c.self.inside.released.items ≡ length old = ap length kept.unreleased ∙ length-map old _ in
    record {
      unreleased = rw (rows, flags) (ap (λ bs. bs ++ false ∷ []) kept.unreleased ∙ sym (map-append _ old (c.in_ok-row.row ∷ [])));
      small = rw rows (All-push (λ d. size_of d ≤ 16) old c.in_ok-row.row kept.small (let e = ap size_of c.in_ok-row.ensures in let f = c.requires.few in omega (arith, e, f)));
      counted = rw (rows, flags, c.in_ok-row.ensures) (row_counted old c.self.inside.released.items c.self.inside.counts _ kept.counted long c.requires.few);
      room = rw rows (
          let n = row_number (old ++ c.in_ok-row.row ∷ []) in
          let l = length-append old (c.in_ok-row.row ∷ []) in
          let ok = c.self.inside.rows.ok.0 in
          let place = c.len-place.ensures in
          let room = c.in_ok-reserve.ensures.ok in
          omega (arith, n, l, ok, place, room));
      unpushed = c.reserve.ensures.items ∙ kept.unpushed;
      few = (
          let n = ap length rows in
          let l = length-append old (c.in_ok-row.row ∷ []) in
          let ok = c.self.inside.rows.ok.0 in
          let new = c.push.new.self.ok.0 in
          let few = kept.few in
          let left = c.if-self-size.false in
          let some = c.requires.some in
          omega (arith, n, l, ok, new, few, left, some));
    }
