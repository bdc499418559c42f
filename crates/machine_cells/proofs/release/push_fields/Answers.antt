use Rattle.std.proofs.Common.{◌≡◌, ◌+◌, ◌-◌, ◌<◌, ◌≤◌, ◌∙◌, Some, ap, sym, subst, arith, length}
use Rattle.std.specs.Prelude.{option_map}
use Rattle.std.proofs.lemmas.Option.{same_Some}
use Rattle.cell_store.specs.Cells.{cell_at, number, size_of}
use Rattle.machine_cells.specs.Pending.{field_entry}
use Rattle.machine_cells.proofs.Pendings.{push_next}
use Rattle.machine_cells.proofs.release.push_fields.Goals as goal

pub loop-i-preserved : goal.loop-i-preserved
loop-i-preserved g c = record {
  cells = c.push_field.ensures.cells ∙ c.loop-i.invariant.cells;
  released = c.push_field.ensures.released ∙ c.loop-i.invariant.released;
  few = (let a = c.push_field.ensures.few in let b = c.loop-i.invariant.few in omega (arith, a, b));
  pushed = λ cell is same room.
      let k = c.loop-i.i - 1 in
      let size : length cell.fields ≡ c.cell_size-size.result = same_Some (length cell.fields) c.cell_size-size.result (sym (ap (option_map size_of) is) ∙ c.cell_size-size.ensures.size) in
      let lt : k < length c.args.types.now = omega (arith, size, same) in
      let next = push_next c.args.types.now cell.fields (g.C.Cells.pushed c.args.cells.now) (g.C.Cells.pushed c.loop-i.cells) c.loop-i.i k (number (g.C.Cells.cells c.args.cells.now)) (omega arith) lt same (c.loop-i.invariant.pushed cell is same room) room in
      let at : cell_at (g.C.Cells.cells c.loop-i.cells) c.args.place ≡ Some cell = ap (λ cs. cell_at cs c.args.place) c.loop-i.invariant.cells ∙ is in
      c.push_field.ensures.pushed cell at lt (subst (λ cs. length (g.C.Cells.pushed c.loop-i.cells) + length (field_entry c.args.types.now cell.fields k) ≤ number cs) (sym c.loop-i.invariant.cells) next.0) ∙ next.1;
  reported = λ first ts reported. c.push_field.ensures.reported first ts (c.loop-i.invariant.reported first ts reported);
}
