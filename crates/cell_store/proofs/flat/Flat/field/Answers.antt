use Rattle.std.proofs.Common.{arith, refl, ap, ◌∙◌, ◌+◌, ◌<◌, length}
use Rattle.std.specs.Prelude.{option_and_then, slice_get}
use Rattle.std.proofs.lemmas.Option.{slice_get_read}
use Rattle.fip_language.specs.Store.{Cell}
use Rattle.cell_store.proofs.Parsed.{found, has_field}
use Rattle.cell_store.specs.Cells.{cell_at, size_in}
use Rattle.cell_store.specs.Flat.{parse}
use Rattle.cell_store.proofs.flat.Flat.field.Goals as goal

pub overflow_add-p-2 : goal.overflow_add-p-2
overflow_add-p-2 c =
    let h = rw (← c.self.view_is) at c.requires in
    let k = has_field (cell_at (parse 0 c.self.inside.words.items) c.args.p) c.args.i h in
    let f = found 0 c.self.inside.words.items c.args.p k.0 c.self.invariant.laid k.1 in
    let few = f.few in
    let long = f.long in
    let size = ap size_in k.1 in
    let p = c.ranges.p in
    omega (arith, h, few, long, size, p)

pub index-requires : goal.index-requires
index-requires c =
    let h = rw (← c.self.view_is) at c.requires in
    let k = has_field (cell_at (parse 0 c.self.inside.words.items) c.args.p) c.args.i h in
    let f = found 0 c.self.inside.words.items c.args.p k.0 c.self.invariant.laid k.1 in
    let within = f.within in
    let long = f.long in
    let size = ap size_in k.1 in
    let ok = c.self.inside.words.ok.0 in
    omega (arith, h, within, long, size, ok)

pub returns : goal.returns
returns c =
    let h = rw (← c.self.view_is) at c.requires in
    let ws = c.self.inside.words.items in
    let k = has_field (cell_at (parse 0 ws) c.args.p) c.args.i h in
    let f = found 0 ws c.args.p k.0 c.self.invariant.laid k.1 in
    let within = f.within in
    let long = f.long in
    let size = ap size_in k.1 in
    let there : c.args.p + 1 + c.args.i < length ws = omega (arith, h, within, long, size) in
    rw (← c.self.view_is) (ap (option_and_then (λ (d : Cell). slice_get d.fields c.args.i)) k.1 ∙ f.fields c.args.i (omega (arith, h, long, size)) ∙ slice_get_read ws (length ws) (c.args.p + 1 + c.args.i) c.index.result.now refl there c.index.ensures)
