use Rattle.std.proofs.Common.{get_or, refl, arith}
use Rattle.store_trees.proofs.Walking.{types_are, field_added, all_fields}
use Rattle.store_trees.proofs.trees.Trees.add_fields.Goals as goal

pub loop-i-preserved : goal.loop-i-preserved
loop-i-preserved g c = λ small a h is.
    let tb = c.args.table.now in
    let cs = g.C.Cells.cells c.args.cells.now in
    let types = c.fields_of-types.result.now in
    let same = types_are tb cs a c.args.tree c.tag_of.result types h is c.tag_of.ensures c.fields_of-types.ensures in
    field_added tb cs a c.args.tree types c.loop-i.i (get_or types c.loop-i.i 0) c.field_of.result c.args.self.now.list.items c.loop-i.self.list.items c.add_field.new.self.list.items h is same c.loop-i-test.true refl c.field_of.ensures (c.loop-i.invariant small a h is) (λ x stands word. c.in_ok-add_field.ensures small tb x stands word)

pub returns : goal.returns
returns g c = λ small a h is.
    let tb = c.args.table.now in
    let cs = g.C.Cells.cells c.args.cells.now in
    let types = c.fields_of-types.result.now in
    let same = types_are tb cs a c.args.tree c.tag_of.result types h is c.tag_of.ensures c.fields_of-types.ensures in
    all_fields a types c.loop-i.i c.args.self.now.list.items c.loop-i.self.list.items same (let f = c.loop-i-test.false in omega (arith, f)) (c.loop-i.invariant small a h is)
