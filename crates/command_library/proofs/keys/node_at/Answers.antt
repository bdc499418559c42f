use Rattle.std.proofs.Common.{◌∙◌, sym}
use Rattle.command_library.proofs.Nodes.{no_node, not_four, node_there}
use Rattle.command_library.proofs.keys.node_at.Goals as goal

pub returns-in_default : goal.returns-in_default
returns-in_default c = record {
  node = λ d xs h. no_node c.args.table.now c.args.cells.now.cells c.args.ty c.args.place d c.cell_tag.result xs c.fields_of.result.now h c.cell_tag.ensures c.fields_of.ensures.fields (sym c.sides_of.ensures.sides ∙ c.in_default.is);
}

pub returns-then-cell_size-ne4 : goal.returns-then-cell_size-ne4
returns-then-cell_size-ne4 c = record {
  node = λ d xs h. absurd (not_four c.args.table.now c.args.cells.now.cells c.args.ty c.args.place d c.cell_tag.result xs c.fields_of.result.now h c.cell_tag.ensures c.fields_of.ensures.fields c.in-Some.sides.0 c.in-Some.sides.1 (sym c.sides_of.ensures.sides ∙ c.in-Some.is) c.cell_size.result c.cell_size.ensures.size c.if-cell_size-ne4.true);
}

pub returns : goal.returns
returns c = record {
  node = λ d xs h. node_there c.args.table.now c.args.cells.now.cells c.args.ty c.args.place d c.cell_tag.result xs c.fields_of.result.now h c.cell_tag.ensures c.fields_of.ensures.fields c.in-Some.sides.0 c.in-Some.sides.1 (sym c.sides_of.ensures.sides ∙ c.in-Some.is) c.field.result c.field-2.result c.field-3.result c.field.ensures c.field-2.ensures c.field-3.ensures;
}
