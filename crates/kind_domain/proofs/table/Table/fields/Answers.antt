use Rattle.std.proofs.Common.{◌∙◌}
use Rattle.cell_code.specs.fip_language.Table.{constructors}
use Rattle.kind_domain.proofs.Types.{fields_found}
use Rattle.kind_domain.proofs.table.Table.fields.Goals as goal

pub returns-in-Some : goal.returns-in-Some
returns-in-Some c = record {
  same = c.fields.ensures.same ∙ fields_found (constructors c.args.self.now c.args.ty) c.constructors.result.now
      c.args.constructor c.in-Some.found.now c.constructors.ensures.same c.in-Some.ensures.lookup.3.0
      c.in-Some.ensures.lookup.1;
}
