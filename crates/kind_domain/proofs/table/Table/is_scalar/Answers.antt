use Rattle.std.proofs.Common.{◌∙◌, ap}
use Rattle.code_rules.specs.Types.{is_scalar_type}
use Rattle.kind_domain.proofs.Types.{mark_found, mark_past}
use Rattle.kind_domain.proofs.table.Table.is_scalar.Goals as goal

pub returns-in-Some : goal.returns-in-Some
returns-in-Some c = record {
  is = mark_found c.self.inside.types.now c.self.inside.scalars.items c.deref.result.now c.args.ty c.in-Some.scalar.now
      c.self.invariant c.deref.ensures.value c.in-Some.ensures.lookup.3.0 c.in-Some.ensures.lookup.1
      ∙ ap (λ w. is_scalar_type w c.args.ty) c.self.view_is;
}

pub returns-in-None : goal.returns-in-None
returns-in-None c = record {
  is = mark_past c.self.inside.types.now c.self.inside.scalars.items c.deref.result.now c.args.ty c.self.invariant
      c.deref.ensures.value c.in-None.ensures.lookup.3 ∙ ap (λ w. is_scalar_type w c.args.ty) c.self.view_is;
}
