use Rattle.std.proofs.Common.{sym}
use Rattle.cell_code.specs.Plain.{plain_label}
use Rattle.kind_domain.proofs.AskedMaps.{label_get}
use Rattle.kind_domain.proofs.label_sets.map_of.Goals as goal

pub returns-in-Some-clause-found : goal.returns-in-Some-clause-found
returns-in-Some-clause-found c = (
  plain_label c.in-Some.found.now,
  label_get c.args.labels.now c.args.label c.in-Some.found.now _ c.in-Some.ensures.lookup.3.0
      c.in-Some.ensures.lookup.1,
  sym c.deref.ensures.value,
)
