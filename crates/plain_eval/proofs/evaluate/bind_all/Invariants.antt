use Rattle.std.proofs.Common.{◌≤◌}
use Rattle.fip_trees.specs.fip_language.Values.{Values}
use Rattle.fip_trees.specs.fip_language.Meaning.{Environment}
use Rattle.plain_rows.specs.declared.store.Store.{Store}
use Rattle.plain_rows.specs.Rows.{StandAll}
use Rattle.plain_eval.specs.Slots.{CoversNow, KeepsAll}
use Rattle.plain_eval.proofs.Steps.{BindLeft}
use Rattle.plain_eval.proofs.evaluate.bind_all.Given as goal

abbrev pub invariant-loop-binder : goal.invariant-loop-binder
invariant-loop-binder l = record {
  covers : (s : Store) (env : Environment) (vs : Values) → CoversNow s l.fn.variables env → StandAll s l.values vs → BindLeft s env l.binders vs l.binder-iterator.a.rest.now l.binder-iterator.b.rest.now l.variables;
  keeps : (s : Store) → KeepsAll s l.fn.variables.values.items s l.variables.values.items;
  longer : l.fn.variables.end ≤ l.variables.end;
}
