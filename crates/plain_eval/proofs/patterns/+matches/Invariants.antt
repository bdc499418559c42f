use Rattle.std.proofs.Common.{◌≤◌}
use Rattle.fip_trees.specs.fip_language.Values.{Values}
use Rattle.fip_trees.specs.fip_language.Meaning.{Environment}
use Rattle.plain_rows.specs.Rows.{StandAll}
use Rattle.plain_eval.specs.Slots.{CoversNow, KeepsAll}
use Rattle.plain_eval.proofs.Choosing.{AreLeft}
use Rattle.plain_eval.proofs.patterns.«+matches».Given as goal

abbrev pub invariant-all_match-loop-pattern : goal.invariant-all_match-loop-pattern
invariant-all_match-loop-pattern l = record {
  keeps : KeepsAll l.store l.fn.variables.values.items l.store l.variables.values.items;
  longer : l.fn.variables.end ≤ l.variables.end;
  left : (env : Environment) (vs : Values) → CoversNow l.store l.fn.variables env → StandAll l.store l.values vs → AreLeft l.store l.patterns l.pattern-iterator.a.rest.now l.pattern-iterator.b.rest.now vs env l.variables;
}
