use Rattle.std.proofs.Common.{◌≤◌, ◌∷◌, Option, drop}
use Rattle.std.specs.Borrow.{Bor}
use Rattle.fip_trees.specs.fip_language.Values.{Value as Tree}
use Rattle.fip_trees.specs.fip_language.Meaning.{Environment}
use Rattle.fip_trees.specs.declared.program.Block.{Block}
use Rattle.fip_trees.specs.TreeView.{clauses}
use Rattle.plain_rows.specs.Rows.{Stands}
use Rattle.plain_eval.specs.declared.variables.Variables.{Variables}
use Rattle.plain_eval.specs.Slots.{CoversNow, KeepsAll}
use Rattle.plain_eval.specs.Choosing.{Chooses}
use Rattle.plain_eval.specs.Work.{clauses_size}
use Rattle.plain_eval.proofs.patterns.chosen.Given as goal

abbrev pub invariant-loop-clause : goal.invariant-loop-clause
invariant-loop-clause l = record {
  keeps : KeepsAll l.store l.fn.variables.values.items l.store l.variables.values.items;
  longer : l.fn.variables.end ≤ l.variables.end;
  size : clauses_size (clauses (drop l.clause-index l.others)) ≤ clauses_size (clauses (l.fn.first ∷ l.others));
  left : (env : Environment) (v : Tree) → CoversNow l.store l.fn.variables env → Stands l.store l.fn.value v → CoversNow l.store l.variables env × ((vars : Variables) (o : Option (Bor Block)) → Chooses (clauses (drop l.clause-index l.others)) v env l.store vars o → Chooses (clauses (l.fn.first ∷ l.others)) v env l.store vars o);
}
