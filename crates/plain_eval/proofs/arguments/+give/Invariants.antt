use Rattle.std.proofs.Common.{List, drop}
use Rattle.fip_trees.specs.fip_language.Meaning.{Environment}
use Rattle.fip_trees.specs.TreeView.{arguments}
use Rattle.instance_semantics.specs.Meaning.{argument_values}
use Rattle.plain_rows.specs.declared.store.Value.{Value}
use Rattle.plain_rows.specs.declared.store.Store.{Store}
use Rattle.plain_rows.specs.Rows.{More}
use Rattle.plain_eval.specs.Slots.{CoversNow}
use Rattle.plain_eval.specs.Giving.{GivesAll}
use Rattle.plain_eval.proofs.arguments.«+give».Given as goal

abbrev pub invariant-give_all-loop-argument : goal.invariant-give_all-loop-argument
invariant-give_all-loop-argument l = record {
  kept : More l.fn.store l.store;
  gives : (env : Environment) → CoversNow l.fn.store l.variables env → (s : Store) (new : List Value) → More l.store s → GivesAll (argument_values env (arguments (drop l.argument-index l.arguments))) l.given.items s new → GivesAll (argument_values env (arguments l.arguments)) l.fn.given.items s new;
}
