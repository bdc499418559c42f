use Rattle.std.proofs.Common.{◌≡◌, drop}
use Rattle.match_knowledge.specs.declared.unmatched.Choice.TheVariants.{Nothing}
use Rattle.match_knowledge.specs.Left.{IsChoice, AllMiss}
use Rattle.match_knowledge.specs.View.{rows, known}
use Rattle.match_knowledge.proofs.unmatched.choose.Given as goal

abbrev pub invariant-loop-p : goal.invariant-loop-p
invariant-loop-p l = record {
  place : l.i ≡ l.p-index;
  choice : IsChoice (rows l.ps) (known l.k) l.best;
  nothing : l.best ≡ Nothing → AllMiss (rows (drop l.p-index l.ps)) (known l.k) → AllMiss (rows l.ps) (known l.k);
}
