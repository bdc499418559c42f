use Rattle.std.proofs.Common.{◌≡◌}
use Rattle.lower_parts.specs.lowering_relation.Losing.{Loses}
use Rattle.lower_parts.specs.lowering_relation.Written.{GivesUp}
use Rattle.std.proofs.Common.{false}
use Rattle.lower_parts.specs.Growth.{Sheds}
use Rattle.lower_parts.specs.Laying.{GivesUpLaid}
use Rattle.lower_parts.specs.Leaving.{FreesBut}
use Rattle.cell_lower.proofs.lowerer.Lowerer.free_but.Given as goal

abbrev pub invariant-loop-below : goal.invariant-loop-below
invariant-loop-below l = record {
  given_up : GivesUp l.initial.self.buffer l.self.buffer;
  loses : Loses l.initial.self.frame l.self.frame;
  sheds : Sheds l.initial.self.frame l.initial.self.buffer l.self.frame l.self.buffer;
  context : l.self.context ≡ l.initial.self.context;
  gives_up : l.self.gives_up ≡ l.initial.self.gives_up;
  walk : l.self.walk ≡ l.initial.self.walk;
  laid : GivesUpLaid false l.initial.self.frame l.initial.self.buffer l.self.frame l.self.buffer;
  frees : FreesBut l.entry l.need l.below l.initial.self.frame l.self.frame;
}
