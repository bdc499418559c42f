use Rattle.std.proofs.Common.{◌≡◌}
use Rattle.lower_parts.specs.lowering_relation.Losing.{Loses}
use Rattle.lower_parts.specs.lowering_relation.Written.{GivesUp}
use Rattle.lower_parts.specs.Growth.{Sheds}
use Rattle.lower_parts.specs.lower_frame.Credits.{NoBares}
use Rattle.lower_parts.specs.Laying.{GivesUpLaid}
use Rattle.std.proofs.Common.{true}
use Rattle.cell_lower.proofs.lowerer.Lowerer.end_bare.Given as goal

abbrev pub invariant-loop-register : goal.invariant-loop-register
invariant-loop-register l = record {
  given_up : GivesUp l.initial.self.buffer l.self.buffer;
  loses : Loses l.initial.self.frame l.self.frame;
  sheds : Sheds l.initial.self.frame l.initial.self.buffer l.self.frame l.self.buffer;
  context : l.self.context ≡ l.initial.self.context;
  gives_up : l.self.gives_up ≡ l.initial.self.gives_up;
  walk : l.self.walk ≡ l.initial.self.walk;
  laid : GivesUpLaid true l.initial.self.frame l.initial.self.buffer l.self.frame l.self.buffer;
  bares : NoBares l.register l.self.frame.held;
}
