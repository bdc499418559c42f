use Rattle.std.proofs.Common.{◌≡◌, drop}
use Rattle.lower_parts.specs.Writing.{FollowMoves}
use Rattle.cell_lower.proofs.lowerer.Lowerer.move_all.Given as goal

abbrev pub invariant-loop-source : goal.invariant-loop-source
invariant-loop-source l = record {
  place : l.place ≡ l.source-index;
  rest : FollowMoves l.initial.self.frame l.initial.self.buffer l.sources l.destinations l.self.frame l.self.buffer (drop l.place l.sources) (drop l.place l.destinations);
  context : l.self.context ≡ l.initial.self.context;
  gives_up : l.self.gives_up ≡ l.initial.self.gives_up;
  walk : l.self.walk ≡ l.initial.self.walk;
}
