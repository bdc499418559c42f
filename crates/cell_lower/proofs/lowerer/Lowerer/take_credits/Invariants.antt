use Rattle.std.proofs.Common.{◌≡◌, drop}
use Rattle.lower_parts.specs.Writing.{FollowCredits}
use Rattle.cell_lower.proofs.lowerer.Lowerer.take_credits.Given as goal

abbrev pub invariant-loop-size : goal.invariant-loop-size
invariant-loop-size l = record {
  rest : FollowCredits l.initial.self.frame l.sizes l.initial.registers.items l.self.frame (drop l.size-index l.sizes) l.registers.items;
  context : l.self.context ≡ l.initial.self.context;
  walk : l.self.walk ≡ l.initial.self.walk;
  gives_up : l.self.gives_up ≡ l.initial.self.gives_up;
  buffer : l.self.buffer ≡ l.initial.self.buffer;
}
