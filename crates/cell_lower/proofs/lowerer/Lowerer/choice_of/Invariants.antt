use Rattle.std.proofs.Common.{◌≡◌, drop, ◌+◌, ◌++◌, ◌∷◌, ◌&&◌, not, length}
use Rattle.fip_trees.specs.TreeView as V
use Rattle.lower_parts.specs.lowering_relation.Written.{Extends, size}
use Rattle.lower_parts.specs.lowering_relation.Rows.{patterns_in}
use Rattle.lower_parts.specs.lower_frame.Registers.{HasRoom}
use Rattle.lower_parts.specs.lower_frame.Labels.{labels}
use Rattle.lower_parts.specs.lower_frame.Positions.{reaching}
use Rattle.lower_parts.specs.Scenes.{patterns_of}
use Rattle.lower_parts.specs.Clauses.{HasPositions}
use Rattle.lower_parts.specs.lowering_relation.Values.{is_scalar}
use Rattle.lower_parts.specs.Writing.{setting}
use Rattle.cell_lower.proofs.lowerer.Lowerer.choice_of.Given as goal

abbrev pub invariant-loop-clause : goal.invariant-loop-clause
invariant-loop-clause l = record {
  positions : HasPositions l.choice l.register l.written.ty l.fn.self.frame.next l.self.frame.next;
  patterns : patterns_of l.choice ++ patterns_in (V.clauses (drop l.clause-index l.written.others.now)) ≡ (V.clause l.written.first.now).pattern ∷ patterns_in (V.clauses l.written.others.now);
  frame : l.self.frame ≡ reaching l.fn.self.frame l.self.frame.next;
  extends : Extends l.fn.self.buffer l.self.buffer;
  room : HasRoom l.fn.self.frame l.self.frame;
  as_long : size l.self.buffer ≡ size l.fn.self.buffer;
  entries : length l.choice.entries.items ≡ length (patterns_of l.choice);
  takes : l.choice.takes ≡ (l.written.destructive && not (is_scalar (setting l.fn.self.context.now) l.written.ty));
  maps : l.self.buffer.maps ≡ l.fn.self.buffer.maps;
  labels : labels l.self.buffer ≡ labels l.fn.self.buffer + length (patterns_of l.choice);
  context : l.self.context ≡ l.fn.self.context;
  gives_up : l.self.gives_up ≡ l.fn.self.gives_up;
  walk : l.self.walk ≡ l.fn.self.walk;
}
