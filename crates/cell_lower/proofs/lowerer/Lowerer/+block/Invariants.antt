use Rattle.std.proofs.Common.{◌≡◌, ◌+◌, not, drop}
use Rattle.fip_trees.specs.declared.program.Block.{out-Block}
use Rattle.fip_trees.specs.TreeView as V
use Rattle.lower_parts.specs.Writing.{setting, target_of}
use Rattle.lower_parts.proofs.Blocks.{Follows, rest_of}
use Rattle.lower_parts.proofs.Clauses.{FollowsClauses}
use Rattle.lower_parts.proofs.Following.{FollowsLaid, Walks, FollowClauses, WalksClauses}
use Rattle.cell_lower.proofs.lowerer.Lowerer.+block.Given as goal

abbrev pub invariant-block-loop-binding : goal.invariant-block-loop-binding
invariant-block-loop-binding l = record {
  context : l.self.context ≡ l.initial.self.context;
  gives_up : l.self.gives_up ≡ l.initial.self.gives_up;
  rest : Follows l.initial.self.context.now.program.now.types (setting l.initial.self.context.now) l.initial.self.frame l.initial.self.buffer (V.block l.block) l.self.frame l.self.buffer (rest_of l.binding-items l.binding-index (V.expression (out-Block l.block).last)) (target_of l.target);
  laid : FollowsLaid (setting l.initial.self.context.now) (not l.initial.self.gives_up) l.initial.self.walk.needs.now l.initial.self.frame l.initial.self.buffer (V.block l.block) l.self.walk.needs.now l.self.frame l.self.buffer (rest_of l.binding-items l.binding-index (V.expression (out-Block l.block).last)) (target_of l.target);
  walk : Walks l.initial.self.walk.needs.now (V.block l.block) l.self.walk.needs.now (rest_of l.binding-items l.binding-index (V.expression (out-Block l.block).last));
}

abbrev pub invariant-clauses-loop-clause : goal.invariant-clauses-loop-clause
invariant-clauses-loop-clause l = record {
  next : l.progress.clause ≡ l.initial.progress.clause + l.clause-index;
  context : l.self.context ≡ l.initial.self.context;
  gives_up : l.self.gives_up ≡ l.initial.self.gives_up;
  rest : FollowsClauses (setting l.initial.self.context.now) l.matching (target_of l.target) l.initial.progress l.initial.self.buffer (V.clauses l.clauses) l.progress l.self.buffer (V.clauses (drop l.clause-index l.clauses));
  laid : FollowClauses (setting l.initial.self.context.now) (not l.initial.self.gives_up) l.matching (target_of l.target) l.initial.self.walk.needs.now l.initial.progress l.initial.self.frame l.initial.self.buffer (V.clauses l.clauses) l.self.walk.needs.now l.progress l.self.frame l.self.buffer (V.clauses (drop l.clause-index l.clauses));
  walk : WalksClauses l.initial.self.walk.needs.now (V.clauses l.clauses) l.self.walk.needs.now (V.clauses (drop l.clause-index l.clauses));
}
