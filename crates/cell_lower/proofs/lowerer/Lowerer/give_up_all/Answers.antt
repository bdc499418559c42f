use Rattle.std.proofs.Common.{false}
use Rattle.lower_parts.proofs.lower_frame.Losing.{loses_on}
use Rattle.lower_parts.proofs.Laying.{gone_fbip, laid_fbip, laid_on}
use Rattle.cell_lower.proofs.lowerer.Lowerer.give_up_all.Goals as goal

pub returns-clause-loses : goal.returns-clause-loses
returns-clause-loses c = loses_on _ _ _ c.in_ok-drop_all.ensures.loses c.in_ok-free_all.ensures.loses

pub returns-clause-laid : goal.returns-clause-laid
returns-clause-laid c = laid_fbip c.args.self.now.gives_up _ _ _ _ c.if-not-self.false (laid_on false _ _ _ _ _ _ c.in_ok-drop_all.ensures.laid c.in_ok-free_all.ensures.laid)

pub returns-clause-gone : goal.returns-clause-gone
returns-clause-gone c = gone_fbip c.args.self.now.gives_up c.args.self.now.frame c.drop_all.new.self.frame c.free_all.new.self.frame c.args.self.now.buffer c.drop_all.new.self.buffer c.free_all.new.self.buffer c.if-not-self.false c.in_ok-drop_all.ensures.laid c.in_ok-drop_all.ensures.loses c.in_ok-drop_all.ensures.trees c.in_ok-free_all.ensures.laid c.in_ok-free_all.ensures.loses c.in_ok-free_all.ensures.spent
