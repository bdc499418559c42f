use Rattle.std.proofs.Common.{false}
use Rattle.lower_parts.proofs.lower_frame.Losing.{loses_on}
use Rattle.lower_parts.specs.Writing.{setting}
use Rattle.lower_parts.proofs.Laying.{laid_fbip, laid_on}
use Rattle.lower_parts.proofs.Leaving.{leaves_fbip}
use Rattle.cell_lower.proofs.lowerer.Lowerer.give_up_to.Goals as goal

pub returns-clause-loses : goal.returns-clause-loses
returns-clause-loses c = loses_on _ _ _ c.in_ok-drop_but.ensures.loses c.in_ok-free_but.ensures.loses

pub returns-clause-laid : goal.returns-clause-laid
returns-clause-laid c = laid_fbip c.args.self.now.gives_up _ _ _ _ c.if-not-self.false (laid_on false _ _ _ _ _ _ c.in_ok-drop_but.ensures.laid c.in_ok-free_but.ensures.laid)

pub returns-clause-over : goal.returns-clause-over
returns-clause-over c = leaves_fbip (setting c.args.self.now.context.now) c.args.self.now.gives_up c.args.entry.now c.args.self.now.frame c.drop_but.new.self.frame c.free_but.new.self.frame c.args.self.now.buffer c.drop_but.new.self.buffer c.free_but.new.self.buffer c.args.used.now c.args.need.now c.args.given.now c.if-not-self.false c.in_ok-drop_but.ensures.laid c.in_ok-drop_but.ensures.drops c.in_ok-free_but.ensures.laid c.in_ok-free_but.ensures.frees
