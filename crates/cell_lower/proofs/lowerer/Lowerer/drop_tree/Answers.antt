use Rattle.std.proofs.Common.{sym, ap, ◌∙◌}
use Rattle.lower_parts.specs.lowering_relation.Known.{Known}
use Rattle.lower_parts.proofs.lower_frame.Accounts.{tree_gone}
use Rattle.lower_parts.proofs.lower_frame.Losing.{loses_used}
use Rattle.lower_parts.proofs.Laying.{laid_drop}
use Rattle.lower_parts.proofs.Leaving.{drops_used}
use Rattle.lower_parts.proofs.Shedding.{sheds_drop}
use Rattle.cell_lower.proofs.lowerer.Lowerer.drop_tree.Goals as goal

pub returns-clause-loses : goal.returns-clause-loses
returns-clause-loses c = loses_used c.args.self.now.frame c.use_up.new.self c.args.register c.use_up.ensures.used

pub returns-clause-sheds : goal.returns-clause-sheds
returns-clause-sheds c = sheds_drop c.args.self.now.frame c.use_up.new.self c.args.self.now.buffer c.add.new.self c.args.register (sym c.is_owned.ensures.owned ∙ c.if-not-is_owned.false) c.use_up.ensures.used c.in_ok-add.ensures.added

pub returns-clause-laid : goal.returns-clause-laid
returns-clause-laid c = laid_drop c.args.self.now.frame c.use_up.new.self c.args.self.now.buffer c.add.new.self c.args.register (sym c.is_owned.ensures.owned ∙ c.if-not-is_owned.false) c.use_up.ensures.used c.in_ok-add.ensures.added

pub returns-clause-tree : goal.returns-clause-tree
returns-clause-tree c = tree_gone c.args.self.now.frame.held c.use_up.new.self.held c.args.register (ap (λ (x : Known). x.held) c.use_up.ensures.used)

pub returns-clause-drops : goal.returns-clause-drops
returns-clause-drops c = drops_used c.args.self.now.frame c.use_up.new.self c.args.register c.use_up.ensures.used
