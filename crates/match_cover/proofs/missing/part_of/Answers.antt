use Rattle.std.proofs.Common.{sym, ap, ◌∙◌}
use Rattle.match_knowledge.specs.View.{row}
use Rattle.match_cover.proofs.MissingSteps.{part_arm, row_test}
use Rattle.match_cover.proofs.missing.part_of.Goals as goal

pub returns-then-same_head : goal.returns-then-same_head
returns-then-same_head c =
    part_arm c.args.head.now c.args.j c.args.p.now c.in-Test.ty c.in-Test.g c.in-Test.ps.items c.deref.result.now c.get.result (sym c.same_head.ensures ∙ c.if-same_head.true) (ap row c.in-Test.is ∙ row_test c.in-Test.ty c.in-Test.g c.in-Test.ps) c.deref.ensures.value c.get.ensures.lookup.1 c.get.ensures.lookup.3
