use Rattle.std.proofs.Common.{refl}
use Rattle.match_cover.proofs.MatchSteps.{match_arm}
use Rattle.match_cover.proofs.matches.+find.Goals as goal

pub find_in_expression-returns-in_ok-find_in_block-in-Match : goal.find_in_expression-returns-in_ok-find_in_block-in-Match
find_in_expression-returns-in_ok-find_in_block-in-Match t c =
    match_arm c.find_in_bodies.result c.args.found.now.items c.push.new.self.items c.find_in_block.new.found.items c.find_in_bodies.new.found.items record { place = c.in-Match.place; ty = c.in-Match.ty; first = c.deref.result; others = c.deref-in-Match.result } c.args.expression.now c.in-Match.kind c.in-Match.ty c.in-Match.place c.in-Match.scrutinee c.in-Match.first c.in-Match.others c.deref-in-Match-2.result.now c.deref-in-Match-3.result.now c.in-Match.is refl refl c.deref.ensures c.deref-in-Match.ensures.value c.deref-in-Match-2.ensures c.deref-in-Match-3.ensures.value c.in_ok-push-in-Match.ensures.items c.in_ok-find_in_block-in-Match.ensures c.find_in_bodies.ensures
