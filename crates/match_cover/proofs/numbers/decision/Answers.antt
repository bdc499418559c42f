use Rattle.std.proofs.Common.{rules, ap, subst, ◌∙◌, ◌++◌}
use Rattle.match_knowledge.proofs.Arms.{if_ok}
use Rattle.match_cover.specs.FoundView.{found_matches}
use Rattle.match_cover.specs.Matches.{block_matches, IsDecisionOf}
use Rattle.match_cover.proofs.MatchSteps.{met}
use Rattle.match_cover.proofs.numbers.decision.Goals as goal

pub returns-then-number-len : goal.returns-then-number-len
returns-then-number-len c =
    let tb = c.args.typed.now.program.types in
    let items = c.deref-instance-items.result.now in
    if_ok c.tree_of.result (λ o a. subst (λ z. IsDecisionOf tb z c.args.m.0 o) c.deref-instance-items.ensures.value (c.loop-instance.invariant tb o (met tb items c.loop-instance.instance-index c.loop-instance.number c.instance-item.result c.find_in_block.new.found.items c.sort.new.found.items c.index-f.result.now o (search rules) c.instance-item.is (c.in_ok-find_in_block.ensures ∙ ap (λ z. found_matches z ++ block_matches c.instance-item.result.body) c.new-found.ensures.items) (search rules) c.sort.ensures.same c.in_ok-sort.ensures.sorted c.index-f.ensures a))) c.tree_of.ensures
