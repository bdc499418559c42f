use Rattle.std.proofs.Common.{rules, inl, inr, sym, ◌∙◌}
use Rattle.match_knowledge.specs.declared.heads.Head.TheVariants.{Tag}
use Rattle.match_knowledge.specs.View.{row, known, parts, knowns}
use Rattle.match_cover.specs.DecisionTree.{position, positions}
use Rattle.match_cover.proofs.TreeSteps.{leads, leads_not, pushed, none_pushed, ok_head, ok_position}
use Rattle.match_cover.proofs.trees.+test_of.Goals as goal

pub test_of_all-returns-clause-position : goal.test_of_all-returns-clause-position
test_of_all-returns-clause-position t c =
    let h = leads (Tag 0) c.args.ps.now c.args.ks.now c.first_asking-j.result c.index-ps-j.result c.index-ks-j.result c.first_asking-j.ensures (search rules) (search rules) c.index-ps-j.is c.index-ks-j.is in
    ok_position c.test_of.result (pushed c.args.at.now.items c.push.new.self.items c.test_of.new.at.items c.first_asking-j.result (position (row c.index-ps-j.result) (known c.index-ks-j.result)) (positions (parts c.args.ps.now) (knowns c.args.ks.now)) (search rules) h.0) c.test_of.ensures.position

pub test_of_all-returns-clause-head : goal.test_of_all-returns-clause-head
test_of_all-returns-clause-head t c =
    let h = leads (Tag 0) c.args.ps.now c.args.ks.now c.first_asking-j.result c.index-ps-j.result c.index-ks-j.result c.first_asking-j.ensures (search rules) (search rules) c.index-ps-j.is c.index-ks-j.is in
    ok_head c.test_of.result (λ q e. e ∙ sym h.1) c.test_of.ensures.head

pub test_of_all-returns-then-j-ps-clause-position : goal.test_of_all-returns-then-j-ps-clause-position
test_of_all-returns-then-j-ps-clause-position t c = let h = leads_not (Tag 0) c.args.ps.now c.args.ks.now c.first_asking-j.result c.first_asking-j.ensures (inl (search rules)) in none_pushed c.args.at.now.items (positions (parts c.args.ps.now) (knowns c.args.ks.now)) h.0

pub test_of_all-returns-then-j-ps-clause-head : goal.test_of_all-returns-then-j-ps-clause-head
test_of_all-returns-then-j-ps-clause-head t c = let h = leads_not (Tag 0) c.args.ps.now c.args.ks.now c.first_asking-j.result c.first_asking-j.ensures (inl (search rules)) in sym h.1

pub test_of_all-returns-then-j-ks-clause-position : goal.test_of_all-returns-then-j-ks-clause-position
test_of_all-returns-then-j-ks-clause-position t c = let h = leads_not (Tag 0) c.args.ps.now c.args.ks.now c.first_asking-j.result c.first_asking-j.ensures (inr (search rules)) in none_pushed c.args.at.now.items (positions (parts c.args.ps.now) (knowns c.args.ks.now)) h.0

pub test_of_all-returns-then-j-ks-clause-head : goal.test_of_all-returns-then-j-ks-clause-head
test_of_all-returns-then-j-ks-clause-head t c = let h = leads_not (Tag 0) c.args.ps.now c.args.ks.now c.first_asking-j.result c.first_asking-j.ensures (inr (search rules)) in sym h.1
