use Rattle.std.proofs.Common.{ℕ, ◌≡◌, ◌<◌, ap, subst, ◌∙◌}
use Rattle.std.proofs.lemmas.Result.{IfOk-weaker}
use Rattle.derivation_trees.specs.Building.{built}
use Rattle.derivation_walk.specs.Growing.{Awaits}
use Rattle.derivation_walk.specs.Guides.{guided, holding, asking}
use Rattle.derivation_walk.specs.Costs.{cost}
use Rattle.derivation_walk.specs.Walked.{those, node, begun}
use Rattle.derivation_walk.proofs.WalkSteps.{begun_by}
use Rattle.derivation_walk.proofs.make.Guide.begin.Goals as goal

pub returns-clause-awaits : goal.returns-clause-awaits
returns-clause-awaits c =
    let g = guided c.args.self.now in
    let o = holding c.args.there in
    let b0 = built c.args.walk.now.nodes in
    let b1 = built c.enter.new.walk.nodes in
    let b2 = built c.open_asked.new.walk.nodes in
    let q = asking c.in_ok-asked.asked in
    let xs = c.in_ok-variables.variables.items in
    IfOk-weaker c.open_asked.result (λ (n : ℕ). Awaits n b1 b2 (node c.args.rule o xs q.need)) (λ (n : ℕ). Awaits n b0 b2 (begun g c.args.walk.now.next c.args.rule o))
    (λ n h. begun_by g n c.args.walk.now.next b0 b1 b2 c.args.rule o q xs (ap built c.in_ok-asked.ensures.same) c.in_ok-asked.ensures.asked (c.in_ok-variables.ensures ∙ ap (those g q) c.deref.ensures.value) h) c.open_asked.ensures.awaits

pub returns-clause-short : goal.returns-clause-short
returns-clause-short c =
    let g = guided c.args.self.now in
    let i = c.args.walk.now.next in
    let o = holding c.args.there in
    let q = asking c.in_ok-asked.asked in
    let xs = c.in_ok-variables.variables.items in
    let hx : xs ≡ those g q o.variables = c.in_ok-variables.ensures ∙ ap (those g q) c.deref.ensures.value in
    λ k ts.
    subst (λ n. n < cost (begun g i c.args.rule o ts)) c.in_ok-asked.ensures.room
    (subst (λ z. c.enter.new.walk.room < cost (node c.args.rule o (those g z o.variables) z.need ts)) c.in_ok-asked.ensures.asked
    (subst (λ ys. c.enter.new.walk.room < cost (node c.args.rule o ys q.need ts)) hx (c.open_asked.ensures.short k ts)))
