use Rattle.std.proofs.Common.{◌∙◌, ap, sym}
use Rattle.fip_base.specs.CoreView.{parameter, signature_parameter}
use Rattle.closed_types.specs.SharedTrees.{trees}
use Rattle.closed_types.specs.Source.{Instance, is_scalar}
use Rattle.reached_instances.specs.SourceView.{source, instance}
use Rattle.closed_types.specs.Uses.{declared_type}
use Rattle.reached_instances.proofs.Closing.{instance_kept, ready_more}
use Rattle.reached_instances.proofs.Declaring.{other_types, other_marks, same_marks}
use Rattle.reached_instances.proofs.Fitting.{other_there, same_there}
use Rattle.closed_types.proofs.Growing.{more_within}
use Rattle.closed_types.proofs.Using.{tree_kept}
use Rattle.reached_instances.proofs.source.Source.same_parameter.Goals as goal

pub returns-then-first-second-clause-same : goal.returns-then-first-second-clause-same
returns-then-first-second-clause-same c = λ r q.
    let s = source c.args.self.now in
    let old = c.args.shared.now.branches in
    let mid = c.declared_type.new.shared.branches in
    let new = c.declared_type-2.new.shared.branches in
    let p = signature_parameter c.args.wanted.now in
    let f = parameter c.args.found.now in
    let t = declared_type s (instance (trees old) c.args.there.now) p.type in
    let u = declared_type s (instance (trees old) c.args.here.now) f.type in
    let g = c.in_ok-first.ensures.grows in
    let h = ready_more c.args.self.now old mid c.args.here.now g q in
    let one = tree_kept mid new c.in_ok-first.first c.in_ok-second.ensures.grows (c.in_ok-first.ensures.within r) ∙ c.in_ok-first.ensures.tree r in
    let two = c.in_ok-second.ensures.tree h ∙ ap (λ (j : Instance). declared_type s j f.type) (instance_kept c.args.here.now old mid g q.within) in
    other_types s t u p.lent f.lent (other_there new c.in_ok-first.first c.in_ok-second.second t u c.hold.ensures.shared (more_within mid new c.in_ok-first.first c.in_ok-second.ensures.grows (c.in_ok-first.ensures.within r)) (c.in_ok-second.ensures.within h) one two c.if-first-second.true)

pub returns-then-are_alike-clause-same : goal.returns-then-are_alike-clause-same
returns-then-are_alike-clause-same c = λ r q.
    let s = source c.args.self.now in
    let old = c.args.shared.now.branches in
    let mid = c.declared_type.new.shared.branches in
    let new = c.declared_type-2.new.shared.branches in
    let p = signature_parameter c.args.wanted.now in
    let f = parameter c.args.found.now in
    let t = declared_type s (instance (trees old) c.args.there.now) p.type in
    let u = declared_type s (instance (trees old) c.args.here.now) f.type in
    let g = c.in_ok-first.ensures.grows in
    let h = ready_more c.args.self.now old mid c.args.here.now g q in
    let one = tree_kept mid new c.in_ok-first.first c.in_ok-second.ensures.grows (c.in_ok-first.ensures.within r) ∙ c.in_ok-first.ensures.tree r in
    let two = c.in_ok-second.ensures.tree h ∙ ap (λ (j : Instance). declared_type s j f.type) (instance_kept c.args.here.now old mid g q.within) in
    same_marks s t u p.lent f.lent (same_there new c.in_ok-first.first c.in_ok-second.second t u c.hold.ensures.shared (more_within mid new c.in_ok-first.first c.in_ok-second.ensures.grows (c.in_ok-first.ensures.within r)) (c.in_ok-second.ensures.within h) one two c.if-first-second.false) (sym c.are_alike.ensures ∙ c.if-are_alike.true)

pub returns-clause-same : goal.returns-clause-same
returns-clause-same c = λ r q.
    let s = source c.args.self.now in
    let old = c.args.shared.now.branches in
    let mid = c.declared_type.new.shared.branches in
    let new = c.declared_type-2.new.shared.branches in
    let p = signature_parameter c.args.wanted.now in
    let f = parameter c.args.found.now in
    let t = declared_type s (instance (trees old) c.args.there.now) p.type in
    let u = declared_type s (instance (trees old) c.args.here.now) f.type in
    let g = c.in_ok-first.ensures.grows in
    let h = ready_more c.args.self.now old mid c.args.here.now g q in
    let one = tree_kept mid new c.in_ok-first.first c.in_ok-second.ensures.grows (c.in_ok-first.ensures.within r) ∙ c.in_ok-first.ensures.tree r in
    let two = c.in_ok-second.ensures.tree h ∙ ap (λ (j : Instance). declared_type s j f.type) (instance_kept c.args.here.now old mid g q.within) in
    c.is_scalar-scalar.ensures r.looked_up ∙ ap (is_scalar s) one
    ∙ other_marks s t u p.lent f.lent (same_there new c.in_ok-first.first c.in_ok-second.second t u c.hold.ensures.shared (more_within mid new c.in_ok-first.first c.in_ok-second.ensures.grows (c.in_ok-first.ensures.within r)) (c.in_ok-second.ensures.within h) one two c.if-first-second.false) (sym c.are_alike.ensures ∙ c.if-are_alike.false)
