use Rattle.std.proofs.Common.{◌≡◌, ◌∙◌, Bool, true, false, ◌&&◌, ℕ, List, map, bytes_eq, ap, sym}
use Rattle.fip_base.specs.CoreView as V
use Rattle.fip_base.specs.declared.core_form.Parameter.{Parameter}
use Rattle.closed_types.specs.SharedTrees.{all_at, trees}
use Rattle.closed_types.specs.Source.{Instance}
use Rattle.reached_instances.specs.SourceView.{source, instance}
use Rattle.closed_types.specs.Uses.{declared_type, no_credit, result_types, same_parameters, same_results}
use Rattle.reached_instances.proofs.Closing.{instance_kept, kept_all, ready_more}
use Rattle.reached_instances.proofs.Fitting.{all_same, all_same_at, same_results_all}
use Rattle.closed_types.proofs.Growing.{grows_more, within_more}
use Rattle.reached_instances.proofs.source.Source.header_fits.Goals as goal

three : (a b d r : Bool) → a ≡ true → b ≡ true → r ≡ d → r ≡ (a && (b && d))
three true true d r e f g = g
three true false d r e f g = cc
three false b d r e f g = cc

pub returns-clause-fit : goal.returns-clause-fit
returns-clause-fit c = λ r q.
    let self = c.args.self.now in
    let s = source self in
    let old = c.args.shared.now.branches in
    let one = c.same_parameters.new.shared.branches in
    let two = c.results.new.shared.branches in
    let new = c.results-2.new.shared.branches in
    let there = c.args.there.now in
    let here = c.args.here.now in
    let g = c.in_ok-same.ensures.grows in
    let g2 = grows_more old one two g c.in_ok-wanted.ensures.grows in
    let r1 = ready_more self old one there g r in
    let q2 = ready_more self old two here g2 q in
    let ws = result_types (V.result_type c.args.given.now) in
    let fs = result_types (V.result_type c.args.function.now.result) in
    let wanted = kept_all two new c.in_ok-wanted.wanted.items c.in_ok-found.ensures.grows (c.in_ok-wanted.ensures.within r1) ∙ c.in_ok-wanted.ensures.trees r1 ∙ ap (λ (j : Instance). map (declared_type s j) ws) (instance_kept there old one g r.within) in
    let found = c.in_ok-found.ensures.trees q2 ∙ ap (λ (j : Instance). map (declared_type s j) fs) (instance_kept here old two g2 q.within) in
    three (no_credit c.args.function.now.credits.items) (same_parameters s (instance (trees old) there) (instance (trees old) here) (map V.signature_parameter c.args.parameters.now) (map V.parameter c.args.function.now.parameters.items)) (same_results s (instance (trees old) there) (instance (trees old) here) ws fs) _
    (ap no_credit (sym c.deref.ensures.value) ∙ sym c.states_none.ensures ∙ c.if-not-states_none.false)
    (ap (λ (ps : List Parameter). same_parameters s (instance (trees old) there) (instance (trees old) here) (map V.signature_parameter c.args.parameters.now) (map V.parameter ps)) (sym c.deref-2.ensures.value) ∙ sym (c.in_ok-same.ensures.same r q) ∙ c.if-not-same.false)
    (c.are_same.ensures
    ∙ ap (λ (is : List ℕ). bytes_eq is c.deref-4.result.now) c.deref-3.ensures.value ∙ ap (bytes_eq c.in_ok-wanted.wanted.items) c.deref-4.ensures.value
    ∙ all_same_at new c.in_ok-wanted.wanted.items c.in_ok-found.found.items c.hold.ensures.shared (within_more two new c.in_ok-wanted.wanted.items c.in_ok-found.ensures.grows (c.in_ok-wanted.ensures.within r1)) (c.in_ok-found.ensures.within q2)
    ∙ ap (λ cs. all_same cs (all_at (trees new) c.in_ok-found.found.items)) wanted
    ∙ ap (all_same (map (declared_type s (instance (trees old) there)) ws)) found
    ∙ same_results_all s (instance (trees old) there) (instance (trees old) here) ws fs)
