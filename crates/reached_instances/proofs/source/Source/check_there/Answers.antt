use Rattle.std.proofs.Common.{◌≡◌, ◌∙◌, ◌+◌, ℕ, Some, List, map, slice_get, option_map, not, ap, sym, subst}
use Rattle.fip_base.specs.fip_language.Core.{Static}
use Rattle.fip_base.specs.CoreView.{static, written}
use Rattle.fip_trees.specs.Least.{after}
use Rattle.closed_types.specs.SharedTrees.{NoneOrWithin, tree_at, trees}
use Rattle.closed_types.specs.Source.{Instance, statics_at}
use Rattle.reached_instances.specs.SourceView.{source, instance}
use Rattle.closed_types.specs.Uses.{static_fits}
use Rattle.closed_types.specs.UsesView.{all_trees, argument_or_none, misfit_at}
use Rattle.closed_types.proofs.Arguing.{fit_step, given_there, misfit_step}
use Rattle.reached_instances.proofs.Fitting.{asked_kept, same_instance}
use Rattle.closed_types.proofs.Declarations.{at_there}
use Rattle.closed_types.proofs.Growing.{grows_more}
use Rattle.closed_types.proofs.Lists.{mapped_item}
use Rattle.closed_types.proofs.Using.{argument_within, one_kept, one_within}
use Rattle.reached_instances.proofs.source.Source.check_there.Goals as goal

pub loop-parameter-preserved : goal.loop-parameter-preserved
loop-parameter-preserved c =
    let self = c.args.self.now in
    let s = source self in
    let there = c.args.there.now in
    let old = c.args.shared.now.branches in
    let mid = c.loop-parameter.shared.branches in
    let new = c.check_one.new.shared.branches in
    let ps = c.statics-parameters.result.now in
    let as' = c.args.arguments.now in
    let os = all_trees (trees old) as' in
    let k = c.loop-parameter.parameter-index in
    let x = c.parameter-item.result in
    let o = c.argument_at-argument.result in
    let h = instance (trees old) there in
    let g = c.loop-parameter.invariant.grows in
    let i = c.loop-parameter.invariant.index in
    let there_is : o ≡ argument_or_none (slice_get as' k) = c.argument_at-argument.ensures ∙ ap (λ (n : ℕ). argument_or_none (slice_get as' n)) i in
    let asks : slice_get (statics_at s there.function) c.loop-parameter.number ≡ Some (static x) = ap (λ (xs : List Static). slice_get xs c.loop-parameter.number) (sym c.statics-parameters.ensures) ∙ ap (slice_get (map static ps)) i ∙ at_there static ps k x c.loop-parameter-test.true c.parameter-item.is in
    record {
      index = ap (λ n. n + 1) i;
      grows = grows_more old mid new g c.in_ok-fit.ensures.grows;
      right = λ r a w.
          c.in_ok-fit.ensures.right (c.loop-parameter.invariant.right r a w) (asked_kept old mid c.args.place there g a)
          (one_within old mid o g (subst (NoneOrWithin old) (sym there_is) (argument_within old as' k w))) asks;
      fit = λ r a w.
          let within = subst (NoneOrWithin old) (sym there_is) (argument_within old as' k w) in
          let one = c.in_ok-fit.ensures.fit (c.loop-parameter.invariant.right r a w) (asked_kept old mid c.args.place there g a) (one_within old mid o g within) asks in
          let two = ap (λ (j : Instance). static_fits s j (static x) (option_map (tree_at (trees mid)) o)) (same_instance old mid there g a.within) in
          let three = ap (static_fits s h (static x)) (one_kept old mid o g within) in
          fit_step s h (map static ps) os k (static x) (option_map (tree_at (trees old)) o) c.loop-parameter.all c.in_ok-fit.fit c.both-next.result _ (mapped_item static ps k x c.loop-parameter-test.true c.parameter-item.is)
          (given_there (trees old) as' k ∙ ap (option_map (tree_at (trees old))) (sym there_is)) (one ∙ two ∙ three) c.both-next.ensures (c.loop-parameter.invariant.fit r a w);
      faults = λ r a w.
          let within = subst (NoneOrWithin old) (sym there_is) (argument_within old as' k w) in
          let one = c.in_ok-fit.ensures.fit (c.loop-parameter.invariant.right r a w) (asked_kept old mid c.args.place there g a) (one_within old mid o g within) asks in
          let two = ap (λ (j : Instance). static_fits s j (static x) (option_map (tree_at (trees mid)) o)) (same_instance old mid there g a.within) in
          let three = ap (static_fits s h (static x)) (one_kept old mid o g within) in
          misfit_step s c.args.here.now.number h (map static ps) c.args.statics.now os k (static x) (option_map (tree_at (trees old)) o) c.in_ok-fit.fit c.args.least.now c.loop-parameter.least c.note_misfit.new.least (mapped_item static ps k x c.loop-parameter-test.true c.parameter-item.is)
          (given_there (trees old) as' k ∙ ap (option_map (tree_at (trees old))) (sym there_is)) (one ∙ two ∙ three)
          (c.in_ok-note_misfit.ensures ∙ ap (λ (n : ℕ). after c.loop-parameter.least (misfit_at c.args.here.now.number (not c.in_ok-fit.fit) (slice_get (map written c.args.statics.now) n))) i) (c.loop-parameter.invariant.faults r a w);
    }
