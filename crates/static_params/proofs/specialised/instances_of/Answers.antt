use Rattle.std.proofs.Common.{◌∙◌, ◌++◌, ℕ, List, ap, sym, subst}
use Rattle.fip_language.specs.Mentions.{all_of}
use Rattle.fip_trees.specs.TreeView as W
use Rattle.fip_trees.specs.declared.program.Instance as I
use Rattle.static_params.specs.FlatProgram.{instances_of}
use Rattle.static_params.specs.FlatView.{IsMakingOf, numbers_at}
use Rattle.reached_instances.specs.closed_types.SharedTrees.{AreWithin, all_at, trees}
use Rattle.reached_instances.specs.SourceView as S
use Rattle.static_params.proofs.specialised.instances_of.Goals as goal

pub returns : goal.returns
returns c = λ r a.
    let s = c.args.source.now in
    let n = c.args.numbers.now in
    let k = c.args.shared in
    let ts = trees k.branches in
    let ready : IsMakingOf s n (record { function = 0; given = c.new-given.result; number = 0 }) k = record { right = r; numbers = a; given = subst (AreWithin k.branches) (sym c.new-given.ensures.items) tt } in
    c.in_ok-put_instances.ensures ready (subst (AreWithin k.branches) (sym c.as_slice.ensures.same) a.instances)
    ∙ ap (λ (l : List I.Instance). W.instances l ++ all_of (instances_of (S.source s) (numbers_at ts n)) (all_at ts c.as_slice.result.now)) c.new-instances.ensures.items
    ∙ ap (λ (is : List ℕ). all_of (instances_of (S.source s) (numbers_at ts n)) (all_at ts is)) c.as_slice.ensures.same
