use Rattle.std.proofs.Common.{◌∙◌, ◌++◌, List, Option, ap, sym, subst, append-nil}
use Rattle.fip_trees.specs.Tree as T
use Rattle.fip_trees.specs.TreeView as W
use Rattle.reached_instances.specs.declared.source.Here.{Here}
use Rattle.static_params.specs.FlatProgram.{instances_of}
use Rattle.static_params.specs.FlatView.{IsMakingOf, Making, making}
use Rattle.reached_instances.specs.closed_types.SharedTrees.{tree_at, trees}
use Rattle.reached_instances.specs.SourceView.{IsFunctionAt, IsHere}
use Rattle.static_params.proofs.Making.{goes_same, no_instances}
use Rattle.static_params.proofs.specialised.put_instance.Goals as goal

pub returns-in_ok-put_found-in-Some-clause-goes : goal.returns-in_ok-put_found-in-Some-clause-goes
returns-in_ok-put_found-in-Some-clause-goes c = λ m.
    let old = c.args.flattening.now in
    let x = c.in-Some.here in
    let h : IsFunctionAt old.shared.branches c.args.place 0 x = subst (λ (o : Option Here). IsHere old.shared.branches c.args.place 0 o) c.in-Some.is c.in_ok-here.ensures in
    let ready : IsMakingOf old.source.now old.numbers.now x old.shared = record { right = m.right; numbers = m.numbers; given = h.within } in
    let s = c.in_ok-put_found-in-Some.ensures.stays ready in
    record {
      ready = s.ready;
      grows = s.grows;
      source = ap (λ (w : Making). w.source) s.same;
      numbers = ap (λ (w : Making). w.numbers) s.same;
    }

pub returns-in_ok-put_found-in-Some-clause-made : goal.returns-in_ok-put_found-in-Some-clause-made
returns-in_ok-put_found-in-Some-clause-made c = λ m.
    let old = c.args.flattening.now in
    let x = c.in-Some.here in
    let h : IsFunctionAt old.shared.branches c.args.place 0 x = subst (λ (o : Option Here). IsHere old.shared.branches c.args.place 0 o) c.in-Some.is c.in_ok-here.ensures in
    let ready : IsMakingOf old.source.now old.numbers.now x old.shared = record { right = m.right; numbers = m.numbers; given = h.within } in
    let w = making old in
    c.in_ok-put_found-in-Some.ensures.made ready
    ∙ ap (λ t. W.instances c.args.instances.now.items ++ instances_of w.source w.numbers t) (sym h.tree)

pub returns-in-None-clause-goes : goal.returns-in-None-clause-goes
returns-in-None-clause-goes c = λ m. goes_same c.args.flattening.now m

pub returns-in-None-clause-made : goal.returns-in-None-clause-made
returns-in-None-clause-made c = λ m.
    let old = c.args.flattening.now in
    let w = making old in
    let h = subst (λ (o : Option Here). IsHere old.shared.branches c.args.place 0 o) c.in-None.is c.in_ok-here.ensures in
    sym (append-nil (W.instances c.args.instances.now.items))
    ∙ ap (λ (l : List T.Instance). W.instances c.args.instances.now.items ++ l) (sym (no_instances w.source w.numbers (tree_at (trees old.shared.branches) c.args.place) h))
