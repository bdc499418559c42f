use Rattle.std.proofs.Common.{◌∙◌, ◌++◌, ◌+◌, ◌<◌, ℕ, List, length, get_or, take, ap, sym, append-nil, append_assoc}
use Rattle.fip_language.specs.Mentions.{all_of}
use Rattle.fip_trees.specs.Tree as T
use Rattle.fip_trees.specs.TreeView as W
use Rattle.static_params.specs.FlatProgram.{Numbers, instances_of}
use Rattle.static_params.specs.FlatView.{making}
use Rattle.reached_instances.specs.closed_types.SharedTrees.{tree_at, trees}
use Rattle.reached_instances.specs.closed_types.Source.{Source}
use Rattle.static_params.proofs.Making.{goes_same, goes_more}
use Rattle.reached_instances.proofs.Putting.{all_of_map, all_of_next, every_there, item_is, take_past}
use Rattle.reached_instances.proofs.closed_types.Using.{tree_kept}
use Rattle.static_params.proofs.specialised.put_instances.Goals as goal

pub loop-place-init : goal.loop-place-init
loop-place-init c = record {
  goes = λ m. goes_same c.args.flattening.now m;
  made = λ m w. sym (append-nil (W.instances c.args.instances.now.items));
}

pub loop-place-preserved : goal.loop-place-preserved
loop-place-preserved c =
    let xs = c.args.places.now in
    let i = c.loop-place.place-index in
    let x = get_or xs i 0 in
    let old = c.args.flattening.now in
    let mid = c.loop-place.flattening in
    let new = c.put_instance.new.flattening in
    let start = W.instances c.args.instances.now.items in
    let s = (making old).source in
    let ns = (making old).numbers in
    let f = λ (j : ℕ). instances_of s ns (tree_at (trees old.shared.branches) j) in
    record {
      goes = λ m. let g = c.loop-place.invariant.goes m in goes_more old mid new g (c.in_ok-put_instance.ensures.goes g.ready);
      made = λ m w.
          let g = c.loop-place.invariant.goes m in
          let here = every_there (λ (j : ℕ). j < length old.shared.branches + 1) xs i x w c.loop-place-test.true (item_is xs i 0 c.loop-place-test.true) in
          c.in_ok-put_instance.ensures.made g.ready
          ∙ ap (λ (l : List T.Instance). W.instances c.loop-place.instances.items ++ l)
          (ap (λ (a : Source). instances_of a (making mid).numbers (tree_at (trees mid.shared.branches) x)) g.source
          ∙ ap (λ (n : Numbers). instances_of s n (tree_at (trees mid.shared.branches) x)) g.numbers
          ∙ ap (instances_of s ns) (tree_kept old.shared.branches mid.shared.branches x g.grows here))
          ∙ ap (λ (l : List T.Instance). l ++ f x) (c.loop-place.invariant.made m w)
          ∙ append_assoc start (all_of f (take i xs)) (f x)
          ∙ ap (λ (l : List T.Instance). start ++ l) (sym (all_of_next f xs i x c.loop-place-test.true (item_is xs i 0 c.loop-place-test.true)));
    }

pub returns : goal.returns
returns c = λ m w.
    let xs = c.args.places.now in
    let old = c.args.flattening.now in
    let s = (making old).source in
    let ns = (making old).numbers in
    let f = λ (j : ℕ). instances_of s ns (tree_at (trees old.shared.branches) j) in
    c.loop-place.invariant.made m w
    ∙ ap (λ (l : List T.Instance). W.instances c.args.instances.now.items ++ l) (ap (all_of f) (take_past xs c.loop-place.place-index c.loop-place-test.false) ∙ sym (all_of_map (instances_of s ns) (λ (j : ℕ). tree_at (trees old.shared.branches) j) xs))
