use Rattle.std.proofs.Common.{[], ap, sym, subst, Option}
use Rattle.reached_instances.specs.declared.source.Here.{Here}
use Rattle.closed_types.specs.SharedTrees.{tree_at, trees}
use Rattle.reached_instances.specs.SourceView.{IsHere, source}
use Rattle.closed_types.specs.TypeInstances.{types_of_instance}
use Rattle.reached_instances.proofs.Putting.{put_as, put_none}
use Rattle.reached_instances.proofs.Typing.{no_instance}
use Rattle.reached_instances.proofs.source.Source.put_instance.Goals as goal

pub returns-in_ok-put_mentioned-in-Some : goal.returns-in_ok-put_mentioned-in-Some
returns-in_ok-put_mentioned-in-Some c = λ l w.
    let s = c.args.self.now in
    let k = c.args.shared.now in
    let h = subst (λ (o : Option Here). IsHere k.branches c.args.place 0 o) c.in-Some.is c.in_ok-here.ensures in
    put_as k c.put_mentioned.new.shared c.args.places.now.items c.put_mentioned.new.places.items _ _ (ap (types_of_instance (source s)) (sym h.tree))
    (c.in_ok-put_mentioned-in-Some.ensures (record { looked_up = l; within = h.within }) w)

pub returns-in-None : goal.returns-in-None
returns-in-None c = λ l w.
    let s = c.args.self.now in
    let k = c.args.shared.now in
    put_as k k c.args.places.now.items c.args.places.now.items [] _ (sym (no_instance (source s) (tree_at (trees k.branches) c.args.place) (subst (λ (o : Option Here). IsHere k.branches c.args.place 0 o) c.in-None.is c.in_ok-here.ensures)))
    (put_none k c.args.places.now.items w)
