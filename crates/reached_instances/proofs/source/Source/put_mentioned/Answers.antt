use Rattle.std.proofs.Common.{◌≡◌, ◌<◌, ◌≤◌, [], List, length, get_or, map, ap, sym, subst}
use Rattle.fip_base.specs.CoreView.{written}
use Rattle.reached_instances.specs.declared.source.FunctionSource.{FunctionSource}
use Rattle.closed_types.specs.SharedTrees.{trees}
use Rattle.reached_instances.specs.SourceView.{function_source, instance, source}
use Rattle.closed_types.specs.TypeInstances.{types_in}
use Rattle.reached_instances.proofs.Closing.{ready_more}
use Rattle.closed_types.proofs.Declarations.{at_past}
use Rattle.reached_instances.proofs.Putting.{put_as, put_none}
use Rattle.reached_instances.proofs.Typing.{puts_mentioned}
use Rattle.reached_instances.proofs.source.Source.put_mentioned.Goals as goal

pub returns-in_ok-put_named-in-Some : goal.returns-in_ok-put_named-in-Some
returns-in_ok-put_named-in-Some c = λ r w.
    let s = c.args.self.now in
    let f = c.in-Some.found.now in
    let here = c.args.here.now in
    let k = c.args.shared.now in
    let l = c.put_writtens.new.shared in
    let m = c.put_writtens-in-Some.new.shared in
    let n = c.put_named.new.shared in
    let p = c.in_ok-put_writtens-in-Some.ensures r w in
    let q = c.in_ok-put_writtens-in-Some-2.ensures (ready_more s k.branches l.branches here p.grows r) p.within in
    let t = c.in_ok-put_named-in-Some.ensures q.within in
    puts_mentioned s here f k l m n c.args.places.now.items c.put_writtens.new.places.items c.put_writtens-in-Some.new.places.items c.put_named.new.places.items _ _ _ r
    (subst (λ (xs : List FunctionSource). here.function < length xs) c.deref.ensures.value c.in-Some.ensures.lookup.3.0)
    (subst (λ (xs : List FunctionSource). f ≡ get_or xs here.function f) c.deref.ensures.value c.in-Some.ensures.lookup.1)
    (ap (map (λ x. written x.now)) c.deref-in-Some.ensures.value) (ap (map (λ x. written x.now)) c.deref-in-Some-2.ensures.value) c.as_slice.ensures.keys p q t

pub returns-in-None : goal.returns-in-None
returns-in-None c = λ r w.
    let s = c.args.self.now in
    let k = c.args.shared.now in
    put_as k k c.args.places.now.items c.args.places.now.items [] _
    (sym (ap (types_in (source s) (instance (trees k.branches) c.args.here.now)) (at_past function_source s.functions.items c.args.here.now.function (subst (λ (xs : List FunctionSource). length xs ≤ c.args.here.now.function) c.deref.ensures.value c.in-None.ensures.lookup.3))))
    (put_none k c.args.places.now.items w)
