use Rattle.std.proofs.Common.{◌≡◌, ◌<◌, ◌≤◌, ◌∙◌, ◌++◌, List, length, get_or, ap, sym, subst, append-nil}
use Rattle.fip_trees.specs.TreeView as W
use Rattle.reached_instances.specs.declared.source.FunctionSource.{FunctionSource}
use Rattle.static_params.specs.FlatProgram.{flat_instance, instance_if}
use Rattle.static_params.specs.FlatView.{making}
use Rattle.reached_instances.specs.SourceView.{function_source}
use Rattle.reached_instances.proofs.closed_types.Declarations.{at_past, at_there}
use Rattle.static_params.proofs.Made.{stays_same}
use Rattle.static_params.proofs.Making.{one_made}
use Rattle.reached_instances.proofs.Mentioned.{binders_there}
use Rattle.static_params.proofs.specialised.put_found.Goals as goal

pub returns-in_ok-push-in-Some-clause-stays : goal.returns-in_ok-push-in-Some-clause-stays
returns-in_ok-push-in-Some-clause-stays c = λ m. c.in_ok-made-in-Some.ensures.stays m

pub returns-in_ok-push-in-Some-clause-made : goal.returns-in_ok-push-in-Some-clause-made
returns-in_ok-push-in-Some-clause-made c = λ m.
    let old = c.args.flattening.now in
    let s = old.source.now in
    let x = c.in-Some.found.now in
    let i = old.here.function in
    let w = making old in
    let l = subst (λ (xs : List FunctionSource). i < length xs) c.deref.ensures.value c.in-Some.ensures.lookup.3.0 in
    let e = subst (λ (xs : List FunctionSource). x ≡ get_or xs i x) c.deref.ensures.value c.in-Some.ensures.lookup.1 in
    one_made c.args.instances.now.items c.push.new.self.items c.in_ok-made-in-Some.made (flat_instance w.source w.numbers w.here (function_source x)) c.in_ok-push-in-Some.ensures.items (c.in_ok-made-in-Some.ensures.made m (binders_there s i x m.right.looked_up l e))
    ∙ ap (λ o. W.instances c.args.instances.now.items ++ instance_if w.source w.numbers w.here o) (sym (at_there function_source s.functions.items i x l e))

pub returns-in-None-clause-stays : goal.returns-in-None-clause-stays
returns-in-None-clause-stays c = λ m. stays_same c.args.flattening.now m

pub returns-in-None-clause-made : goal.returns-in-None-clause-made
returns-in-None-clause-made c = λ m.
    let old = c.args.flattening.now in
    let w = making old in
    let i = old.here.function in
    let l = subst (λ (xs : List FunctionSource). length xs ≤ i) c.deref.ensures.value c.in-None.ensures.lookup.3 in
    sym (append-nil (W.instances c.args.instances.now.items))
    ∙ ap (λ o. W.instances c.args.instances.now.items ++ instance_if w.source w.numbers w.here o) (sym (at_past function_source old.source.now.functions.items i l))
