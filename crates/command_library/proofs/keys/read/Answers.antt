use Rattle.std.proofs.Common.{◌∙◌, ◌++◌, ◌∷◌, [], Option, sym, ap, subst}
use Rattle.command_library.specs.Reading.{HasNode, AreKeys}
use Rattle.command_library.specs.declared.keys.Node.{Node}
use Rattle.command_library.proofs.Waiting.{read_none, read_node}
use Rattle.command_library.proofs.keys.read.Goals as goal

pub returns-in_ok-push-3-clause-reads : goal.returns-in_ok-push-3-clause-reads
returns-in_ok-push-3-clause-reads c = λ small whole h.
    let tb = c.args.table.now in
    let cs = c.args.cells.now.cells in
    let n = c.in-Some.node in
    let read = read_node tb cs c.args.waiting.now.items c.args.part c.args.keys.now.items whole h n (λ v at. subst (λ (o : Option Node). HasNode tb cs o v) c.in-Some.is (c.node_of.ensures.node small v at)) in
    let waits = c.in_ok-push-3.ensures.items ∙ ap (λ ps. ps ++ n.left ∷ []) c.in_ok-push-2.ensures.items in
    subst (λ ps. AreKeys tb cs ps c.push.new.self.items whole) (sym waits) (subst (λ ks. AreKeys tb cs ((c.args.waiting.now.items ++ n.right ∷ []) ++ n.left ∷ []) ks whole) (sym c.in_ok-push.ensures.items) read)

pub returns-in_default-clause-reads : goal.returns-in_default-clause-reads
returns-in_default-clause-reads c = λ small whole h.
    let tb = c.args.table.now in
    let cs = c.args.cells.now.cells in
    read_none tb cs c.args.waiting.now.items c.args.part c.args.keys.now.items whole h (λ v at. subst (λ (o : Option Node). HasNode tb cs o v) c.in_default.is (c.node_of.ensures.node small v at))
