use Rattle.std.proofs.Common.{◌∙◌, ap}
use Rattle.fip_core.specs.Walk.{bindings}
use Rattle.fip_core.proofs.CoreFacts.{bindings_append, last_in_nested, lets_in_nested}
use Rattle.fip_core.proofs.core_of.Walk.as_last.Goals as goal

pub returns-in_ok-append-in-Nested-clause-given : goal.returns-in_ok-append-in-Nested-clause-given
returns-in_ok-append-in-Nested-clause-given c =
    last_in_nested (bindings c.args.out.now.items) c.args.self.now.next c.args.e c.in-Nested.block c.into_inner-bindings.result c.in-Nested.is
    c.into_inner-bindings.ensures

pub returns-in_ok-append-in-Nested-clause-lets : goal.returns-in_ok-append-in-Nested-clause-lets
returns-in_ok-append-in-Nested-clause-lets c =
    ap bindings c.in_ok-append-in-Nested.ensures.items
    ∙ bindings_append c.args.out.now.items _
    ∙ lets_in_nested (bindings c.args.out.now.items) c.args.self.now.next c.args.e c.in-Nested.block c.into_inner-bindings.result c.in-Nested.is
    c.into_inner-bindings.ensures
