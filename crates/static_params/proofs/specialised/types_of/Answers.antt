use Rattle.reached_instances.proofs.closed_types.Growing.{grows_more}
use Rattle.static_params.proofs.specialised.types_of.Goals as goal

pub returns-clause-grows : goal.returns-clause-grows
returns-clause-grows c = λ a.
    let p = c.in_ok-passed.ensures in
    grows_more c.args.shared.now.branches c.passed_of.new.shared.branches c.types_with.new.shared.branches (p.grows a) (c.in_ok-types.ensures.grows (p.roots a))

pub returns-clause-right : goal.returns-clause-right
returns-clause-right c = λ a. c.in_ok-types.ensures.right (c.in_ok-passed.ensures.roots a)

pub returns-clause-types : goal.returns-clause-types
returns-clause-types c = λ a.
    let p = c.in_ok-passed.ensures in
    c.in_ok-types.ensures.types (p.roots a) c.args.shared.now a.instances (p.grows a) (p.passed a)

pub returns-clause-many : goal.returns-clause-many
returns-clause-many c = λ a e.
    let p = c.in_ok-passed.ensures in
    c.in_ok-types.ensures.many (p.roots a) c.args.shared.now a.instances (p.grows a) (p.passed a) e
