use Rattle.static_params.proofs.Specialising.{many_found, types_found}
use Rattle.static_params.proofs.specialised.types_with.Goals as goal

pub returns-clause-grows : goal.returns-clause-grows
returns-clause-grows c = λ roots. c.in_ok-types.ensures.grows roots

pub returns-clause-right : goal.returns-clause-right
returns-clause-right c = λ roots. (c.in_ok-types.ensures.right roots).right

pub returns-clause-types : goal.returns-clause-types
returns-clause-types c = λ roots k within grows given. types_found c.args.source.now c.args.instances.now c.args.passed.now k c.args.shared.now c.number.new.shared c.in_ok-types.types within grows given c.in_ok-types.ensures.few (c.in_ok-types.ensures.within roots) (c.in_ok-types.ensures.numbered roots)

pub returns-clause-many : goal.returns-clause-many
returns-clause-many c = λ roots k within grows given e. many_found c.args.source.now c.args.instances.now c.args.passed.now k c.args.shared.now within grows given (c.in_ok-types.ensures.many roots e)
