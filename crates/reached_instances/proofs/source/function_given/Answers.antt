use Rattle.reached_instances.proofs.GivenStatics.{function_there, function_past, within_given}
use Rattle.reached_instances.proofs.source.function_given.Goals as goal

pub returns-in-Some-Function-clause-given : goal.returns-in-Some-Function-clause-given
returns-in-Some-Function-clause-given c = λ ts. function_there ts c.args.statics.now c.args.given.now c.args.place c.in-Some-Function.field-0.now c.in-Some-Function.field-0-0 c.in-Some-Function.field-0-1 c.in-Some-Function.field-0-2 c.in-Some-Function.field-0-3 c.at.result c.in-Some-Function.ensures.lookup.3.0 c.in-Some-Function.ensures.lookup.1 c.in-Some-Function.field-0-is c.at.ensures

pub returns-in-Some-Function-clause-within : goal.returns-in-Some-Function-clause-within
returns-in-Some-Function-clause-within c = λ bs w. within_given bs c.args.given.now c.args.place c.at.result c.at.ensures w

pub returns-in-None-clause-given : goal.returns-in-None-clause-given
returns-in-None-clause-given c = λ ts. function_past ts c.args.statics.now c.args.given.now c.args.place c.in-None.ensures.lookup.3
