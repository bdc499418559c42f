use Rattle.std.proofs.Common.{◌≤◌, List, length, subst, sym}
use Rattle.reached_instances.specs.declared.source.FunctionSource.{FunctionSource}
use Rattle.closed_types.specs.SharedTrees.{AreWithin, trees_at}
use Rattle.reached_instances.proofs.GivenStatics.{type_missing}
use Rattle.reached_instances.proofs.source.Source.given_type.Goals as goal

pub returns-in-Some-clause-within : goal.returns-in-Some-clause-within
returns-in-Some-clause-within c = λ bs w. c.given_type.ensures.within bs (subst (AreWithin bs) (sym c.deref-in-Some.ensures.value) w)

pub returns-in-None-clause-given : goal.returns-in-None-clause-given
returns-in-None-clause-given c = λ r ts. type_missing c.args.self.now.functions.items c.args.here.now.function (trees_at ts c.args.here.now.given.items) c.args.name.now (subst (λ (xs : List FunctionSource). length xs ≤ c.args.here.now.function) c.deref.ensures.value c.in-None.ensures.lookup.3)
