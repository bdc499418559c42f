use Rattle.std.proofs.Common.{ℕ, Option, subst}
use Rattle.fip_base.specs.CoreView.{written}
use Rattle.closed_types.specs.SharedTrees.{trees}
use Rattle.reached_instances.specs.SourceView.{source, instance}
use Rattle.closed_types.specs.Uses.{closed_type}
use Rattle.closed_types.specs.UsesView.{IsPlaceOf}
use Rattle.closed_types.proofs.Using.{none_or_int}
use Rattle.reached_instances.proofs.source.Source.declared_type.Goals as goal

pub returns-clause-tree : goal.returns-clause-tree
returns-clause-tree c = λ r.
    let t = closed_type (source c.args.self.now) (instance (trees c.args.shared.now.branches) c.args.here.now) (written c.args.written.now) in
    none_or_int c.closed_type.new.shared.branches t (subst (λ (o : Option ℕ). IsPlaceOf c.closed_type.new.shared.branches o t) c.in-None.is (c.in_ok-found.ensures.closed r))
