use Rattle.std.proofs.Common.{ℕ, List, Option, IfSome, subst}
use Rattle.reached_instances.specs.closed_types.Instances.{ArePassed}
use Rattle.reached_instances.specs.closed_types.SharedTrees.{AreWithin, all_at, trees}
use Rattle.static_params.proofs.specialised.passed_of.Goals as goal

pub returns-clause-grows : goal.returns-clause-grows
returns-clause-grows c = λ a. c.in_ok-passed.ensures.grows a

pub returns-clause-roots : goal.returns-clause-roots
returns-clause-roots c = λ a.
    let n = c.in_ok-passed.ensures in
    record {
      right = (n.right a).right;
      instances = (n.right a).instances;
      passed = subst (λ (o : Option (List ℕ)). IfSome o (λ (v : List ℕ). AreWithin c.number.new.shared.branches v)) c.in-Some.is (n.within a);
    }

pub returns-clause-passed : goal.returns-clause-passed
returns-clause-passed c = λ a. subst (λ (o : Option (List ℕ)). IfSome o (λ (v : List ℕ). ArePassed (all_at (trees c.args.shared.now.branches) c.args.instances.now) (all_at (trees c.number.new.shared.branches) v))) c.in-Some.is (c.in_ok-passed.ensures.numbered a)
