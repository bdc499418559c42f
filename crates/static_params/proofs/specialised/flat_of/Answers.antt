use Rattle.std.proofs.Common.{◌∙◌, sym}
use Rattle.static_params.specs.FlatView.{numbers_at}
use Rattle.reached_instances.specs.closed_types.SharedTrees.{trees}
use Rattle.static_params.proofs.Specialising.{is_none_of, none_broken, noted_named}
use Rattle.static_params.proofs.specialised.flat_of.Goals as goal

pub returns-then-not-is_none-clause-refused : goal.returns-then-not-is_none-clause-refused
returns-then-not-is_none-clause-refused c = λ n e. noted_named c.args.source.now c.args.numbers.now c.args.shared c.args.least.now n (sym c.is_none.ensures.none ∙ c.if-not-is_none.true)

pub returns-clause-accepted : goal.returns-clause-accepted
returns-clause-accepted c = λ n. record {
  numbers = numbers_at (trees c.args.shared.branches) c.args.numbers.now;
  few = n.few;
  unbroken = none_broken c.args.source.now c.args.numbers.now c.args.shared c.args.least.now n (is_none_of c.args.least.now (sym c.is_none.ensures.none ∙ c.if-not-is_none.false));
  made = c.in_ok-program.ensures n.right n.numbers;
}
