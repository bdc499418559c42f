use Rattle.std.proofs.Common.{IfSome, subst}
use Rattle.fip_trees.specs.declared.program.Program.{Program}
use Rattle.static_params.specs.Answers.{IsAccepted}
use Rattle.static_params.specs.FlatView.{IsNamed}
use Rattle.reached_instances.specs.closed_types.Source.{Source}
use Rattle.static_params.proofs.specialised.specialised.Goals as goal

pub returns-clause-accepted : goal.returns-clause-accepted
returns-clause-accepted c = λ e. subst (λ (x : Source). IfSome c.in_ok-found.found (λ (p : Program). IsAccepted x p)) c.in_ok-source.ensures.source (c.in_ok-found.ensures.accepted c.in_ok-source.ensures.right e)

pub returns-clause-refused : goal.returns-clause-refused
returns-clause-refused c = λ e none. subst (λ (x : Source). IsNamed x c.specialised_source.new.least) c.in_ok-source.ensures.source (c.in_ok-found.ensures.refused c.in_ok-source.ensures.right e none)
