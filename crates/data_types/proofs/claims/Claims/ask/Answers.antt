use Rattle.std.proofs.Common.{subst, sym}
use Rattle.data_types.specs.Steps.{IsAsking}
use Rattle.data_types.proofs.Extending.{asking_new}
use Rattle.data_types.proofs.claims.Claims.ask.Goals as goal

pub returns-in_ok-wait-in-None : goal.returns-in_ok-wait-in-None
returns-in_ok-wait-in-None c = subst (λ s. IsAsking c.args.self.now s c.args.ty c.args.arguments.items) (sym c.in_ok-wait-in-None.ensures) (asking_new c.args.self.now c.list.new.self c.args.ty c.args.arguments.items c.in_ok-list-in-None.ensures.listed c.in_ok-list-in-None.ensures.few)
