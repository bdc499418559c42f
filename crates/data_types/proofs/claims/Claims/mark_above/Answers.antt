use Rattle.std.proofs.Common.{subst, sym}
use Rattle.data_types.specs.Marks.{Holds}
use Rattle.data_types.specs.Steps.{GoesIf}
use Rattle.data_types.proofs.Stepping.{if_then}
use Rattle.data_types.proofs.claims.Claims.mark_above.Goals as goal

pub loop-other-preserved : goal.loop-other-preserved
loop-other-preserved c = λ ds. if_then ds (Holds ds c.args.ty c.args.arguments.now) c.take_places-others.new.self c.loop-other.self c.mark_if_above.new.self (c.loop-other.invariant ds) (c.in_ok-mark_if_above.ensures ds)

pub returns : goal.returns
returns c = λ ds. (let given = Holds ds c.args.ty c.args.arguments.now in subst (GoesIf ds given c.args.self.now) (sym c.in_ok-file.ensures) (subst (λ s. GoesIf ds given s c.loop-other.self) c.take_places-others.ensures (c.loop-other.invariant ds)))
