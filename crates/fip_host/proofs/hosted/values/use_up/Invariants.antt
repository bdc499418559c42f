-- What the arguments that are left use up, of what is kept by now, is what all of them use up.
use Rattle.std.proofs.Common.{◌≡◌}
use Rattle.fip_host.specs.Keeping.{used_up}
use Rattle.fip_host.proofs.hosted.values.use_up.Given as goal

abbrev pub invariant-loop-param : goal.invariant-loop-param
invariant-loop-param l = used_up l.param-iterator.a.rest.now l.param-iterator.b.rest.now l.kept ≡ used_up l.params l.arguments l.initial.kept
