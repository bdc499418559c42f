use Rattle.std.proofs.Common.{◌≡◌, drop}
use Rattle.fip_base.specs.CoreView.{binders}
use Rattle.closed_types.specs.MentionsView.{heard, hears_binders}
use Rattle.closed_types.proofs.mentions.Mentions.add_binders.Given as goal

abbrev pub invariant-loop-binder : goal.invariant-loop-binder
invariant-loop-binder l = hears_binders (heard l.self) (binders (drop l.binder-index l.binders)) ≡ hears_binders (heard l.initial.self) (binders l.binders)
