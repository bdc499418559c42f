use Rattle.std.proofs.Common.{◌≡◌, drop}
use Rattle.fip_language.specs.Every.{times}
use Rattle.fip_session.specs.Planned.{names_used}
use Rattle.fip_session.proofs.plan.Arguments.uses_up.Given as goal

-- none of the first names is this one and used up
abbrev pub invariant-loop-given : goal.invariant-loop-given
invariant-loop-given l = times l.name (names_used (drop l.given-index l.given-items)) ≡ times l.name (names_used l.given-items)
