use Rattle.std.proofs.Common.{◌≡◌, drop}
use Rattle.fip_language.specs.Every.{times}
use Rattle.fip_session.specs.Planned.{names_given}
use Rattle.fip_session.proofs.plan.Arguments.is_given.Given as goal

-- none of the first names is this one
abbrev pub invariant-loop-given : goal.invariant-loop-given
invariant-loop-given l = times l.name (names_given (drop l.given-index l.given-items)) ≡ times l.name (names_given l.given-items)
