use Rattle.std.proofs.Common.{◌≡◌, drop}
use Rattle.fip_language.specs.Every.{times}
use Rattle.session_lines.specs.Said.{names_of}
use Rattle.fip_session.proofs.plan.has_name.Given as goal

-- none of the first names is this one
abbrev pub invariant-loop-other : goal.invariant-loop-other
invariant-loop-other l = times l.name (names_of (drop l.other-index l.names)) ≡ times l.name (names_of l.names)
