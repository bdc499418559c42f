-- At which stage of a command a failure can come.
use Rattle.std.specs.Prelude.{◌≡◌}
use Rattle.fip_base.specs.fip_language.declared.rule.Rule.TheVariants.{E75}
use Rattle.command_outcome.specs.declared.failure.Failure.{Failure}
use Rattle.command_outcome.specs.declared.failure.Failure.TheVariants as F

-- what is said of a source, a code or a trace, before an input is read; or that memory ran out
abbrev pub IsOfSource : Failure → Type 0
IsOfSource (F.Refused r) = Unit {0}
IsOfSource (F.BadCode at) = Unit {0}
IsOfSource (F.Unsound function at rule) = Unit {0}
IsOfSource (F.BadTrace at) = Unit {0}
IsOfSource F.NoMemory = Unit {0}
IsOfSource failure = ⊥

-- what is said of an input and of a run on it; or that memory ran out
abbrev pub IsOfRun : Failure → Type 0
IsOfRun (F.BadInput at) = Unit {0}
IsOfRun (F.TooSmall needed given) = Unit {0}
IsOfRun (F.Trap kind line col) = Unit {0}
IsOfRun (F.OutOfCalls given) = Unit {0}
IsOfRun (F.OutOfFrames given) = Unit {0}
IsOfRun F.NoMemory = Unit {0}
IsOfRun failure = ⊥

-- what is said of tasks that take turns, each of which ends in a line of its own; or that memory ran out
abbrev pub IsOfTasks : Failure → Type 0
IsOfTasks (F.BadTask line) = Unit {0}
IsOfTasks (F.TooSmall needed given) = Unit {0}
IsOfTasks F.NoMemory = Unit {0}
IsOfTasks failure = ⊥

-- what is said of a trace; or that memory ran out
abbrev pub IsOfReplay : Failure → Type 0
IsOfReplay (F.BadTrace at) = Unit {0}
IsOfReplay F.NoMemory = Unit {0}
IsOfReplay failure = ⊥

-- what is said of an input, of a run on it, and of a trace that is too long; or that memory ran out
abbrev pub IsOfTrace : Failure → Type 0
IsOfTrace (F.Refused r) = r.rule ≡ E75
IsOfTrace failure = IsOfRun failure
