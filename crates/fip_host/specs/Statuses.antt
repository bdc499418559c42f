-- The statuses of C's calls, and what is reported of a run. The numbers below 11 are those of the program fp2.
use Rattle.std.specs.Prelude.{ℕ, Option, Some, None, Result, Ok, Err}
use Rattle.fip_machine.specs.fip_language.declared.TrapKind.{TrapKind}
use Rattle.fip_machine.specs.fip_language.declared.TrapKind.TheVariants.{Overflow, DivideByZero}
use Rattle.fip_machine.specs.machine_step.declared.rows.Stepped.{Stepped}
use Rattle.fip_machine.specs.machine_step.declared.rows.Stepped.TheVariants as S
use Rattle.fip_machine.specs.declared.machine.Ended.{Ended}
use Rattle.fip_machine.specs.declared.machine.Ended.TheVariants as M
use Rattle.fip_host.specs.declared.answer.FipEnd.{FipEnd}
use Rattle.fip_host.specs.declared.answer.FipLoaded.{FipLoaded}
use Rattle.fip_host.specs.declared.answer.Refusal.{Refusal}
use Rattle.fip_host.specs.declared.answer.Refusal.TheVariants as R

abbrev pub refusal_number : Refusal → ℕ
refusal_number (R.BadInput at) = 5
refusal_number (R.TooSmall needed given) = 6
refusal_number R.NoMemory = 10
refusal_number R.OutOfRange = 12
refusal_number R.NotReady = 13
refusal_number R.WrongValue = 14

abbrev pub trap_number : TrapKind → ℕ
trap_number Overflow = 0
trap_number DivideByZero = 1

-- a run that is so, and not in a trap
abbrev pub end_at : ℕ → FipEnd
end_at status = record { status = status; trap = 0; line = 0; col = 0 }

-- 0 for an end with values, 3 for a trap with its place, 7 where no frame is left, 15 where the run goes on
abbrev pub end_by : Option Stepped → FipEnd
end_by (Some S.Value) = end_at 0
end_by (Some (S.Trap kind line col)) = record { status = 3; trap = trap_number kind; line = line; col = col }
end_by (Some S.Deep) = end_at 7
end_by (Some S.Went) = end_at 15
end_by (Some S.Entered) = end_at 15
end_by None = end_at 15

-- the same of a run to the end, and 4 where no call is left
abbrev pub end_by_run : Ended → FipEnd
end_by_run M.Value = end_at 0
end_by_run (M.Trap kind line col) = record { status = 3; trap = trap_number kind; line = line; col = col }
end_by_run M.Deep = end_at 7
end_by_run M.Out = end_at 4

-- the status of a call that does something or refuses
abbrev pub outcome_status : Result (Unit {0}) Refusal → ℕ
outcome_status (Ok x) = 0
outcome_status (Err refusal) = refusal_number refusal

-- what is told besides of a text that wasn't loaded
abbrev pub loaded_by : Refusal → FipLoaded → FipLoaded
loaded_by (R.BadInput at) l = record { at = at; needed = l.needed; given = l.given }
loaded_by (R.TooSmall needed given) l = record { at = l.at; needed = needed; given = given }
loaded_by R.NoMemory l = l
loaded_by R.OutOfRange l = l
loaded_by R.NotReady l = l
loaded_by R.WrongValue l = l
