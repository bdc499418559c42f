-- For private contracts alone: a machine that was run to an end.
use Rattle.std.specs.Prelude.{◌≡◌, ℕ, List, [], None}
use Rattle.cell_code.specs.Plain.{plain}
use Rattle.fip_machine.specs.machine_cells.Small.{IsSmall}
use Rattle.fip_machine.specs.machine_cells.machine_semantics.States.{Typed}
use Rattle.fip_machine.specs.machine_cells.machine_semantics.Steps.{Kinds}
use Rattle.fip_machine.specs.declared.gauge.Gauge.{Gauge}
use Rattle.fip_machine.specs.declared.machine.Ended.{Ended}
use Rattle.fip_machine.specs.Ending.{KnowsRun, RunsTo}
use Rattle.fip_machine.specs.GaugeView.{IsUnseen, ReportsRun}
use Rattle.fip_machine.specs.Machines.{Seen}
use Rattle.fip_machine.specs.Tasks.{state_with, IsFresh}

-- A machine that went on was run with so many calls: the end and the state that it leaves are those of the definition's
-- run.
abbrev pub IsDriven : Seen → ℕ → Seen → Ended → Type 0
IsDriven old calls new end = (kinds : Kinds) (lent : List Typed) →
    KnowsRun old.stack.code kinds (state_with old.stack lent old.store) calls → old.stack.ended ≡ None →
    IsSmall old.store.cells → old.pushed ≡ [] → RunsTo kinds (plain old.stack.code.code)
    (state_with old.stack lent old.store) calls end (state_with new.stack lent new.store) new.stack.given

-- Where it was just started, a gauge that saw nothing yet reports of all states of that run.
abbrev pub IsGauged : Seen → ℕ → Gauge → Gauge → Type 0
IsGauged old calls before after = IsUnseen before → (kinds : Kinds) (lent : List Typed) →
    KnowsRun old.stack.code kinds (state_with old.stack lent old.store) calls → IsFresh old.stack →
    IsSmall old.store.cells → old.pushed ≡ [] →
    ReportsRun kinds (plain old.stack.code.code) (state_with old.stack lent old.store) calls after
