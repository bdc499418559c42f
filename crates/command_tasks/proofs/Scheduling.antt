-- Turns after a schedule are a longer schedule.
use Rattle.std.proofs.Common.{◌≡◌, ℕ, List, [], ◌∷◌, ◌++◌, replicate, refl, sym, subst}
use Rattle.cell_code.specs.Plain.{PlainCode, plain}
use Rattle.fip_tasks.specs.machine_semantics.Steps.{Kinds}
use Rattle.code_verify.specs.Checked.{Checked}
use Rattle.fip_tasks.specs.Shown.{Shows, CanTurn, CanFinish}
use Rattle.fip_tasks.specs.Turns.{Turns}
use Rattle.fip_tasks.specs.task_semantics.Schedules.{Shared, turn, scheduled}
use Rattle.command_tasks.specs.Telling.{CanRun, ShowsSome}

scheduled_join : (kinds : Kinds) (code : PlainCode) (a b : List ℕ) (t : Shared) → scheduled kinds code (a ++ b) t ≡ scheduled kinds code b (scheduled kinds code a t)
scheduled_join kinds code [] b t = refl
scheduled_join kinds code (k ∷ a) b t = scheduled_join kinds code a b (turn kinds code t k)

pub one_turn : (v : Checked) (kinds : Kinds) (first : Shared) (old new : Turns) (k : ℕ) → CanRun v kinds first → ((shared : Shared) → Shows v old shared → CanTurn v kinds shared k → Shows v new (turn kinds (plain v.code) shared k)) → ShowsSome v kinds first old → ShowsSome v kinds first new
one_turn v kinds first old new k can takes s =
    let now : Shared = scheduled kinds (plain v.code) s.0 first in
    (s.0 ++ k ∷ [], subst (Shows v new) (sym (scheduled_join kinds (plain v.code) s.0 (k ∷ []) first)) (takes now s.1 (can.turn s.0 k)))

pub to_end : (v : Checked) (kinds : Kinds) (first : Shared) (old new : Turns) (k : ℕ) → CanRun v kinds first → ((shared : Shared) → Shows v old shared → CanFinish v kinds shared k → (n : ℕ) × Shows v new (scheduled kinds (plain v.code) (replicate n k) shared)) → ShowsSome v kinds first old → ShowsSome v kinds first new
to_end v kinds first old new k can takes s =
    let now : Shared = scheduled kinds (plain v.code) s.0 first in
    let r = takes now s.1 (can.finish s.0 k) in
    (s.0 ++ replicate r.0 k, subst (Shows v new) (sym (scheduled_join kinds (plain v.code) s.0 (replicate r.0 k) first)) r.1)
