-- The running function can be entered again where its frame lies.
use Rattle.std.proofs.Common.{ℕ, ◌<◌, List, length, subst}
use Rattle.std.proofs.lemmas.Option.{slice_get_within}
use Rattle.cell_code.specs.declared.code.Instr.{Instr}
use Rattle.cell_code.specs.Runnable.{Body, IsSafe, IsRunnable}
use Rattle.cell_code.proofs.Following.{safe_here}
use Rattle.code_verify.specs.Checked.{Checked}
use Rattle.machine_step.specs.declared.cursor.Bounds.{Bounds}
use Rattle.machine_step.specs.declared.cursor.Cursor.{Cursor}
use Rattle.machine_step.specs.Placed.{IsPlaced, body_at}

pub starts_again : (v : Checked) (b : Bounds) (n : ℕ) (c : Cursor) → IsRunnable v.code.functions.items v.stacks → IsPlaced v b n c → IsSafe (body_at v c) 0 × (0 < length c.instrs.now)
starts_again v b n c r p =
    let g = p.is.0 in
    let code = r.functions c.function g p.is.1 in
    let body : ℕ → List Instr → Body = λ m is. record { functions = v.code.functions.items; stacks = v.stacks; function = c.function; registers = m; instrs = is } in
    let safe : IsSafe (body_at v c) 0 = subst (λ is. IsSafe (body c.registers is) 0) p.is.3 (subst (λ m. IsSafe (body m g.instrs.items) 0) p.is.2 code.start) in
    let first = safe_here (body_at v c) 0 safe in
    (safe, slice_get_within c.instrs.now 0 first.0 first.1)
