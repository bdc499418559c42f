use Rattle.std.proofs.Common.{◌≡◌, ◌+◌, ◌-◌, ◌∙◌, ap, sym, subst, arith}
use Rattle.std.proofs.lemmas.Option.{same_Some}
use Rattle.cell_code.specs.declared.code.Function.{Function}
use Rattle.machine_step.specs.Placed.{Waiting}
use Rattle.machine_step.proofs.Stacked.{waiting_below}
use Rattle.machine_step.proofs.rows.caller_of.Goals as goal

pub returns-clause-waiting : goal.returns-clause-waiting
returns-clause-waiting c =
    let v = c.args.verified.now in
    let b = c.args.bounds in
    let cursor = c.args.cursor.now in
    let w = waiting_below v b c.args.words.now cursor.frames cursor.base c.requires.some c.requires.waiting in
    let body : w.0 ≡ c.function_at-body.result.now = same_Some w.0 c.function_at-body.result.now (sym w.1.is ∙ c.function_at-body.ensures.is) in
    let registers = ap (λ (g : Function). g.registers) body in
    subst (Waiting v b c.args.words.now (cursor.frames - 1)) (let e : cursor.base - (w.0.registers + 2) ≡ cursor.base - 2 - c.function_at-body.result.now.registers = omega (arith, registers) in e) w.2
