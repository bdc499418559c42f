-- The frames are loaded, and the entry takes a call.
use Rattle.std.proofs.Common.{◌≡◌, ◌≤◌, ◌∙◌, ℕ, suc, length, List, Some, None, sym, ap, subst, arith}
use Rattle.fip_machine.specs.declared.machine.Ended.TheVariants as M
use Rattle.code_verify.specs.cell_code.Plain.{plain}
use Rattle.task_semantics.specs.machine_semantics.Runs.{loaded}
use Rattle.fip_tasks.specs.Turns.{Standing}
use Rattle.fip_tasks.proofs.Landings.{IsLoaded, is_new, has_begun}
use Rattle.fip_tasks.proofs.task.Task.new.Goals.{then-start-eq0, else-start-eq0}
use Rattle.fip_tasks.proofs.task.Task.new.Goals as goal

pub returns : goal.returns
returns c =
    let v = c.args.verified.now in
    let start = c.args.start.now in
    let words : c.into_vec-words.result.items ≡ start.words = c.into_vec-words.ensures.same ∙ c.in_ok-copy.ensures.same in
    let t : Standing = record { stack = c.in_ok-stack.stack; left = c.saturating_sub.result; started = c.in_ok-held.held; ended = c.if-start-eq0.ended } in
    let loads : IsLoaded v start c.in_ok-stack.stack = λ cells r h.
    c.in_ok-stack.ensures.loaded h.function h.there (subst (λ (ws : List ℕ). length ws ≤ h.function.registers) (sym words) h.fits) cells h.first
    (ap (λ (ws : List ℕ). loaded (plain v.code) start.entry cells ws start.frames) words ∙ h.loaded) in
    let out : start.calls ≡ 0 → t.ended ≡ Some M.Out = λ z. elim c.if-start-eq0.branch [
      | then-start-eq0 w ↦ w.ended-is
      | else-start-eq0 w ↦ absurd (let f = w.if-start-eq0.false in omega (arith, f, z))
    ] in
    let on : (n : ℕ) → start.calls ≡ suc n → t.ended ≡ None = λ n z. elim c.if-start-eq0.branch [
      | then-start-eq0 w ↦ absurd (let f = w.if-start-eq0.true in omega (arith, f, z))
      | else-start-eq0 w ↦ w.ended-is
    ] in
    let left : (n : ℕ) → start.calls ≡ suc n → t.left ≡ n = λ n z. (let f = c.saturating_sub.ensures in omega (arith, f, z)) in
    record { held = c.in_ok-held.ensures.held; new = is_new v start t c.in_ok-stack.ensures.code c.in_ok-stack.ensures.going loads out (λ n z. (on n z, left n z)); begins = has_begun v start t loads c.in_ok-stack.ensures.fresh c.frames-frames.ensures.measured c.in_ok-stack.ensures.freed }
