-- The recorder begins a step, and is reported of it.
use Rattle.std.proofs.Common.{◌≡◌, ◌∙◌, ℕ, suc, [], None, sym, ap, subst}
use Rattle.std.proofs.lemmas.List.{append-nil}
use Rattle.cell_store.specs.Made.{Stored}
use Rattle.cell_trace.specs.Taped.{IsTape, WasReported}
use Rattle.cell_code.specs.Plain.{plain}
use Rattle.machine_cells.specs.machine_semantics.Steps.{next}
use Rattle.machine_step.specs.code_verify.Checked.{Checked}
use Rattle.machine_cells.specs.Small.{IsSmall}
use Rattle.machine_step.specs.Coming.{Comes, KnowsAt}
use Rattle.machine_step.specs.Telling.{IsKnown, next_reports}
use Rattle.fip_machine.specs.Along.{state_in}
use Rattle.fip_machine.specs.Taped.{HasTape}
use Rattle.fip_machine.proofs.Alongs.{stepped_with}
use Rattle.fip_machine.proofs.Tapings.{tape_next, tape_stuck}
use Rattle.fip_machine.proofs.traced.step.Goals as goal

pub returns-clause-came : goal.returns-clause-came
returns-clause-came c o limit left a =
    let t = c.args.stack.now in
    let r = c.args.recorder.now in
    let m = c.next_step.new.self in
    let w = c.step.new.cells in
    let same : m.store ≡ r.store = c.next_step.ensures.same in
    let X : ℕ → Type 0 = HasTape o limit w.tape in
    let reported : (KnowsAt t.code o.kinds t.running.function t.running.at) → IsKnown (next o.kinds (plain t.code.code) (state_in o t m.store)) → WasReported m.tape (next_reports o.kinds (plain t.code.code) (state_in o t m.store)) w.tape = λ known goes. c.step.ensures.reported o.kinds o.lent known a.along.going (subst (λ (s : Stored). IsSmall s.cells) (sym same) a.along.small) (ap (λ (s : Stored). s.pushed) same ∙ a.along.empty) goes m [] (λ cs es n l h. subst (λ fs. IsTape cs fs n l m.tape) (sym (append-nil es)) h) in
    let said : KnowsAt t.code o.kinds t.running.function t.running.at → X (suc a.along.steps) = λ known.
    tape_next o limit a.along.steps left (state_in o t r.store) r.tape m.tape w.tape a.along.run c.next_step.ensures.counted (subst (λ (v : Checked). IsKnown (next o.kinds (plain v.code) (state_in o t r.store)) → WasReported m.tape (next_reports o.kinds (plain v.code) (state_in o t r.store)) w.tape) a.along.code (subst (λ (s : Stored). IsKnown (next o.kinds (plain t.code.code) (state_in o t s)) → WasReported m.tape (next_reports o.kinds (plain t.code.code) (state_in o t s)) w.tape) same (reported known))) a.beside in
    stepped_with X o t r.store left c.step.result c.step.new.self w.store a.along c.step.ensures.code
    (λ small. c.step.ensures.small (subst (λ (s : Stored). IsSmall s.cells) (sym same) small))
    (λ empty. c.step.ensures.pushed (ap (λ (s : Stored). s.pushed) same ∙ empty))
    c.step.ensures.measured c.step.ensures.raised c.step.ensures.ends
    (subst (λ (s : Stored). KnowsAt t.code o.kinds t.running.function t.running.at → t.ended ≡ None → IsSmall s.cells → s.pushed ≡ [] → Comes (state_in o t s) (next o.kinds (plain t.code.code) (state_in o t s)) c.step.result (state_in o c.step.new.self w.store) c.step.new.self.given) same (λ known going small empty. c.step.ensures.next o.kinds known going small empty o.lent))
    said
    (λ z l n e. tape_stuck o limit a.along.steps w.tape z l n e)
