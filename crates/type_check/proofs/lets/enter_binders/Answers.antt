use Rattle.std.proofs.Common.{rules, arith, append_assoc, ◌∙◌, sym}
use Rattle.std.proofs.lemmas.Grind.{common_steps}
use Rattle.type_check.proofs.Steps.{others_drop}
use Rattle.type_check.proofs.Halves.{binders_step, binders_noted, binders_done}
use Rattle.type_check.proofs.lets.enter_binders.Goals as goal

pub loop-binder-preserved : goal.loop-binder-preserved
loop-binder-preserved c = record {
  index = search rules;
  binders = binders_step c.args.found.now c.loop-binder.binders c.loop-binder.binder-index c.loop-binder.index c.enter_binder.new.binder c.binder-item.result c.found_at-ty.result c.or_found.result (search rules) c.loop-binder.invariant.index c.found_at-ty.ensures c.or_found.ensures c.in_ok-enter_binder.ensures.binder ∙ c.loop-binder.invariant.binders;
  scope = grind (arith, common_steps, others_drop, append_assoc);
  faults = binders_noted c.args.walk.now.instance c.args.all c.args.found.now c.loop-binder.binders c.loop-binder.binder-index c.loop-binder.index c.enter_binder.new.binder c.binder-item.result c.found_at-ty.result c.is_misfit-is_broken.result c.loop-binder.least c.note_if.new.least (search rules) c.loop-binder.invariant.index c.found_at-ty.ensures c.is_misfit-is_broken.ensures c.in_ok-note_if.ensures ∙ c.loop-binder.invariant.faults;
}

pub returns-clause-binders : goal.returns-clause-binders
returns-clause-binders c = sym (binders_done c.args.found.now c.loop-binder.binders c.loop-binder.binder-index (search rules)) ∙ c.loop-binder.invariant.binders
