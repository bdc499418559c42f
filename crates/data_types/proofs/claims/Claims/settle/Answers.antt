use Rattle.std.proofs.Common.{subst, sym, ◌∙◌, true}
use Rattle.data_types.specs.Marks.{Holds}
use Rattle.data_types.specs.Steps.{GoesIf, IsStep}
use Rattle.data_types.proofs.Stepping.{step_if, step_mark}
use Rattle.data_types.proofs.claims.Claims.settle.Goals as goal

pub returns : goal.returns
returns c = λ ds holds. (
    let copied = c.in_ok-copy.ensures.items ∙ c.as_slice.ensures.value in
    step_if ds (Holds ds c.args.ty c.args.arguments.items) c.args.self.now c.mark.new.self c.mark_above.new.self holds
    (subst (λ s. IsStep ds c.args.self.now s true) (sym c.in_ok-mark.ensures) (step_mark ds c.args.self.now c.args.place c.args.ty c.in_ok-copy.copy.items c.requires.asked (λ sound. subst (Holds ds c.args.ty) (sym copied) (holds sound))))
    (subst (λ bs. GoesIf ds (Holds ds c.args.ty bs) c.mark.new.self c.mark_above.new.self) c.as_slice-2.ensures.value (c.in_ok-mark_above.ensures ds)))
