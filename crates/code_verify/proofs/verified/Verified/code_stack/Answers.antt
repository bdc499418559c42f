use Rattle.std.proofs.Common.{◌≡◌, ◌∙◌, Some, sym, ap, subst}
use Rattle.std.specs.Prelude.{slice_get}
use Rattle.cell_code.specs.Plain.{plain}
use Rattle.code_rules.specs.StackNumbers.{HasStack}
use Rattle.code_verify.specs.Checked.{Checked, stack_at}
use Rattle.code_verify.proofs.Running.{of_stack}
use Rattle.code_verify.proofs.verified.Verified.code_stack.Goals as goal

pub returns-clause-known : goal.returns-clause-known
returns-clause-known c =
    let n = c.args.function in
    let same : c.stack_in.result ≡ stack_at c.self.inside.stacks.items n = c.stack_in.ensures ∙ ap (λ xs. stack_at xs n) c.as_slice.ensures.value in
    λ s e. subst (λ (v : Checked). slice_get v.stacks n ≡ Some (Some s)) c.self.view_is (of_stack c.self.inside.stacks.items n s (sym same ∙ e))

pub returns-clause-exact : goal.returns-clause-exact
returns-clause-exact c =
    let n = c.args.function in
    let same : c.stack_in.result ≡ stack_at c.self.inside.stacks.items n = c.stack_in.ensures ∙ ap (λ xs. stack_at xs n) c.as_slice.ensures.value in
    subst (λ (v : Checked). HasStack (plain v.code) n c.stack_in.result) c.self.view_is
    (subst (HasStack (plain c.self.inside.code) n) (sym same) (c.self.invariant.stacks_are n))
