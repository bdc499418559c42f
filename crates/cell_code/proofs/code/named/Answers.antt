use Rattle.std.proofs.Common.{ℕ, ◌<◌, List, length, subst}
use Rattle.std.specs.Prelude.{IfSome}
use Rattle.cell_code.specs.Naming.{IsNamed}
use Rattle.cell_code.specs.declared.code.Function.{Function}
use Rattle.cell_code.proofs.ByName.{none_so}
use Rattle.cell_code.proofs.code.named.Goals as goal

pub returns-clause-first : goal.returns-clause-first
returns-clause-first c =
    subst (λ (fs : List Function). IfSome c.first_named.result (λ f. (g : ℕ) → g < f → IsNamed fs c.args.name.now g → ⊥)) c.as_slice.ensures.value c.first_named.ensures.first

pub returns-clause-none : goal.returns-clause-none
returns-clause-none c =
    none_so c.first_named.result ((f : ℕ) → IsNamed c.as_slice.result.now c.args.name.now f → ⊥) ((f : ℕ) → 0 < length c.args.name.now → IsNamed c.args.code.now.functions.items c.args.name.now f → ⊥)
    (λ h f some is. subst (λ (fs : List Function). (f : ℕ) → IsNamed fs c.args.name.now f → ⊥) c.as_slice.ensures.value h f is)
    c.first_named.ensures.none
