use Rattle.std.proofs.Common.{◌≡◌, ◌≤◌, ℕ, List, [], ◌∷◌, map, length, refl, arith}
use Rattle.fip_base.specs.CoreView.{static}
use Rattle.fip_base.specs.declared.core_form.Static.{Static}
use Rattle.closed_types.specs.Instances.{root_if}
use Rattle.reached_instances.proofs.instances.has_statics.Goals as goal

some : (xs : List Static) → 1 ≤ length xs → (n : ℕ) → [] ≡ root_if (map static xs) n
some [] h n = absurd (omega (arith, h))
some (x ∷ xs) h n = refl

pub returns-in-len1-up-clause-some : goal.returns-in-len1-up-clause-some
returns-in-len1-up-clause-some c = λ e. some c.args.statics.now c.in-len1-up.len_at_least
