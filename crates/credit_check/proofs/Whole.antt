-- What a refusal names is the least violation, and without one there is none.
use Rattle.std.proofs.Common.{◌≡◌, sym, subst, Option, Some, None}
use Rattle.std.specs.Prelude.{option_map}
use Rattle.fip_base.specs.declared.refusal.Refusal.{Refusal}
use Rattle.fip_trees.specs.declared.least.Violation.{Violation}
use Rattle.fip_trees.specs.Tree.{Program}
use Rattle.fip_trees.specs.Least.{In, after, IsLeastOf, refusal}
use Rattle.fip_trees.proofs.Leasts.{least_of, none_of}
use Rattle.credit_check.specs.Credits.{Violates}
use Rattle.credit_check.specs.Tallies.{all_notes}
use Rattle.credit_check.proofs.Sets.{all_is}

pub refused : (p : Program) (o : Option Violation) (r : Refusal) → o ≡ after None (all_notes p 0 p.instances) → option_map refusal o ≡ Some r → (v : Violation) × IsLeastOf (Violates p) v × (r ≡ refusal v)
refused p None r h g = absurd (cc)
refused p (Some v) r h g =
    let l = least_of (all_notes p 0 p.instances) v (sym h) in
    (v, record { violated = (all_is p 0 p.instances v).0 l.violated; least = λ w k. l.least w ((all_is p 0 p.instances w).1 k) }, cc)

pub accepted : (p : Program) (o : Option Violation) → o ≡ after None (all_notes p 0 p.instances) → option_map refusal o ≡ None → (v : Violation) → Violates p v → ⊥
accepted p None h g v k = subst (λ vs. In v vs) (none_of (all_notes p 0 p.instances) (sym h)) ((all_is p 0 p.instances v).1 k)
accepted p (Some u) h g v k = absurd (cc)
