-- No violation exactly where all instances are typed.
use Rattle.std.proofs.Common.{◌≡◌, ℕ, suc, refl, sym, ap, subst, List, [], ◌∷◌, Bool, true, false, Option, None, Some}
use Rattle.std.specs.Prelude.{◌↔◌, map, option_map}
use Rattle.fip_trees.specs.Tree.{Instance, Program}
use Rattle.type_check.specs.World.{World, Head, world, head_of}
use Rattle.type_check.specs.Typing.{AllTyped, IsTyped, IsFilled}
use Rattle.type_check.specs.Faults.{instance_faults, instances_faults, type_faults, fill_instance, filled}
use Rattle.fip_base.specs.declared.refusal.Refusal.{Refusal}
use Rattle.fip_trees.specs.declared.least.Violation.{Violation}
use Rattle.fip_trees.specs.Least.{after, IsLeast, refusal}
use Rattle.fip_trees.proofs.Leasts.{least_of, none_of}
use Rattle.type_check.proofs.Basics.{both_empty}
use Rattle.type_check.proofs.Sound.{right}
use Rattle.type_check.proofs.Complete.{no_append, unbroken}

all_right : (w : World) (i : ℕ) (ds : List Instance) → instances_faults w i ds ≡ [] → AllTyped false w ds × AllTyped true w (map (fill_instance w) ds)
all_right w i [] h = (tt, tt)
all_right w i (d ∷ ds) h =
    let g = both_empty (instance_faults w i d) (instances_faults w (suc i) ds) h in
    let x = right w i d g.0 in
    let y = all_right w (suc i) ds g.1 in
    ((x.0, y.0), (x.1, y.1))

all_unbroken : (f : Bool) (w : World) (i : ℕ) (ds : List Instance) → AllTyped f w ds → instances_faults w i ds ≡ []
all_unbroken f w i [] h = refl
all_unbroken f w i (d ∷ ds) h = no_append (instance_faults w i d) (instances_faults w (suc i) ds) (unbroken f w i d h.0) (all_unbroken f w (suc i) ds h.1)

-- slots change no header
same_heads : (w : World) (ds : List Instance) → map head_of (map (fill_instance w) ds) ≡ map head_of ds
same_heads w [] = refl
same_heads w (d ∷ ds) = ap (λ (hs : List Head). head_of d ∷ hs) (same_heads w ds)

pub same_world : (p : Program) → world (filled p) ≡ world p
same_world p = rw (same_heads (world p) p.instances) refl

pub typed_exactly : (p : Program) → IsTyped p ↔ (type_faults p ≡ [])
typed_exactly p = (λ h. all_unbroken false (world p) 0 p.instances h, λ h. (all_right (world p) 0 p.instances h).0)

-- slots are filled right where no rule is broken
pub filled_right : (p : Program) → type_faults p ≡ [] → IsFilled (filled p)
filled_right p h = subst (λ w. AllTyped true w (map (fill_instance (world p)) p.instances)) (sym (same_world p)) (all_right (world p) 0 p.instances h).1

-- what a refusal names is the least violation
pub refused : (p : Program) (o : Option Violation) (r : Refusal) → o ≡ after None (type_faults p) → option_map refusal o ≡ Some r → (v : Violation) × IsLeast (type_faults p) v × (r ≡ refusal v)
refused p None r h g = absurd (cc)
refused p (Some v) r h g = (v, least_of (type_faults p) v (sym h), cc)

-- and where there is none, no rule is broken
pub accepted : (p : Program) (o : Option Violation) → o ≡ after None (type_faults p) → option_map refusal o ≡ None → type_faults p ≡ []
accepted p None h g = none_of (type_faults p) (sym h)
accepted p (Some v) h g = absurd (cc)
