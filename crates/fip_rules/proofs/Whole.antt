-- What the walk notes in a program is just what violates a rule.
use Rattle.std.proofs.Common.{◌≡◌, ℕ, suc, inl, inr, refl, sym, ap, subst, List, [], ◌∷◌, Option, Some, None, Bool, true, false, map}
use Rattle.std.specs.Prelude.{◌↔◌, if◌then◌else◌, option_map}
use Rattle.fip_trees.specs.fip_language.Table.{is_scalar}
use Rattle.fip_base.specs.declared.refusal.Refusal.{Refusal}
use Rattle.fip_trees.specs.declared.least.Violation.{Violation}
use Rattle.fip_trees.specs.Tree.{Instance, Program}
use Rattle.fip_trees.specs.Least.{after, comes_before, IsLeast, IsLeastOf, refusal}
use Rattle.fip_trees.specs.Least as L
use Rattle.fip_trees.proofs.Leasts.{least_of, none_of}
use Rattle.fip_rules.specs.Marks.{Breach, reported}
use Rattle.fip_rules.specs.Shape as S
use Rattle.fip_rules.specs.Rules.{Breaks, Ordered}
use Rattle.fip_rules.specs.Notes.{In, nothing, notes}
use Rattle.fip_rules.specs.World.{world, is_fip, is_ruled}
use Rattle.fip_rules.specs.Shapes.{body}
use Rattle.fip_rules.specs.Noted.{instance_notes, all_notes, program_notes}
use Rattle.fip_rules.specs.Checks.{BreaksInstance, BreaksOne, Violates}
use Rattle.fip_rules.proofs.Lists.{append_is}
use Rattle.fip_rules.proofs.Agree.{notes_exact}
use Rattle.fip_rules.proofs.Orders.{body_ordered}

one_is : (r : Bool) (i : ℕ) (fip : Bool) (e : S.Shape) (b : Breach) → Ordered 0 e → In b (if r then notes i fip nothing e else []) ↔ ((r ≡ true) × Breaks i fip e b)
one_is true i fip e b o = let q = notes_exact i fip e b o in (λ h. (refl, q.0 h), λ h. q.1 h.1)
one_is false i fip e b o = (λ h. absurd h, λ h. absurd (let z = h.0 in cc))

all_is : (p : Program) (i : ℕ) (ds : List Instance) (b : Breach) → In b (all_notes (is_scalar p.types) p.instances i ds) ↔ BreaksOne p i ds b
all_is p i [] b = (λ h. h, λ h. h)
all_is p i (d ∷ ds) b = append_is b (instance_notes (world p d.kind) i d) (all_notes (is_scalar p.types) p.instances (suc i) ds) (BreaksInstance p i d b) (BreaksOne p (suc i) ds b) (one_is (is_ruled d.kind) i (is_fip d.kind) (body (world p d.kind) d) b (body_ordered (world p d.kind) d)) (all_is p (suc i) ds b)

reported_in : (b : Breach) (bs : List Breach) → In b bs → L.In (reported b) (map reported bs)
reported_in b [] h = h
reported_in b (c ∷ bs) (inl e) = inl (ap reported e)
reported_in b (c ∷ bs) (inr h) = inr (reported_in b bs h)

in_reported : (v : Violation) (bs : List Breach) → L.In v (map reported bs) → (b : Breach) × In b bs × (v ≡ reported b)
in_reported v [] h = absurd h
in_reported v (c ∷ bs) (inl e) = (c, inl refl, e)
in_reported v (c ∷ bs) (inr h) = let g = in_reported v bs h in (g.0, inr g.1, g.2)

violates_in : (p : Program) (v : Violation) → Violates p v → L.In v (map reported (program_notes p))
violates_in p v h = subst (λ u. L.In u (map reported (program_notes p))) (sym h.2) (reported_in h.0 (program_notes p) ((all_is p 0 p.instances h.0).1 h.1))

in_violates : (p : Program) (v : Violation) → L.In v (map reported (program_notes p)) → Violates p v
in_violates p v h = let g = in_reported v (program_notes p) h in (g.0, (all_is p 0 p.instances g.0).0 g.1, g.2)

-- what a refusal names is the least violation
pub refused : (p : Program) (o : Option Violation) (r : Refusal) → o ≡ after None (map reported (program_notes p)) → option_map refusal o ≡ Some r → (v : Violation) × IsLeastOf (Violates p) v × (r ≡ refusal v)
refused p None r h g = absurd (cc)
refused p (Some v) r h g =
    let l = least_of (map reported (program_notes p)) v (sym h) in
    (v, record { violated = in_violates p v l.violated; least = λ w k. l.least w (violates_in p w k) }, cc)

-- and where there is none, no rule is broken
pub accepted : (p : Program) (o : Option Violation) → o ≡ after None (map reported (program_notes p)) → option_map refusal o ≡ None → (v : Violation) → Violates p v → ⊥
accepted p None h g v k = subst (λ vs. L.In v vs) (none_of (map reported (program_notes p)) (sym h)) (violates_in p v k)
accepted p (Some u) h g v k = absurd (cc)

-- the notes depend on which types are scalar alone
pub same_notes : (p : Program) (s : ℕ → Bool) → ((t : ℕ) → s t ≡ is_scalar p.types t) → all_notes s p.instances 0 p.instances ≡ program_notes p
same_notes p s h =
    let e : s ≡ is_scalar p.types = λ i t. h t i in
    ap (λ f. all_notes f p.instances 0 p.instances) e
