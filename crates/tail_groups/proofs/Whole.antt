-- What the walk notes is just what breaks the rule.
use Rattle.std.proofs.Common.{◌≡◌, ℕ, zero, suc, ◌+◌, inl, inr, refl, sym, ap, subst, List, [], ◌∷◌, Option, Some, None, Bool, true, false, not, arith}
use Rattle.std.specs.Prelude.{if◌then◌else◌, option_map, ◌&&◌, ◌==◌, slice_get}
use Rattle.std.proofs.lemmas.Bool.Decides.{nat_tests}
use Rattle.std.proofs.lemmas.Option.{none-some, same_Some}
use Rattle.fip_base.specs.declared.refusal.Refusal.{Refusal}
use Rattle.fip_trees.specs.declared.least.Violation.{Violation}
use Rattle.fip_trees.specs.Tree.{Instance, Program}
use Rattle.fip_trees.specs.Least.{after, IsLeast, IsLeastOf, refusal}
use Rattle.fip_trees.specs.Least as L
use Rattle.fip_trees.proofs.Leasts.{least_of, none_of, in_left, in_right, in_either}
use Rattle.call_groups.specs.CallGraph.{In, group_number, IsPartition}
use Rattle.call_groups.specs.declared.search.Partition.{Partition}
use Rattle.tail_groups.proofs.Shared.{block_same}
use Rattle.tail_groups.specs.Sites.{Site, instance_sites, call_rows}
use Rattle.tail_groups.specs.Rules.{is_fip, reported, Violates}
use Rattle.tail_groups.specs.Notes.{site_notes, notes, instance_notes, all_notes, IsNoted}
use Rattle.fip_language.proofs.Facts.{equal_true as yes_same, same_number as same_yes}

-- one call
site_by : (t b : Bool) (v w : Violation) → L.In v (if not t && b then w ∷ [] else []) → (t ≡ false) × (b ≡ true) × (v ≡ w)
site_by true b v w h = absurd h
site_by false true v w (inl e) = (refl, refl, e)
site_by false true v w (inr h) = absurd h
site_by false false v w h = absurd h

by_site : (t b : Bool) (w : Violation) → t ≡ false → b ≡ true → L.In w (if not t && b then w ∷ [] else [])
by_site true b w h g = absurd (cc)
by_site false true w h g = inl refl
by_site false false w h g = absurd (cc)

-- some calls
notes_in : (p : Partition) (i : ℕ) (ss : List Site) (v : Violation) → L.In v (notes p i ss) → (s : Site) × In s ss × (s.is_tail ≡ false) × (group_number p s.callee ≡ group_number p i) × (v ≡ reported i s)
notes_in p i [] v h = absurd h
notes_in p i (s ∷ ss) v h = elim (in_either v (site_notes p i s) (notes p i ss) h) [
  | inl g ↦
      let r = site_by s.is_tail (group_number p s.callee == group_number p i) v (reported i s) g in
      (s, (0, refl), r.0, same_yes (group_number p s.callee) (group_number p i) r.1, r.2)
  | inr g ↦ let r = notes_in p i ss v g in (r.0, (suc r.1.0, r.1.1), r.2, r.3, r.4)
]

in_notes : (p : Partition) (i : ℕ) (ss : List Site) (j : ℕ) (s : Site) → slice_get ss j ≡ Some s → s.is_tail ≡ false → group_number p s.callee ≡ group_number p i → L.In (reported i s) (notes p i ss)
in_notes p i [] j s h t g = absurd (none-some s h)
in_notes p i (x ∷ ss) zero s h t g =
    let same : x ≡ s = same_Some x s h in
    in_left (reported i s) (site_notes p i x) (notes p i ss)
    (subst (λ y. L.In (reported i s) (site_notes p i y)) (sym same)
    (by_site s.is_tail (group_number p s.callee == group_number p i) (reported i s) t (yes_same (group_number p s.callee) (group_number p i) g)))
in_notes p i (x ∷ ss) (suc j) s h t g = in_right (reported i s) (site_notes p i x) (notes p i ss) (in_notes p i ss j s h t g)

-- one instance
instance_by : (fip : Bool) (p : Partition) (i : ℕ) (ss : List Site) (v : Violation) → L.In v (if fip then notes p i ss else []) → (fip ≡ true) × L.In v (notes p i ss)
instance_by true p i ss v h = (refl, h)
instance_by false p i ss v h = absurd h

by_instance : (fip : Bool) (p : Partition) (i : ℕ) (ss : List Site) (v : Violation) → fip ≡ true → L.In v (notes p i ss) → L.In v (if fip then notes p i ss else [])
by_instance true p i ss v e h = h
by_instance false p i ss v e h = absurd (cc)

-- all instances, from number i on
all_in : (p : Partition) (i : ℕ) (ds : List Instance) (v : Violation) → L.In v (all_notes p i ds) →
    (j : ℕ) × (d : Instance) × (slice_get ds j ≡ Some d) × L.In v (instance_notes p (i + j) d)
all_in p i [] v h = absurd h
all_in p i (d ∷ ds) v h = elim (in_either v (instance_notes p i d) (all_notes p (suc i) ds) h) [
  | inl g ↦ (0, d, refl, let e : i ≡ i + 0 = omega arith in subst (λ k. L.In v (instance_notes p k d)) e g)
  | inr g ↦ let r = all_in p (suc i) ds v g in (suc r.0, r.1, r.2, let e : suc i + r.0 ≡ i + suc r.0 = omega arith in subst (λ k. L.In v (instance_notes p k r.1)) e r.3)
]

in_all : (p : Partition) (i : ℕ) (ds : List Instance) (v : Violation) (j : ℕ) (d : Instance) → slice_get ds j ≡ Some d → L.In v (instance_notes p (i + j) d) → L.In v (all_notes p i ds)
in_all p i [] v j d h g = absurd (none-some d h)
in_all p i (x ∷ ds) v zero d h g =
    let e : i + 0 ≡ i = omega arith in
    in_left v (instance_notes p i x) (all_notes p (suc i) ds)
    (subst (λ y. L.In v (instance_notes p i y)) (sym (same_Some x d h)) (subst (λ k. L.In v (instance_notes p k d)) e g))
in_all p i (x ∷ ds) v (suc j) d h g =
    let e : i + suc j ≡ suc i + j = omega arith in
    in_right v (instance_notes p i x) (all_notes p (suc i) ds) (in_all p (suc i) ds v j d h (subst (λ k. L.In v (instance_notes p k d)) e g))

same_notes : (g : Partition) (i : ℕ) (d : Instance) → instance_notes g i d ≡ (if is_fip d.kind then notes g i (instance_sites d) else [])
same_notes g i d = ap (λ ns. if is_fip d.kind then ns else []) (block_same g i true d.body)

module _ (p : Program) (g : Partition) (right : IsPartition (call_rows p.instances) g) where
  violates_in : (v : Violation) → Violates p v → L.In v (all_notes g 0 p.instances)
  violates_in v h =
      let w = h.3 in
      let at : 0 + h.0 ≡ h.0 = omega arith in
      let one : L.In (reported h.0 h.2) (notes g h.0 (instance_sites h.1)) = in_notes g h.0 (instance_sites h.1) w.call.0 h.2 w.call.1 w.waits (sym ((right.same h.0 h.2.callee).1 w.together)) in
      let all : L.In (reported h.0 h.2) (instance_notes g h.0 h.1) = subst (λ ns. L.In (reported h.0 h.2) ns) (sym (same_notes g h.0 h.1)) (by_instance (is_fip h.1.kind) g h.0 (instance_sites h.1) (reported h.0 h.2) w.fip one) in
      subst (λ u. L.In u (all_notes g 0 p.instances)) (sym h.4)
      (in_all g 0 p.instances (reported h.0 h.2) h.0 h.1 w.instance (subst (λ k. L.In (reported h.0 h.2) (instance_notes g k h.1)) (sym at) all))

  in_violates : (v : Violation) → L.In v (all_notes g 0 p.instances) → Violates p v
  in_violates v h =
      let r = all_in g 0 p.instances v h in
      let zero_is : 0 + r.0 ≡ r.0 = omega arith in
      let one = instance_by (is_fip r.1.kind) g r.0 (instance_sites r.1) v (subst (λ ns. L.In v ns) (same_notes g r.0 r.1) (subst (λ k. L.In v (instance_notes g k r.1)) zero_is r.3)) in
      let s = notes_in g r.0 (instance_sites r.1) v one.1 in
      (r.0, r.1, s.0, record { instance = r.2; fip = one.0; call = s.1; waits = s.2; together = (right.same r.0 s.0.callee).0 (sym s.3) }, s.4)

  -- what a refusal names is the least violation
  pub refused : (o : Option Violation) (r : Refusal) → o ≡ after None (all_notes g 0 p.instances) → option_map refusal o ≡ Some r → (v : Violation) × IsLeastOf (Violates p) v × (r ≡ refusal v)
  refused None r h e = absurd (cc)
  refused (Some v) r h e =
      let l = least_of (all_notes g 0 p.instances) v (sym h) in
      (v, record { violated = in_violates v l.violated; least = λ w k. l.least w (violates_in w k) }, cc)

  -- and where there is none, the rule isn't broken
  pub accepted : (o : Option Violation) → o ≡ after None (all_notes g 0 p.instances) → option_map refusal o ≡ None → (v : Violation) → Violates p v → ⊥
  accepted None h e v k = subst (λ vs. L.In v vs) (none_of (all_notes g 0 p.instances) (sym h)) (violates_in v k)
  accepted (Some u) h e v k = absurd (cc)

pub refused_by : (p : Program) (o : Option Violation) (r : Refusal) → IsNoted p.instances o → option_map refusal o ≡ Some r → (v : Violation) × IsLeastOf (Violates p) v × (r ≡ refusal v)
refused_by p o r n e = refused p n.groups n.right o r n.noted e

pub accepted_by : (p : Program) (o : Option Violation) → IsNoted p.instances o → option_map refusal o ≡ None → (v : Violation) → Violates p v → ⊥
accepted_by p o n e v k = accepted p n.groups n.right o n.noted e v k
