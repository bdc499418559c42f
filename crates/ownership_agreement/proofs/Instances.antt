-- An instance breaks no rule just where it is derived, and so does a program.
use Rattle.std.proofs.Common.{◌≡◌, ℕ, suc, ◌⊎◌, inl, inr, refl, sym, ap, subst, List, [], ◌∷◌, Bool, true, false, arith}
use Rattle.std.specs.Prelude.{◌↔◌}
use Rattle.credit_check.specs.fip_language.declared.FunKind.{FunKind}
use Rattle.credit_check.specs.fip_language.declared.FunKind.TheVariants.{Fip, Fbip, Fun}
use Rattle.credit_check.specs.fip_trees.declared.least.Violation.{Violation}
use Rattle.credit_check.specs.fip_trees.Tree.{Instance, Program}
use Rattle.fip_rules.specs.Marks.{Breach, reported}
use Rattle.fip_rules.specs.Checks as O
use Rattle.fip_rules.specs.Rules.{Ordered}
use Rattle.fip_rules.specs.World.{World, world, is_fip, is_ruled}
use Rattle.fip_rules.specs.Shapes.{Names, within, parameters, no_names, shape_block, body}
use Rattle.fip_rules.proofs.Orders.{body_ordered}
use Rattle.credit_check.specs.Credits as K
use Rattle.ownership_calculus.specs.Clean as C
use Rattle.ownership_calculus.specs.Functions as F
use Rattle.ownership_calculus.specs.Functions.{Accepted, Derived}
use Rattle.ownership_calculus.proofs.Whole.{is_derived, is_accepted}
use Rattle.ownership_agreement.specs.Good as G
use Rattle.ownership_agreement.specs.Bodies.{Scalars, borrowed_parameters, owned_parameters, entering_parameters, no_variables, body_term}
use Rattle.ownership_agreement.specs.Sized.{IsSized}
use Rattle.ownership_agreement.specs.Agreement.{BreaksNone, IsDerived, AreDerived, AreSized, IsAccepted}
use Rattle.ownership_agreement.proofs.Basics.{Above, ordered_within}
use Rattle.ownership_agreement.proofs.Always.{block_got}
use Rattle.ownership_agreement.proofs.Quiet.{good_is}
use Rattle.ownership_agreement.proofs.Whole.{block_is}
use Rattle.ownership_agreement.proofs.Evens.{credits_is}
use Rattle.ownership_agreement.proofs.Parameters.{binds_good, parameter_states, used_is, past_within, all_past, owned_seen}
use Rattle.fip_rules.proofs.fip_base.fip_language.Facts.{true_or_false as either}

abbrev unknown : ℕ → C.Status
unknown x = C.Owned true false

abbrev all_names : World → Instance → Names
all_names w d = within no_names (parameters w d.params d.binders)

abbrev all_scalars : World → Instance → Scalars
all_scalars w d = entering_parameters w 0 no_variables d.params d.binders

abbrev owns : World → Instance → ℕ → C.Status
owns w d = F.parameters (borrowed_parameters w 0 d.params d.binders) (owned_parameters w 0 d.params d.binders)

ordered : (w : World) (d : Instance) → Ordered (all_names w d).next (shape_block w (all_names w d) d.body)
ordered w d = ordered_within no_names (parameters w d.params d.binders) (shape_block w (all_names w d) d.body) (body_ordered w d)

above : (w : World) (d : Instance) → Above (all_scalars w d) (all_names w d).next
above w d x l = all_past w 0 no_variables d.params d.binders (λ y m. refl) x (let e = past_within w no_names d.params d.binders in omega arith)

-- the body is good in the scopes of its parameters just where its term is clean, and each owned parameter is used
owned_is : (fip : Bool) (w : World) (d : Instance) → G.Good fip (λ x. G.Free) (body w d) ↔ (C.Clean fip (owns w d) (body_term w d) × C.AllUsed fip (owned_parameters w 0 d.params d.binders) (body_term w d))
owned_is fip w d =
    let c = all_names w d in
    let sc = all_scalars w d in
    let e = shape_block w c d.body in
    let t = body_term w d in
    let bs = parameters w d.params d.binders in
    let g = binds_good fip 0 (λ x. G.Free) bs e in
    let s = parameter_states w 0 no_variables unknown d.params d.binders in
    let u = used_is fip w 0 d.params d.binders e t (λ x h. let z = owned_seen w no_variables 0 x d.params d.binders h in let l = z.1 in let m = past_within w no_names d.params d.binders in block_got w c x sc d.body (ordered w d) (omega arith) z.0) in
    let k = block_is fip w c sc (owns w d) d.body (ordered w d) (above w d) in (
      λ h. let z = g.0 h in (k.1 (subst (λ f. G.Good fip f e) s z.1), u.0 z.0),
      λ h. g.1 (u.1 h.1, subst (λ f. G.Good fip f e) (sym s) (k.0 h.0)),
    )

not_plain : (k : FunKind) → is_ruled k ≡ true → k ≡ Fun → ⊥
not_plain k r e = absurd (let z = ap is_ruled e in cc)

pub agrees : (p : Program) (i : ℕ) (d : Instance) → is_ruled d.kind ≡ true → IsSized p d → BreaksNone p i d ↔ IsDerived p d
agrees p i d r s =
    let fip = is_fip d.kind in
    let w = world p d.kind in
    let lent = borrowed_parameters w 0 d.params d.binders in
    let own = owned_parameters w 0 d.params d.binders in
    let t = body_term w d in
    let g = good_is i fip (body w d) (body_ordered w d) in
    let o = owned_is fip w d in
    let k = credits_is p d.kind i (all_scalars w d) (all_names w d) d d.kind s.header s.body (not_plain d.kind r) in (
      λ h.
          let a = o.0 (g.1 (λ b z. h.owned b (r, z))) in
          let c = k.1 h.credited in
          is_derived fip lent own d.credits t (a.0, a.1, c.0, c.1),
      λ h.
          let a = is_accepted fip lent own d.credits t h in
          let q = g.0 (o.1 (a.0, a.1)) in
          record { owned = λ b z. q b z.1; credited = k.0 (a.2, a.3) },
    )

-- ---- programs

not_ruled : (p : Program) (i : ℕ) (d : Instance) (k : FunKind) (v : Violation) → is_ruled k ≡ false → K.BreaksInstance p i k d v → ⊥
not_ruled p i d Fip v e h = absurd (cc)
not_ruled p i d Fbip v e h = absurd (cc)
not_ruled p i d Fun v e h = h

one_agrees : (p : Program) (i : ℕ) (d : Instance) → IsSized p d → BreaksNone p i d ↔ (is_ruled d.kind ≡ true → IsDerived p d)
one_agrees p i d s = (
  λ h r. (agrees p i d r s).0 h,
  λ f. elim (either (is_ruled d.kind)) as (λ z. BreaksNone p i d) [
    | inl r ↦ (agrees p i d r s).1 (f r)
    | inr r ↦ record { owned = λ b z. absurd (let y = z.0 in cc); credited = λ v z. not_ruled p i d d.kind v r z }
  ],
)

all_agree : (p : Program) (i : ℕ) (ds : List Instance) → AreSized p ds → (((b : Breach) → O.BreaksOne p i ds b → ⊥) × ((v : Violation) → K.BreaksOne p i ds v → ⊥)) ↔ AreDerived p ds
all_agree p i [] s = (λ h. tt, λ h. (λ b z. z, λ v z. z))
all_agree p i (d ∷ ds) s =
    let g = one_agrees p i d s.0 in
    let r = all_agree p (suc i) ds s.1 in (
      λ h. (
        g.0 (record { owned = λ b z. h.0 b (inl z); credited = λ v z. h.1 v (inl z) }),
        r.0 (λ b z. h.0 b (inr z), λ v z. h.1 v (inr z)),
      ),
      λ h.
          let a = g.1 h.0 in
          let c = r.1 h.1 in (
            λ b z. elim z as (λ y. ⊥) [ inl y ↦ a.owned b y | inr y ↦ c.0 b y ],
            λ v z. elim z as (λ y. ⊥) [ inl y ↦ a.credited v y | inr y ↦ c.1 v y ],
          ),
    )

pub programs_agree : (p : Program) → AreSized p p.instances → IsAccepted p ↔ AreDerived p p.instances
programs_agree p s =
    let g = all_agree p 0 p.instances s in (
      λ h. g.0 (λ b z. h.owned (reported b) (b, z, refl), λ v z. h.credited v z),
      λ h. let c = g.1 h in record { owned = λ v z. c.0 z.0 z.1; credited = λ v z. c.1 v z },
    )
