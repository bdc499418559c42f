-- Programs that break no rule.
use Rattle.std.proofs.Common.{◌≡◌, List, [], ◌∷◌, arith}
use Rattle.derivation_check.specs.fip_trees.Tree.{Instance, Program}
use Rattle.ownership_agreement.specs.fip_rules.World.{world, is_fip}
use Rattle.ownership_agreement.specs.fip_rules.Shapes as H
use Rattle.ownership_agreement.specs.fip_rules.Shapes.{no_names}
use Rattle.ownership_agreement.specs.credit_check.Needs.{need_block}
use Rattle.ownership_agreement.specs.ownership_calculus.Terms.{Credit, given}
use Rattle.ownership_agreement.specs.ownership_calculus.Clean.{asks}
use Rattle.ownership_agreement.specs.ownership_calculus.Functions.{Accepted}
use Rattle.ownership_agreement.proofs.ownership_calculus.Fit.{fits_le}
use Rattle.ownership_agreement.proofs.ownership_calculus.Whole.{is_accepted}
use Rattle.ownership_agreement.specs.Bodies.{borrowed_parameters, owned_parameters, entering_parameters, no_variables, body_term}
use Rattle.ownership_agreement.specs.Agreement.{IsDerived, AreDerived, AreSized, IsAccepted}
use Rattle.ownership_agreement.proofs.Amounts.{header_given, block_need}
use Rattle.ownership_agreement.proofs.Instances.{programs_agree}
use Rattle.derivation_check.specs.Accepted.{IsDerivation}
use Rattle.derivation_making.specs.Made.{made_entries}
use Rattle.derivation_making.specs.Fitting.{AreFitting}
use Rattle.derivation_making.specs.Weakening.{AllLean}
use Rattle.type_check.specs.Typing.{IsFilled}
use Rattle.derivation_making.specs.Numbered.{AllNumbered}
use Rattle.derivation_making.proofs.Typed.{typed_fits}
use Rattle.derivation_making.proofs.Whole.{Each, instance_derived, entries_derived}
use Rattle.derivation_making.proofs.Lean.{EachEnough, lean_entries}

accepted : (p : Program) (d : Instance) → IsDerived p d → Accepted (is_fip d.kind) (borrowed_parameters (world p d.kind) 0 d.params d.binders) (owned_parameters (world p d.kind) 0 d.params d.binders) d.credits (body_term (world p d.kind) d)
accepted p d h = is_accepted (is_fip d.kind) (borrowed_parameters (world p d.kind) 0 d.params d.binders) (owned_parameters (world p d.kind) 0 d.params d.binders) d.credits (body_term (world p d.kind) d) h

each : (p : Program) (ds : List Instance) → AreFitting p ds → AreSized p ds → AreDerived p ds → Each p ds
each p [] f z h = tt
each p (d ∷ ds) f z h = (λ r. instance_derived p d (f.0 r) z.0 (accepted p d (h.0 r)), each p ds f.1 z.1 h.1)

enough : (p : Program) (ds : List Instance) → AreSized p ds → AreDerived p ds → EachEnough p ds
enough p [] z h = tt
enough p (d ∷ ds) z h = (
  λ r k a b.
      let w = world p d.kind in
      let s = z.0 in
      let c = H.within no_names (H.parameters w d.params d.binders) in
      let sc = entering_parameters w 0 no_variables d.params d.binders in
      let x = fits_le (is_fip d.kind) (given k d.credits) (asks (Credit k) (body_term w d)) ((accepted p d (h.0 r)).2 k) in
      let y = header_given k d.credits in
      let v : asks (Credit k) (body_term w d) ≡ need_block p k d.body = block_need k a p d.kind sc c d.body s.body in omega arith,
  enough p ds z.1 h.1,
)

pub program_derived : (p : Program) → IsFilled p → AllNumbered p p.instances → AreSized p p.instances → IsAccepted p → IsDerivation p (made_entries p 0 p.instances)
program_derived p t n z h = entries_derived p 0 p.instances (each p p.instances (typed_fits p p.instances t n z) z ((programs_agree p z).0 h))

pub program_lean : (p : Program) → AreSized p p.instances → IsAccepted p → AllLean (made_entries p 0 p.instances)
program_lean p z h = lean_entries p 0 p.instances (enough p p.instances z ((programs_agree p z).0 h))
