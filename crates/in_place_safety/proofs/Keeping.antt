-- A fip instance of a well typed program whose fip instances are derived keeps its cells.
use Rattle.std.proofs.Common.{◌≡◌, ℕ, zero, suc, true, List, [], ◌∷◌, Some, slice_get, refl, sym, ap, ◌∙◌, subst, arith}
use Rattle.tail_groups.specs.fip_language.declared.FunKind.{FunKind}
use Rattle.tail_groups.specs.fip_language.declared.FunKind.TheVariants.{Fip}
use Rattle.tail_groups.specs.fip_language.Values.{Values, cells_of_all}
use Rattle.tail_groups.specs.fip_language.Table.{is_scalar, HaveTypes}
use Rattle.tail_groups.specs.fip_language.Meaning.{Answer, Gives, Trap, Out, Deep, Stuck, Run, counted, nothing_bound}
use Rattle.tail_groups.specs.fip_trees.Tree.{Instance, Program}
use Rattle.type_safety.specs.type_check.Scope.{Scope}
use Rattle.type_safety.specs.type_check.World as Y
use Rattle.type_safety.specs.type_check.Typing.{IsFilled, Typed, Parameters, parameter_entries}
use Rattle.ownership_agreement.specs.fip_rules.World.{World, world, is_fip, is_ruled}
use Rattle.ownership_agreement.specs.fip_rules.Shapes.{Names, within, taking, parameters, no_names}
use Rattle.type_safety.specs.instance_semantics.Registers.{frame_words}
use Rattle.type_safety.specs.instance_semantics.Meaning.{bind_binders, Calls, body_run, calls_of, flat_meaning}
use Rattle.type_safety.specs.Formed.{FormedInstance, IsFormed}
use Rattle.type_safety.specs.Soundness.{parameter_types}
use Rattle.type_safety.proofs.WellTyped.{typed_at, formed_at}
use Rattle.type_safety.proofs.Gains.{CallsGain, calls_gained}
use Rattle.ownership_agreement.specs.ownership_calculus.Functions.{Derived}
use Rattle.ownership_agreement.specs.Bodies.{Scalars, entering, borrowed_parameters, owned_parameters, entering_parameters, no_variables, body_term}
use Rattle.ownership_agreement.specs.Agreement.{IsDerived, AreDerived, AreSized, IsAccepted}
use Rattle.ownership_agreement.proofs.Instances.{programs_agree}
use Rattle.in_place_safety.specs.Conservation.{cells_given, KeepsCells, AreFipDerived}
use Rattle.in_place_safety.specs.Counts.{Held}
use Rattle.in_place_safety.proofs.CellTheorem.{function_theorem}
use Rattle.in_place_safety.proofs.Tracking.{Tracks}
use Rattle.in_place_safety.proofs.Binding.{held_all, tracks_binders, parameter_slots, parameter_slot_entries, parameter_names, parameter_scalars}
use Rattle.in_place_safety.proofs.Owned.{owned_once, owned_total}
use Rattle.in_place_safety.proofs.Counting.{CallsKeep, block_counts}

pub derived_at : (p : Program) (ds : List Instance) (i : ℕ) (d : Instance) → AreFipDerived p ds → slice_get ds i ≡ Some d → d.kind ≡ Fip → IsDerived p d
derived_at p [] i d h e k = cc
derived_at p (x ∷ ds) zero d h e k = let same : x ≡ d = cc in subst (IsDerived p) same (h.0 (ap (λ (z : Instance). z.kind) same ∙ k))
derived_at p (x ∷ ds) (suc i) d h e k = derived_at p ds i d h.1 e k

-- ---- a body in the scopes of its parameters

nothing_held : Held
nothing_held i k = 0

none_tracked : (p : Program) → Tracks p.types no_names no_variables [] nothing_bound nothing_held
none_tracked p x t e = cc

module _ (p : Program) (f : Instance) (vs : Values) (formed : FormedInstance p f) (slot : Parameters true f.params f.binders) (typed : HaveTypes p.types (parameter_types f) vs) where
  abbrev w : World
  w = world p Fip

  abbrev names : Names
  names = within no_names (parameters w f.params f.binders)

  abbrev scalars : Scalars
  scalars = entering_parameters w 0 no_variables f.params f.binders

  abbrev held : Held
  held = held_all (is_scalar p.types) 0 f.binders vs nothing_held

  parameters_tracked : Tracks p.types names scalars (parameter_entries f.params f.binders) (bind_binders nothing_bound f.binders vs) held
  parameters_tracked =
      let env = bind_binders nothing_bound f.binders vs in
      let slotted = subst (λ ts. HaveTypes p.types ts vs) (parameter_slots f.params f.binders formed.binders slot) typed in
      let all = tracks_binders p.types w refl true no_names no_variables [] nothing_bound nothing_held f.binders vs (none_tracked p) slotted in
      let scoped = subst (λ (s : Scope). Tracks p.types (within no_names (taking w true f.binders)) (entering w 0 no_variables f.binders) s env held) (sym (parameter_slot_entries f.params f.binders formed.binders slot)) all in
      let named = subst (λ c. Tracks p.types c (entering w 0 no_variables f.binders) (parameter_entries f.params f.binders) env held) (sym (parameter_names w no_names f.params f.binders formed.binders)) scoped in
      subst (λ sc. Tracks p.types names sc (parameter_entries f.params f.binders) env held) (sym (parameter_scalars w 0 no_variables f.params f.binders formed.binders slot)) named

-- ---- instances

keeps_where : (f : Instance) (vs : Values) (a : Answer) → ((rs : Values) (left : ℕ) → a ≡ Gives rs left → (k : ℕ) → cells_of_all k rs ≡ cells_given k f vs) → KeepsCells f vs a
keeps_where f vs (Gives rs left) h = h rs left refl
keeps_where f vs (Trap kind line col) h = tt
keeps_where f vs Out h = tt
keeps_where f vs Deep h = tt
keeps_where f vs Stuck h = tt

-- the derivation of a fip instance
pub fip_derived : (p : Program) (f : Instance) (k : FunKind) → f.kind ≡ k → IsDerived p f → Derived (is_fip k) (borrowed_parameters (world p k) 0 f.params f.binders) (owned_parameters (world p k) 0 f.params f.binders) f.credits (body_term (world p k) f)
fip_derived p f k e h = subst (λ z. Derived (is_fip z) (borrowed_parameters (world p z) 0 f.params f.binders) (owned_parameters (world p z) 0 f.params f.binders) f.credits (body_term (world p z) f)) e h

body_keeps : (p : Program) → IsFormed p → (calls : Calls) → CallsGain p calls → CallsKeep p calls → (f : Instance) → f.kind ≡ Fip → IsDerived p f → Typed true (Y.world p) f → FormedInstance p f → (d : ℕ) (vs : Values) (k : ℕ) → HaveTypes p.types (parameter_types f) vs → KeepsCells f vs (body_run calls d (Some f) vs k).answer
body_keeps p well calls gain keep f fip derived typed formed d vs k g =
    keeps_where f vs (body_run calls d (Some f) vs k).answer (λ rs left e n.
    let slot : Parameters true f.params f.binders = typed.2 in
    let has = parameters_tracked p f vs formed slot g in
    let w = world p Fip in
    let names = within no_names (parameters w f.params f.binders) in
    let scalars = entering_parameters w 0 no_variables f.params f.binders in
    let held = held_all (is_scalar p.types) 0 f.binders vs nothing_held in
    let own = owned_parameters w 0 f.params f.binders in
    let counts = block_counts p well calls gain keep (frame_words f) names scalars (parameter_entries f.params f.binders) held true f.body f.results true d (bind_binders nothing_bound f.binders vs) k formed.body typed.3 has rs left e in
    let theorem = function_theorem (borrowed_parameters w 0 f.params f.binders) own f.credits (body_term w f) held (λ j. cells_of_all j rs) (fip_derived p f Fip fip derived) (owned_once p.types w refl 0 f.params f.binders) counts n in
    let whole = owned_total p.types w refl 0 f.params f.binders vs nothing_held n formed.binders slot g in
    omega arith)

calls_keep : (p : Program) → IsFormed p → IsFilled p → AreFipDerived p p.instances → (m : ℕ) → CallsKeep p (calls_of p m)
calls_keep p well typed derived zero d g vs k f e fip h = tt
calls_keep p well typed derived (suc m) d g vs k f e fip h =
    subst (λ o. KeepsCells f vs (body_run (calls_of p m) d o vs k).answer) (sym e)
    (body_keeps p well (calls_of p m) (calls_gained p well typed m) (calls_keep p well typed derived m) f fip (derived_at p p.instances g f derived e fip) (typed_at (Y.world p) p.instances g f typed e) (formed_at p p.instances g f well.bodies e) d vs k h)

keeps_counted : (f : Instance) (vs : Values) (k : ℕ) (go : ℕ → Run) → ((left : ℕ) → KeepsCells f vs (go left).answer) → KeepsCells f vs (counted k go).answer
keeps_counted f vs zero go h = tt
keeps_counted f vs (suc k) go h = h k

-- what a fip instance gives has the cells that it was given
pub meaning_keeps : (p : Program) (i : ℕ) (f : Instance) (vs : Values) (n d : ℕ) → IsFormed p → IsFilled p → AreFipDerived p p.instances → slice_get p.instances i ≡ Some f → f.kind ≡ Fip → HaveTypes p.types (parameter_types f) vs → KeepsCells f vs (flat_meaning p i vs n d).answer
unfolding flat_meaning
meaning_keeps p i f vs n d well typed derived e fip h = keeps_counted f vs n _ (λ left. calls_keep p well typed derived n d i vs left f e fip h)

-- ---- where the rules on ownership and credits are kept

ruled : (k : FunKind) → k ≡ Fip → is_ruled k ≡ true
ruled k e = ap is_ruled e

pub fip_of : (p : Program) (ds : List Instance) → AreDerived p ds → AreFipDerived p ds
fip_of p [] h = tt
fip_of p (d ∷ ds) h = ((λ e. h.0 (ruled d.kind e)), fip_of p ds h.1)

pub accepted_keeps : (p : Program) (i : ℕ) (f : Instance) (vs : Values) (n d : ℕ) → IsFormed p → IsFilled p → AreSized p p.instances → IsAccepted p → slice_get p.instances i ≡ Some f → f.kind ≡ Fip → HaveTypes p.types (parameter_types f) vs → KeepsCells f vs (flat_meaning p i vs n d).answer
accepted_keeps p i f vs n d well typed sized accepted e fip h =
    meaning_keeps p i f vs n d well typed (fip_of p p.instances ((programs_agree p sized).0 accepted)) e fip h
