-- A code whose functions are those of accepted instances is sound.
use Rattle.std.proofs.Common.{◌≡◌, inl, inr, ℕ, zero, suc, ◌+◌, ◌<◌, ◌≤◌, Bool, true, false, not, List, [], ◌∷◌, slice_get, length, Option, Some, None, refl, sym, ap, ◌∙◌, subst, arith, nat_lt, ◌==◌}
use Rattle.std.proofs.lemmas.Option.{none-some, same_Some}
use Rattle.separation.specs.cell_code.declared.code.CodeKind.{CodeKind}
use Rattle.separation.specs.fip_base.declared.plain.Param.{Param}
use Rattle.derivation_making.specs.fip_rules.World as R
use Rattle.lowering_relation.specs.fip_trees.declared.least.Violation.{Violation}
use Rattle.lowering_relation.specs.fip_trees.Tree.{Instance, Program}
use Rattle.tail_groups.specs.Rules.{Violates}
use Rattle.tail_groups.specs.Members.{FipCallsFip}
use Rattle.derivation_making.specs.type_check.World as W
use Rattle.derivation_making.specs.ownership_calculus.Functions.{Derived}
use Rattle.derivation_making.specs.ownership_agreement.Bodies.{body_term, borrowed_parameters, owned_parameters}
use Rattle.separation.specs.code_rules.Breaks.{IsSound}
use Rattle.separation.specs.cell_code.Plain.{PlainFunction, PlainCode, function_at}
use Rattle.separation.specs.code_rules.Codes.{is_fip, code_kind}
use Rattle.separation.specs.code_rules.Headers.{is_formed, are_params, are_sizes, are_types, are_good_maps}
use Rattle.separation.specs.code_rules.Limits.{most_credits, most_results, most_registers}
use Rattle.separation.specs.code_rules.Tables.{AreSoundTables}
use Rattle.separation.specs.code_rules.Types.{is_type}
use Rattle.separation.proofs.separation_kinds.Basics.{or_not, below, below_is, unequal_is}
use Rattle.lowering_relation.specs.Values.{Setting}
use Rattle.lowering_relation.specs.LoweredBodies.{has_function, one_more, if_function, function_of}
use Rattle.lowering_soundness.specs.Accepted.{IsDerived, IsWithinLimits}
use Rattle.lowering_soundness.specs.Laid.{Shares}
use Rattle.lowering_relation.specs.LaidFunctions.{IsLaid, AreLaid}
use Rattle.lowering_soundness.specs.Placed.{Callees, ParamsTyped}
use Rattle.lowering_soundness.specs.Whole.{KeepsRules}
use Rattle.lowering_soundness.proofs.Functions.{function_part, function_kept}
use Rattle.lowering_soundness.proofs.Giving.{and_to}
use Rattle.lowering_soundness.proofs.Grouped.{same_fip, waits_for_none, releases_nothing}
use Rattle.lowering_soundness.proofs.Mapped.{maps_formed}
use Rattle.lowering_soundness.proofs.Ranging.{ranged}
use Rattle.lowering_soundness.proofs.Whole.{sound}
use Rattle.tail_groups.proofs.fip_language.Facts.{not_below, positive_not_zero as some_there}

-- ---- the form of a function

params_there : (c : PlainCode) (ps : List Param) → ParamsTyped c ps → are_params c.types ps ≡ true
params_there c [] h = refl
params_there c (p ∷ ps) h = and_to (is_type c.types p.ty) (are_params c.types ps) h.0 (params_there c ps h.1)

formed : (c : PlainCode) (f : PlainFunction) (d : Instance) → 0 < length f.instrs → length f.params + length f.credits ≤ f.registers → f.params ≡ d.params → f.credits ≡ d.credits → f.results ≡ d.results → ParamsTyped c d.params → are_types c.types d.results ≡ true → IsWithinLimits c f d → are_good_maps c.types f 0 f.labels ≡ true → is_formed c f ≡ true
formed c f d some room params credits results typed there limits maps =
    and_to _ _ (some_there (length f.instrs) some)
    (and_to _ _ (not_below f.registers (length f.params + length f.credits) room)
    (and_to _ _ (let z = limits.registers in below_is f.registers (suc most_registers) (omega (arith, z)))
    (and_to _ _ (some_there (length f.results) (subst (λ rs. 0 < length rs) (sym results) limits.results))
    (and_to _ _ (let z = subst (λ rs. length rs ≤ most_results) (sym results) limits.few_results in below_is (length f.results) (suc most_results) (omega (arith, z)))
    (and_to _ _ (let z = subst (λ rs. length rs ≤ most_credits) (sym credits) limits.few_credits in below_is (length f.credits) (suc most_credits) (omega (arith, z)))
    (and_to _ _ (ap (are_params c.types) params ∙ params_there c d.params typed)
    (and_to _ _ (ap are_sizes credits ∙ limits.sizes)
    (and_to _ _ (ap (are_types c.types) results ∙ there) maps))))))))

-- ---- an instance with a function

one_less : (b : Bool) (o : Option ℕ) (n : ℕ) → one_more b o ≡ Some n → (m : ℕ) × (o ≡ Some m)
one_less b None n h = absurd (none-some n h)
one_less b (Some m) n h = (m, refl)

first_has : (b : Bool) (n : ℕ) → if_function b ≡ Some n → b ≡ true
first_has true n h = refl
first_has false n h = absurd (none-some n h)

pub has_one : (ds : List Instance) (i n : ℕ) (d : Instance) → function_of ds i ≡ Some n → slice_get ds i ≡ Some d → has_function d.kind ≡ true
has_one [] i n d h there = absurd (none-some d there)
has_one (e ∷ ds) zero n d h there = ap (λ (d : Instance). has_function d.kind) (sym (same_Some e d there)) ∙ first_has (has_function e.kind) n h
has_one (e ∷ ds) (suc i) n d h there = let z = one_less (has_function e.kind) (function_of ds i) n h in has_one ds i z.0 d z.1 there

-- ---- the whole code

module _ (c : PlainCode) (st : Setting) (p : Program) (wd : W.World) (w : R.World) (all : AreLaid c st p) (shares : Shares c st wd) (callees : Callees c st wd w) where
  derived_for : (d : Instance) (k : CodeKind) → k ≡ code_kind d.kind → IsDerived c wd w d → Derived (is_fip k) (borrowed_parameters w 0 d.params d.binders) (owned_parameters w 0 d.params d.binders) d.credits (body_term w d)
  derived_for d k same x = subst (λ b. Derived b (borrowed_parameters w 0 d.params d.binders) (owned_parameters w 0 d.params d.binders) d.credits (body_term w d)) (sym (ap is_fip same ∙ same_fip d.kind)) x.derived

  maps_right : AreSoundTables c → (n : ℕ) (f : PlainFunction) (l : IsLaid c st p n f) → IsDerived c wd w l.instance → IsWithinLimits c f l.instance → are_good_maps c.types f 0 f.labels ≡ true
  maps_right tables n f l x limits =
      maps_formed c f st wd w (is_fip f.kind) shares callees tables l.instance l.laid x.numbered x.typed x.params (derived_for l.instance f.kind l.kind x) x.builds limits.sizes limits.maps

  one_formed : AreSoundTables c → (n : ℕ) (f : PlainFunction) (l : IsLaid c st p n f) → IsDerived c wd w l.instance → IsWithinLimits c f l.instance → is_formed c f ≡ true
  one_formed tables n f l x limits =
      let part = function_part c f st wd w (is_fip f.kind) shares callees l.instance l.laid x.numbered x.typed x.params (derived_for l.instance f.kind l.kind x) in
      let own = shares.functions l.number n l.instance l.function (ap (λ ds. slice_get ds l.number) all.setting.instances ∙ l.there) in
      let room = l.laid.room in
      let a = ap length l.laid.params in
      let b = ap length l.laid.credits in
      formed c f l.instance part.inside (omega (arith, room, a, b)) l.laid.params l.laid.credits l.laid.results x.params own.typed limits (maps_right tables n f l x limits)

  keeps_rules : AreSoundTables c → FipCallsFip p.instances → ((v : Violation) → Violates p v → ⊥) → (n : ℕ) (f : PlainFunction) → function_at c n ≡ Some f → (l : IsLaid c st p n f) → IsDerived c wd w l.instance → IsWithinLimits c f l.instance → KeepsRules c n f
  keeps_rules tables fips right n f there l x limits = record {
    formed = one_formed tables n f l x limits;
    ranged = λ i y is. record { ranged = ranged c st f (maps_right tables n f l x limits) wd shares (is_fip f.kind) l.instance l.laid x.builds i y is; fip = λ fip. releases_nothing c st p all fips n f there fip i y is };
    kept = λ i. function_kept c f st wd w (is_fip f.kind) shares callees l.instance l.laid x.numbered x.typed x.params (derived_for l.instance f.kind l.kind x) i;
    calls = λ i callee calls fip group. waits_for_none c st p all right n f there fip i callee calls group;
  }

  pub sound_joined : AreSoundTables c → FipCallsFip p.instances → ((v : Violation) → Violates p v → ⊥) → ((i : ℕ) (d : Instance) → slice_get p.instances i ≡ Some d → has_function d.kind ≡ true → IsDerived c wd w d) → ((n : ℕ) (f : PlainFunction) (l : IsLaid c st p n f) → function_at c n ≡ Some f → IsWithinLimits c f l.instance) → IsSound c
  sound_joined tables fips right derived limits = sound c tables (λ n f there. (
      let l = all.each n f there in
      let x = derived l.number l.instance l.there (has_one p.instances l.number n l.instance (sym (all.setting.functions l.number) ∙ l.function) l.there) in
      keeps_rules tables fips right n f there l x (limits n f l there)))
