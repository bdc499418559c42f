-- What the soundness of lowered code requires of a program and of what its code shares with it, an accepted source
-- gives.
use Rattle.std.proofs.Common.{◌≡◌, ◌≤◌, ℕ, zero, suc, true, List, [], ◌∷◌, length, Option, Some, None, slice_get, refl, sym, ap, ◌∙◌, subst, arith}
use Rattle.std.proofs.lemmas.Option.{none-some, same_Some}
use Rattle.lowering_soundness.specs.fip_language.declared.FunKind.{FunKind}
use Rattle.lowering_soundness.specs.fip_language.declared.FunKind.TheVariants.{Fip, Fbip, Fun}
use Rattle.lowering_soundness.specs.fip_language.declared.limits.TheConstants.{MOST_FIELDS, MOST_REGISTERS}
use Rattle.lowering_soundness.specs.fip_trees.declared.groups.Member.{Member}
use Rattle.lowering_soundness.specs.fip_trees.NeedsView.{needs_of}
use Rattle.lowering_soundness.specs.fip_trees.Tree.{Instance, Program}
use Rattle.lowering_soundness.specs.fip_rules.World as R
use Rattle.derivation_correctness.proofs.static_params.TypeRows.{there_among}
use Rattle.lowering_soundness.specs.type_check.Typing.{Typed, AllTyped, parameter_scope}
use Rattle.lowering_soundness.specs.type_check.World as W
use Rattle.lowering_soundness.specs.tail_groups.Registers as G
use Rattle.lowering_soundness.specs.credit_check.Tallies.{all_needs}
use Rattle.lowering_soundness.specs.ownership_calculus.Functions.{Derived}
use Rattle.lowering_soundness.specs.ownership_agreement.Bodies.{body_term, borrowed_parameters, owned_parameters}
use Rattle.lowering_soundness.proofs.ownership_agreement.Instances.{programs_agree}
use Rattle.lowering_soundness.specs.ownership_agreement.Agreement.{IsDerived as IsDerivedAlone, AreDerived, AreSized}
use Rattle.lowering_soundness.specs.ownership_agreement.Sized.{AreSizes, IsSized}
use Rattle.lowering_soundness.specs.derivation_making.Numbered as N
use Rattle.lowering_soundness.specs.code_rules.Breaks.{IsSound}
use Rattle.lowering_soundness.specs.cell_code.Plain.{PlainFunction, PlainCode, function_at}
use Rattle.lowering_soundness.specs.fip_language.Kinds.{is_fip}
use Rattle.lowering_soundness.specs.code_rules.Headers.{is_size, are_sizes}
use Rattle.lowering_soundness.proofs.separation_kinds.Basics.{below_is}
use Rattle.lowering_soundness.specs.lowering_relation.LoweredBodies.{has_function, function_of}
use Rattle.lowering_soundness.specs.lowering_relation.LoweredFunctions.{IsSettingOf}
use Rattle.lowering_soundness.specs.lowering_relation.Values.{Setting}
use Rattle.lowering_soundness.specs.Accepted.{IsDerived, IsWithinLimits}
use Rattle.lowering_soundness.specs.Built.{BuildsBlock}
use Rattle.lowering_soundness.specs.lowering_relation.Standing.{MapsStand}
use Rattle.lowering_soundness.specs.lowering_relation.LaidFunctions.{AreLaid}
use Rattle.lowering_soundness.proofs.Giving.{and_to}
use Rattle.lowering_soundness.proofs.Joined.{has_one, sound_joined}
use Rattle.lower_parts.specs.Bodies.{FoundedBlock}
use Rattle.derivation_correctness.specs.cell_lower.LaidProgram.{AskedInstance, IsAsked, IsLaidOut}
use Rattle.derivation_correctness.specs.cell_lower.Shape.{Header}
use Rattle.derivation_correctness.specs.cell_lower.Limits.{registers, registers_of}
use Rattle.derivation_correctness.specs.source_report.Report.{IsTyped, IsAccepted}
use Rattle.derivation_correctness.proofs.source_report.FipCalls as F
use Rattle.derivation_correctness.proofs.source_report.Ready.{typed_formed}
use Rattle.source_safety.proofs.Formed.{typed_is_formed}
use Rattle.derivation_correctness.proofs.source_report.TypedOrder.{typed_in_order}
use Rattle.compiler_correctness.proofs.SoundTypes.{typed_bool}
use Rattle.derivation_correctness.proofs.Few.{few_registers}
use Rattle.derivation_correctness.proofs.Whole as D
use Rattle.compiler_correctness.specs.Headed.{IsHeaded}
use Rattle.compiler_correctness.proofs.Asking.{block_founded, body_needs}
use Rattle.compiler_correctness.proofs.Building.{block_builds, formed_at}
use Rattle.compiler_correctness.proofs.SoundnessFunctions.{function_there, sound_tables}
use Rattle.compiler_correctness.proofs.Worlds.{derived_plain}
use Rattle.compiler_correctness.proofs.Numbering.{instance_numbered}
use Rattle.compiler_correctness.proofs.Regular.{typed_regular}
use Rattle.compiler_correctness.proofs.Sharing.{shared, called, parameters_typed}

typed_of : (source : List ℕ) (p : Program) → IsAccepted source p → IsTyped source p
typed_of source p h = h.tailed.credited.owned.matched.typed

-- ---- one of the instances

typed_at : (w : W.World) (ds : List Instance) (i : ℕ) (d : Instance) → AllTyped true w ds → slice_get ds i ≡ Some d → Typed true w d
typed_at w [] i d h e = absurd (none-some d e)
typed_at w (x ∷ ds) zero d h e = subst (Typed true w) (same_Some x d e) h.0
typed_at w (x ∷ ds) (suc i) d h e = typed_at w ds i d h.1 e

sized_at : (p : Program) (ds : List Instance) (i : ℕ) (d : Instance) → AreSized p ds → slice_get ds i ≡ Some d → IsSized p d
sized_at p [] i d h e = absurd (none-some d e)
sized_at p (x ∷ ds) zero d h e = subst (IsSized p) (same_Some x d e) h.0
sized_at p (x ∷ ds) (suc i) d h e = sized_at p ds i d h.1 e

derived_at : (p : Program) (ds : List Instance) (i : ℕ) (d : Instance) → AreDerived p ds → slice_get ds i ≡ Some d → R.is_ruled d.kind ≡ true → IsDerivedAlone p d
derived_at p [] i d h e r = absurd (none-some d e)
derived_at p (x ∷ ds) zero d h e r =
    let same = same_Some x d e in
    subst (IsDerivedAlone p) same (h.0 (ap (λ (d : Instance). R.is_ruled d.kind) same ∙ r))
derived_at p (x ∷ ds) (suc i) d h e r = derived_at p ds i d h.1 e r

numbered_at : (p : Program) (ds : List Instance) (i : ℕ) (d : Instance) → N.AllNumbered p ds → slice_get ds i ≡ Some d → R.is_ruled d.kind ≡ true → N.IsNumbered p d
numbered_at p [] i d h e r = absurd (none-some d e)
numbered_at p (x ∷ ds) zero d h e r =
    let same = same_Some x d e in
    subst (N.IsNumbered p) same (h.0 (ap (λ (d : Instance). R.is_ruled d.kind) same ∙ r))
numbered_at p (x ∷ ds) (suc i) d h e r = numbered_at p ds i d h.1 e r

-- ---- kinds

is_ruled_of : (k : FunKind) → has_function k ≡ true → R.is_ruled k ≡ true
is_ruled_of Fip e = refl
is_ruled_of Fbip e = refl
is_ruled_of Fun e = e

same_fip : (k : FunKind) → R.is_fip k ≡ is_fip k
same_fip Fip = refl
same_fip Fbip = refl
same_fip Fun = refl

-- ---- credits of a header

sizes_are : (ks : List ℕ) → AreSizes ks → are_sizes ks ≡ true
sizes_are [] h = refl
sizes_are (k ∷ ks) h = and_to (is_size k) (are_sizes ks) (and_to _ _ (below_is 0 k h.0) (below_is k (suc MOST_FIELDS) h.1)) (sizes_are ks h.2)

-- ---- an accepted source

module _ (source : List ℕ) (p : Program) (h : IsAccepted source p) where
  abbrev typed : IsTyped source p
  typed = typed_of source p h

  derived_each : AreDerived p p.instances
  derived_each = (programs_agree p (D.are_sized source p h)).0 (D.unbroken source p h)

  -- the world of ownership that suits instances of all kinds
  abbrev pub owning : R.World
  owning = R.world p Fun

  pub instance_derived : (c : PlainCode) → IsHeaded p c → (i : ℕ) (d : Instance) → slice_get p.instances i ≡ Some d → has_function d.kind ≡ true → IsDerived c (W.world p) owning d
  instance_derived c headed i d e has =
      let ruled = is_ruled_of d.kind has in
      let regular = typed_regular source p typed d (there_among p.instances i d e) in
      let own = derived_at p p.instances i d derived_each e ruled in
      record {
        numbered = instance_numbered p owning d (numbered_at p p.instances i d (D.numbered source p h) e ruled) regular.variables;
        typed = typed_at (W.world p) p.instances i d (D.is_filled source p h) e;
        params = parameters_typed p c headed (typed_formed source p typed) i d e;
        derived = derived_plain p d.kind (is_fip d.kind) d (subst (λ f. Derived f (borrowed_parameters (R.world p d.kind) 0 d.params d.binders) (owned_parameters (R.world p d.kind) 0 d.params d.binders) d.credits (body_term (R.world p d.kind) d)) (same_fip d.kind) own);
        builds = subst (λ tb. BuildsBlock tb d.body) (sym headed.types) (block_builds p d.body (formed_at p p.instances i d (typed_is_formed source p typed).bodies e).body);
      }

  -- its function keeps the limits, as far as its header goes
  pub function_limits : (c : PlainCode) → IsHeaded p c → (g n : ℕ) (d : Instance) (f : PlainFunction) → slice_get p.instances g ≡ Some d → function_of p.instances g ≡ Some n → function_at c n ≡ Some f → MapsStand f → IsWithinLimits c f d
  function_limits c headed g n d f there number is maps =
      let at = function_there p c headed g n d number there in
      let same : at.0 ≡ f = same_Some at.0 f (sym at.1 ∙ is) in
      let own : f.registers ≡ registers headed.members g = sym (ap (λ (f : PlainFunction). f.registers) same) ∙ ap (λ (h : Header). h.registers) at.2 in
      let few = members_few (slice_get headed.members g) refl in
      let regular = typed_regular source p typed d (there_among p.instances g d there) in
      let y = typed_at (W.world p) p.instances g d (D.is_filled source p h) there in
      record {
        registers = (omega (arith, own, few));
        results = regular.results;
        few_results = y.0;
        few_credits = regular.credits;
        sizes = sizes_are d.credits (sized_at p p.instances g d (D.are_sized source p h) there).header;
        maps = maps;
      }
    where
      members_few : (o : Option Member) → slice_get headed.members g ≡ o → registers headed.members g ≤ MOST_REGISTERS
      members_few None e = (let z = ap registers_of e in omega (arith, z))
      members_few (Some m) e =
          let own : registers headed.members g ≡ G.registers d = ap registers_of e ∙ headed.found.counted g d m there e in
          let few = few_registers source p h g d there (is_ruled_of d.kind (has_one p.instances g n d number there)) in
          omega (arith, own, few)

  -- code that is laid out as the program requires is sound
  pub laid_is_sound : (c : PlainCode) (st : Setting) → IsHeaded p c → AreLaid c st p → ((n : ℕ) (f : PlainFunction) → function_at c n ≡ Some f → MapsStand f) → IsSound c
  laid_is_sound c st headed all maps =
      let setting = all.setting in
      let formed = typed_formed source p typed in
      sound_joined c st p (W.world p) owning all (shared p c st headed setting formed (typed_bool source p typed)) (called p c st headed setting formed Fun)
      (sound_tables source p c typed headed) (F.fip_calls source p h.tailed.credited.owned) h.tailed.unbroken
      (λ i d e has. instance_derived c headed i d e has)
      (λ n f l is. (
      let number = sym (all.setting.functions l.number) ∙ l.function in
      function_limits c headed l.number n l.instance f l.there number is (maps n f is)))

  -- ---- what lowering requires

  asked_at : (st : Setting) → IsSettingOf p st → (g : ℕ) (d : Instance) → slice_get p.instances g ≡ Some d → has_function d.kind ≡ true → AskedInstance st (needs_of (all_needs p p.instances) g) d
  asked_at st so g d there has =
      let formed = formed_at p p.instances g d (typed_is_formed source p typed).bodies there in
      let sized = sized_at p p.instances g d (D.are_sized source p h) there in
      let filled = typed_at (W.world p) p.instances g d (D.is_filled source p h) there in
      let regular = typed_regular source p typed d (there_among p.instances g d there) in
      let ordered = typed_in_order source p typed d (there_among p.instances g d there) in
      record {
        ruled = has;
        binders = formed.binders;
        founded = subst (λ tb. FoundedBlock tb d.body) (sym so.types) (block_founded p (parameter_scope d) true d.body d.results (length d.params) ordered.next regular.results formed.body sized.body filled.3 ordered.body);
        needs = body_needs p st so g d there has;
      }

  pub is_asked : IsAsked p (all_needs p p.instances)
  is_asked = record { each = λ st so g d there has. asked_at st so g d there has }

  -- so its code is sound
  pub laid_out_is_sound : (c : PlainCode) → IsHeaded p c → (IsAsked p (all_needs p p.instances) → IsLaidOut p c) → IsSound c
  laid_out_is_sound c headed laid =
      let l = laid is_asked in
      laid_is_sound c l.setting headed l.laid l.stand
