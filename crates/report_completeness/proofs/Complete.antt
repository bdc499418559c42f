-- A source that has no report is accepted, as far as two nots say it.
-- The idea: phase after phase, where its violations have no least there are none, and then the source has passed it.
use Rattle.std.proofs.Common.{◌≡◌, ◌⊎◌, inl, inr, ℕ, List, [], length, refl}
use Rattle.source_report.specs.fip_language.declared.limits.TheConstants.{MOST_SOURCE_BYTES}
use Rattle.source_report.specs.fip_language.declared.rule.Rule.TheVariants.{E05}
use Rattle.source_report.specs.fip_language.Core.{Core}
use Rattle.source_report.specs.fip_language.CoreForm.{core_form}
use Rattle.source_report.specs.fip_base.declared.refusal.Refusal.{Refusal}
use Rattle.source_report.specs.fip_trees.declared.groups.Member.{Member}
use Rattle.source_report.specs.fip_trees.declared.least.Violation.{Violation}
use Rattle.source_report.specs.fip_trees.Least.{IsLeast, refusal}
use Rattle.source_report.specs.fip_trees.Tree.{Program}
use Rattle.source_report.specs.data_types.Answers as Declaring
use Rattle.source_report.specs.static_params.Answers as Statics
use Rattle.source_report.specs.static_params.FlatProgram.{Numbers, flat_program}
use Rattle.source_report.specs.static_params.FlatSource.{flat_source}
use Rattle.source_report.specs.reached_instances.closed_types.Instances.{all_faults}
use Rattle.source_report.specs.type_check.Faults.{type_faults, filled}
use Rattle.source_report.specs.ownership_agreement.fip_rules.Checks as Owning
use Rattle.source_report.specs.credit_check.Credits as Credits
use Rattle.source_report.specs.tail_groups.Members.{AreMembers}
use Rattle.source_report.specs.tail_groups.Rules as Calls
use Rattle.source_report.specs.cell_lower.Limits as Limits
use Rattle.source_report.specs.MatchRules.{shape_faults, CoverFault, IsRight}
use Rattle.source_report.specs.Report.{bare, at, IsParsed, IsDeclared, IsFlat, IsTyped, IsMatched, IsOwned, IsCredited, IsTailed, IsAccepted, Reports, TooLong, Misspelt, Declaration, StaticParameter, Typing, Shape, Coverage, Ownership, Credit, TailCall, Limit}
use Rattle.source_report.proofs.FipCalls.{fip_calls}
use Rattle.source_report.proofs.fip_language.Facts.{le_or_less}
use Rattle.report_completeness.proofs.Covering.{typed_tidy, all_small, few_covering, right}
use Rattle.report_completeness.proofs.Declaring.{few_declaring, all_valued}
use Rattle.report_completeness.proofs.FewBroken.{few_owned, few_credits, few_calls, few_limits}
use Rattle.report_completeness.proofs.Grouping.{grouped}
use Rattle.report_completeness.proofs.LeastOrNone.{Can, IsLeastOrNone, list_least, least_or_none}
use Rattle.report_completeness.proofs.Numbering.{AreFewOrMany, few_or_many}
use Rattle.report_completeness.proofs.Spelling.{spelt_or_not}

module _ (source : List ℕ) (none : (r : Refusal) → Reports source r → ⊥) where
  parsed : Can ((core : Core) × IsParsed source core)
  parsed fail = elim (le_or_less (length source) MOST_SOURCE_BYTES) as (λ _. ⊥) [
    | inr long ↦ none (bare E05) (TooLong long)
    | inl short ↦ elim (spelt_or_not source) as (λ _. ⊥) [
      | inl h ↦ fail (core_form h.0, record { short = short; tree = h.0; spelt = h.1; is = refl })
      | inr h ↦ none (at h.0 h.1) (Misspelt h.0 h.1 short h.2)
    ]
  ]

  declared : (core : Core) → IsParsed source core → Can (IsDeclared source core)
  declared core h fail = least_or_none (Declaring.Violates core) (few_declaring core) by
    where
      by : IsLeastOrNone (Declaring.Violates core) → ⊥
      by (inl (v, l)) = none (refusal v) (Declaration core v h (record { violated = l.violated; least = l.least }))
      by (inr never) = all_valued core never (λ valued. fail (record { parsed = h; unbroken = never; valued = valued }))

  flat : (core : Core) → IsDeclared source core → Can ((p : Program) × IsFlat source p)
  flat core h fail = by (few_or_many (flat_source core))
    where
      used : (ns : Numbers) → Statics.AreFew (flat_source core) ns → ((v : Violation) × IsLeast (all_faults (flat_source core) ns.instances) v) ⊎ (all_faults (flat_source core) ns.instances ≡ []) → ⊥
      used ns few (inl (v, l)) = none (refusal v) (StaticParameter core v h (inr (inr (record { numbers = ns; few = few; least = l }))))
      used ns few (inr e) = fail (flat_program (flat_source core) ns, record { core = core; declared = h; numbers = ns; few = few; unbroken = e; is = refl })

      by : AreFewOrMany (flat_source core) → ⊥
      by (inl (ns, few)) = used ns few (list_least (all_faults (flat_source core) ns.instances))
      by (inr (inl (v, many))) = none (refusal v) (StaticParameter core v h (inl many))
      by (inr (inr (v, many))) = none (refusal v) (StaticParameter core v h (inr (inl many)))

  typed : (p : Program) → IsFlat source p → Can (IsTyped source (filled p))
  typed p h fail = by (list_least (type_faults p))
    where
      by : ((v : Violation) × IsLeast (type_faults p) v) ⊎ (type_faults p ≡ []) → ⊥
      by (inl (v, l)) = none (refusal v) (Typing p v h l)
      by (inr e) = fail (record { untyped = p; flat = h; typed = e; is = refl })

  covered : (p : Program) → IsTyped source p → shape_faults 0 p.instances ≡ [] → Can (IsRight p.types p.instances)
  covered p h e fail = few_covering p.types 0 p.instances (λ few. least_or_none (CoverFault p.types 0 p.instances) few by)
    where
      by : IsLeastOrNone (CoverFault p.types 0 p.instances) → ⊥
      by (inl (v, l)) = none (refusal v) (Coverage p v h e l)
      by (inr never) = right p.types (typed_tidy source p h) p.instances (all_small 0 p.instances e) never fail

  matched : (p : Program) → IsTyped source p → Can (IsMatched source p)
  matched p h fail = by (list_least (shape_faults 0 p.instances))
    where
      by : ((v : Violation) × IsLeast (shape_faults 0 p.instances) v) ⊎ (shape_faults 0 p.instances ≡ []) → ⊥
      by (inl (v, l)) = none (refusal v) (Shape p v h l)
      by (inr e) = covered p h e (λ r. fail (record { typed = h; shapes = e; right = r }))

  owned : (p : Program) → IsMatched source p → Can (IsOwned source p)
  owned p h fail = least_or_none (Owning.Violates p) (few_owned p) by
    where
      by : IsLeastOrNone (Owning.Violates p) → ⊥
      by (inl (v, l)) = none (refusal v) (Ownership p v h l)
      by (inr never) = fail (record { matched = h; unbroken = never })

  credited : (p : Program) → IsOwned source p → Can (IsCredited source p)
  credited p h fail = least_or_none (Credits.Violates p) (few_credits p) by
    where
      by : IsLeastOrNone (Credits.Violates p) → ⊥
      by (inl (v, l)) = none (refusal v) (Credit p v h l)
      by (inr never) = fail (record { owned = h; unbroken = never })

  tailed : (p : Program) → IsCredited source p → Can (IsTailed source p)
  tailed p h fail = least_or_none (Calls.Violates p) (few_calls p) by
    where
      by : IsLeastOrNone (Calls.Violates p) → ⊥
      by (inl (v, l)) = none (refusal v) (TailCall p v h l)
      by (inr never) = fail (record { credited = h; unbroken = never })

  accepted : (p : Program) → IsTailed source p → Can (IsAccepted source p)
  accepted p h fail = grouped p h.unbroken (fip_calls source p h.credited.owned) (λ g. least_or_none (Limits.Breaks p g.0) (few_limits p g.0) (by g.0 g.1))
    where
      by : (ms : List Member) → AreMembers p.instances ms → IsLeastOrNone (Limits.Breaks p ms) → ⊥
      by ms groups (inl (v, l)) = none (refusal v) (Limit p ms v h groups l)
      by ms groups (inr never) = fail (record { tailed = h; members = ms; groups = groups; unbroken = never })

  pub some_accepted : Can ((p : Program) × IsAccepted source p)
  some_accepted fail =
      parsed (λ c. declared c.0 c.1 (λ d. flat c.0 d (λ f. typed f.0 f.1 (λ t. let p = filled f.0 in
      matched p t (λ m. owned p m (λ o. credited p o (λ k. tailed p k (λ l. accepted p l (λ a. fail (p, a))))))))))
