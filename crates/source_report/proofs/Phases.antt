-- What each phase answers, as the report of the source.
use Rattle.std.proofs.Common.{◌≡◌, ◌≤◌, ◌<◌, inl, inr, ℕ, List, length, sym, subst, ap, ◌∙◌}
use Rattle.cell_lower.specs.fip_language.declared.Place.{Place}
use Rattle.cell_lower.specs.fip_language.declared.limits.TheConstants.{MOST_SOURCE_BYTES}
use Rattle.cell_lower.specs.fip_language.declared.rule.Rule.{Rule}
use Rattle.cell_lower.specs.fip_language.declared.rule.Rule.TheVariants.{E05}
use Rattle.cell_lower.specs.fip_language.Core.{Core}
use Rattle.cell_lower.specs.fip_base.declared.refusal.Refusal.{Refusal}
use Rattle.cell_lower.specs.fip_base.declared.refusal.PhaseError.{PhaseError}
use Rattle.cell_lower.specs.fip_base.declared.refusal.PhaseError.TheVariants.{Refused, NoMemory}
use Rattle.fip_grammar.specs.Limits.{IsMisspelt}
use Rattle.cell_lower.specs.fip_trees.declared.groups.Member.{Member}
use Rattle.cell_lower.specs.fip_trees.declared.program.Instance.{Instance}
use Rattle.cell_lower.specs.fip_trees.Tree.{Program}
use Rattle.static_params.specs.data_types.Answers as Declaring
use Rattle.static_params.specs.Answers as Statics
use Rattle.lowering_simulation.specs.type_check.Answers as Types
use Rattle.cell_lower.specs.match_cover.Answers as Covering
use Rattle.cell_lower.specs.match_cover.Coverage.{IsReady}
use Rattle.ownership_agreement.specs.fip_rules.Checks as Owning
use Rattle.ownership_agreement.specs.credit_check.Credits as Credits
use Rattle.cell_lower.specs.tail_groups.Members.{AreMembers}
use Rattle.cell_lower.specs.tail_groups.Rules as Calls
use Rattle.cell_lower.specs.Limits as Limits
use Rattle.static_params.specs.FlatSource.{flat_source}
use Rattle.cell_lower.specs.fip_trees.Least.{IsLeast, IsLeastOf}
use Rattle.source_report.specs.InMemory.{AreOf}
use Rattle.source_report.specs.MatchRules.{shape_faults, CoverFault}
use Rattle.source_report.proofs.Memory.{shapes_are, least_plain}
use Rattle.source_report.specs.Report.{bare, at, Reports, TooLong, Misspelt, Declaration, StaticParameter, Typing, Shape, Coverage, Ownership, Credit, TailCall, Limit, IsParsed, IsDeclared, IsFlat, IsTyped, IsMatched, IsOwned, IsCredited, IsTailed, Says}

pub too_long : (source : List ℕ) (r : Refusal) → MOST_SOURCE_BYTES < length source → r ≡ bare E05 → Reports source r
too_long source r h e = subst (Reports source) (sym e) (TooLong h)

pub misspelt : (source : List ℕ) (r : Refusal) → length source ≤ MOST_SOURCE_BYTES → ((rule : Rule) × (p : Place) × IsMisspelt source rule p × (r ≡ at rule p)) → Reports source r
misspelt source r h k = subst (Reports source) (sym k.3) (Misspelt k.0 k.1 h k.2)

pub by_declarations : (source : List ℕ) (core : Core) (e : PhaseError) → IsParsed source core → Declaring.Says core e → Says source e
by_declarations source core (Refused r) h k = subst (Reports source) (sym k.2) (Declaration core k.0 h k.1)
by_declarations source core NoMemory h k = tt

pub by_statics : (source : List ℕ) (core : Core) (e : PhaseError) → IsDeclared source core → Statics.Says (flat_source core) e → Says source e
by_statics source core (Refused r) h k = subst (Reports source) (sym k.2) (StaticParameter core k.0 h k.1)
by_statics source core NoMemory h k = tt

pub by_types : (source : List ℕ) (p : Program) (e : PhaseError) → IsFlat source p → Types.Says p e → Says source e
by_types source p (Refused r) h k = subst (Reports source) (sym k.2) (Typing p k.0 h k.1)
by_types source p NoMemory h k = tt

pub by_matches : (source : List ℕ) (p : Program) (ds : List Instance) (e : PhaseError) → IsTyped source p → AreOf p ds → IsReady p.types ds → Covering.Says p.types ds e → Says source e
by_matches source p ds NoMemory h o ready k = tt
by_matches source p ds (Refused r) h o ready (inl k) =
    subst (Reports source) (sym k.2) (Shape p k.0 h (subst (λ vs. IsLeast vs k.0) (shapes_are 0 ds ∙ ap (shape_faults 0) o) k.1))
by_matches source p ds (Refused r) h o ready (inr k) =
    let says = k.1 ready in
    subst (Reports source) (sym says.2)
    (Coverage p says.0 h (sym (shapes_are 0 ds ∙ ap (shape_faults 0) o) ∙ k.0) (subst (λ is. IsLeastOf (CoverFault p.types 0 is) says.0) o (least_plain p.types ds says.0 says.1)))

pub by_ownership : (source : List ℕ) (p : Program) (e : PhaseError) → IsMatched source p → Owning.Says p e → Says source e
by_ownership source p (Refused r) h k = subst (Reports source) (sym k.2) (Ownership p k.0 h k.1)
by_ownership source p NoMemory h k = tt

pub by_credits : (source : List ℕ) (p : Program) (e : PhaseError) → IsOwned source p → Credits.Says p e → Says source e
by_credits source p (Refused r) h k = subst (Reports source) (sym k.2) (Credit p k.0 h k.1)
by_credits source p NoMemory h k = tt

pub by_calls : (source : List ℕ) (p : Program) (e : PhaseError) → IsCredited source p → Calls.Says p e → Says source e
by_calls source p (Refused r) h k = subst (Reports source) (sym k.2) (TailCall p k.0 h k.1)
by_calls source p NoMemory h k = tt

pub by_limits : (source : List ℕ) (p : Program) (ms : List Member) (e : PhaseError) → IsTailed source p → AreMembers p.instances ms → Limits.Says p ms e → Says source e
by_limits source p ms (Refused r) h m k = subst (Reports source) (sym k.2) (Limit p ms k.0 h m k.1)
by_limits source p ms NoMemory h m k = tt
