-- What no phase up to typing refuses, of a source that has a typed program.
use Rattle.std.proofs.Common.{◌≡◌, ◌∙◌, ℕ, List, [], Result, Ok, Err, refl, sym, ap, subst}
use Rattle.std.specs.Prelude.{MatchResult, IfOk, IfErr}
use Rattle.fip_base.specs.CoreView as V
use Rattle.fip_base.specs.declared.core_form.Core as Rust
use Rattle.fip_base.specs.declared.refusal.Refusal.{Refusal}
use Rattle.fip_parser.specs.declared.parser.ParseError.{ParseError}
use Rattle.fip_parser.specs.declared.parser.ParseError.TheVariants as Parse
use Rattle.fip_base.specs.declared.refusal.PhaseError.{PhaseError}
use Rattle.fip_base.specs.declared.refusal.PhaseError.TheVariants.{Refused, NoMemory}
use Rattle.fip_language.specs.Core.{Core}
use Rattle.fip_trees.specs.declared.decls.Decls.{Decls}
use Rattle.fip_trees.specs.declared.program.Program as RustProgram
use Rattle.fip_trees.specs.declared.program.Typed as RustTyped
use Rattle.fip_trees.specs.Tree.{Program}
use Rattle.fip_trees.specs.TreeView.{program}
use Rattle.data_types.specs.Answers as Declaring
use Rattle.data_types.specs.DeclaredProgram.{AreDeclared}
use Rattle.static_params.specs.Answers as Statics
use Rattle.static_params.specs.FlatSource.{flat_source}
use Rattle.static_params.specs.reached_instances.SourceView as S
use Rattle.static_params.proofs.CoreSources.{source_is}
use Rattle.type_check.specs.Answers as Typing
use Rattle.type_check.specs.Faults.{type_faults, filled}
use Rattle.source_report.specs.Report.{IsParsed, IsFlat, IsTyped}
use Rattle.source_report.proofs.Once.{parsed_once, flat_once, none_in, statics_broken}
use Rattle.source_report.proofs.Steps.{flat_made}

pub not_declared : (source : List ℕ) (core : Core) (p : Program) (e : PhaseError) → IsFlat source p → IsParsed source core → Declaring.Says core e → e ≡ NoMemory
not_declared source core p NoMemory h k s = refl
not_declared source core p (Refused r) h k s =
    let same = parsed_once source h.core core h.declared.parsed k in
    absurd (h.declared.unbroken s.0 (subst (λ c. Declaring.Violates c s.0) (sym same) s.1.violated))

pub not_specialised : (source : List ℕ) (core : Rust.Core) (decls : Decls) (p : Program) (e : PhaseError) → AreDeclared core decls → IsFlat source p → IsParsed source (V.core core) → Statics.Says (S.source_of core decls) e → e ≡ NoMemory
not_specialised source core decls p NoMemory d h k s = refl
not_specialised source core decls p (Refused r) d h k s =
    let same = parsed_once source (V.core core) h.core k h.declared.parsed in
    let whole = source_is core decls d.names d.types d.constructors d.numbered ∙ ap flat_source same in
    absurd (statics_broken (flat_source h.core) s.0 h.numbers (subst (λ z. Statics.Names z s.0) whole s.1) h.few h.unbroken)

pub not_typed : (p : Program) (e : PhaseError) → type_faults p ≡ [] → Typing.Says p e → e ≡ NoMemory
not_typed p NoMemory h s = refl
not_typed p (Refused r) h s = absurd (none_in (type_faults p) s.0 h s.1)

pub no_refusal : (e : ParseError) (q : Refusal) → e ≡ Parse.Refused q → e ≡ Parse.NoMemory → ⊥
no_refusal e q h k = let same : Parse.Refused q ≡ Parse.NoMemory = sym h ∙ k in cc

pub flat_is : (source : List ℕ) (core : Rust.Core) (decls : Decls) (p : Program) (r : Result RustProgram.Program PhaseError) → AreDeclared core decls → IsFlat source p → IsParsed source (V.core core) → IfOk r (λ f. Statics.IsAccepted (S.source_of core decls) f) → IfErr r (λ e. Statics.Says (S.source_of core decls) e) → MatchResult r (λ f. program f ≡ p) (λ e. e ≡ NoMemory)
flat_is source core decls p (Ok f) d h k a s = flat_once source (program f) p (flat_made source core decls (Ok f) d k a) h
flat_is source core decls p (Err e) d h k a s = not_specialised source core decls p e d h k s

pub typed_is : (source : List ℕ) (p q : Program) (r : Result RustTyped.Typed PhaseError) (h : IsTyped source p) → q ≡ h.untyped → IfOk r (λ t. program t.program ≡ filled q) → IfErr r (λ e. Typing.Says q e) → MatchResult r (λ t. program t.program ≡ p) (λ e. e ≡ NoMemory)
typed_is source p q (Ok t) h e a s = a ∙ ap filled e ∙ sym h.is
typed_is source p q (Err x) h e a s = not_typed q x (ap type_faults e ∙ h.typed) s
