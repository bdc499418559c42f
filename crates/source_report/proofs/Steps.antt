-- What each phase gives where it accepts, as a step of the source towards its typed program.
use Rattle.std.proofs.Common.{◌≡◌, ℕ, List, Result, Ok, Err, IfOk, IfErr, refl, subst, sym, ◌∙◌}
use Rattle.cell_lower.specs.fip_base.CoreView as V
use Rattle.cell_lower.specs.fip_base.declared.core_form.Core.{Core}
use Rattle.cell_lower.specs.fip_base.declared.refusal.PhaseError.{PhaseError}
use Rattle.cell_lower.specs.fip_trees.TreeView.{program}
use Rattle.cell_lower.specs.fip_trees.declared.decls.Decls.{Decls}
use Rattle.cell_lower.specs.fip_trees.declared.program.Program.{Program}
use Rattle.static_params.specs.data_types.DeclaredProgram.{AreDeclared}
use Rattle.static_params.specs.Answers as Statics
use Rattle.static_params.specs.reached_instances.SourceView as s
use Rattle.lowering_simulation.specs.type_check.Faults.{filled}
use Rattle.lowering_simulation.specs.type_check.Typing as Types
use Rattle.cell_lower.specs.match_cover.Answers.{Accepts}
use Rattle.cell_lower.specs.match_cover.Answers as Covering
use Rattle.static_params.specs.FlatSource.{flat_source}
use Rattle.source_report.specs.Report.{IsParsed, IsDeclared, IsFlat, IsTyped, IsMatched, Says}
use Rattle.source_report.proofs.Phases.{by_statics, by_matches}
use Rattle.source_report.proofs.Memory.{shapes_are, right_forth}
use Rattle.source_report.proofs.Ready.{typed_ready}
use Rattle.lowering_simulation.proofs.type_check.Exact.{typed_exactly}
use Rattle.static_params.proofs.CoreSources.{source_is}

pub if_ok : {A E : Type 0} (r : Result A E) (P Q : A → Type 0) → ((a : A) → P a → Q a) → IfOk r P → IfOk r Q
if_ok (Ok a) P Q f h = f a h
if_ok (Err e) P Q f h = tt

pub if_err : {A E : Type 0} (r : Result A E) (P Q : E → Type 0) → ((e : E) → P e → Q e) → IfErr r P → IfErr r Q
if_err (Ok a) P Q f h = tt
if_err (Err e) P Q f h = f e h

declared : (source : List ℕ) (core : Core) (decls : Decls) → AreDeclared core decls → IsParsed source (V.core core) → IsDeclared source (V.core core)
declared source core decls d p = record { parsed = p; unbroken = d.accepted; valued = d.valued }

same_source : (core : Core) (decls : Decls) → AreDeclared core decls → s.source_of core decls ≡ flat_source (V.core core)
same_source core decls d = source_is core decls d.names d.types d.constructors d.numbered

pub flat_made : (source : List ℕ) (core : Core) (decls : Decls) (r : Result Program PhaseError) → AreDeclared core decls → IsParsed source (V.core core) → IfOk r (λ f. Statics.IsAccepted (s.source_of core decls) f) → IfOk r (λ f. IsFlat source (program f))
flat_made source core decls r d p h =
    if_ok r (λ f. Statics.IsAccepted (s.source_of core decls) f) (λ f. IsFlat source (program f))
    (λ f a.
    let b : Statics.IsAccepted (flat_source (V.core core)) f = subst (λ s. Statics.IsAccepted s f) (same_source core decls d) a in
    record {
      core = V.core core;
      declared = declared source core decls d p;
      numbers = b.numbers;
      few = b.few;
      unbroken = b.unbroken;
      is = b.made;
    }) h

pub flat_refused : (source : List ℕ) (core : Core) (decls : Decls) (r : Result Program PhaseError) → AreDeclared core decls → IsParsed source (V.core core) → IfErr r (λ e. Statics.Says (s.source_of core decls) e) → IfErr r (λ e. Says source e)
flat_refused source core decls r d p h =
    if_err r (λ e. Statics.Says (s.source_of core decls) e) (λ e. Says source e)
    (λ e a. by_statics source (V.core core) e (declared source core decls d p) (subst (λ s. Statics.Says s e) (same_source core decls d) a)) h

-- the flat program is typed, and its slots are filled
pub record IsChecked (flat filled_in : Program) : Type 0 where
  pub typed : Types.IsTyped (program flat)
  pub tree : program filled_in ≡ filled (program flat)
  pub slots : Types.IsFilled (program filled_in)

typed_from : (source : List ℕ) (flat typed : Program) → IsChecked flat typed → IsFlat source (program flat) → IsTyped source (program typed)
typed_from source flat typed c h = record { untyped = program flat; flat = h; typed = (typed_exactly (program flat)).0 c.typed; is = c.tree }

pub matched_from : (source : List ℕ) (flat typed : Program) → IsChecked flat typed → IsFlat source (program flat) → Accepts typed.types typed.instances.items → IsMatched source (program typed)
matched_from source flat typed c h a =
    record {
      typed = typed_from source flat typed c h;
      shapes = sym (shapes_are 0 typed.instances.items) ∙ a.shapes;
      right = right_forth typed.types typed.instances.items (a.coverage (typed_ready source (program typed) typed.instances.items (typed_from source flat typed c h) c.slots refl));
    }

pub cover_refused : (source : List ℕ) (flat typed : Program) (e : PhaseError) → IsChecked flat typed → IsFlat source (program flat) → Covering.Says typed.types typed.instances.items e → Says source e
cover_refused source flat typed e c h a =
    by_matches source (program typed) typed.instances.items e (typed_from source flat typed c h) refl
    (typed_ready source (program typed) typed.instances.items (typed_from source flat typed c h) c.slots refl) a
