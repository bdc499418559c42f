-- A text has its typed program, by computation: no phase up to typing finds that a rule is broken.
use Rattle.std.proofs.Common.{◌≡◌, ◌<◌, ℕ, suc, true, List, [], length, inl, inr, refl, sym, subst, arith}
use Rattle.std.specs.Prelude.{is_some, nat_le}
use Rattle.std.proofs.lemmas.Option.{slice_get_within}
use Rattle.source_report.specs.fip_language.declared.limits.TheConstants.{MOST_SOURCE_BYTES}
use Rattle.source_report.specs.fip_language.Core.{Core}
use Rattle.source_report.specs.fip_language.CoreForm.{core_form}
use Rattle.source_report.specs.fip_language.Declarations.{data_types}
use Rattle.source_report.specs.fip_language.Prefix.{Accepted, run}
use Rattle.source_report.specs.fip_grammar.Machine.{machine_step, machine_end, start}
use Rattle.source_report.specs.fip_grammar.Limits.{nothing_seen}
use Rattle.source_report.specs.fip_trees.declared.least.Violation.{Violation}
use Rattle.source_report.specs.fip_trees.Least.{In}
use Rattle.source_report.specs.fip_trees.Tree.{Program}
use Rattle.source_report.specs.data_types.Answers.{HasNoValue, Violates}
use Rattle.source_report.specs.data_types.Declarations.{declarations}
use Rattle.source_report.specs.data_types.Faults.{written_violations}
use Rattle.source_report.specs.data_types.Types.{IsValued}
use Rattle.source_report.specs.reached_instances.closed_types.Closed.{Closed}
use Rattle.source_report.specs.reached_instances.closed_types.Instances.{roots, all_faults}
use Rattle.source_report.specs.static_params.FlatProgram.{flat_program}
use Rattle.source_report.specs.static_params.FlatSource.{flat_source}
use Rattle.source_report.specs.type_check.Faults.{type_faults}
use Rattle.source_report.specs.Report.{IsParsed, IsDeclared, IsFlat, IsTyped}
use Rattle.library_texts.proofs.Cutting.{all_pieces, tokens_in}
use Rattle.library_texts.proofs.Deriving.{tree_in, at_most, IsPlain, numbers_of, plain_few, program_of}
use Rattle.library_texts.proofs.Reading.{reads, is_spelt}

-- The text is cut, read and spelled, and no longer than a source may be.
pub record IsReadable (text : List ℕ) : Type 0 where
  pub cut : is_some (all_pieces (length text) text) ≡ true
  pub read : reads nothing_seen start (tokens_in text) ≡ true
  pub accepted : run machine_step machine_end start (tokens_in text) 0 ≡ Accepted (tree_in text)
  pub short : nat_le (length text) MOST_SOURCE_BYTES ≡ true

-- The declarations, the uses and the types of a core form are right; ts are its types.
pub record IsRightCore (core : Core) (ts : List Closed) : Type 0 where
  pub declared : written_violations core ≡ []
  pub valued : (n : ℕ) → n < length (data_types core) → IsValued (declarations core) n
  pub plain : IsPlain (flat_source core) ts
  pub uses : all_faults (flat_source core) (roots (flat_source core)) ≡ []
  pub types : type_faults (flat_program (flat_source core) (numbers_of (flat_source core) ts)) ≡ []

has_value : (core : Core) (v : Violation) → ((n : ℕ) → n < length (data_types core) → IsValued (declarations core) n) → HasNoValue core v → ⊥
has_value core v valued h =
    let within = slice_get_within core.types h.place h.type h.there in
    h.unvalued (valued (suc h.place) (omega (arith, within)))

no_violation : (core : Core) (ts : List Closed) (v : Violation) → IsRightCore core ts → Violates core v → ⊥
no_violation core ts v h (inl a) = subst (λ l. In v l) h.declared a
no_violation core ts v h (inr a) = has_value core v h.valued a

pub is_typed : (text : List ℕ) → IsReadable text → (core : Core) → core_form (tree_in text) ≡ core → (ts : List Closed) → IsRightCore core ts → (p : Program) → program_of (flat_source core) ts ≡ p → IsTyped text p
is_typed text r core is ts h p e =
    let parsed : IsParsed text core =
    record { short = at_most (length text) MOST_SOURCE_BYTES r.short; tree = tree_in text; spelt = is_spelt text r.cut r.read r.accepted; is = sym is } in
    let declared : IsDeclared text core = record { parsed = parsed; unbroken = λ v. no_violation core ts v h; valued = h.valued } in
    let flat : IsFlat text (flat_program (flat_source core) (numbers_of (flat_source core) ts)) =
    record {
      core = core;
      declared = declared;
      numbers = numbers_of (flat_source core) ts;
      few = plain_few (flat_source core) ts h.plain;
      unbroken = h.uses;
      is = refl;
    } in
    let typed : IsTyped text (program_of (flat_source core) ts) =
    record {
      untyped = flat_program (flat_source core) (numbers_of (flat_source core) ts);
      flat = flat;
      typed = h.types;
      is = refl;
    } in
    subst (λ q. IsTyped text q) e typed
