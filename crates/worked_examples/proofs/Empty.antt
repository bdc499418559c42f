-- The source without any text is accepted: each rule requires something of items that there aren't.
use Rattle.std.proofs.Common.{◌≡◌, ℕ, zero, suc, ◌<◌, ◌≤◌, ◌⊎◌, [], ◌∷◌, Some, refl, inl, inr, arith}
use Rattle.std.proofs.lemmas.Option.{none-some}
use Rattle.source_report.specs.fip_language.declared.rule.Rule.{Rule}
use Rattle.source_report.specs.fip_language.Core.{Core}
use Rattle.source_report.specs.fip_grammar.Cut.{first_place}
use Rattle.source_report.specs.fip_grammar.Limits.{Breaks, IsSpelt}
use Rattle.source_report.specs.fip_trees.declared.least.Violation.{Violation}
use Rattle.source_report.specs.data_types.Types as D
use Rattle.source_report.specs.data_types.Types.{IsValued}
use Rattle.source_report.specs.data_types.Declarations.{declarations}
use Rattle.source_report.specs.data_types.Answers as Declaring
use Rattle.source_report.specs.reached_instances.closed_types.declared.closed.Head.TheVariants as H
use Rattle.source_report.specs.reached_instances.closed_types.Closed.{Closed, Applied, NoClosed}
use Rattle.source_report.specs.static_params.FlatProgram.{Numbers}
use Rattle.source_report.specs.static_params.FlatSource.{flat_source}
use Rattle.source_report.specs.reached_instances.closed_types.Numbering.{Reached}
use Rattle.source_report.specs.reached_instances.closed_types.TypeInstances.{type_roots, parts_of}
use Rattle.source_report.specs.static_params.Answers as Statics
use Rattle.source_report.specs.call_groups.Stacks.{HasFrame, frames_in, words_in, frame_words, AreStacks}
use Rattle.source_report.specs.tail_groups.Members.{AreMembers}
use Rattle.source_report.specs.tail_groups.Rules as Tails
use Rattle.source_report.specs.Report.{IsParsed, IsDeclared, IsFlat, IsTyped, IsMatched, IsOwned, IsCredited, IsTailed, IsAccepted}
use Rattle.worked_examples.specs.Empty.{empty_program}

abbrev nothing : Core
nothing = record { types = []; functions = [] }

-- ---- the text

goes_wrong_nowhere : (r : Rule) (t : ℕ) → Breaks [] r t → ⊥
goes_wrong_nowhere r t (inl (e, p)) =
    let within : t ≤ 0 = p.within in
    let end : t ≡ 0 = omega arith in
    p.at_end end [] refl
goes_wrong_nowhere r t (inr (inl (e, (x, there, opens, deep)))) = none-some x there
goes_wrong_nowhere r t (inr (inr (e, (x, ds, there, word, large)))) = none-some x there

spelt : IsSpelt [] []
spelt = ([], first_place, ([], refl, refl, refl), refl, goes_wrong_nowhere)

parsed : IsParsed [] nothing
parsed = record { short = omega arith; tree = []; spelt = spelt; is = refl }

-- ---- declarations

declares_right : (v : Violation) → Declaring.Violates nothing v → ⊥
declares_right v (inl h) = h
declares_right v (inr h) = none-some h.type h.there

bool_valued : (n : ℕ) → n < 1 → IsValued (declarations nothing) n
bool_valued zero h = (D.Node 0 D.End, (D.NoTys, refl, tt))
bool_valued (suc n) h = absurd (omega (arith, h))

declared : IsDeclared [] nothing
declared = record { parsed = parsed; unbroken = declares_right; valued = bool_valued }

-- ---- instances and types

abbrev bool_type : Closed
bool_type = Applied (H.«Type» 1) NoClosed

abbrev numbers : Numbers
numbers = record { instances = []; types = bool_type ∷ [] }

few : Statics.AreFew (flat_source nothing) numbers
few = record {
  instances = record { instances = record { reached = λ x h. absurd h; ordered = refl }; few = omega arith };
  passed = [];
  given = record { reached = λ x h. absurd h; ordered = refl };
  types = record { reached = λ x h. bool_reached x h; ordered = refl };
  few_types = omega arith;
}
  where
    bool_reached : (x : Closed) → (x ≡ Applied (H.«Type» 1) NoClosed) ⊎ ⊥ → Reached (type_roots (flat_source nothing) [] []) (parts_of (flat_source nothing)) x
    bool_reached x (inl e) = record { root = x; among = inl e; over = []; way = refl }
    bool_reached x (inr h) = absurd h

flat : IsFlat [] empty_program
flat = record { core = nothing; declared = declared; numbers = numbers; few = few; unbroken = refl; is = refl }

typed : IsTyped [] empty_program
typed = record { untyped = empty_program; flat = flat; typed = refl; is = refl }

-- ---- what is required of instances

pub matched : IsMatched [] empty_program
matched = record {
  typed = typed;
  shapes = refl;
  right = record { covered = tt; unbroken = λ v h. h };
}

owned : IsOwned [] empty_program
owned = record { matched = matched; unbroken = λ v h. h.1 }

credited : IsCredited [] empty_program
credited = record { owned = owned; unbroken = λ v h. h }

tailed : IsTailed [] empty_program
tailed = record { credited = credited; unbroken = λ v h. waits_for_none v h }
  where
    waits_for_none : (v : Violation) → Tails.Violates empty_program v → ⊥
    waits_for_none v (i, d, s, w, e) = none-some d w.instance

no_frame : (f : ℕ) → HasFrame [] f → ⊥
no_frame f (w, e) = none-some (Some w) e

no_frames_in : (n f : ℕ) → frames_in [] f ≤ n
no_frames_in n zero = omega arith
no_frames_in n (suc f) = omega arith

no_words_in : (n f : ℕ) → words_in [] f ≤ n
no_words_in n zero = omega arith
no_words_in n (suc f) = omega arith

no_words : (n f : ℕ) → frame_words [] f ≤ n
no_words n zero = omega arith
no_words n (suc f) = omega arith

no_stacks : AreStacks [] [] []
no_stacks = record {
  some = λ f h. absurd (no_frame f h);
  none = λ f s h. absurd (none-some (Some s) h);
  least_frames = (
    record { base_in = λ f. omega arith; calls_in = λ f g k h. absurd (no_frame f h.0) },
    λ other h f. no_frames_in (other f) f,
  );
  least_words = (
    record { base_in = λ f. no_words (words_in [] f) f; calls_in = λ f g k h. absurd (no_frame f h.0) },
    λ other h f. no_words_in (other f) f,
  );
}

pub no_members : AreMembers [] []
no_members = record {
  size = refl;
  counted = λ i d m h k. absurd (none-some d h);
  together = λ i j m n h k. absurd (none-some m h);
  stacks = λ h. no_stacks;
}

pub accepted : IsAccepted [] empty_program
accepted = record { tailed = tailed; members = []; groups = no_members; unbroken = λ v h. h }
