-- A text that is well typed breaks no rule, by computation: what each phase after typing would note of its program is
-- nothing.
use Rattle.std.proofs.Common.{◌≡◌, inl, inr, ℕ, suc, Bool, true, false, ◌&&◌, not, List, [], ◌∷◌, None, map, refl, sym, ap}
use Rattle.std.proofs.lemmas.Bool.{and_parts}
use Rattle.source_report.specs.fip_language.Table.{Table}
use Rattle.source_report.specs.fip_trees.declared.groups.Member.{Member}
use Rattle.source_report.specs.fip_trees.declared.least.Violation.{Violation}
use Rattle.source_report.specs.fip_trees.Least.{after}
use Rattle.source_report.specs.fip_trees.Tree.{Instance, Program}
use Rattle.source_report.specs.cell_lower.Limits.{exceeds, registers, BreaksFrom}
use Rattle.fip_rules.specs.Marks.{reported}
use Rattle.fip_rules.specs.Noted.{program_notes}
use Rattle.fip_rules.proofs.Whole.{accepted as owned}
use Rattle.credit_check.specs.Tallies.{all_notes}
use Rattle.credit_check.proofs.Whole.{accepted as credited}
use Rattle.source_report.specs.MatchRules.{shape_faults}
use Rattle.source_report.specs.Report.{IsTyped, IsMatched, IsOwned, IsCredited, IsTailed, IsAccepted}
use Rattle.library_texts.proofs.Groups.{none_waits}
use Rattle.library_texts.proofs.Matches.{all_right, matches_right}
use Rattle.library_texts.proofs.StackNumbers.{Told, IsTold, told_members, told_tails}

-- ---- the limits of code

abbrev none_exceeds : Table → List Member → ℕ → List Instance → Bool
none_exceeds tb ms i [] = true
none_exceeds tb ms i (d ∷ ds) = not (exceeds tb (registers ms i) d) && none_exceeds tb ms (suc i) ds

not_both : (b : Bool) → not b ≡ true → b ≡ true → ⊥
not_both true h e = absurd (cc)
not_both false h e = absurd (cc)

within_limits : (tb : Table) (ms : List Member) (i : ℕ) (ds : List Instance) (v : Violation) → none_exceeds tb ms i ds ≡ true → BreaksFrom tb ms i ds v → ⊥
within_limits tb ms i [] v h b = b
within_limits tb ms i (d ∷ ds) v h (inl b) = not_both (exceeds tb (registers ms i) d) (and_parts (not (exceeds tb (registers ms i) d)) (none_exceeds tb ms (suc i) ds) h).0 b.0
within_limits tb ms i (d ∷ ds) v h (inr b) = within_limits tb ms (suc i) ds v (and_parts (not (exceeds tb (registers ms i) d)) (none_exceeds tb ms (suc i) ds) h).1 b

-- ---- all rules after typing

-- Each part computes; what is said of the calls is said.
pub record BreaksNone (p : Program) (t : Told) : Type 0 where
  pub shapes : shape_faults 0 p.instances ≡ []
  pub matches : all_right p.types p.instances ≡ true
  pub owned : program_notes p ≡ []
  pub credited : all_notes p 0 p.instances ≡ []
  pub told : IsTold p.instances t
  pub tailed : none_waits t.calls 0 p.instances ≡ true
  pub limits : none_exceeds p.types t.members 0 p.instances ≡ true

pub is_accepted : (text : List ℕ) (p : Program) (t : Told) → IsTyped text p → BreaksNone p t → IsAccepted text p
is_accepted text p t typed h =
    let matched : IsMatched text p = record { typed = typed; shapes = h.shapes; right = matches_right p.types p.instances h.matches } in
    let owning : IsOwned text p = record { matched = matched; unbroken = owned p None (sym (ap (λ bs. after None (map reported bs)) h.owned)) refl } in
    let crediting : IsCredited text p = record { owned = owning; unbroken = credited p None (sym (ap (λ vs. after None vs) h.credited)) refl } in
    let tailing : IsTailed text p = record { credited = crediting; unbroken = told_tails p t h.told h.tailed } in
    record {
      tailed = tailing;
      members = t.members;
      groups = told_members p.instances t h.told;
      unbroken = λ v. within_limits p.types t.members 0 p.instances v h.limits;
    }
