-- What is so of the maps of all labels in a part of a function's code.
use Rattle.std.proofs.Common.{◌≡◌, inl, inr, ℕ, zero, suc, ◌<◌, ◌≤◌, List, Some, sym, ◌∙◌, ap, arith}
use Rattle.std.proofs.lemmas.Option.{none-some}
use Rattle.separation.specs.cell_code.declared.kind.Kind.{Kind}
use Rattle.separation.specs.cell_code.Plain.{PlainFunction, PlainCode}
use Rattle.separation.specs.code_rules.Codes.{label_at}
use Rattle.separation.proofs.separation_kinds.Basics.{less_or_not}
use Rattle.lowering_relation.specs.match_knowledge.Known as M
use Rattle.lowering_relation.specs.Describing.{Holding}
use Rattle.lowering_relation.specs.Labels.{Reports, Quiet}
use Rattle.lowering_relation.specs.Sights.{Sight}
use Rattle.lowering_relation.specs.Tests.{Choice, SidesLaid}

module _ (f : PlainFunction) (P : List Kind → Type 0) where
  abbrev pub Labelled : ℕ → ℕ → Type 0
  Labelled a b = (p : ℕ) (map : List Kind) → a ≤ p → p < b → label_at f.labels p ≡ Some map → P map

  pub labelled_none : (a b : ℕ) → b ≡ a → Labelled a b
  labelled_none a b e p map low high h = absurd (let z : ⊥ = omega (arith, e, low, high) in z)

  pub labelled_on : (a m b : ℕ) → Labelled a m → Labelled m b → Labelled a b
  labelled_on a m b x y p map low high h = elim (less_or_not p m) as (λ v. P map) [
    | inl e ↦ x p map low e h
    | inr e ↦ y p map e high h
  ]

  -- a straight part has a label at its front alone
  pub labelled_quiet : (a b : ℕ) (m : ℕ → Kind) → Quiet f a b m → ((map : List Kind) → label_at f.labels a ≡ Some map → Reports f.registers map m → P map) → Labelled a b
  labelled_quiet a b m quiet so p map low high h = elim (less_or_not a p) as (λ v. P map) [
    | inl e ↦ absurd (none-some map (sym (quiet.others p e high) ∙ h))
    | inr e ↦
        (let same : p ≡ a = omega (arith, low, e) in
        let there : label_at f.labels a ≡ Some map = ap (label_at f.labels) (sym same) ∙ h in
        so map there (quiet.first (omega (arith, same, high)) map there))
  ]

  -- tests of what failed others
  pub labelled_sides : (c : PlainCode) (g : Holding) (ch : Choice) → ((p : ℕ) (κ : M.Known) (read : List ℕ) (m : ℕ → Kind) → Sight c.types g ch.type ch.root κ read m → (map : List Kind) → label_at f.labels p ≡ Some map → Reports f.registers map m → P map) → (n at end : ℕ) → SidesLaid c f g ch n at end → Labelled at end
  labelled_sides c g ch so zero at end h = labelled_none at end h
  labelled_sides c g ch so (suc n) at end h =
      labelled_on at h.0 end
      (labelled_quiet at h.0 h.1.reported h.1.chunk.quiet (so at h.1.known h.1.read h.1.reported h.1.sight))
      (labelled_sides c g ch so n h.0 end h.2)
