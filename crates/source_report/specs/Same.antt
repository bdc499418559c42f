-- When two refusals say the same: by rule, offset, size and detail. Line and column are those of the offset.
use Rattle.std.specs.Prelude.{◌≡◌, ℕ, Option, option_map}
use Rattle.cell_lower.specs.fip_language.declared.Place.{Place}
use Rattle.cell_lower.specs.fip_base.declared.refusal.Refusal.{Refusal}

abbrev pub offset : Option Place → Option ℕ
offset o = option_map (λ (p : Place). p.at) o

pub record AreSame (q r : Refusal) : Type 0 where
  pub rule : q.rule ≡ r.rule
  pub offset : offset q.place ≡ offset r.place
  pub size : q.size ≡ r.size
  pub detail : q.detail ≡ r.detail
