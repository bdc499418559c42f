use Rattle.std.proofs.Common.{◌≡◌, ℕ, ◌-◌, ◌<◌, ◌≤◌, ◌^◌, min, length, ap, ◌∙◌, ◌++◌, ◌+◌, arith}
use Rattle.std.specs.Prelude.{slice_get}
use Rattle.plain_eval.proofs.Slots.{renewed_covers, renewed_keeps}
use Rattle.plain_eval.proofs.variables.Variables.renew.Goals as goal

-- a sum that is within a list isn't cut off
unsaturated : (base number place least n : ℕ) → place ≡ min (base + number) (2 ^ 64 - 1) → least ≡ min (place + 1) (2 ^ 64 - 1) → least ≤ n → n < 2 ^ 63 → (place ≡ base + number) × (place < n)
unsaturated base number place least n p l b few = (omega arith, omega arith)

pub returns-clause-place : goal.returns-clause-place
returns-clause-place c =
    let ok = c.fill.new.values.ok in
    let few : length c.fill.new.values.items < 2 ^ 63 = omega (arith, ok.0, ok.1, c.fill.new.values.small) in
    let e = unsaturated c.len-base.result c.args.number c.saturating_add-place.result c.saturating_add-least.result (length c.fill.new.values.items) c.saturating_add-place.ensures c.saturating_add-least.ensures c.in_ok-fill.ensures.end few in
    let h = e.1 in
    let k : c.len-self.result ≡ length c.fill.new.values.items = c.len-self.ensures ∙ ok.0 in
    (e.0, omega (arith, h, k), h)

pub returns-clause-covers : goal.returns-clause-covers
returns-clause-covers c = λ s env h.
    let vars = c.args.self.now in
    let copied = c.as_slice-2.ensures.value ∙ c.in_ok-extend_from_slice.ensures.items ∙ ap (λ l. l ++ c.part.result.now) c.new-copy.ensures.items in
    renewed_covers s vars.values.items c.as_slice-2.result.now c.fill.new.values.items c.len-base.result vars.base vars.end c.len-self.result env (c.len-base.ensures ∙ (vars.values.ok).0)
    (λ i w l e. ap (λ l. slice_get l i) copied ∙ c.part.ensures.part i w l (ap (λ l. slice_get l (vars.base + i)) c.as_slice.ensures.value ∙ e))
    (λ i w e. c.in_ok-fill.ensures.kept i w (ap (λ l. slice_get l i) c.in_ok-extend_from_slice-2.ensures.items ∙ e)) (c.len-self.ensures ∙ (c.fill.new.values.ok).0) h

pub returns-clause-keeps : goal.returns-clause-keeps
returns-clause-keeps c = λ s.
    let vars = c.args.self.now in
    let ok = c.fill.new.values.ok in
    let few : length c.fill.new.values.items < 2 ^ 63 = omega (arith, ok.0, ok.1, c.fill.new.values.small) in
    let e = unsaturated c.len-base.result c.args.number c.saturating_add-place.result c.saturating_add-least.result (length c.fill.new.values.items) c.saturating_add-place.ensures c.saturating_add-least.ensures c.in_ok-fill.ensures.end few in
    renewed_keeps s vars.values.items c.as_slice-2.result.now c.fill.new.values.items c.len-base.result c.args.number c.saturating_add-place.result (c.len-base.ensures ∙ (vars.values.ok).0) (e.0)
    (λ i w e. c.in_ok-fill.ensures.kept i w (ap (λ l. slice_get l i) c.in_ok-extend_from_slice-2.ensures.items ∙ e))
