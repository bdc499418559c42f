use Rattle.std.proofs.Common.{◌≡◌, ◌+◌, ◌-◌, ◌∙◌, ℕ, inl, inr, ap, subst, arith}
use Rattle.std.specs.Prelude.{slice_index_or, slice_set}
use Rattle.std.proofs.lemmas.Bool.{cases_lt}
use Rattle.std.proofs.lemmas.List.{length-set, get_or-set_same, get_or-set_other}
use Rattle.fip_tasks.specs.Landing.{standing}
use Rattle.fip_tasks.specs.Gauged.{left_of}
use Rattle.fip_tasks.proofs.task.Task.held.Goals as goal

pub loop-k-preserved : goal.loop-k-preserved
loop-k-preserved c =
    let xs = c.loop-k.held in
    let k = c.loop-k.k in
    let t = c.loop-k-test.true in
    let w = c.loop-k.invariant.wide in
    let m = c.saturating_sub.result in
    let past : k ≡ k + 1 - 1 = omega arith in
    let own : ◌≡◌ {A = ℕ} (slice_index_or c.args.self.now.started k 0) (slice_index_or c.args.self.now.started (k + 1 - 1) 0) = ap (λ i. slice_index_or c.args.self.now.started i 0) past in
    let less = c.saturating_sub.ensures in
    let gone = c.freed.ensures.counted in
    let here : m ≡ left_of (standing c.args.self.now) (k + 1) = omega (arith, less, gone, own) in
    record {
      done = λ j lt. elim (cases_lt j k) [
        | inl l ↦ (get_or-set_other xs k j m 0 (λ z. omega (arith, l, z)) ∙ c.loop-k.invariant.done j l)
        | inr l ↦ (let same : k ≡ j = omega (arith, l, lt) in subst (λ (i : ℕ). slice_index_or (slice_set xs k m) i 0 ≡ left_of (standing c.args.self.now) (i + 1)) same (get_or-set_same xs k m 0 (omega (arith, t, w)) ∙ here))
      ];
      wide = length-set xs k m ∙ w;
    }
