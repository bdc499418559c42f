use Rattle.std.proofs.Common.{◌≡◌, ◌+◌, ◌∙◌, ℕ, inl, inr, subst, arith}
use Rattle.std.specs.Prelude.{slice_index_or, slice_set}
use Rattle.std.proofs.lemmas.Bool.{cases_lt}
use Rattle.std.proofs.lemmas.List.{length-set, get_or-set_same, get_or-set_other}
use Rattle.cell_store.specs.Cells.{count_live}
use Rattle.fip_machine.proofs.gauge.held.Goals as goal

pub loop-k-preserved : goal.loop-k-preserved
loop-k-preserved g c =
    let xs = c.loop-k.held in
    let k = c.loop-k.k in
    let t = c.loop-k-test.true in
    let w = c.loop-k.invariant.wide in
    record {
      done = λ j lt. elim (cases_lt j k) [
        | inl l ↦ (get_or-set_other xs k j c.count.result 0 (λ z. omega (arith, l, z)) ∙ c.loop-k.invariant.done j l)
        | inr l ↦ (let same : k ≡ j = omega (arith, l, lt) in subst (λ (i : ℕ). slice_index_or (slice_set xs k c.count.result) i 0 ≡ count_live (i + 1) (g.C.Cells.cells c.args.cells.now) (g.C.Cells.released c.args.cells.now)) same (get_or-set_same xs k c.count.result 0 (omega (arith, t, w)) ∙ c.count.ensures))
      ];
      wide = length-set xs k c.count.result ∙ w;
    }
