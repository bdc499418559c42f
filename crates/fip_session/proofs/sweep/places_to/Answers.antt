use Rattle.std.proofs.Common.{◌≡◌, ◌⊎◌, inl, inr, ◌<◌, ℕ, drop, ap, arith}
use Rattle.fip_language.specs.Store.{count}
use Rattle.store_trees.specs.Added.{places_of}
use Rattle.fip_session.proofs.Forgetting.{none_left}
use Rattle.fip_session.proofs.sweep.places_to.Goals as goal

pub returns-clause-within : goal.returns-clause-within
returns-clause-within c = λ p some. by c p (c.loop-tree.invariant.within p some)
  where
    by : (c : goal.After-loop-tree) (p : ℕ) → (p < c.loop-tree.length) ⊎ (0 < count p (places_of (drop c.loop-tree.tree-index c.as_slice-tree-items.result.now))) → p < c.loop-tree.length
    by c p (inl lt) = lt
    by c p (inr some) = (
        let ge = c.loop-tree-test.false in
        let e = ap (λ ts. count p (places_of ts)) (none_left c.as_slice-tree-items.result.now c.loop-tree.tree-index (omega (arith, ge))) in
        absurd (let z : ⊥ = omega (arith, e, some) in z)
        )

pub returns-clause-few : goal.returns-clause-few
returns-clause-few c = c.loop-tree.invariant.few
