use Rattle.std.proofs.Common.{◌≡◌, ℕ, sym, ap, ◌∙◌, length, arith}
use Rattle.std.specs.Prelude.{Some, None, true, false, slice_get, slice_index}
use Rattle.kind_domain.specs.Leading.{kept_at}
use Rattle.kind_domain.proofs.LentLists.{bool_unset, bools_long, heir_unset, still_later}
use Rattle.kind_domain.proofs.Places.{drop_index}
use Rattle.kind_domain.proofs.Heirs.{kept_long}
use Rattle.kind_domain.proofs.lents.clear_each.Goals as goal

pub loop-register-preserved : goal.loop-register-preserved
loop-register-preserved c =
    let i = c.loop-register.register-index in
    let next = drop_index c.args.registers.now i (let h = c.loop-register-test.true in omega arith) in
    let mark : (q : ℕ) → slice_get c.clear.new.self q ≡ Some true → (slice_index c.args.registers.now i ≡ q → ⊥)
    × (slice_get c.loop-register.listed q ≡ Some true) = λ q e. bool_unset c.loop-register.listed (slice_index c.args.registers.now i) q
    (ap (λ bs. slice_get bs q) (sym c.clear.ensures.is) ∙ e) in
    let heir : (q d : ℕ) → kept_at c.keep.new.reached.items q ≡ Some d → (slice_index c.args.registers.now i ≡ q → ⊥)
    × (kept_at c.loop-register.reached.items q ≡ Some d) = λ q d e. heir_unset c.loop-register.reached.items (slice_index c.args.registers.now i) q d
    (ap (λ os. kept_at os q) (sym c.keep.ensures.is) ∙ e) in
    record {
      marks = λ q e. c.loop-register.invariant.marks q (mark q e).1;
      unmarked = λ q e h. still_later c.args.registers.now i (slice_index c.args.registers.now i) q next (mark q e).0
          (c.loop-register.invariant.unmarked q (mark q e).1 h);
      heirs = λ q d e. c.loop-register.invariant.heirs q d (heir q d e).1;
      unreached = λ q d e h. still_later c.args.registers.now i (slice_index c.args.registers.now i) q next
          (heir q d e).0 (c.loop-register.invariant.unreached q d (heir q d e).1 h);
      marks_long = ap length c.clear.ensures.is ∙ bools_long c.loop-register.listed (slice_index c.args.registers.now i)
          false ∙ c.loop-register.invariant.marks_long;
      heirs_long = ap length c.keep.ensures.is ∙ kept_long c.loop-register.reached.items
          (slice_index c.args.registers.now i) None ∙ c.loop-register.invariant.heirs_long;
    }
