use Rattle.std.proofs.Common.{◌+◌, inl, inr, sym, ap, ◌∙◌, drop, arith}
use Rattle.std.specs.Prelude.{slice_index}
use Rattle.kind_domain.specs.code_rules.Kinds.{at, has}
use Rattle.kind_domain.specs.Leading.{leads}
use Rattle.kind_domain.proofs.LentLists.{grows_has, grows_on}
use Rattle.kind_domain.proofs.Places.{drop_index}
use Rattle.register_kinds.proofs.Reaching.{one_of}
use Rattle.register_kinds.proofs.registers.Registers.list_to_each.Goals as goal

pub loop-register-preserved : goal.loop-register-preserved
loop-register-preserved c =
    let i = c.loop-register.register-index in
    let next = drop_index c.args.registers.now i (let h = c.loop-register-test.true in omega arith) in
    let x = slice_index c.args.registers.now i in
    record {
      listed = λ p q a l. elim (c.loop-register.invariant.listed p q a l) [
        | inl h ↦ elim (one_of x p (drop (i + 1) c.args.registers.now) (ap (λ xs. has xs p) (sym next) ∙ h)) [
          | inl g ↦ inr (c.list_to.ensures.listed q (ap (λ z. leads z (at c.loop-register.self.kinds q)) g
              ∙ ap (λ ks. leads p (at ks q)) c.loop-register.invariant.kinds ∙ l))
          | inr g ↦ inl g
        ]
        | inr h ↦ inr (grows_has c.loop-register.self.lent c.list_to.new.self.lent c.list_to.ensures.more q h)
      ];
      more = grows_on _ _ _ c.loop-register.invariant.more c.list_to.ensures.more;
      kinds = c.list_to.ensures.kinds ∙ c.loop-register.invariant.kinds;
      maps = c.list_to.ensures.maps ∙ c.loop-register.invariant.maps;
      reached = c.list_to.ensures.reached ∙ c.loop-register.invariant.reached;
    }
