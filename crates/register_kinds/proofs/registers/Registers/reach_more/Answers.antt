use Rattle.std.proofs.Common.{◌≡◌, ◌⊎◌, inl, inr, ◌+◌, ◌∷◌, sym, ◌∙◌, ap, subst, drop, arith}
use Rattle.std.specs.Prelude.{true, None, slice_index}
use Rattle.kind_domain.specs.code_rules.Kinds.{has}
use Rattle.kind_domain.specs.code_rules.Taking.{is_heir, part}
use Rattle.register_kinds.specs.Takes.{AreReached, next_at}
use Rattle.kind_domain.specs.Leading.{kept_at}
use Rattle.kind_domain.proofs.Places.{drop_index}
use Rattle.register_kinds.proofs.Reaching.{fewer_by, settled_step, settled_end}
use Rattle.register_kinds.proofs.registers.Registers.reach_more.Goals as goal

pub loop-place-preserved : goal.loop-place-preserved
loop-place-preserved c =
    let next = drop_index c.args.self.now.lent c.loop-place.place
    (let h = c.loop-place-test.true in let g = c.lent_len-place-end.ensures.is in omega arith)
    ∙ ap (λ z. z ∷ drop (c.loop-place.place + 1) c.args.self.now.lent)
    (sym (c.lent_at-lent.ensures.is ∙ ap (λ xs. slice_index xs c.loop-place.place) c.loop-place.invariant.lent)) in
    let fewer = fewer_by c.reach_one.result c.loop-place.self.reached c.reach_one.new.self.reached
    c.reach_one.ensures.more c.reach_one.ensures.same in
    let before = c.loop-place.invariant.fewer in
    record {
      reached = λ r. subst (λ ks. AreReached ks (is_heir c.args.table.now ks c.args.register
          (part c.args.parts.now c.args.types.now)) c.loop-place.self.reached →
          AreReached ks (is_heir c.args.table.now ks c.args.register (part c.args.parts.now c.args.types.now))
          c.reach_one.new.self.reached)
          c.loop-place.invariant.kinds c.reach_one.ensures.reached (c.loop-place.invariant.reached r);
      fewer = (omega arith);
      more = λ e. elim (c.either-more.ensures.yes e) [
        | inl a ↦ (let g = c.reach_one.ensures.more a in omega arith)
        | inr b ↦ (let g = c.loop-place.invariant.more b in omega arith)
      ];
      same = λ e. let n = c.either-more.ensures.no e in
          c.reach_one.ensures.same n.0 ∙ c.loop-place.invariant.same n.1;
      settled = λ e q h k. let n = c.either-more.ensures.no e in
          settled_step c.args.self.now.kinds (is_heir c.args.table.now c.args.self.now.kinds c.args.register
          (part c.args.parts.now c.args.types.now)) c.args.self.now.reached c.lent_at-lent.result q
          (drop (c.loop-place.place + 1) c.args.self.now.lent)
          (subst (λ ks. kept_at c.args.self.now.reached c.lent_at-lent.result ≡ None → next_at ks
          (is_heir c.args.table.now ks c.args.register (part c.args.parts.now c.args.types.now))
          c.args.self.now.reached c.lent_at-lent.result ≡ None) c.loop-place.invariant.kinds
          (subst (λ os. kept_at os c.lent_at-lent.result ≡ None → next_at c.loop-place.self.kinds
          (is_heir c.args.table.now c.loop-place.self.kinds c.args.register
          (part c.args.parts.now c.args.types.now)) os c.lent_at-lent.result ≡ None)
          (c.loop-place.invariant.same n.1) (c.reach_one.ensures.settled n.0)))
          (λ z. subst (λ xs. (has xs q ≡ true) ⊎ (next_at c.args.self.now.kinds
          (is_heir c.args.table.now c.args.self.now.kinds c.args.register
          (part c.args.parts.now c.args.types.now)) c.args.self.now.reached q ≡ None)) next
          (c.loop-place.invariant.settled n.1 q h z)) k;
      kinds = c.reach_one.ensures.kinds ∙ c.loop-place.invariant.kinds;
      maps = c.reach_one.ensures.maps ∙ c.loop-place.invariant.maps;
      lent = c.reach_one.ensures.lent ∙ c.loop-place.invariant.lent;
    }

pub returns-clause-settled : goal.returns-clause-settled
returns-clause-settled c =
    λ e. subst (λ os. (q : _) → has c.args.self.now.lent q ≡ true → kept_at os q ≡ None → next_at c.args.self.now.kinds
    (is_heir c.args.table.now c.args.self.now.kinds c.args.register (part c.args.parts.now c.args.types.now)) os q
    ≡ None) (sym (c.loop-place.invariant.same e))
    (λ q h k. settled_end c.args.self.now.kinds (is_heir c.args.table.now c.args.self.now.kinds c.args.register
    (part c.args.parts.now c.args.types.now)) c.args.self.now.reached c.args.self.now.lent c.loop-place.place q
    (let l = c.loop-place-test.false in let g = c.lent_len-place-end.ensures.is in omega arith)
    (c.loop-place.invariant.settled e q h k))
