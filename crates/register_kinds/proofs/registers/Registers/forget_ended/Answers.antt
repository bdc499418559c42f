use Rattle.std.proofs.Common.{◌≡◌, sym, ◌∙◌, ◌+◌, ◌∷◌, ap, subst, drop, length, set, arith}
use Rattle.std.specs.Prelude.{slice_index}
use Rattle.kind_domain.specs.code_rules.Kinds.{at}
use Rattle.kind_domain.specs.code_rules.Taking.{part, ends}
use Rattle.register_kinds.specs.Takes.{forgotten, in_turn, seen_at, Alike}
use Rattle.kind_domain.proofs.Places.{drop_index}
use Rattle.register_kinds.proofs.TakenKinds.{alike_step, ended_step, turns_done}
use Rattle.register_kinds.proofs.registers.Registers.forget_ended.Goals as goal

pub loop-place-preserved : goal.loop-place-preserved
loop-place-preserved c =
    let next = ap (λ z. z ∷ drop (c.loop-place.place + 1) c.args.self.now.lent)
    (c.lent_at.ensures.is ∙ ap (λ xs. slice_index xs c.loop-place.place) c.loop-place.invariant.lent)
    ∙ sym (drop_index c.args.self.now.lent c.loop-place.place
    (let h = c.loop-place-test.true in let g = c.lent_len-place-end.ensures.is in omega arith)) in
    let step = subst (λ os. c.forget_ended_in.new.self.kinds ≡ set c.loop-place.self.kinds c.lent_at.result
    (forgotten c.args.register (part c.args.parts.now c.args.types.now) (ends c.args.table.now
    c.loop-place.self.kinds c.args.register (part c.args.parts.now c.args.types.now) (length c.args.parts.now)
    (seen_at c.loop-place.self.kinds os)) c.lent_at.result (at c.loop-place.self.kinds c.lent_at.result)))
    c.loop-place.invariant.reached c.forget_ended_in.ensures.kinds in
    record {
      kinds = ended_step c.args.table.now c.args.register (part c.args.parts.now c.args.types.now)
          (length c.args.parts.now) c.args.self.now.reached c.lent_at.result c.loop-place.self.kinds
          c.args.self.now.kinds c.forget_ended_in.new.self.kinds (drop (c.loop-place.place + 1) c.args.self.now.lent)
          c.loop-place.invariant.alike step
          ∙ ap (in_turn (forgotten c.args.register (part c.args.parts.now c.args.types.now) (ends c.args.table.now
          c.args.self.now.kinds c.args.register (part c.args.parts.now c.args.types.now) (length c.args.parts.now)
          (seen_at c.args.self.now.kinds c.args.self.now.reached))) c.loop-place.self.kinds) next
          ∙ c.loop-place.invariant.kinds;
      alike = subst (λ ks. Alike c.args.register (part c.args.parts.now c.args.types.now) ks c.args.self.now.kinds)
          (sym step) (alike_step c.args.register (part c.args.parts.now c.args.types.now) (ends c.args.table.now
          c.loop-place.self.kinds c.args.register (part c.args.parts.now c.args.types.now) (length c.args.parts.now)
          (seen_at c.loop-place.self.kinds c.args.self.now.reached)) c.loop-place.self.kinds c.args.self.now.kinds
          c.lent_at.result c.loop-place.invariant.alike);
      maps = c.forget_ended_in.ensures.maps ∙ c.loop-place.invariant.maps;
      lent = c.forget_ended_in.ensures.lent ∙ c.loop-place.invariant.lent;
      reached = c.forget_ended_in.ensures.reached ∙ c.loop-place.invariant.reached;
    }

pub returns-clause-kinds : goal.returns-clause-kinds
returns-clause-kinds c =
    turns_done (forgotten c.args.register (part c.args.parts.now c.args.types.now) (ends c.args.table.now
    c.args.self.now.kinds c.args.register (part c.args.parts.now c.args.types.now) (length c.args.parts.now)
    (seen_at c.args.self.now.kinds c.args.self.now.reached))) c.loop-place.self.kinds c.args.self.now.lent
    c.loop-place.place (let h = c.loop-place-test.false in let g = c.lent_len-place-end.ensures.is in omega arith)
    ∙ c.loop-place.invariant.kinds
