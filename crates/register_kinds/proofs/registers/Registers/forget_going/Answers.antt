use Rattle.std.proofs.Common.{sym, ◌∙◌, ◌+◌, ◌∷◌, ap, drop, arith}
use Rattle.std.specs.Prelude.{slice_index}
use Rattle.kind_domain.specs.code_rules.Changes.{forget, goes}
use Rattle.register_kinds.specs.Steps.{each}
use Rattle.register_kinds.proofs.EachPlace.{each_done}
use Rattle.kind_domain.proofs.Places.{drop_index}
use Rattle.register_kinds.proofs.Changed.{going_step, goes_still}
use Rattle.register_kinds.proofs.Gathered.{going_listed}
use Rattle.register_kinds.proofs.registers.Registers.forget_going.Goals as goal

pub loop-place-preserved : goal.loop-place-preserved
loop-place-preserved c =
    let next = ap (λ z. z ∷ drop (c.loop-place.place + 1) c.args.self.now.lent)
    (c.lent_at.ensures.is ∙ ap (λ xs. slice_index xs c.loop-place.place) c.loop-place.invariant.lent)
    ∙ sym (drop_index c.args.self.now.lent c.loop-place.place
    (let h = c.loop-place-test.true in let g = c.lent_len-place-end.ensures.is in omega arith)) in
    record {
      kinds = going_step c.args.register c.lent_at.result c.loop-place.self.kinds c.args.self.now.kinds
          c.forget_going_in.new.self.kinds (drop (c.loop-place.place + 1) c.args.self.now.lent)
          c.loop-place.invariant.same c.forget_going_in.ensures.kinds
          ∙ ap (each (forget (goes c.args.self.now.kinds c.args.register)) c.loop-place.self.kinds) next
          ∙ c.loop-place.invariant.kinds;
      same = λ q. goes_still (goes c.loop-place.self.kinds c.args.register) c.args.register c.lent_at.result
          c.loop-place.self.kinds c.forget_going_in.new.self.kinds c.forget_going_in.ensures.kinds q
          ∙ c.loop-place.invariant.same q;
      maps = c.forget_going_in.ensures.maps ∙ c.loop-place.invariant.maps;
      lent = c.forget_going_in.ensures.lent ∙ c.loop-place.invariant.lent;
    }

pub returns-clause-kinds : goal.returns-clause-kinds
returns-clause-kinds c =
    each_done (forget (goes c.args.self.now.kinds c.args.register)) c.loop-place.self.kinds c.args.self.now.lent
    c.loop-place.place (let h = c.loop-place-test.false in let g = c.lent_len-place-end.ensures.is in omega arith)
    ∙ c.loop-place.invariant.kinds
    ∙ going_listed c.args.register c.args.self.now.kinds c.args.self.now.lent c.requires.gathered
