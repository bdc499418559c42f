use Rattle.std.proofs.Common.{◌+◌, ◌∷◌, sym, ap, ◌∙◌, drop, arith}
use Rattle.kind_domain.specs.code_rules.Kinds.{at}
use Rattle.kind_domain.specs.Leading.{leads}
use Rattle.kind_domain.proofs.LentLists.{closed_step, grows_on, grows_within}
use Rattle.kind_domain.proofs.Places.{drop_index}
use Rattle.register_kinds.proofs.registers.Registers.list_further.Goals as goal

pub loop-place-preserved : goal.loop-place-preserved
loop-place-preserved c =
    let xs = c.loop-place.self.lent in
    let next = drop_index xs c.loop-place.place
    (let h = c.loop-place-test.true in let g = c.lent_len.ensures.is in omega arith)
    ∙ ap (λ z. z ∷ drop (c.loop-place.place + 1) xs) (sym c.lent_at-listed.ensures.is) in
    record {
      within = let f = grows_within xs c.list_to.new.self.lent c.list_to.ensures.more in
          let h = c.loop-place-test.true in let g = c.lent_len.ensures.is in omega arith;
      closed = closed_step c.args.self.now.kinds xs c.list_to.new.self.lent c.loop-place.place c.lent_at-listed.result
          (let h = c.loop-place-test.true in let g = c.lent_len.ensures.is in omega arith) next
          c.loop-place.invariant.closed
          (λ q e. c.list_to.ensures.listed q
          (ap (λ ks. leads c.lent_at-listed.result (at ks q)) c.loop-place.invariant.kinds ∙ e))
          c.list_to.ensures.more;
      more = grows_on _ _ _ c.loop-place.invariant.more c.list_to.ensures.more;
      kinds = c.list_to.ensures.kinds ∙ c.loop-place.invariant.kinds;
      maps = c.list_to.ensures.maps ∙ c.loop-place.invariant.maps;
      reached = c.list_to.ensures.reached ∙ c.loop-place.invariant.reached;
    }
