use Rattle.std.proofs.Common.{◌≡◌, ◌∙◌, ap, subst, arith}
use Rattle.fip_session.specs.Planned.{Finds, names_used}
use Rattle.session_correctness.specs.Lodging.{but_all}
use Rattle.fip_session.specs.declared.book.Book.{Book}
use Rattle.fip_session.proofs.Forgetting.{forgetting_at, all_forgotten}
use Rattle.fip_session.proofs.call.forget_used.Goals as goal

pub loop-given-preserved : goal.loop-given-preserved
loop-given-preserved c = record {
  same = c.forget_given.ensures.others ∙ ap (λ (b : Book). record b { held = c.forget_given.new.book.held }) c.loop-given.invariant.same;
  forgets = λ ls finds. forgetting_at c.args.book.now.held c.loop-given.book.held c.forget_given.new.book.held c.deref-given-items.result.now c.loop-given.given-index _ ls c.loop-given-test.true (c.loop-given.invariant.forgets ls finds) c.forget_given.ensures.forgets;
}

pub returns-clause-forgets : goal.returns-clause-forgets
returns-clause-forgets c = λ ls finds.
    let ge = c.loop-given-test.false in
    subst (λ gs. Finds c.loop-given.book.held (but_all (names_used gs) ls)) c.deref-given-items.ensures.value
    (all_forgotten c.args.book.now.held c.loop-given.book.held c.deref-given-items.result.now c.loop-given.given-index ls (omega (arith, ge)) (c.loop-given.invariant.forgets ls finds))
