use Rattle.std.proofs.Common.{◌≡◌, ◌+◌, subst, arith}
use Rattle.fip_language.specs.Store.{count}
use Rattle.store_trees.specs.Added.{places_of}
use Rattle.fip_session.specs.Gone.{named_uses}
use Rattle.fip_session.specs.Planned.{names_used}
use Rattle.fip_session.proofs.Noting.{note_on, note_ends}
use Rattle.fip_session.proofs.call.note_used.Goals as goal

pub loop-given-preserved : goal.loop-given-preserved
loop-given-preserved c = λ small ls finds stand q.
    note_on ls c.deref-given-items.result.now c.loop-given.given-index _ q (count q (places_of c.loop-given.trees.list.items)) (count q (places_of c.note_given.new.trees.list.items)) _ c.loop-given-test.true (c.in_ok-note_given.ensures.noted small ls finds stand c.if-not-branch.false q) (c.loop-given.invariant small ls finds stand q)

pub returns : goal.returns
returns c = record {
  noted = λ small ls finds stand is q.
      let ge = c.loop-given-test.false in
      subst (λ gs. count q (places_of c.loop-given.trees.list.items) ≡ count q (places_of c.args.trees.now.list.items) + named_uses ls (names_used gs) q) c.deref-given-items.ensures.value
      (note_ends ls c.deref-given-items.result.now c.loop-given.given-index q (count q (places_of c.loop-given.trees.list.items)) (count q (places_of c.args.trees.now.list.items)) (omega (arith, ge)) (c.loop-given.invariant small ls finds stand q));
}
