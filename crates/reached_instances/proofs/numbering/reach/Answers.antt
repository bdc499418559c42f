use Rattle.std.proofs.Common.{◌+◌, refl, sym, ◌∙◌, arith}
use Rattle.closed_types.proofs.Growing.{grows_more}
use Rattle.reached_instances.proofs.Walked.{walking_first, walking_next, walking_ends, walking_many, past_end}
use Rattle.reached_instances.proofs.numbering.reach.Goals as goal

pub returns-then-len-most-clause-many : goal.returns-then-len-most-clause-many
returns-then-len-most-clause-many g c = λ r e.
    let few = c.if-len-most.true in
    let len = c.len.ensures.count in
    let s = c.in_ok-add_starts.ensures.started r in
    walking_many (g.R.Reaching.starts c.args.reaching.now c.args.shared.now) (g.R.Reaching.next c.args.reaching.now) (g.R.Reaching.breaks c.args.reaching.now) c.args.least.now 0 c.args.most c.add_starts.new.shared.branches c.add_starts.new.places c.args.least.now (omega (arith, few, len))
    (walking_first (g.R.Reaching.starts c.args.reaching.now c.args.shared.now) (g.R.Reaching.next c.args.reaching.now) (g.R.Reaching.breaks c.args.reaching.now) c.args.least.now c.add_starts.new.shared.branches s.0 s.0 c.args.places.now c.add_starts.new.places c.args.least.now c.in_ok-add_starts.ensures.shared s.1.within s.1.trees refl refl c.requires.empty s.2)

pub returns-then-len-most-clause-right : goal.returns-then-len-most-clause-right
returns-then-len-most-clause-right g c = λ r. (c.in_ok-add_starts.ensures.started r).1.right

pub returns-then-len-most-clause-grows : goal.returns-then-len-most-clause-grows
returns-then-len-most-clause-grows g c = λ r. (c.in_ok-add_starts.ensures.started r).1.grows

pub loop-i-init : goal.loop-i-init
loop-i-init g c =
    let few = c.if-len-most.false in
    let len = c.len.ensures.count in
    record {
      few = omega (arith, few, len);
      right = λ r. (c.in_ok-add_starts.ensures.started r).1.right;
      grows = λ r. (c.in_ok-add_starts.ensures.started r).1.grows;
      walk = λ r.
          let s = c.in_ok-add_starts.ensures.started r in
          walking_first (g.R.Reaching.starts c.args.reaching.now c.args.shared.now) (g.R.Reaching.next c.args.reaching.now) (g.R.Reaching.breaks c.args.reaching.now) c.args.least.now c.add_starts.new.shared.branches s.0 s.0 c.args.places.now c.add_starts.new.places c.args.least.now c.in_ok-add_starts.ensures.shared s.1.within s.1.trees refl refl c.requires.empty s.2;
    }

pub returns-in-None-clause-numbered : goal.returns-in-None-clause-numbered
returns-in-None-clause-numbered g c = λ r t. (walking_ends (g.R.Reaching.starts c.args.reaching.now c.args.shared.now) (g.R.Reaching.next c.args.reaching.now) (g.R.Reaching.breaks c.args.reaching.now) c.args.least.now c.loop-i.i c.loop-i.shared.branches c.loop-i.places c.loop-i.least (sym c.at.ensures ∙ c.in-None.is) (c.loop-i.invariant.walk r)).0

pub returns-in-None-clause-few : goal.returns-in-None-clause-few
returns-in-None-clause-few g c = λ t. c.loop-i.invariant.few

pub returns-in-None-clause-right : goal.returns-in-None-clause-right
returns-in-None-clause-right g c = c.loop-i.invariant.right

pub returns-in-None-clause-grows : goal.returns-in-None-clause-grows
returns-in-None-clause-grows g c = c.loop-i.invariant.grows

pub returns-in-None-clause-within : goal.returns-in-None-clause-within
returns-in-None-clause-within g c = λ r t. (c.loop-i.invariant.walk r).within

pub returns-in-None-clause-least : goal.returns-in-None-clause-least
returns-in-None-clause-least g c = λ r t. (walking_ends (g.R.Reaching.starts c.args.reaching.now c.args.shared.now) (g.R.Reaching.next c.args.reaching.now) (g.R.Reaching.breaks c.args.reaching.now) c.args.least.now c.loop-i.i c.loop-i.shared.branches c.loop-i.places c.loop-i.least (sym c.at.ensures ∙ c.in-None.is) (c.loop-i.invariant.walk r)).1

pub returns-then-len-most-2-clause-many : goal.returns-then-len-most-2-clause-many
returns-then-len-most-2-clause-many g c = λ r e.
    let few = c.if-len-most-2.true in
    let len = c.len-in-loop-i.ensures.count in
    let v = c.in_ok-add_next-in-Some.ensures.visited (c.loop-i.invariant.right r) in
    walking_many (g.R.Reaching.starts c.args.reaching.now c.args.shared.now) (g.R.Reaching.next c.args.reaching.now) (g.R.Reaching.breaks c.args.reaching.now) c.args.least.now (c.loop-i.i + 1) c.args.most c.add_next.new.shared.branches c.add_next.new.places c.add_next.new.least (omega (arith, few, len))
    (walking_next (g.R.Reaching.starts c.args.reaching.now c.args.shared.now) (g.R.Reaching.next c.args.reaching.now) (g.R.Reaching.breaks c.args.reaching.now) c.args.least.now c.loop-i.i c.loop-i.shared.branches c.add_next.new.shared.branches c.loop-i.places v.0 v.0 c.add_next.new.places c.in-Some.place c.at.result c.loop-i.least c.add_next.new.least c.at.ensures c.in-Some.is v.1.grows c.in_ok-add_next-in-Some.ensures.shared v.1.within v.1.trees (c.in_ok-add_next-in-Some.ensures.least (c.loop-i.invariant.right r)) refl v.2 (c.loop-i.invariant.walk r))

pub loop-i-preserved : goal.loop-i-preserved
loop-i-preserved g c =
    let few = c.if-len-most-2.false in
    let len = c.len-in-loop-i.ensures.count in
    record {
      few = omega (arith, few, len);
      right = λ r. (c.in_ok-add_next-in-Some.ensures.visited (c.loop-i.invariant.right r)).1.right;
      grows = λ r. grows_more c.args.shared.now.branches c.loop-i.shared.branches c.add_next.new.shared.branches (c.loop-i.invariant.grows r) (c.in_ok-add_next-in-Some.ensures.visited (c.loop-i.invariant.right r)).1.grows;
      walk = λ r.
          let v = c.in_ok-add_next-in-Some.ensures.visited (c.loop-i.invariant.right r) in
          walking_next (g.R.Reaching.starts c.args.reaching.now c.args.shared.now) (g.R.Reaching.next c.args.reaching.now) (g.R.Reaching.breaks c.args.reaching.now) c.args.least.now c.loop-i.i c.loop-i.shared.branches c.add_next.new.shared.branches c.loop-i.places v.0 v.0 c.add_next.new.places c.in-Some.place c.at.result c.loop-i.least c.add_next.new.least c.at.ensures c.in-Some.is v.1.grows c.in_ok-add_next-in-Some.ensures.shared v.1.within v.1.trees (c.in_ok-add_next-in-Some.ensures.least (c.loop-i.invariant.right r)) refl v.2 (c.loop-i.invariant.walk r);
    }

pub returns-clause-numbered : goal.returns-clause-numbered
returns-clause-numbered g c = λ r t.
    let few = c.loop-i.invariant.few in
    let end = c.loop-i-test.false in
    (walking_ends (g.R.Reaching.starts c.args.reaching.now c.args.shared.now) (g.R.Reaching.next c.args.reaching.now) (g.R.Reaching.breaks c.args.reaching.now) c.args.least.now c.loop-i.i c.loop-i.shared.branches c.loop-i.places c.loop-i.least (past_end c.loop-i.places c.loop-i.i (omega (arith, few, end))) (c.loop-i.invariant.walk r)).0

pub returns-clause-few : goal.returns-clause-few
returns-clause-few g c = λ t. c.loop-i.invariant.few

pub returns-clause-right : goal.returns-clause-right
returns-clause-right g c = c.loop-i.invariant.right

pub returns-clause-grows : goal.returns-clause-grows
returns-clause-grows g c = c.loop-i.invariant.grows

pub returns-clause-within : goal.returns-clause-within
returns-clause-within g c = λ r t. (c.loop-i.invariant.walk r).within

pub returns-clause-least : goal.returns-clause-least
returns-clause-least g c = λ r t.
    let few = c.loop-i.invariant.few in
    let end = c.loop-i-test.false in
    (walking_ends (g.R.Reaching.starts c.args.reaching.now c.args.shared.now) (g.R.Reaching.next c.args.reaching.now) (g.R.Reaching.breaks c.args.reaching.now) c.args.least.now c.loop-i.i c.loop-i.shared.branches c.loop-i.places c.loop-i.least (past_end c.loop-i.places c.loop-i.i (omega (arith, few, end))) (c.loop-i.invariant.walk r)).1
