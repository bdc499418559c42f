use Rattle.std.proofs.Common.{refl}
use Rattle.std.proofs.lemmas.Result.{on_ok_weaker}
use Rattle.call_groups.specs.CallGraph.{rows}
use Rattle.call_groups.specs.declared.search.Search.{Search}
use Rattle.call_groups.proofs.search.Search.advance.Goals as goal
use Rattle.call_groups.proofs.Steps.{step_met, met_further, step_left, left_further, further_same}

pub returns-in_ok-push-in-Some-clause-sound : goal.returns-in_ok-push-in-Some-clause-sound
returns-in_ok-push-in-Some-clause-sound c =
    let mid : Search = record { standings = c.follow.new.self.standings; path = c.follow.new.self.path; pieces = c.follow.new.self.pieces; visits = c.push.new.self; order = c.follow.new.self.order } in
    on_ok_weaker c.meet.result
    (λ m. step_met (rows c.args.calls.now) c.follow.new.self mid c.meet.new.self c.args.visit.function c.args.visit.place c.in-Some.step.callee c.in-Some.step.next
    c.in-Some.ensures.found (record { standings = refl; path = refl; visits = refl; order = refl }) refl c.in_ok-push-in-Some.ensures.items m)
    c.meet.ensures.meets

pub returns-in_ok-push-in-Some-clause-further : goal.returns-in_ok-push-in-Some-clause-further
returns-in_ok-push-in-Some-clause-further c =
    let mid : Search = record { standings = c.follow.new.self.standings; path = c.follow.new.self.path; pieces = c.follow.new.self.pieces; visits = c.push.new.self; order = c.follow.new.self.order } in
    on_ok_weaker c.meet.result
    (λ m. further_same c.args.self.now.standings.items c.follow.new.self.standings.items c.meet.new.self.standings.items c.follow.ensures.same.standings
    (met_further mid c.meet.new.self c.in-Some.step.callee c.in-Some.ensures.found.is_new m))
    c.meet.ensures.meets

pub returns-in-None-clause-sound : goal.returns-in-None-clause-sound
returns-in-None-clause-sound c =
    on_ok_weaker c.leave.result
    (λ l. step_left (rows c.args.calls.now) c.follow.new.self c.leave.new.self c.args.visit.function c.args.visit.place c.in-None.ensures.found l)
    c.leave.ensures.leaves

pub returns-in-None-clause-further : goal.returns-in-None-clause-further
returns-in-None-clause-further c =
    on_ok_weaker c.leave.result
    (λ l. further_same c.args.self.now.standings.items c.follow.new.self.standings.items c.leave.new.self.standings.items c.follow.ensures.same.standings
    (left_further (rows c.args.calls.now) c.follow.new.self c.leave.new.self c.args.visit.function c.args.visit.place c.in-None.ensures.found l))
    c.leave.ensures.leaves
