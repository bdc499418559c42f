use Rattle.std.proofs.Common.{◌≡◌, ◌∷◌, ◌∙◌, ◌<◌, ℕ, [], List, All, length, length-append, sym, ap, subst, arith}
use Rattle.std.specs.Prelude.{Ok, IfSome}
use Rattle.std.proofs.lemmas.List.Elements.{All-push}
use Rattle.task_lines.specs.declared.task_line.TaskLine.{TaskLine}
use Rattle.task_lines.specs.Called.{AreCalls}
use Rattle.session_values.specs.Readable.{IsLine}
use Rattle.task_lines.proofs.Listing.{IsReadLine, listing_starts, listing_on, first_bad, one_too_many, all_listed, as_many_lines}
use Rattle.task_lines.proofs.list.tasks_of.Goals as goal

pub loop-at-init : goal.loop-at-init
loop-at-init c = record {
  there = subst (λ (xs : List TaskLine). All (λ t. t.entry < length c.args.code.now.functions.items) xs) (sym c.new-lines.ensures.items) (λ k d lt. absurd (omega (arith, lt)));
  few = (let e = ap length c.new-lines.ensures.items in omega (arith, e));
  listed = λ ok entries short. listing_starts c.args.code.now c.args.input.now c.new-lines.result.items c.none-counts.result c.new-lines.ensures.items c.none-counts.ensures;
}

pub returns-then-number-gt-MOST_TASKS-clause-bad : goal.returns-then-number-gt-MOST_TASKS-clause-bad
returns-then-number-gt-MOST_TASKS-clause-bad c = λ ok entries short k same.
    let n : c.saturating_add-number.result ≡ k = cc in
    let few = c.loop-at.invariant.few in
    let t = c.if-number-gt-MOST_TASKS.true in
    let l = c.len.ensures in
    let s = c.saturating_add-number.ensures in
    one_too_many c.args.code.now c.args.input.now c.loop-at.at k c.loop-at.lines.items c.loop-at.counts (c.loop-at.invariant.listed ok entries short) c.loop-at-test.true few (omega (arith, t, l, s, few)) (omega (arith, n, l, s, few))

pub returns-in-None-clause-bad : goal.returns-in-None-clause-bad
returns-in-None-clause-bad c = λ ok entries short k same.
    let n : c.saturating_add-number.result ≡ k = cc in
    let few = c.loop-at.invariant.few in
    let t = c.if-number-gt-MOST_TASKS.false in
    let l = c.len.ensures in
    let s = c.saturating_add-number.ensures in
    let line : List ℕ = c.line_at-next.result.0.now in
    let less = c.line_at-next.ensures.few in
    let is : IsLine line = record { one = c.line_at-next.ensures.one; short = omega (arith, less, short) } in
    first_bad c.args.code.now c.args.input.now line c.loop-at.at c.line_at-next.result.1 k c.loop-at.lines.items c.loop-at.counts (c.loop-at.invariant.listed ok entries short) c.line_at-next.ensures.line (omega (arith, t, l, s, few)) (omega (arith, n, l, s, few)) (λ x call. c.task_of.ensures.none ok entries is (c.in_ok-task.was ∙ ap (λ o. Ok o) c.in-None.is) x call)

pub loop-at-preserved : goal.loop-at-preserved
loop-at-preserved c = record {
  there = subst (λ (xs : List TaskLine). All (λ t. t.entry < length c.args.code.now.functions.items) xs) (sym c.in_ok-push-in-Some.ensures.items) (All-push (λ (t : TaskLine). t.entry < length c.args.code.now.functions.items) c.loop-at.lines.items c.in-Some.task c.loop-at.invariant.there (subst (λ o. IfSome o (λ (t : TaskLine). t.entry < length c.args.code.now.functions.items)) c.in-Some.is c.in_ok-task.ensures.there));
  few = (let e = ap length c.in_ok-push-in-Some.ensures.items in let f = length-append c.loop-at.lines.items (c.in-Some.task ∷ []) in let few = c.loop-at.invariant.few in let t = c.if-number-gt-MOST_TASKS.false in let l = c.len.ensures in let s = c.saturating_add-number.ensures in omega (arith, e, f, few, t, l, s));
  listed = λ ok entries short.
      let code = c.args.code.now in
      let line : List ℕ = c.line_at-next.result.0.now in
      let less = c.line_at-next.ensures.few in
      let is : IsLine line = record { one = c.line_at-next.ensures.one; short = omega (arith, less, short) } in
      let r = subst (λ o. IfSome o (IsReadLine code line c.loop-at.counts c.task_of.new.counts)) c.in-Some.is (c.in_ok-task.ensures.read ok entries is) in
      listing_on code c.args.input.now line c.loop-at.at c.line_at-next.result.1 c.loop-at.lines.items c.push.new.self.items c.in-Some.task c.loop-at.counts c.task_of.new.counts r.0 (c.loop-at.invariant.listed ok entries short) c.line_at-next.ensures.line r.1 r.2 r.3 c.in_ok-push-in-Some.ensures.items;
}

pub returns-clause-tasks : goal.returns-clause-tasks
returns-clause-tasks c = λ ok entries short.
    let code = c.args.code.now in
    let input = c.args.input.now in
    let h = c.loop-at.invariant.listed ok entries short in
    let all = all_listed code input c.loop-at.at c.loop-at.lines.items c.loop-at.counts h c.loop-at-test.false in
    let n = as_many_lines code input c.loop-at.at c.loop-at.lines.items c.loop-at.counts h in
    let few = c.loop-at.invariant.few in
    let e = ap length all in
    (h.cs, record { calls = subst (λ ls. AreCalls code ls h.cs) (sym all) h.calls; few = omega (arith, e, n, few); lines = h.lines; counts = h.counted })
