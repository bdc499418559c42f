use Rattle.std.proofs.Common.{◌≡◌, ◌∷◌, ◌∙◌, ◌≤◌, ◌+◌, List, All, drop, length, Some, refl, sym, ap, subst, arith}
use Rattle.std.specs.Prelude.{slice_get}
use Rattle.std.proofs.lemmas.List.Elements.{All-push}
use Rattle.std.proofs.lemmas.Option.{slice_get_read}
use Rattle.fip_tasks.specs.Turns.{CanStart}
use Rattle.fip_tasks.specs.declared.task.Start.{Start}
use Rattle.task_lines.specs.declared.task_line.TaskLine.{TaskLine}
use Rattle.task_lines.proofs.Starting.{AreStarting, starting, starting_on, ready, left_at, none_after}
use Rattle.task_lines.proofs.list.TaskList.starts.Goals as goal

pub loop-line-init : goal.loop-line-init
loop-line-init c = record {
  can = subst (λ (xs : List Start). All (CanStart c.args.verified.now) xs) (sym c.new-starts.ensures.items) (λ k d lt. absurd (omega (arith, lt)));
  starting = λ ok cs lines. starting c.args.verified.now.code c.args.room cs c.args.loader c.args.self.now.lines.items c.new-starts.result.items c.new-starts.ensures.items lines;
}

pub loop-line-preserved : goal.loop-line-preserved
loop-line-preserved c = record {
  can = subst (λ (xs : List Start). All (CanStart c.args.verified.now) xs) (sym c.in_ok-push.ensures.items) (All-push (CanStart c.args.verified.now) c.loop-line.starts.items c.in_ok-next.start c.loop-line.invariant.can c.in_ok-next.ensures.can);
  starting = λ ok cs lines.
      let code = c.args.verified.now.code in
      let ts : List TaskLine = c.args.self.now.lines.items in
      let us : List TaskLine = c.as_slice-line-items.result.now in
      let i = c.loop-line.line-index in
      let t : TaskLine = c.line-item.result in
      let same : us ≡ ts = c.as_slice-line-items.ensures.value in
      let there : slice_get us i ≡ Some t = slice_get_read us (length us) i t refl c.loop-line-test.true c.line-item.is in
      let here : drop i ts ≡ t ∷ drop (i + 1) ts = left_at ts i t (ap (λ (xs : List TaskLine). slice_get xs i) (sym same) ∙ there) in
      let h = subst (λ (xs : List TaskLine). AreStarting code c.args.room cs c.args.loader c.loop-line.loader xs c.loop-line.starts.items) here (c.loop-line.invariant.starting ok cs lines) in
      starting_on code c.args.room cs c.args.loader c.loop-line.loader c.in_ok-next.next t (drop (i + 1) ts) c.loop-line.starts.items c.push.new.self.items c.in_ok-next.start h (λ x is. c.in_ok-next.ensures.made ok x is) c.in_ok-push.ensures.items;
}

pub returns-clause-ready : goal.returns-clause-ready
returns-clause-ready c = λ ok empty cs lines.
    let ts : List TaskLine = c.args.self.now.lines.items in
    let end : length ts ≤ c.loop-line.line-index = subst (λ (xs : List TaskLine). length xs ≤ c.loop-line.line-index) c.as_slice-line-items.ensures.value c.loop-line-test.false in
    ready c.args.verified.now.code c.args.room cs c.args.loader c.loop-line.loader (drop c.loop-line.line-index ts) c.loop-line.starts.items empty (none_after ts c.loop-line.line-index end) c.left-left.ensures.flags c.left-left.ensures.sized c.left-left.ensures.of_cells (c.loop-line.invariant.starting ok cs lines)
