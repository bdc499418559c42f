-- The gauge looks at the cells of the start, and at those that are left.
use Rattle.std.proofs.Common.{◌≡◌, ◌+◌, ◌-◌, ◌<◌, ◌∙◌, ap, arith}
use Rattle.std.specs.Prelude.{slice_index_or}
use Rattle.fip_language.specs.declared.limits.TheConstants.{MOST_FIELDS}
use Rattle.fip_machine.specs.GaugeView.{lowered}
use Rattle.fip_tasks.specs.Landing.{standing}
use Rattle.fip_tasks.specs.Gauged.{left_of, started_of}
use Rattle.fip_tasks.proofs.task.Task.gauge.Goals as goal

pub returns : goal.returns
returns c =
    let t = standing c.args.self.now in
    record {
      reports = record {
        lowest = λ k low high.
            let j : k - 1 < MOST_FIELDS = omega (arith, low, high) in
            let e : k - 1 + 1 ≡ k = omega (arith, low) in
            let first = c.see.ensures.lowest (k - 1) j ∙ ap (λ b. lowered b (slice_index_or c.new-gauge.result.lowest (k - 1) 0) (started_of t k)) c.new-gauge.ensures.unseen in
            let left = c.held.ensures.left (k - 1) j ∙ ap (left_of t) e in
            let last = c.see-2.ensures.lowest (k - 1) j ∙ (λ x. lowered (c.see.ensures.seen x) (first x) (left x)) in
            omega (arith, last);
        highest = λ k low high.
            let j : k - 1 < MOST_FIELDS = omega (arith, low, high) in
            let e : k - 1 + 1 ≡ k = omega (arith, low) in
            let none = c.new-gauge.ensures.highest (k - 1) in
            let left = c.held.ensures.left (k - 1) j ∙ ap (left_of t) e in
            let first = c.see.ensures.highest (k - 1) j in
            let last = c.see-2.ensures.highest (k - 1) j in
            omega (arith, none, left, first, last);
        frames = (let a = c.new-gauge.ensures.frames in let b = c.see.ensures.frames in let d = c.see-2.ensures.frames in let e = c.highest-highest.ensures.frames in omega (arith, a, b, d, e));
        words = (let a = c.new-gauge.ensures.words in let b = c.see.ensures.words in let d = c.see-2.ensures.words in let e = c.highest-highest.ensures.words in omega (arith, a, b, d, e));
      };
    }
