use Rattle.std.proofs.Common.{sym, ap, ◌∙◌, ◌+◌, arith, ℕ}
use Rattle.std.specs.declared.vec.Vec.{Vec}
use Rattle.std.specs.declared.alloc.Global.{Global}
use Rattle.match_knowledge.specs.View.{known}
use Rattle.lower_parts.specs.Overlays.{may_be}
use Rattle.lower_parts.proofs.Overlaying.{kept_true, kept_false}
use Rattle.lower_parts.proofs.choice.left_of.Goals as goal
use Rattle.lower_parts.proofs.choice.left_of.Goals.{then-may_be+in_ok-push, else-may_be}

pub loop-number-preserved : goal.loop-number-preserved
loop-number-preserved c = elim c.if-may_be.branch [
  | then-may_be+in_ok-push w ↦ ap (λ (v : Vec ℕ Global). v.items) w.numbers-is ∙ kept_true (may_be (known c.args.known.now)) c.loop-number.numbers.items w.push.new.self.items c.loop-number.number (c.loop-number.number + 1) (omega arith) c.loop-number.invariant (sym c.may_be.ensures ∙ w.if-may_be.true) w.in_ok-push.ensures.items
  | else-may_be w ↦ ap (λ (v : Vec ℕ Global). v.items) w.numbers-is ∙ kept_false (may_be (known c.args.known.now)) c.loop-number.numbers.items c.loop-number.number (c.loop-number.number + 1) (omega arith) c.loop-number.invariant (sym c.may_be.ensures ∙ w.if-may_be.false)
]
