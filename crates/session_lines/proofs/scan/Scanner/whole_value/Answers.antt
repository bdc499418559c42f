use Rattle.std.proofs.Common.{subst}
use Rattle.session_lines.specs.Completed.{Completes, GoesOn}
use Rattle.session_lines.specs.Scanned.{left}
use Rattle.session_lines.specs.declared.scan.Step.TheVariants.{Wants}
use Rattle.session_lines.proofs.Writing.{written_whole, written_completes}
use Rattle.session_lines.proofs.scan.Scanner.whole_value.Goals as goal

pub returns-in-None-clause-none : goal.returns-in-None-clause-none
returns-in-None-clause-none c = λ e w rest t.
    c.token.ensures.none c.in-None.is rest (c.loop-step.invariant.alike.to rest (written_completes (left c.args.self.now) rest w t))

pub returns-clause-read : goal.returns-clause-read
returns-clause-read c = λ e.
    let h = c.is_part.ensures.whole c.loop-step-test.false in
    let cs = left c.args.self.now in
    let ds = left c.loop-step.self in
    written_whole cs ds (subst (λ s. GoesOn (Completes Wants 0 cs) (Completes s 0 ds)) h.0 (subst (λ n. GoesOn (Completes Wants 0 cs) (Completes c.loop-step.step n ds)) h.1 c.loop-step.invariant.alike))
