use Rattle.std.proofs.Common.{sym, subst}
use Rattle.machine_step.specs.View.{state_of}
use Rattle.machine_step.specs.Coming.{Comes}
use Rattle.cell_code.specs.declared.code.Instr.TheVariants as I
use Rattle.cell_code.specs.Plain.{plain}
use Rattle.machine_frames.specs.machine_semantics.Steps.{act}
use Rattle.machine_step.proofs.rows.tail.Goals as goal

pub returns-then-number-cursor-clause-next : goal.returns-then-number-cursor-clause-next
returns-then-number-cursor-clause-next c ks s given lent =
    let v = c.args.verified.now in
    let b = c.args.bounds in
    let old = state_of v b lent s c.args.words.now c.args.cursor.now in
    subst (λ f. Comes old (act (plain v.code) ks old (I.Tail f c.args.arguments.now)) c.enter_again.result (state_of v b lent s c.enter_again.new.words c.enter_again.new.cursor) given) (sym c.if-number-cursor.true) (c.enter_again.ensures.next ks s given lent)

pub returns-else-number-cursor-clause-next : goal.returns-else-number-cursor-clause-next
returns-else-number-cursor-clause-next c ks s given lent = c.enter_instead.ensures.next ks s given lent
