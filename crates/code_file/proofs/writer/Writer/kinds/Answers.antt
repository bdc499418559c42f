use Rattle.std.proofs.lemmas.Result.{err_from_is_err_and}
use Rattle.code_file.specs.CodeText.{kind_text}
use Rattle.code_file.specs.Spelling.{each}
use Rattle.code_file.specs.Written.{after}
use Rattle.code_file.proofs.Writing.{loop_item_is, loop_fails_is, loop_done}
use Rattle.code_file.proofs.writer.Writer.kinds.Goals as goal

pub returns-in_err-kind : goal.returns-in_err-kind
returns-in_err-kind c =
    let p = err_from_is_err_and c.from_residual.result c.from_residual.ensures.1 in
    rw (p.1, p.2) (loop_fails_is (Unit {0}) (Unit {0}) kind_text c.args.kinds.now c.loop-kind.kind-index c.kind-item.result c.loop-kind.self c.kind.new.self c.kind.new.self c.in_err-kind.field-0.0 (after c.args.self.now (each kind_text c.args.kinds.now)) c.loop-kind-test.true c.kind-item.is c.in_err-kind.ensures c.loop-kind.invariant)

pub loop-kind-preserved : goal.loop-kind-preserved
loop-kind-preserved c = loop_item_is kind_text c.args.kinds.now c.loop-kind.kind-index c.kind-item.result c.loop-kind.self c.kind.new.self (after c.args.self.now (each kind_text c.args.kinds.now)) c.loop-kind-test.true c.kind-item.is c.in_ok-kind.ensures c.loop-kind.invariant

pub returns : goal.returns
returns c = loop_done kind_text c.args.kinds.now c.loop-kind.kind-index c.loop-kind.self (after c.args.self.now (each kind_text c.args.kinds.now)) c.loop-kind-test.false c.loop-kind.invariant
