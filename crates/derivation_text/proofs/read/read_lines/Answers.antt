use Rattle.std.proofs.Common.{Some, None, ap, ◌∙◌, arith}
use Rattle.fip_language.specs.Prefix.{Stopped}
use Rattle.derivation_text.specs.Machine.{flats, start}
use Rattle.derivation_text.specs.Reading.{runs, lines_made}
use Rattle.derivation_text.proofs.Loop.{byte_taken, byte_refused, all_taken}
use Rattle.derivation_text.proofs.read.read_lines.Goals as goal

pub loop-at-init : goal.loop-at-init
loop-at-init c = let e = c.new-reader.ensures in ap (λ s. runs s c.args.bytes.now 0) e

pub returns-in-Err-Bad : goal.returns-in-Err-Bad
returns-in-Err-Bad c = byte_refused c.args.bytes.now c.loop-at.reader c.take.new.self c.loop-at.at (runs (start flats) c.args.bytes.now 0) (Unit {0}) c.in-Err-Bad.field-0 c.in-Err-Bad.field-0-is c.loop-at-test.true c.in-Err-Bad.ensures c.loop-at.invariant

pub loop-at-preserved : goal.loop-at-preserved
loop-at-preserved c = byte_taken c.args.bytes.now c.loop-at.reader c.take.new.self c.loop-at.at (runs (start flats) c.args.bytes.now 0) (Unit {0}) c.in-Ok.field-0 c.loop-at-test.true c.in-Ok.ensures c.loop-at.invariant

pub returns-in-Some : goal.returns-in-Some
returns-in-Some c = all_taken c.args.bytes.now c.loop-at.reader c.loop-at.reader c.loop-at.at (runs (start flats) c.args.bytes.now 0) (Some (lines_made c.in-Some.lines.items)) c.loop-at-test.false c.in-Some.ensures c.loop-at.invariant

pub returns-in-None : goal.returns-in-None
returns-in-None c =
    let l = c.loop-at-test.false in
    let m = c.loop-at.auto.at-end in
    all_taken c.args.bytes.now c.loop-at.reader c.loop-at.reader c.loop-at.at (runs (start flats) c.args.bytes.now 0) None l c.in-None.ensures c.loop-at.invariant
    ∙ ap Stopped (omega (arith, l, m))
