-- The bool that was written is tested.
use Rattle.std.proofs.Common.{ap, subst, nat_eq}
use mir.Val.{bool_byte}
use Rattle.cell_code.specs.Runnable.{Row, IsSafe}
use Rattle.machine_step.specs.Placed.{body_at}
use Rattle.machine_step.specs.View.{state_of}
use Rattle.machine_step.proofs.Helps.{byte_is}
use Rattle.machine_step.proofs.Turns.{flag_gone}
use Rattle.machine_step.proofs.rows.test_flag.Goals as goal

pub returns-then-tested-register-clause-gone : goal.returns-then-tested-register-clause-gone
returns-then-tested-register-clause-gone c kinds s lent =
    let v = c.args.verified.now in
    let b = c.args.bounds in
    let ws = c.args.words.now in
    let cursor = c.args.cursor.now in
    let row = subst (Row (body_at v cursor) cursor.at (IsSafe (body_at v cursor))) c.in-Test.is c.next_of.ensures.row in
    flag_gone v b kinds lent ws cursor c.requires.placed c.next_of.result.now c.next_of.ensures.is s (state_of v b lent s ws c.branch-verified.new.cursor) c.in-Test.tested c.args.register c.in-Test.constructor c.in-Test.target c.args.holds (nat_eq c.in-Test.constructor (bool_byte c.args.holds)) c.in-Test.is c.if-tested-register.true row.0 c.requires.word (ap (nat_eq c.in-Test.constructor) (byte_is c.args.holds)) (c.branch-verified.ensures.state lent s)
