use Rattle.std.proofs.Common.{sym}
use Rattle.session_lines.specs.Said.{names_of}
use Rattle.fip_session.specs.Planned.{names_used}
use Rattle.fip_session.proofs.Naming.{not_true}
use Rattle.fip_session.proofs.Planning.{free_none, not_held}
use Rattle.fip_session.proofs.plan.is_taken.Goals as goal

pub returns-in-None-clause-free : goal.returns-in-None-clause-free
returns-in-None-clause-free c = λ ls finds e.
    free_none c.args.book.now.held ls finds (names_used c.args.arguments.now.given.items) (names_of c.args.before.now) c.args.name.now (c.has_name.ensures.none c.if-has_name.false) (sym c.in-None.ensures.held)

pub returns-in-Some-clause-taken : goal.returns-in-Some-clause-taken
returns-in-Some-clause-taken c = λ ls finds e f.
    not_held c.args.book.now.held ls finds (names_used c.args.arguments.now.given.items) (names_of c.args.before.now) c.args.name.now c.in-Some.field-0 (sym c.in-Some.ensures.held) (c.uses_up.ensures.none (not_true c.uses_up.result e)) f
