use Rattle.std.proofs.Common.{◌∙◌, ap}
use Rattle.std.specs.Prelude.{Ok}
use Rattle.task_lines.proofs.Next.{placed, moved, is_next, no_value}
use Rattle.task_lines.proofs.task_line.next_value.Goals as goal

pub returns-then-branch-clause-read : goal.returns-then-branch-clause-read
returns-then-branch-clause-read c = λ at line params.
    let tb = c.args.table.now in
    let bytes = c.args.bytes.now in
    let old = c.args.scanner.now in
    let mid = c.comma_before.new.scanner in
    let there = moved bytes old mid c.comma_before.ensures.bytes c.comma_before.ensures.within at in
    let r = c.value.ensures.read (placed tb c.args.ty bytes mid there line params) (c.in_ok-value.was ∙ ap (λ b. Ok b) c.if-branch.true) in
    (r.0, is_next tb c.args.i c.args.ty bytes old mid c.at-place.result c.value.new.scanner.at r.0 at there c.at-place.ensures.is (λ z. (c.comma_before.ensures.first z).1) (λ lt. c.comma_before.ensures.read lt c.if-not-comma_before.false) r.1, r.2)

pub returns-else-branch-clause-none : goal.returns-else-branch-clause-none
returns-else-branch-clause-none c = λ at line params same ks vs h.
    let tb = c.args.table.now in
    let bytes = c.args.bytes.now in
    let old = c.args.scanner.now in
    let mid = c.comma_before.new.scanner in
    let there = moved bytes old mid c.comma_before.ensures.bytes c.comma_before.ensures.within at in
    let none = c.value.ensures.none (placed tb c.args.ty bytes mid there line params) (c.in_ok-value.was ∙ ap (λ b. Ok b) c.if-branch.false) in
    no_value tb c.args.ty bytes line params old at c.args.i ks vs mid there (λ z. (c.comma_before.ensures.first z).1) (λ lt. c.comma_before.ensures.read lt c.if-not-comma_before.false) none h
