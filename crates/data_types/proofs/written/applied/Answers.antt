use Rattle.std.proofs.Common.{◌≡◌, ◌∙◌, ◌-◌, sym, ap, true, false, arith, if◌then◌else◌}
use Rattle.std.specs.Prelude.{◌==◌}
use Rattle.std.proofs.lemmas.Bool.Decides.{nat_tests}
use Rattle.data_types.specs.Types.{Given, Applied}
use Rattle.data_types.specs.Declarations.{count_tys}
use Rattle.data_types.specs.View.{tys}
use Rattle.data_types.proofs.CoreForms.{applied_is, int_is}
use Rattle.data_types.proofs.Numbers.{int_numbered, applied_numbered}
use Rattle.data_types.proofs.Shared.{count_view}
use Rattle.data_types.proofs.written.applied.Goals as goal

pub returns-then-head-len-clause-found : goal.returns-then-head-len-clause-found
returns-then-head-len-clause-found c =
    let h = c.if-head-len.true in
    let n = c.len.ensures in
    let o = c.args.arguments.ok.0 in
    let v = count_view c.args.arguments.items in
    let b : (c.args.head.arity == count_tys (tys c.args.arguments.items)) ≡ true = grind (arith, nat_tests, h, n, o, v) in
    applied_is c.args.head.number c.args.arguments ∙ sym (ap (λ b. if b then Applied (c.args.head.number - 1) (tys c.args.arguments.items) else Given) b)

pub returns-clause-found : goal.returns-clause-found
returns-clause-found c =
    let h = c.if-head-len.false in
    let n = c.len.ensures in
    let o = c.args.arguments.ok.0 in
    let v = count_view c.args.arguments.items in
    let b : (c.args.head.arity == count_tys (tys c.args.arguments.items)) ≡ false = grind (arith, nat_tests, h, n, o, v) in
    int_is ∙ sym (ap (λ b. if b then Applied (c.args.head.number - 1) (tys c.args.arguments.items) else Given) b)

pub returns-then-head-len-clause-numbered : goal.returns-then-head-len-clause-numbered
returns-then-head-len-clause-numbered c = λ n h. applied_numbered c.args.head.number c.args.arguments n h

pub returns-clause-numbered : goal.returns-clause-numbered
returns-clause-numbered c = λ n h. int_numbered
