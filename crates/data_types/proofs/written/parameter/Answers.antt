use Rattle.std.proofs.Common.{◌∙◌, sym, ap, if◌then◌else◌}
use Rattle.std.specs.Prelude.{◌==◌}
use Rattle.data_types.specs.Types.{Given, Parameter}
use Rattle.data_types.proofs.CoreForms.{int_is}
use Rattle.data_types.proofs.Numbers.{int_numbered, parameter_numbered}
use Rattle.data_types.proofs.Shared.{count_view}
use Rattle.data_types.proofs.written.parameter.Goals as goal

pub returns-clause-found : goal.returns-clause-found
returns-clause-found c = int_is ∙ sym (ap (λ b. if b then Parameter c.args.number else Given) (ap (λ n. n == 0) (count_view c.args.arguments.now) ∙ sym c.is_empty.ensures ∙ c.if-is_empty.false))

pub returns-then-is_empty-clause-numbered : goal.returns-then-is_empty-clause-numbered
returns-then-is_empty-clause-numbered c = parameter_numbered c.args.number

pub returns-clause-numbered : goal.returns-clause-numbered
returns-clause-numbered c = int_numbered
