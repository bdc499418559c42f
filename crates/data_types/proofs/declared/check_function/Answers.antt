use Rattle.std.proofs.Common.{◌∙◌, ap, List, [], map}
use Rattle.fip_language.specs.declared.CreditMark.{CreditMark}
use Rattle.fip_base.specs.CoreView.{function, static, parameter}
use Rattle.fip_base.specs.declared.core_form.Static.{Static}
use Rattle.fip_base.specs.declared.core_form.Parameter.{Parameter}
use Rattle.fip_trees.specs.Least.{after}
use Rattle.fip_trees.specs.Names.{with_meanings}
use Rattle.data_types.specs.Declarations.{static_meanings}
use Rattle.data_types.specs.Faults.{credit_faults, repeats, static_mentions, parameter_mentions}
use Rattle.data_types.proofs.Naming.{scope_of, function_noted}
use Rattle.data_types.proofs.declared.check_function.Goals as goal

pub returns : goal.returns
returns c =
    let ns = c.args.names.now in
    let parameters = c.in_ok-parameters.ensures ∙ ap (λ (ss : List Static). with_meanings [] (static_meanings 0 (map static ss))) c.deref-4.ensures.value in
    function_noted ns (function c.args.function.now) (scope_of ns c.in_ok-parameters.parameters) c.args.least.now c.check_credits.new.least c.check_static_names.new.least c.check_parameter_names.new.least c.check_mentions.new.least
    (c.in_ok-check_credits.ensures ∙ ap (λ (ms : List CreditMark). after c.args.least.now (credit_faults ms)) c.deref.ensures.value)
    (c.in_ok-check_static_names.ensures ∙ ap (λ (ss : List Static). after c.check_credits.new.least (repeats [] (static_mentions (map static ss)))) c.deref-2.ensures.value)
    (c.in_ok-check_parameter_names.ensures ∙ ap (λ (ps : List Parameter). after c.check_static_names.new.least (repeats [] (parameter_mentions (map parameter ps)))) c.deref-3.ensures.value)
    (ap (scope_of ns) parameters)
    c.in_ok-check_mentions.ensures
