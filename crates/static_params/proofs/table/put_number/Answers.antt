use Rattle.std.proofs.Common.{◌∙◌, ◌++◌, option_map, ap, sym, append-nil}
use Rattle.static_params.specs.FlatProgram.{number_if}
use Rattle.reached_instances.specs.SourceView as S
use Rattle.static_params.proofs.table.put_number.Goals as goal

pub returns-in_ok-push-in-Some : goal.returns-in_ok-push-in-Some
returns-in_ok-push-in-Some c =
    c.in_ok-push-in-Some.ensures.items
    ∙ ap (λ d. c.args.declaring.now.items ++ number_if c.args.number d) (sym (ap (option_map (λ x. S.declared x.now)) c.in-Some.is) ∙ c.data_type.ensures)

pub returns-in-None : goal.returns-in-None
returns-in-None c =
    sym (append-nil c.args.declaring.now.items)
    ∙ ap (λ d. c.args.declaring.now.items ++ number_if c.args.number d) (sym (ap (option_map (λ x. S.declared x.now)) c.in-None.is) ∙ c.data_type.ensures)
