use Rattle.std.proofs.Common.{rules, sym, subst}
use Rattle.parser_state.specs.StateView as view
use Rattle.std.specs.List.{All}
use Rattle.parser_state.proofs.moves.enter.Goals as goal
use Rattle.std.proofs.lemmas.List.Elements.{All-push}

pub returns-clause-well : goal.returns-clause-well
returns-clause-well c = (
  subst (λ z. All view.IsWellLevel z) (sym c.in_ok-push.ensures.items) (All-push view.IsWellLevel c.args.body.levels.items (record { before = c.args.body.partial; purpose = c.args.purpose }) (search rules) (search rules)),
  subst (λ z. view.IsWellPartial c.new_partial.result z) (sym c.new_partial.ensures.steps) c.new_partial.ensures.well,
)
