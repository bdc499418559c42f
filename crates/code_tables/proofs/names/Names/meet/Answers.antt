use Rattle.code_tables.proofs.NamesApart.{met_after}
use Rattle.code_tables.proofs.names.Names.meet.Goals as goal

pub returns-clause-met : goal.returns-clause-met
returns-clause-met c =
    λ i x. met_after c.args.name.now c.args.self.now.names c.insert.new.self c.in_ok-new.ensures.updates x i
