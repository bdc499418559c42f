use Rattle.data_types.proofs.declared.declarations.Goals as goal

pub returns-clause-faults : goal.returns-clause-faults
returns-clause-faults c = c.in_ok-types.ensures.faults c.args.least.now c.in_ok-names.ensures.faults
