use Rattle.program_front.proofs.phases.front.Goals as goal

pub returns-in-Ok-clause-lowered : goal.returns-in-Ok-clause-lowered
returns-in-Ok-clause-lowered c = c.lowered_of.ensures.lowered c.args.source.now c.in-Ok.ensures.typed

pub returns-in-Ok-clause-bounded : goal.returns-in-Ok-clause-bounded
returns-in-Ok-clause-bounded c = c.lowered_of.ensures.bounded c.args.source.now c.in-Ok.ensures.typed

pub returns-in-Ok-clause-laid : goal.returns-in-Ok-clause-laid
returns-in-Ok-clause-laid c = c.lowered_of.ensures.laid c.args.source.now c.in-Ok.ensures.typed
