use Rattle.value_text.proofs.build.advance.Goals as goal

pub returns-in-Some-clause-advances : goal.returns-in-Some-clause-advances
returns-in-Some-clause-advances c = λ sound known. c.build_front.ensures.advances sound c.args.loader.now known

pub returns-in-None-clause-advances : goal.returns-in-None-clause-advances
returns-in-None-clause-advances c = λ sound known. c.build_after.ensures.advances c.args.table.now known
