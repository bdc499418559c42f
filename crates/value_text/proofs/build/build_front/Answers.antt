use Rattle.value_text.proofs.build.build_front.Goals as goal

pub returns-then-ty-eq0-clause-advances : goal.returns-then-ty-eq0-clause-advances
returns-then-ty-eq0-clause-advances c = λ sound l known. c.build_int.ensures.advances c.args.table.now l known

pub returns-then-ty-len-clause-advances : goal.returns-then-ty-len-clause-advances
returns-then-ty-len-clause-advances c = λ sound l known. c.build_node.ensures.advances sound l known
