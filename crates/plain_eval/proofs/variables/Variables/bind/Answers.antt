use Rattle.plain_eval.proofs.Slots.{bound_covers, bound_keeps}
use Rattle.plain_eval.proofs.variables.Variables.bind.Goals as goal

pub returns-clause-covers : goal.returns-clause-covers
returns-clause-covers c = λ s env v h k.
    let m = c.in_ok-place.ensures in
    bound_covers s c.new_place.new.self.values.items c.put.new.values.items c.new_place.new.self.base c.new_place.new.self.end c.args.number c.in_ok-place.place c.args.value env v (m.place).0 (m.place).1 c.put.ensures.at c.put.ensures.others (m.covers s env h) k

pub returns-clause-keeps : goal.returns-clause-keeps
returns-clause-keeps c = λ s. bound_keeps s c.args.self.now.values.items c.new_place.new.self.values.items c.put.new.values.items c.in_ok-place.place (c.in_ok-place.ensures.keeps s) c.put.ensures.others
