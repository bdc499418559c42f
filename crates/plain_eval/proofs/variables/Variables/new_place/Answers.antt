use Rattle.plain_rows.proofs.Loaded.{on_ok}
use Rattle.plain_eval.proofs.Slots.{free_keeps, kept_all, fill_keeps, keeps_off_after, if_ok}
use Rattle.plain_eval.proofs.variables.Variables.new_place.Goals as goal

pub returns-in-Some-clause-keeps : goal.returns-in-Some-clause-keeps
returns-in-Some-clause-keeps c = λ s. free_keeps s c.args.self.now.values.items c.in-Some.place (c.in-Some.ensures.free).2

pub returns-in_ok-fill-in-None-clause-covers : goal.returns-in_ok-fill-in-None-clause-covers
returns-in_ok-fill-in-None-clause-covers c =
    let old = c.args.self.now in
    let filled = c.fill.new.values in
    on_ok c.renew.result (λ f s env h. f s env (kept_all s s old.values.items filled.items old.base old.end env (fill_keeps s old.values.items filled.items c.in_ok-fill-in-None.ensures.kept) h)) c.renew.ensures.covers

pub returns-in_ok-fill-in-None-clause-keeps : goal.returns-in_ok-fill-in-None-clause-keeps
returns-in_ok-fill-in-None-clause-keeps c =
    let old = c.args.self.now in
    let filled = c.fill.new.values in
    if_ok c.renew.result (λ p f s. keeps_off_after s p old.values.items filled.items c.renew.new.self.values.items (fill_keeps s old.values.items filled.items c.in_ok-fill-in-None.ensures.kept) (f s)) c.renew.ensures.keeps
