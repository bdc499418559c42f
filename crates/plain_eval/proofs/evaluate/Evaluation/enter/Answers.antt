use Rattle.std.proofs.Common.{sym, ap, ◌∙◌, subst}
use Rattle.fip_trees.specs.fip_language.Meaning.{nothing_bound}
use Rattle.instance_semantics.specs.Meaning.{bind_binders}
use Rattle.plain_rows.specs.Rows.{StandAll}
use Rattle.plain_rows.proofs.Loaded.{on_ok}
use Rattle.plain_eval.specs.Slots.{CoversNow}
use Rattle.plain_eval.specs.Machine.{last_end}
use Rattle.plain_eval.proofs.Steps.{on_three, moved_covers, keeps_through, all_through}
use Rattle.plain_eval.proofs.evaluate.Evaluation.enter.Goals as goal

pub returns-clause-covers : goal.returns-clause-covers
returns-clause-covers c =
    let e = c.args.self.now in
    let s = e.store in
    let mid = c.bind_all.new.variables in
    let new = c.drop_rows.new.self in
    on_three c.drop_rows.result (λ keeps base end vs a.
    let bound = c.in_ok-bind_all.ensures.covers s nothing_bound vs (λ x v z. cc) (subst (λ l. StandAll s l vs) (sym c.as_slice-3.ensures.value) a) in
    moved_covers s new.store mid.values.items new.variables.values.items mid.base mid.end new.variables.base new.variables.end _ base end keeps (subst (λ bs. CoversNow s mid (bind_binders nothing_bound bs vs)) c.as_slice-2.ensures.value bound)) c.drop_rows.ensures.keeps c.drop_rows.ensures.base c.drop_rows.ensures.end

pub returns-clause-keeps : goal.returns-clause-keeps
returns-clause-keeps c =
    let e = c.args.self.now in
    let s = e.store in
    let new = c.drop_rows.new.self in
    let n = sym (c.end_of-end.ensures.end ∙ ap (last_end 0) c.as_slice.ensures.value) in
    on_ok c.drop_rows.result (λ keeps. keeps_through c.end_of-end.result (last_end 0 e.waiting.items) s new.store e.variables.values.items c.enter.new.self.values.items new.variables.values.items n (c.in_ok-enter.ensures.keeps s) (all_through s new.store c.enter.new.self.values.items c.bind_all.new.variables.values.items new.variables.values.items (c.in_ok-bind_all.ensures.keeps s) keeps)) c.drop_rows.ensures.keeps
