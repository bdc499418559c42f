-- The task whose turn it is lands, and the others stay.
use Rattle.std.proofs.Common.{◌≡◌, ◌∙◌, ◌<◌, Some, length, sym, ap, subst}
use Rattle.std.specs.Prelude.{slice_get}
use Rattle.fip_tasks.specs.Turns.{Standing, Turns}
use Rattle.fip_tasks.specs.Gauged.{HasCounted}
use Rattle.fip_tasks.specs.Landing.{cells_of}
use Rattle.fip_tasks.specs.Followed.{HaveFollowed}
use Rattle.fip_tasks.specs.Shown.{Shows, turned_by}
use Rattle.fip_tasks.proofs.Turning.{turn_shows, is_set, within, read_at, seen, counts_at, others_at, turn_followed}
use Rattle.fip_tasks.proofs.tasks.Tasks.turn.Goals as goal

pub returns-clause-turn : goal.returns-clause-turn
returns-clause-turn c v kinds shared shows can =
    let ts = c.self.inside.tasks.items in
    let before = c.self.inside.cells in
    let s : Shows v (seen ts before) shared = subst (λ (t : Turns). Shows v t shared) (sym c.self.view_is) shows in
    let there : c.args.k < length ts = within ts c.args.k (subst (λ (t : Turns). c.args.k < length t.tasks) (sym c.self.view_is) c.requires.there) in
    turn_shows v kinds ts before c.turn.new.cells shared c.args.k c.index_mut.result.now c.turn.new.self s can (read_at ts c.args.k c.index_mut.result.now there c.index_mut.ensures.value) c.turn.ensures.lands

pub returns-clause-followed : goal.returns-clause-followed
returns-clause-followed c v kinds first schedule followed can =
    let ts = c.self.inside.tasks.items in
    let before = c.self.inside.cells in
    let h : HaveFollowed v kinds first schedule (seen ts before) = subst (λ (t : Turns). HaveFollowed v kinds first schedule t) (sym c.self.view_is) followed in
    let there : c.args.k < length ts = within ts c.args.k (subst (λ (t : Turns). c.args.k < length t.tasks) (sym c.self.view_is) c.requires.there) in
    turn_followed v kinds first schedule ts before c.turn.new.cells c.args.k c.index_mut.result.now c.turn.new.self h can (read_at ts c.args.k c.index_mut.result.now there c.index_mut.ensures.value) c.turn.ensures.lands

pub returns-clause-reported : goal.returns-clause-reported
returns-clause-reported c a is =
    c.turn.ensures.reported ∙ ap (λ (t : Standing). turned_by t.ended) (is_set c.self.inside.tasks.items c.args.k c.turn.new.self a (within c.self.inside.tasks.items c.args.k (subst (λ (t : Turns). c.args.k < length t.tasks) (sym c.self.view_is) c.requires.there)) is)

pub returns-clause-counted : goal.returns-clause-counted
returns-clause-counted c a b old new =
    let ts = c.self.inside.tasks.items in
    let before = c.self.inside.cells in
    let there : c.args.k < length ts = within ts c.args.k (subst (λ (t : Turns). c.args.k < length t.tasks) (sym c.self.view_is) c.requires.there) in
    let counted = counts_at ts c.args.k c.index_mut.result.now c.turn.new.self a b (cells_of before) (cells_of c.turn.new.cells) there (read_at ts c.args.k c.index_mut.result.now there c.index_mut.ensures.value) (subst (λ (t : Turns). slice_get t.tasks c.args.k ≡ Some a) (sym c.self.view_is) old) new c.turn.ensures.lands.counted in
    subst (λ (t : Turns). HasCounted a t.store b (cells_of c.turn.new.cells)) c.self.view_is counted

pub returns-clause-others : goal.returns-clause-others
returns-clause-others c j h =
    others_at c.self.inside.tasks.items c.args.k j c.turn.new.self h ∙ ap (λ (t : Turns). slice_get t.tasks j) c.self.view_is
