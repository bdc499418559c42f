use Rattle.std.proofs.Common.{rules, ◌≡◌, ◌<◌, ◌∙◌, sym, subst, length, get_or}
use Rattle.derivation_walk.specs.Tables.{IsRising}
use Rattle.derivation_walk.proofs.UsesRows.{row_there}
use Rattle.derivation_walk.proofs.uses.is_within.Goals as goal

pub has_within-requires : goal.has_within-requires
has_within-requires c =
    let l : c.args.binder < length c.args.places.now = search rules in
    let v : c.in-Some.row.now ≡ get_or c.args.places.now c.args.binder c.in-Some.row.now = search rules in
    subst IsRising (sym (c.deref.ensures.value ∙ row_there c.args.places.now c.args.binder c.in-Some.row.now l v)) (c.requires c.args.binder)
