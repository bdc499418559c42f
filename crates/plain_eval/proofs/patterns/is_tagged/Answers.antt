use Rattle.std.proofs.Common.{◌≡◌, ◌==◌, ap, subst}
use Rattle.fip_trees.specs.fip_language.Values.{Node}
use Rattle.plain_rows.specs.Rows.{Stands}
use Rattle.plain_eval.proofs.Choosing.{row_fields}
use Rattle.plain_eval.proofs.patterns.is_tagged.Goals as goal

pub returns-in-Some-clause-node : goal.returns-in-Some-clause-node
returns-in-Some-clause-node c = λ k vs h.
    let s = c.args.store.now in
    let r = row_fields s c.in-Row.row k vs (subst (λ w. Stands s w (Node k vs)) c.in-Row.is h) in
    let same : c.in-Some.tag ≡ k = let z = c.in-Some.ensures.tag k r.0 r.1 in cc in
    ap (λ n. c.args.number == n) same

pub returns-in-None-clause-node : goal.returns-in-None-clause-node
returns-in-None-clause-node c = λ k vs h.
    let s = c.args.store.now in
    let r = row_fields s c.in-Row.row k vs (subst (λ w. Stands s w (Node k vs)) c.in-Row.is h) in
    let z = c.in-None.ensures.tag k r.0 r.1 in cc
