use Rattle.std.proofs.Common.{sym, ap, length, arith}
use Rattle.std.proofs.lemmas.List.{length-take-le}
use Rattle.kind_domain.proofs.LentLists.{take_short, trues_few}
use Rattle.kind_domain.proofs.lents.Lents.as_slice.Goals as goal

pub slice_bounds-result-end : goal.slice_bounds-result-end
slice_bounds-result-end c =
    let few = trues_few c.self.inside.listed in
    let many = c.self.invariant.many in
    let long = c.self.invariant.long in
    let same = ap length c.deref.ensures.value in
    sym (length-take-le c.self.inside.top c.deref.result.now (omega arith))

pub returns-clause-few : goal.returns-clause-few
returns-clause-few c =
    let long = ap length c.deref.ensures.value in
    let room = ap (λ v. v.room) c.self.view_is in
    let short = take_short c.self.inside.top c.deref.result.now in
    omega arith
