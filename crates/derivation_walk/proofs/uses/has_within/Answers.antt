use Rattle.std.proofs.Common.{◌≡◌, sym, inl, arith}
use Rattle.derivation_walk.proofs.Searching.{none_within}
use Rattle.derivation_walk.proofs.uses.has_within.Goals as goal

pub returns-in-Err : goal.returns-in-Err
returns-in-Err c =
    sym (none_within c.args.first c.args.end c.args.places.now
    (λ i l. inl (let r = (c.type_inv.places i).fits in let e = c.in-Err.ensures in omega (arith, r, e))))
