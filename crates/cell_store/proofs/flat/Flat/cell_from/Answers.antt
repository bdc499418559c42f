use Rattle.std.proofs.Common.{arith, refl}
use Rattle.cell_store.proofs.Parsed.{length_parse}
use Rattle.cell_store.proofs.flat.Flat.cell_from.Goals as goal

pub returns-then-place-len-clause-some : goal.returns-then-place-len-clause-some
returns-then-place-len-clause-some c =
    rw (← c.self.view_is) (let l = length_parse 0 c.self.inside.words.items in let ok = c.self.inside.words.ok.0 in (refl, omega (arith, l, ok, c.if-place-len.true)))

pub returns-else-place-len-clause-none : goal.returns-else-place-len-clause-none
returns-else-place-len-clause-none c =
    rw (← c.self.view_is) (let l = length_parse 0 c.self.inside.words.items in let ok = c.self.inside.words.ok.0 in omega (arith, l, ok))
