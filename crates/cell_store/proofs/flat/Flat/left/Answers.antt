use Rattle.std.proofs.Common.{arith, sym, ◌∙◌}
use Rattle.cell_store.proofs.Parsed.{length_parse, length_flags, found, released_there}
use Rattle.cell_store.proofs.flat.Flat.left.Goals as goal

pub returns-clause-few : goal.returns-clause-few
returns-clause-few c =
    rw (← c.self.view_is) (let l = length_parse 0 c.self.inside.words.items in let f = c.self.invariant.few in omega (arith, l, f))

pub returns-clause-flags : goal.returns-clause-flags
returns-clause-flags c =
    rw (← c.self.view_is) (length_flags 0 c.self.inside.words.items ∙ sym (length_parse 0 c.self.inside.words.items))

pub returns-clause-sized : goal.returns-clause-sized
returns-clause-sized c =
    rw (← c.self.view_is) (λ p d e.
    let f = found 0 c.self.inside.words.items p d c.self.invariant.laid e in
    let some = f.some in
    let few = f.few in
    let long = f.long in
    (omega (arith, some, long), omega (arith, few, long)))

pub returns-clause-of_cells : goal.returns-clause-of_cells
returns-clause-of_cells c = rw (← c.self.view_is) (released_there 0 c.self.inside.words.items)
