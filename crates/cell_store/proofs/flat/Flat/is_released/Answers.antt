use Rattle.std.proofs.Common.{arith, sym, ap, ◌∙◌, ◌%◌, Some, nat_eq}
use Rattle.cell_store.proofs.Parsed.{known, read_or}
use Rattle.cell_store.proofs.flat.Flat.is_released.Goals as goal

pub index-requires : goal.index-requires
index-requires c =
    let k = known 0 c.self.inside.words.items c.args.p c.self.invariant.laid (rw (← c.self.view_is) at c.requires) in
    let within = k.found.within in
    let ok = c.self.inside.words.ok.0 in
    omega (arith, within, ok)

pub returns : goal.returns
returns c =
    let k = known 0 c.self.inside.words.items c.args.p c.self.invariant.laid (rw (← c.self.view_is) at c.requires) in
    let word = read_or c.self.inside.words.items c.args.p c.index.result.now k.found.head c.index.result.now k.found.read c.index.ensures in
    rw (← c.self.view_is) (k.found.flag ∙ ap (λ w. Some (nat_eq (w % 2) 1)) (sym word))
