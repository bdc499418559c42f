use Rattle.std.proofs.Common.{subst, ◌≤◌, arith, sym, ap, ◌∙◌, Some}
use Rattle.std.specs.Prelude.{option_map}
use Rattle.cell_store.proofs.Parsed.{known, read_or}
use Rattle.cell_store.specs.Cells.{size_of}
use Rattle.cell_store.specs.Flat.{size}
use Rattle.cell_store.proofs.flat.Flat.cell_size.Goals as goal

pub index-requires : goal.index-requires
index-requires c =
    let k = known 0 c.self.inside.words.items c.args.p c.self.invariant.laid (rw (← c.self.view_is) at c.requires) in
    let within = k.found.within in
    let ok = c.self.inside.words.ok.0 in
    omega (arith, within, ok)

pub returns-clause-size : goal.returns-clause-size
returns-clause-size c =
    let k = known 0 c.self.inside.words.items c.args.p c.self.invariant.laid (rw (← c.self.view_is) at c.requires) in
    let word = read_or c.self.inside.words.items c.args.p c.index.result.now k.found.head c.index.result.now k.found.read c.index.ensures in
    rw (← c.self.view_is) (ap (option_map size_of) k.is ∙ ap (λ t. Some t) (sym k.found.long ∙ ap size (sym word)))

pub returns-clause-few : goal.returns-clause-few
returns-clause-few c =
    let k = known 0 c.self.inside.words.items c.args.p c.self.invariant.laid (rw (← c.self.view_is) at c.requires) in
    let few = k.found.few in
    let word = read_or c.self.inside.words.items c.args.p c.index.result.now k.found.head c.index.result.now k.found.read c.index.ensures in
    subst (λ w. size w ≤ 16) (sym word) few
