use Rattle.std.proofs.Common.{arith, sym, ap, ◌∙◌, ◌/◌, Some}
use Rattle.std.specs.Prelude.{option_map}
use Rattle.cell_store.proofs.Parsed.{known, read_or}
use Rattle.fip_language.specs.Store.{Cell}
use Rattle.cell_store.proofs.flat.Flat.cell_tag.Goals as goal

pub index-requires : goal.index-requires
index-requires c =
    let k = known 0 c.self.inside.words.items c.args.p c.self.invariant.laid (rw (← c.self.view_is) at c.requires) in
    let within = k.found.within in
    let ok = c.self.inside.words.ok.0 in
    omega (arith, within, ok)

pub overflow_cast-result : goal.overflow_cast-result
overflow_cast-result c =
    let k = known 0 c.self.inside.words.items c.args.p c.self.invariant.laid (rw (← c.self.view_is) at c.requires) in
    let small = k.found.small in
    let word = read_or c.self.inside.words.items c.args.p c.index.result.now k.found.head c.index.result.now k.found.read c.index.ensures in
    omega (arith, small, word)

pub returns : goal.returns
returns c =
    let k = known 0 c.self.inside.words.items c.args.p c.self.invariant.laid (rw (← c.self.view_is) at c.requires) in
    let word = read_or c.self.inside.words.items c.args.p c.index.result.now k.found.head c.index.result.now k.found.read c.index.ensures in
    rw (← c.self.view_is) (ap (option_map (λ (c : Cell). c.tag)) k.is ∙ ap (λ t. Some t) (sym k.found.tag ∙ ap (λ w. w / 64) (sym word)))
