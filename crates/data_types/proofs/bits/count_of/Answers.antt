use Rattle.std.proofs.Common.{sym, ◌∙◌, ap, length, arith, get_or}
use Rattle.std.proofs.lemmas.Option.{slice_get-get_or}
use Rattle.data_types.specs.View as v
use Rattle.data_types.proofs.Looks.{constructors_at, constructors_past, map_length}
use Rattle.data_types.proofs.bits.count_of.Goals as goal

pub returns-then-ty-declared : goal.returns-then-ty-declared
returns-then-ty-declared c = let h = c.if-ty-declared.true in ap length (sym (constructors_past c.args.declared.now c.args.ty (omega (arith, h))))

pub returns : goal.returns
returns c =
    let h = c.if-ty-declared.false in
    let d = get_or c.args.declared.now c.args.ty c.index-declared-ty.result in
    c.len.ensures ∙ d.constructors.ok.0 ∙ sym (ap length (constructors_at c.args.declared.now c.args.ty d (slice_get-get_or c.args.declared.now c.args.ty c.index-declared-ty.result (omega (arith, h)))) ∙ map_length v.fields d.constructors.items)
