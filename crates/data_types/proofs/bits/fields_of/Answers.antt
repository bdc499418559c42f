use Rattle.std.proofs.Common.{sym, ◌∙◌, ap, length, arith, slice_get, Some, get_or}
use Rattle.std.proofs.lemmas.Option.{slice_get-get_or}
use Rattle.data_types.specs.View as v
use Rattle.data_types.proofs.Looks.{constructors_at, constructors_past, map_at, map_past}
use Rattle.data_types.proofs.bits.fields_of.Goals as goal

pub returns-then-ty-declared : goal.returns-then-ty-declared
returns-then-ty-declared c = let h = c.if-ty-declared.true in ap (λ xs. slice_get xs c.args.number) (constructors_past c.args.declared.now c.args.ty (omega (arith, h)))

pub returns-then-number-constructors : goal.returns-then-number-constructors
returns-then-number-constructors c =
    let g = c.if-ty-declared.false in
    let h = c.if-number-constructors.true in
    let d = get_or c.args.declared.now c.args.ty c.index-declared-ty.result in
    let e = ap length c.as_slice-constructors.ensures.value in
    ap (λ xs. slice_get xs c.args.number) (constructors_at c.args.declared.now c.args.ty d (slice_get-get_or c.args.declared.now c.args.ty c.index-declared-ty.result (omega (arith, g)))) ∙ map_past v.fields d.constructors.items c.args.number (omega (arith, h, e))

pub returns : goal.returns
returns c =
    let g = c.if-ty-declared.false in
    let h = c.if-number-constructors.false in
    let d = get_or c.args.declared.now c.args.ty c.index-declared-ty.result in
    let e = ap length c.as_slice-constructors.ensures.value in
    let k = get_or c.as_slice-constructors.result.now c.args.number c.index-constructors-number.result in
    ap (λ xs. slice_get xs c.args.number) (constructors_at c.args.declared.now c.args.ty d (slice_get-get_or c.args.declared.now c.args.ty c.index-declared-ty.result (omega (arith, g))))
    ∙ map_at v.fields d.constructors.items c.args.number k (sym (ap (λ xs. slice_get xs c.args.number) c.as_slice-constructors.ensures.value) ∙ slice_get-get_or c.as_slice-constructors.result.now c.args.number c.index-constructors-number.result (omega (arith, h)))
    ∙ ap (λ ts. Some (v.tys ts)) (sym c.as_slice.ensures.value)
