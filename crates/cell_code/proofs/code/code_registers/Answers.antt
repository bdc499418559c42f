use Rattle.std.proofs.Common.{◌∙◌, Some, refl, ap, sym}
use Rattle.std.proofs.lemmas.Option.{slice_get-get_or}
use Rattle.cell_code.proofs.code.code_registers.Goals as goal

pub returns : goal.returns
returns c =
    let g = c.index.result.now in
    record { is = (g, slice_get-get_or c.args.code.now.functions.items c.args.f g c.requires.there ∙ ap Some (sym c.index.ensures), refl) }
