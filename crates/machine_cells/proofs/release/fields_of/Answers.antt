use Rattle.std.proofs.Common.{◌∙◌, length, ap, arith}
use Rattle.std.proofs.lemmas.Option.{slice_get_within}
use Rattle.fip_language.specs.Table.{constructors}
use Rattle.machine_cells.proofs.Pendings.{shape_fields, known_type}
use Rattle.machine_cells.proofs.release.fields_of.Goals.{else-ty-len-via-then-ty-len+else-constructor-constructors_of, else-ty-len-via-else-ty-len}
use Rattle.machine_cells.proofs.release.fields_of.Goals as goal

pub returns-then-constructor-constructors_of : goal.returns-then-constructor-constructors_of
returns-then-constructor-constructors_of c = record { fields = λ k is. c.fields_of.ensures.fields ∙ shape_fields (constructors c.args.types.now c.args.ty) c.args.constructor k is }

pub returns-else-ty-len : goal.returns-else-ty-len
returns-else-ty-len c = record {
  fields = λ k is.
      let known = known_type c.args.types.now c.args.ty c.args.constructor k is in
      let within = slice_get_within (constructors c.args.types.now c.args.ty) c.args.constructor k is in
      let count = c.len.ensures.count in
      elim c.else-ty-len.branch [
        | else-ty-len-via-then-ty-len+else-constructor-constructors_of w ↦ (let past = w.if-constructor-constructors_of.false in let same = ap length w.constructors_of.ensures.same in absurd (omega (arith, past, same, within)))
        | else-ty-len-via-else-ty-len w ↦ (let past = w.if-ty-len.false in absurd (omega (arith, past, known, count)))
      ];
}
