use Rattle.std.proofs.Common.{◌∙◌, ◌-◌, Some, ap, refl, arith}
use Rattle.std.specs.Prelude.{slice_index}
use Rattle.std.specs.Int.{w64, cast_signed}
use Rattle.std.proofs.lemmas.Int.{to_z-of_z}
use Rattle.command_library.specs.MadeTree.{with_key}
use Rattle.command_library.proofs.Waiting.{ends_from}
use Rattle.command_library.proofs.keys.ends_of.Goals as goal

pub keys-preserved : goal.keys-preserved
keys-preserved c =
    let n = c.keys.left - 1 in
    let w = slice_index c.args.keys.now n in
    let some = c.if-left-eq0.false in
    let within = c.keys.invariant.within in
    record {
      within = omega (arith, within);
      ends = ap (λ e. Some e) (c.with_key.ensures.ends
          ∙ ap (λ k. with_key k c.keys.ends) (to_z-of_z w64 c.cast_signed.result (record { sfits = c.cast_signed.type_inv }) ∙ c.cast_signed.ensures)
          ∙ ap (λ e. with_key (cast_signed w64 w) e) c.keys.invariant.ends)
          ∙ ends_from c.args.keys.now n c.keys.left w (omega (arith, some)) (omega (arith, some, within)) refl;
    }
