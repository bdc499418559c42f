use Rattle.std.proofs.Common.{◌≡◌, ◌∙◌, sym, ap, ◌&&◌, ◌+◌, false, true, drop, arith}
use Rattle.fip_language.specs.Table.{constructors}
use Rattle.code_tables.specs.Rows.{is_sound_row, are_sound_rows}
use Rattle.code_tables.proofs.SoundRows.{next_row}
use Rattle.code_tables.proofs.tables.are_sound_rows.Goals as goal

pub returns-then-not-branch : goal.returns-then-not-branch
returns-then-not-branch c =
    let w = c.args.types.now in
    let n = c.loop-place.place + 1 in
    let row : is_sound_row w (constructors w n) ≡ false =
    ap (is_sound_row w) (sym c.constructors_of.ensures.same) ∙ (sym c.in_ok-is_sound_row.ensures ∙ c.if-not-branch.true) in
    sym (next_row w w c.loop-place.place n (omega arith) (omega arith) ∙ ap (λ b. b && are_sound_rows w (drop n w)) row)
    ∙ c.loop-place.invariant

pub loop-place-preserved : goal.loop-place-preserved
loop-place-preserved c =
    let w = c.args.types.now in
    let n = c.loop-place.place + 1 in
    let row : is_sound_row w (constructors w n) ≡ true =
    ap (is_sound_row w) (sym c.constructors_of.ensures.same) ∙ (sym c.in_ok-is_sound_row.ensures ∙ c.if-not-branch.false) in
    sym (next_row w w c.loop-place.place n (omega arith) (omega arith) ∙ ap (λ b. b && are_sound_rows w (drop n w)) row)
    ∙ c.loop-place.invariant
