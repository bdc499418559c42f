use Rattle.std.proofs.Common.{◌≡◌, ◌-◌, ℕ, length, subst, arith}
use Rattle.fip_language.specs.Prefix.{IsPlace}
use Rattle.code_file.specs.CodeText.{IsFileOf}
use Rattle.code_file.proofs.Whole.{read_place}
use Rattle.code_file.proofs.Steps.{file_text, file_only, file_stops, file_left}
use Rattle.code_file.proofs.read.read_code.Goals as goal

pub returns-in-Ok-clause-text : goal.returns-in-Ok-clause-text
returns-in-Ok-clause-text c = file_text c.args.bytes.now c.in-Ok.code c.in-Ok.ensures

pub returns-in-Ok-clause-only : goal.returns-in-Ok-clause-only
returns-in-Ok-clause-only c = λ v d h. file_only c.args.bytes.now c.in-Ok.code v d c.in-Ok.ensures h

pub returns-in-Err-Left-clause-only : goal.returns-in-Err-Left-clause-only
returns-in-Err-Left-clause-only c = λ v d h.
    file_stops c.args.bytes.now c.in-Err-Left.left v d (file_left c.args.bytes.now c.in-Err-Left.left c.in-Err-Left.field-0 c.in-Err-Left.field-0-is c.in-Err-Left.ensures) h

pub returns-in-Err-Left-clause-place : goal.returns-in-Err-Left-clause-place
returns-in-Err-Left-clause-place c = λ at h.
    let s = c.saturating_sub.ensures in
    let e : length c.args.bytes.now - c.in-Err-Left.left ≡ at = let k : c.saturating_sub.result ≡ at = cc in omega (arith, s, k) in
    subst (IsPlace IsFileOf c.args.bytes.now) e
    (read_place c.args.bytes.now c.in-Err-Left.left (file_left c.args.bytes.now c.in-Err-Left.left c.in-Err-Left.field-0 c.in-Err-Left.field-0-is c.in-Err-Left.ensures))
