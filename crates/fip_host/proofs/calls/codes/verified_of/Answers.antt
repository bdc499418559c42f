use Rattle.std.proofs.Common.{◌≡◌, ◌∙◌, sym, subst}
use Rattle.code_file.specs.CodeText.{IsFileOf}
use Rattle.cell_code.specs.Plain.{plain}
use Rattle.code_verify.specs.cell_code.declared.code.Code.{Code}
use Rattle.code_verify.specs.code_rules.Breaks.{IsLeast}
use Rattle.fip_host.specs.Verdicts.{IsVerdict}
use Rattle.fip_host.proofs.Judging.{verdict_unsound}
use Rattle.fip_host.proofs.Names.{file_table}
use Rattle.fip_host.proofs.calls.codes.verified_of.Goals as goal

pub returns-in-Err-Unsound-clause-verdict : goal.returns-in-Err-Unsound-clause-verdict
returns-in-Err-Unsound-clause-verdict c v e =
    let w = c.in-Err-Unsound in
    let t = c.reported.ensures in
    let same : c.reported.result ≡ v = cc in
    let least : IsLeast (plain c.in-Ok.code) w.function w.at w.rule = w.ensures.least w.function w.at w.rule (cc) in
    subst (IsVerdict c.args.bytes.now) same (verdict_unsound c.args.bytes.now c.reported.result c.in-Ok.code w.function w.at w.rule t.status t.function t.at (t.rule ∙ c.rule_number.ensures.is) c.in-Ok.ensures.text least)

pub returns-in-Ok-verify-clause-table : goal.returns-in-Ok-verify-clause-table
returns-in-Ok-verify-clause-table c =
    let v = c.in-Ok-verify.verified in
    file_table c.args.bytes.now v.code (subst (λ (d : Code). IsFileOf c.args.bytes.now (plain d)) (sym c.in-Ok-verify.ensures.same) c.in-Ok.ensures.text) c.code-code.ensures.tables
