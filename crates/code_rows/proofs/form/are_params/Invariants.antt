use Rattle.std.proofs.Common.{◌≡◌, drop}
use Rattle.code_rules.specs.Headers as h
use Rattle.code_rows.proofs.form.are_params.Given as goal

abbrev pub invariant-loop-param : goal.invariant-loop-param
invariant-loop-param l = h.are_params l.table (drop l.param-index l.params) ≡ h.are_params l.table l.params
