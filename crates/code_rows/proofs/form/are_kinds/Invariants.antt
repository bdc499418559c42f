use Rattle.std.proofs.Common.{◌≡◌, drop}
use Rattle.code_rules.specs.Headers as h
use Rattle.code_rows.proofs.form.are_kinds.Given as goal

abbrev pub invariant-loop-kind : goal.invariant-loop-kind
invariant-loop-kind l = record {
  number : l.register ≡ l.kind-index;
  rest : h.are_good_kinds l.table l.kinds l.register (drop l.kind-index l.kinds) ≡ h.are_good_kinds l.table l.kinds 0 l.kinds;
}
