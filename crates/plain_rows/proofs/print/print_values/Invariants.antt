use Rattle.std.proofs.Common.{◌≡◌, ◌++◌}
use Rattle.fip_base.specs.fip_language.Values.{Values}
use Rattle.fip_base.specs.fip_language.Table.{HaveTypes}
use Rattle.fip_base.specs.fip_language.PrintedText.{printed_lines}
use Rattle.plain_rows.specs.Rows.{AreRows, StandAll}
use Rattle.plain_rows.proofs.print.print_values.Given as goal

abbrev pub invariant-loop-ty : goal.invariant-loop-ty
invariant-loop-ty l = (vs : Values) → AreRows l.rows vs → HaveTypes l.types l.result_types vs → (us : Values) × HaveTypes l.types l.ty-iterator.a.rest.now us × StandAll l.rows.store l.ty-iterator.b.rest.now us × (l.text.items ++ printed_lines l.types l.ty-iterator.a.rest.now us ≡ printed_lines l.types l.result_types vs)
