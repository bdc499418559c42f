use Rattle.std.proofs.Common.{◌≡◌}
use Rattle.cell_code.specs.Plain.{plain_function, plain}
use Rattle.code_rules.specs.Handing.{kept_if}
use Rattle.code_verify.specs.Finding.{Coming, IsFound, HasMachineIntsBelow}
use Rattle.code_verify.proofs.walk.walk_over.Given as goal

abbrev pub invariant-loop-at : goal.invariant-loop-at
invariant-loop-at l = record {
  maps : l.registers.maps ≡ (plain_function l.function).labels;
  coming : Coming (plain l.code) (plain_function l.function) l.at (kept_if l.known l.registers.kinds);
  found : IsFound (plain l.code) l.number (plain_function l.function) l.at l.found;
  literals : HasMachineIntsBelow (plain_function l.function) l.at;
}
