use Rattle.std.proofs.Common.{◌≡◌, length, map}
use Rattle.cell_code.specs.Plain.{plain_label}
use Rattle.kind_domain.specs.Busy.{AreAsked}
use Rattle.kind_domain.proofs.asked.asked_by.Given as goal

abbrev pub invariant-loop-label : goal.invariant-loop-label
invariant-loop-label l = record {
  long : length l.asked.items ≡ l.label-index;
  asks : AreAsked (map plain_label l.labels) l.asked.items;
}
