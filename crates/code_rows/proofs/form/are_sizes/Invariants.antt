use Rattle.std.proofs.Common.{◌≡◌, drop}
use Rattle.code_rules.specs.Headers as h
use Rattle.code_rows.proofs.form.are_sizes.Given as goal

abbrev pub invariant-loop-size : goal.invariant-loop-size
invariant-loop-size l = h.are_sizes (drop l.size-index l.sizes) ≡ h.are_sizes l.sizes
