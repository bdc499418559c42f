use Rattle.std.proofs.Common.{◌≡◌, drop}
use Rattle.code_rules.specs.Headers.{are_types}
use Rattle.code_tables.proofs.tables.are_types.Given as goal

abbrev pub invariant-loop-number : goal.invariant-loop-number
invariant-loop-number l = are_types l.types (drop l.number-index l.numbers) ≡ are_types l.types l.numbers
