use Rattle.std.proofs.Common.{◌≡◌, ℕ, drop}
use Rattle.std.specs.Prelude.{true}
use Rattle.code_rules.specs.Fitting.{is_subset}
use Rattle.code_rules.specs.Kinds.{has}
use Rattle.kind_domain.specs.Rising.{Rise}
use Rattle.kind_domain.proofs.missing.first_missing.Given as goal

abbrev pub invariant-loop-number : goal.invariant-loop-number
invariant-loop-number l = record {
  rest : Rise l.rest;
  own : Rise (drop l.number-index l.own);
  same : (x : ℕ) → has (drop l.number-index l.own) x ≡ true → has l.rest x ≡ has l.others x;
  subset : is_subset (drop l.number-index l.own) l.rest ≡ is_subset l.own l.others;
}
