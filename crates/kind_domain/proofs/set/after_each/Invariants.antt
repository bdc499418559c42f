use Rattle.std.proofs.Common.{◌≡◌, ◌≤◌, ◌-◌, drop}
use Rattle.code_rules.specs.Fitting.{is_subset}
use Rattle.kind_domain.specs.Rising.{Rise, less}
use Rattle.kind_domain.proofs.set.after_each.Given as goal

abbrev pub invariant-loop-place : goal.invariant-loop-place
invariant-loop-place l = record {
  within : l.place ≤ l.end;
  own : Rise (drop l.place l.own);
  rest : Rise l.rest;
  same : is_subset (less l.lacked (drop l.place l.own)) l.rest
      ≡ is_subset (less l.lacked (drop l.start l.own)) l.others;
}

abbrev pub decreases-loop-place : goal.decreases-loop-place
decreases-loop-place l = l.end - l.place
