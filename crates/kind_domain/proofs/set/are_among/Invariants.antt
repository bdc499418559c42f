use Rattle.std.proofs.Common.{◌≡◌, ◌-◌, drop, length}
use Rattle.code_rules.specs.Fitting.{is_subset}
use Rattle.kind_domain.specs.Rising.{Rise, less}
use Rattle.kind_domain.proofs.set.are_among.Given as goal

abbrev pub invariant-loop-start : goal.invariant-loop-start
invariant-loop-start l = record {
  rest : Rise l.rest;
  same : is_subset (less l.lacked (drop l.start l.own)) l.rest ≡ is_subset (less l.lacked l.own) l.others;
}

abbrev pub decreases-loop-start : goal.decreases-loop-start
decreases-loop-start l = length l.own - l.start
