use Rattle.std.proofs.Common.{◌≡◌, drop}
use Rattle.kind_domain.specs.code_rules.Fitting.{fit_all}
use Rattle.register_kinds.specs.Arrivals.{arrive}
use Rattle.register_kinds.proofs.fits.all_fit.Given as goal

abbrev pub invariant-loop-kind : goal.invariant-loop-kind
invariant-loop-kind l = record {
  step : l.place ≡ l.kind-index;
  rest : fit_all (drop l.kind-index l.kinds) (arrive l.tested l.place (drop l.place l.known))
      ≡ fit_all l.kinds (arrive l.tested 0 l.known);
}
