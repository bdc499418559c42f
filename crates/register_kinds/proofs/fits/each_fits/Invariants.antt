use Rattle.std.proofs.Common.{◌≡◌, ℕ, Some, drop}
use Rattle.std.specs.Prelude.{true}
use Rattle.register_kinds.specs.Arrivals.{each_fits, fits_at}
use Rattle.register_kinds.proofs.fits.each_fits.Given as goal

abbrev pub invariant-loop-register : goal.invariant-loop-register
invariant-loop-register l = record {
  sets : l.sets ≡ l.initial.sets;
  last : (r : ℕ) → l.last ≡ Some r → fits_at l.tested l.kinds l.known r ≡ true;
  rest : each_fits l.tested l.kinds l.known (drop l.register-index l.changed)
      ≡ each_fits l.tested l.kinds l.known l.changed;
}
