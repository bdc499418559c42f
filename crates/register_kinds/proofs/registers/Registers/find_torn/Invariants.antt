use Rattle.std.proofs.Common.{◌≡◌, ◌<◌, ℕ}
use Rattle.std.specs.Prelude.{true, false, Some, slice_get}
use Rattle.kind_domain.specs.code_rules.Kinds.{at, from_of, has}
use Rattle.kind_domain.specs.Leading.{is_lent_in}
use Rattle.register_kinds.specs.Climbs.{tree_of}
use Rattle.register_kinds.proofs.registers.Registers.find_torn.Given as goal

abbrev pub invariant-loop-register-2 : goal.invariant-loop-register-2
invariant-loop-register-2 l = record {
  listed : (q r : ℕ) → q < l.register → slice_get l.found r ≡ Some false →
      is_lent_in (Some r) (at l.self.kinds q) ≡ true → has l.self.lent q ≡ true;
  closed : (q r : ℕ) → q < l.register → slice_get l.found r ≡ Some false →
      tree_of l.self.kinds (from_of (at l.self.kinds q)) ≡ Some r → is_lent_in (Some r) (at l.self.kinds q) ≡ true;
}
