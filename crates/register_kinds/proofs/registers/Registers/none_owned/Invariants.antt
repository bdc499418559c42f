use Rattle.std.proofs.Common.{◌≡◌, ◌⊎◌, ℕ, drop}
use Rattle.std.specs.Prelude.{true, false}
use Rattle.kind_domain.specs.code_rules.Kinds.{at, has, is_owned}
use Rattle.register_kinds.proofs.registers.Registers.none_owned.Given as goal

abbrev pub invariant-loop-register : goal.invariant-loop-register
invariant-loop-register l =
    (q : ℕ) → has l.registers q ≡ true →
    (has (drop l.register-index l.registers) q ≡ true) ⊎ (is_owned (at l.self.kinds q) ≡ false)
