use Rattle.std.proofs.Common.{◌≡◌, ◌<◌, ℕ, length}
use Rattle.kind_domain.specs.code_rules.Kinds.{at}
use Rattle.kind_domain.specs.code_rules.Taking.{part}
use Rattle.register_kinds.specs.Takes.{filled_by}
use Rattle.register_kinds.proofs.registers.Registers.fill.Given as goal

abbrev pub invariant-loop-place : goal.invariant-loop-place
invariant-loop-place l = record {
  kinds : (q : ℕ) → q < length l.initial.self.kinds → at l.self.kinds q
      ≡ filled_by l.table l.register l.place (at l.initial.self.kinds q) (part l.parts l.types q);
  long : length l.self.kinds ≡ length l.initial.self.kinds;
  maps : l.self.maps ≡ l.initial.self.maps;
}
