use Rattle.std.proofs.Common.{◌≡◌, ◌⊎◌, ◌<◌, ◌≤◌, ℕ, drop}
use Rattle.std.specs.Prelude.{true, false, None}
use Rattle.kind_domain.specs.code_rules.Kinds.{has}
use Rattle.kind_domain.specs.code_rules.Taking.{is_heir, part}
use Rattle.register_kinds.specs.Takes.{AreReached, next_at, nones}
use Rattle.kind_domain.specs.Leading.{kept_at}
use Rattle.register_kinds.proofs.registers.Registers.reach_more.Given as goal

abbrev pub invariant-loop-place : goal.invariant-loop-place
invariant-loop-place l = record {
  reached : AreReached l.initial.self.kinds (is_heir l.table l.initial.self.kinds l.register (part l.parts l.types))
      l.initial.self.reached →
      AreReached l.initial.self.kinds (is_heir l.table l.initial.self.kinds l.register (part l.parts l.types))
      l.self.reached;
  fewer : nones l.self.reached ≤ nones l.initial.self.reached;
  more : l.more ≡ true → nones l.self.reached < nones l.initial.self.reached;
  same : l.more ≡ false → l.self.reached ≡ l.initial.self.reached;
  settled : l.more ≡ false → (q : ℕ) → has l.initial.self.lent q ≡ true → kept_at l.initial.self.reached q ≡ None →
      (has (drop l.place l.initial.self.lent) q ≡ true)
      ⊎ (next_at l.initial.self.kinds (is_heir l.table l.initial.self.kinds l.register (part l.parts l.types))
      l.initial.self.reached q ≡ None);
  kinds : l.self.kinds ≡ l.initial.self.kinds;
  maps : l.self.maps ≡ l.initial.self.maps;
  lent : l.self.lent ≡ l.initial.self.lent;
}
