use Rattle.std.proofs.Common.{◌≡◌, ◌⊎◌, ℕ, drop}
use Rattle.std.specs.Prelude.{true, false, is_some, Some}
use Rattle.kind_domain.specs.code_rules.Kinds.{at, from_of, has, is_lent_of}
use Rattle.kind_domain.specs.code_rules.Taking.{is_heir, part}
use Rattle.kind_domain.specs.Leading.{Grows, kept_at, names}
use Rattle.register_kinds.specs.Sorted.{AreGood}
use Rattle.register_kinds.proofs.registers.Registers.list_ended.Given as goal

abbrev pub invariant-loop-part : goal.invariant-loop-part
invariant-loop-part l = record {
  ended : (p q : ℕ) → has l.parts p ≡ true → is_some (part l.parts l.types p) ≡ true →
      is_heir l.table l.initial.self.kinds l.register (part l.parts l.types) p ≡ false →
      names p (from_of (at l.initial.self.kinds q)) ≡ true →
      (has (drop l.part-index l.parts) p ≡ true) ⊎ (has l.self.lent q ≡ true);
  only : (q : ℕ) → has l.self.lent q ≡ true → (has l.initial.self.lent q ≡ true)
      ⊎ (is_lent_of l.register (at l.initial.self.kinds q) ≡ true → (h : ℕ) × (kept_at l.self.reached q ≡ Some h));
  good : AreGood l.table l.initial.self.kinds l.register (part l.parts l.types) l.initial.self.lent
      l.initial.self.reached → AreGood l.table l.initial.self.kinds l.register (part l.parts l.types) l.self.lent
      l.self.reached;
  more : Grows l.initial.self.lent l.self.lent;
  kinds : l.self.kinds ≡ l.initial.self.kinds;
  maps : l.self.maps ≡ l.initial.self.maps;
}
