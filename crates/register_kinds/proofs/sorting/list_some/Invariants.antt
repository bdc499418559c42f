use Rattle.std.proofs.Common.{◌≡◌, ◌⊎◌, ◌<◌, ℕ, drop}
use Rattle.std.specs.Prelude.{true, false, Option, Some}
use Rattle.kind_domain.specs.code_rules.Kinds.{at, has}
use Rattle.kind_domain.specs.code_rules.Taking.{part}
use Rattle.kind_domain.specs.Leading.{Grows, kept_at}
use Rattle.register_kinds.specs.Sorted.{listing}
use Rattle.register_kinds.proofs.sorting.list_some.Given as goal

abbrev pub invariant-loop-other : goal.invariant-loop-other
invariant-loop-other l = record {
  listed : (q : ℕ) (o : Option ℕ) → has l.others q ≡ true →
      listing l.table l.register (part l.parts l.types) l.wanted q (at l.known q) ≡ Some o → q < l.initial.lents.room →
      (has (drop l.other-index l.others) q ≡ true) ⊎ (has l.lents.held q ≡ true);
  only : (q : ℕ) → has l.lents.held q ≡ true →
      ((has l.initial.lents.held q ≡ true) × (kept_at l.lents.reached q ≡ kept_at l.initial.lents.reached q))
      ⊎ ((has l.initial.lents.held q ≡ false)
      × (listing l.table l.register (part l.parts l.types) l.wanted q (at l.known q)
      ≡ Some (kept_at l.lents.reached q)));
  more : Grows l.initial.lents.held l.lents.held;
  room : l.lents.room ≡ l.initial.lents.room;
}
