use Rattle.std.proofs.Common.{◌≡◌, ◌⊎◌, ℕ}
use Rattle.std.specs.Prelude.{true}
use Rattle.kind_domain.specs.code_rules.Kinds.{at, from_of, has}
use Rattle.kind_domain.specs.Leading.{is_lent_in}
use Rattle.kind_domain.specs.Leading.{Grows, names}
use Rattle.register_kinds.proofs.held.list_alike.Given as goal

abbrev pub invariant-loop-other : goal.invariant-loop-other
invariant-loop-other l = record {
  only : (q : ℕ) → has l.lents.held q ≡ true → (has l.initial.lents.held q ≡ true)
      ⊎ ((names l.register (from_of (at l.known q)) ≡ true) × (is_lent_in l.root (at l.known q) ≡ true));
  more : Grows l.initial.lents.held l.lents.held;
  room : l.lents.room ≡ l.initial.lents.room;
}
