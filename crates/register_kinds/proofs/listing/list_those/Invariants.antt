use Rattle.std.proofs.Common.{◌≡◌, ◌⊎◌, ℕ, ◌<◌, drop}
use Rattle.std.specs.Prelude.{true}
use Rattle.kind_domain.specs.code_rules.Kinds.{at, has}
use Rattle.kind_domain.specs.Leading.{Grows, leads}
use Rattle.register_kinds.proofs.listing.list_those.Given as goal

abbrev pub invariant-loop-other : goal.invariant-loop-other
invariant-loop-other l = record {
  listed : (q : ℕ) → has l.others q ≡ true → leads l.register (at l.known q) ≡ true →
      q < l.initial.lents.room → (has (drop l.other-index l.others) q ≡ true) ⊎ (has l.lents.held q ≡ true);
  more : Grows l.initial.lents.held l.lents.held;
  room : l.lents.room ≡ l.initial.lents.room;
  reached : l.lents.reached ≡ l.initial.lents.reached;
}
