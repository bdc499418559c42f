use Rattle.std.proofs.Common.{◌≡◌, ℕ, ◌<◌}
use Rattle.std.specs.Prelude.{true}
use Rattle.kind_domain.specs.code_rules.Kinds.{has}
use Rattle.kind_domain.specs.Leading.{Grows}
use Rattle.register_kinds.proofs.listing.list_all.Given as goal

abbrev pub invariant-loop-register : goal.invariant-loop-register
invariant-loop-register l = record {
  listed : (q : ℕ) → q < l.register → q < l.initial.lents.room → has l.lents.held q ≡ true;
  more : Grows l.initial.lents.held l.lents.held;
  room : l.lents.room ≡ l.initial.lents.room;
  reached : l.lents.reached ≡ l.initial.lents.reached;
}
