use Rattle.std.proofs.Common.{◌≡◌, ◌⊎◌, ℕ, drop}
use Rattle.std.specs.Prelude.{true, false}
use Rattle.kind_domain.specs.code_rules.Kinds.{at, has}
use Rattle.kind_domain.specs.Leading.{leads}
use Rattle.register_kinds.proofs.listing.none_leads.Given as goal

abbrev pub invariant-loop-other : goal.invariant-loop-other
invariant-loop-other l =
    (q : ℕ) → has l.others q ≡ true →
    (has (drop l.other-index l.others) q ≡ true) ⊎ (leads l.register (at l.known q) ≡ false)
