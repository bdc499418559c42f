use Rattle.std.proofs.Common.{◌≡◌, take}
use Rattle.std.specs.Prelude.{true}
use Rattle.kind_domain.proofs.set.begin_with.Given as goal

abbrev pub invariant-loop-place : goal.invariant-loop-place
invariant-loop-place l = record {
  alike : l.same ≡ true → take l.place l.numbers ≡ take l.place l.others;
}
