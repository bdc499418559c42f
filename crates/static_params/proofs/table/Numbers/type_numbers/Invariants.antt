use Rattle.std.proofs.Common.{◌≡◌, ◌≤◌, ◌++◌, drop, length, map, nat_eq}
use Rattle.std.specs.List.{position}
use Rattle.fip_language.specs.declared.limits.TheConstants.{MOST_INSTANCES}
use Rattle.static_params.specs.FlatProgram.{from_one}
use Rattle.static_params.proofs.table.Numbers.type_numbers.Given as goal

abbrev pub invariant-loop-place : goal.invariant-loop-place
invariant-loop-place l = length l.self.types ≤ MOST_INSTANCES → l.numbers.items ++ map (λ i. from_one (position (nat_eq i) l.self.types)) (drop l.place-index l.places) ≡ map (λ i. from_one (position (nat_eq i) l.self.types)) l.places
