use Rattle.std.proofs.Common.{rules}
use Rattle.std.proofs.lemmas.List.Sorted.{IsNonDecreasingBy-from_sort_by_key}
use Rattle.match_cover.specs.FoundView.{found_offset}
use Rattle.match_cover.proofs.numbers.sort.Goals as goal

pub returns-clause-sorted : goal.returns-clause-sorted
returns-clause-sorted c = IsNonDecreasingBy-from_sort_by_key found_offset c.sort_by_key.new.self.items c.in_ok-sort_by_key.ensures.sorted (λ a r f h. (search rules, search rules))
