use Rattle.std.proofs.Common.{subst, MatchResult, ap, ◌<◌, ◌≤◌, ◌≡◌, ℕ, length, get_or}
use Rattle.std.proofs.lemmas.List.Sorted.{searched}
use Rattle.derivation_check.proofs.Windows.{rising_order, not_found}
use Rattle.derivation_check.proofs.parts.place_of.Goals as goal

pub returns-in-Err-clause-none : goal.returns-in-Err-clause-none
returns-in-Err-clause-none c r =
    let s = searched c.args.list.now c.args.number c.binary_search.result c.binary_search.ensures.position (rising_order c.args.list.now r) in
    let t = subst (λ o. MatchResult o (λ i. (i < length c.args.list.now) × (get_or c.args.list.now i 0 ≡ c.args.number)) (λ i. (i ≤ length c.args.list.now) × ((k : ℕ) → k < i → get_or c.args.list.now k 0 < c.args.number) × ((k : ℕ) → i ≤ k → k < length c.args.list.now → c.args.number < get_or c.args.list.now k 0))) c.in-Err.is s in
    not_found c.args.list.now c.args.number c.in-Err.field-0 t.1 t.2
