-- What the calculus derives of the examples, by the rules without environments.
use Rattle.std.proofs.Common.{◌≡◌, ◌+◌, ◌≤◌, Bool, true, false, ◌||◌, if◌then◌else◌, [], ◌∷◌, refl, arith}
use Rattle.std.specs.Prelude.{◌==◌}
use Rattle.source_report.specs.ownership_calculus.Functions.{Derived}
use Rattle.source_report.proofs.ownership_calculus.Whole.{is_derived, is_accepted}
use Rattle.worked_examples.specs.Terms.{given_back, dropped, twice}

used : (b : Bool) → (b || false) ≡ true → 1 ≤ (if b then 1 else 0) + 0
used true h = omega arith
used false h = absurd cc

pub given_is_derived : Derived true [] (0 ∷ []) [] given_back
given_is_derived =
    is_derived true [] (0 ∷ []) [] given_back ((tt, tt), (λ x h. used (0 == x) h), (λ k. refl), (λ e. tt))

pub dropped_is_not : Derived true [] (0 ∷ []) [] dropped → ⊥
dropped_is_not h = let some : 1 ≤ 0 = (is_accepted true [] (0 ∷ []) [] dropped h).1 0 refl in omega arith

pub dropped_in_fbip : Derived false [] (0 ∷ []) [] dropped
dropped_in_fbip =
    is_derived false [] (0 ∷ []) [] dropped ((tt, tt), tt, (λ k. omega arith), (λ e. absurd cc))

pub twice_is_not : (fip : Bool) → Derived fip [] (0 ∷ []) [] twice → ⊥
twice_is_not fip h = (((is_accepted fip [] (0 ∷ []) [] twice h).0).1).0

pub ruleset computed = (given_is_derived, dropped_is_not, dropped_in_fbip, twice_is_not)
