-- What the walk's proofs use everywhere.
use Rattle.std.proofs.Common.{◌≡◌, List, [], ◌∷◌, ◌++◌, refl, ap, ◌∙◌, map}
use Rattle.std.specs.Prelude.{Option}
use Rattle.fip_trees.specs.declared.least.Violation.{Violation}
use Rattle.fip_trees.specs.Least.{after}
use Rattle.fip_trees.proofs.Leasts.{after-append}
use Rattle.fip_rules.specs.Marks.{Breach, reported}

pub reported-append : (xs ys : List Breach) → map reported (xs ++ ys) ≡ map reported xs ++ map reported ys
reported-append [] ys = refl
reported-append (x ∷ xs) ys = ap (λ q. reported x ∷ q) (reported-append xs ys)

pub after_reported : (o : Option Violation) (xs ys : List Breach) → after o (map reported (xs ++ ys)) ≡ after (after o (map reported xs)) (map reported ys)
after_reported o xs ys = ap (after o) (reported-append xs ys) ∙ after-append o (map reported xs) (map reported ys)

pub ruleset noting = (after_reported)
