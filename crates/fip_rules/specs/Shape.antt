-- What of a body matters to the rules on ownership: where its variables are used up, are borrowed, are bound and go out
-- of scope; which parts come after each other, which are alternatives, which is the bound expression of a let; and
-- where a rule is broken by itself.
--
-- For example let y = f(x); y is Then (Bound (Use x)) (Scope Owned y (Use y)), where f owns its argument, and
-- Then (Bound (Lend x)) (Scope Owned y (Use y)), where it borrows it.
use Rattle.fip_trees.specs.fip_language.declared.rule.Rule.{Rule}
use Rattle.fip_rules.specs.declared.scope.Ownership.{Ownership}
use Rattle.fip_rules.specs.Marks.{Mark}

pub data Shape : Type 0 where
  Skip : Shape
  Use : (m : Mark) → Shape
  Lend : (m : Mark) → Shape
  Fault : (rule : Rule) (m : Mark) → Shape
  Then : (a b : Shape) → Shape
  Either : (a b : Shape) → Shape
  Bound : (a : Shape) → Shape
  Scope : (k : Ownership) (m : Mark) (a : Shape) → Shape
