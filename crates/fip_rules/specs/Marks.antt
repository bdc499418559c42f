-- Variables as the rules on ownership see them.
use Rattle.std.specs.Prelude.{ℕ, List}
use Rattle.fip_trees.specs.fip_language.declared.Place.{Place}
use Rattle.fip_trees.specs.fip_language.declared.rule.Rule.{Rule}
use Rattle.fip_trees.specs.declared.least.Violation.{Violation}
use Rattle.fip_trees.specs.Least.{violation}
use Rattle.fip_rules.specs.declared.scope.Ownership.{Ownership}

-- An occurrence of a variable, or its binder: what the variable is known by in its instance (how many binders are
-- before its own in the text, so that no two variables share it), its number in the tree, and where it is with
-- which name.
pub record Mark : Type 0 where
  pub id : ℕ
  pub number : ℕ
  pub place : Place
  pub name : List ℕ

-- a variable in scope: its binder, how it is bound, and how many bound expressions are around its binder
pub record Entry : Type 0 where
  pub mark : Mark
  pub ownership : Ownership
  pub level : ℕ

-- a rule that is broken at an occurrence, in an instance
pub record Breach : Type 0 where
  pub rule : Rule
  pub instance : ℕ
  pub mark : Mark

-- the violation that it is
abbrev pub reported : Breach → Violation
reported b = violation b.rule b.mark.place b.instance 0 b.mark.name
