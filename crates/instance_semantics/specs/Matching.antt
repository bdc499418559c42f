-- When a value matches a pattern, and what the pattern's binders then are.
-- A binder matches every value, a literal the int that it is, a constructor the nodes of that constructor whose
-- children match its patterns. Cons(x, Cons(_, t)) matches Cons(1, Cons(2, Nil)), with x bound to 1, the binder of _ to
-- 2 and t to Nil; it doesn't match Cons(1, Nil). Types play no part: the value has one of the pattern's type.
use Rattle.std.specs.Prelude.{List, [], ◌∷◌, Option, Some, None, ◌==◌, if◌then◌else◌}
use Rattle.fip_trees.specs.fip_language.Values.{Value, Int, Node, Values, End, More}
use Rattle.fip_trees.specs.fip_language.Matching.{Binding, same_int, both}
use Rattle.fip_trees.specs.declared.program.Binder.{Binder}
use Rattle.fip_trees.specs.Tree.{Pattern, BinderPattern, LiteralPattern, ConstructorPattern, Patterns, NoPatterns}
use Rattle.fip_trees.specs.Tree.{MorePatterns}

abbrev pub bound_to : Binder → Value → Binding
bound_to b v = record { binder = b.number; value = v }

-- the bindings of a match, from left to right, or none where the value doesn't match
abbrev mutual
  pub matching : Pattern → Value → Option (List Binding)
  matching (BinderPattern b) v = Some (bound_to b v ∷ [])
  matching (LiteralPattern i p) (Int j) = if same_int i j then Some [] else None
  matching (LiteralPattern i p) (Node c vs) = None
  matching (ConstructorPattern t d k n p ps) (Int j) = None
  matching (ConstructorPattern t d k n p ps) (Node c vs) = if k == c then matching_all ps vs else None

  pub matching_all : Patterns → Values → Option (List Binding)
  matching_all NoPatterns End = Some []
  matching_all NoPatterns (More v vs) = None
  matching_all (MorePatterns p ps) End = None
  matching_all (MorePatterns p ps) (More v vs) = both (matching p v) (matching_all ps vs)
