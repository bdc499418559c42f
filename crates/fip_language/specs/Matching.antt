-- When a value matches a pattern, and what the pattern's binders then are.
-- A binder matches every value, a literal the int that it is, a constructor the nodes of that constructor whose
-- children match its patterns. Cons(x, Cons(_, t)) matches Cons(1, Cons(2, Nil)), with x bound to 1, the binder of _ to
-- 2 and t to Nil; it doesn't match Cons(1, Nil).
use Rattle.std.specs.Prelude.{ℕ, ℤ, pos, negsuc, Bool, false, List, [], ◌∷◌, ◌++◌, Option, Some, None, ◌==◌}
use Rattle.std.specs.Prelude.{if◌then◌else◌}
use Rattle.fip_language.specs.Values.{Value, Int, Node, Values, End, More}
use Rattle.fip_language.specs.Core.{Binder, Pattern, BinderPattern, LiteralPattern, ConstructorPattern, Patterns}
use Rattle.fip_language.specs.Core.{NoPatterns, MorePatterns, Core}
use Rattle.fip_language.specs.Declarations.{Declared, constructor_of}

-- a binder's number and the value that it stands for
pub record Binding : Type 0 where
  pub binder : ℕ
  pub value : Value

abbrev pub bound_to : Binder → Value → Binding
bound_to b v = record { binder = b.number; value = v }

abbrev pub same_int : ℤ → ℤ → Bool
same_int (pos m) (pos n) = m == n
same_int (negsuc m) (negsuc n) = m == n
same_int (pos m) (negsuc n) = false
same_int (negsuc m) (pos n) = false

-- whether a name is that of constructor c
abbrev pub is_constructor : Option Declared → ℕ → Bool
is_constructor None c = false
is_constructor (Some k) c = k.number == c

abbrev pub both : Option (List Binding) → Option (List Binding) → Option (List Binding)
both None other = None
both (Some bs) None = None
both (Some bs) (Some more) = Some (bs ++ more)

-- the bindings of a match, from left to right, or none where the value doesn't match
abbrev mutual
  pub matching : Core → Pattern → Value → Option (List Binding)
  matching core (BinderPattern b) v = Some (bound_to b v ∷ [])
  matching core (LiteralPattern i p) (Int j) = if same_int i j then Some [] else None
  matching core (LiteralPattern i p) (Node c vs) = None
  matching core (ConstructorPattern name p ps) (Int j) = None
  matching core (ConstructorPattern name p ps) (Node c vs) =
      if is_constructor (constructor_of core name) c then matching_all core ps vs else None

  pub matching_all : Core → Patterns → Values → Option (List Binding)
  matching_all core NoPatterns End = Some []
  matching_all core NoPatterns (More v vs) = None
  matching_all core (MorePatterns p ps) End = None
  matching_all core (MorePatterns p ps) (More v vs) = both (matching core p v) (matching_all core ps vs)
