-- What is known on arrival fits a label map, register by register. Gone takes whatever is free. A scalar and a credit
-- take their equals. An owned tree takes one of the same type with no other constructors. A borrowed one takes such a
-- one with the same root, and the same from or, where the map has none, any.
--
-- `Owned 2 (0 ∷ 1 ∷ [])` takes `Owned 2 (1 ∷ [])`, and not the other way round. No constructor at all fits any set.
use Rattle.std.specs.Prelude.{ℕ, Bool, true, false, ◌&&◌, List, [], ◌∷◌, Option, Some, None, ◌==◌}
use Rattle.cell_code.specs.declared.kind.From.{From}
use Rattle.cell_code.specs.declared.kind.Kind.{Kind}
use Rattle.cell_code.specs.declared.kind.Kind.TheVariants.{Gone, Scalar, Owned, Lent, Credit}
use Rattle.code_rules.specs.Kinds.{has, is_free, is_scalar_of, is_credit_of, same_root}

-- All of the first list are in the second.
abbrev pub is_subset : List ℕ → List ℕ → Bool
is_subset [] b = true
is_subset (c ∷ cs) b = has b c && is_subset cs b

-- the from of a map, and the one on arrival
abbrev pub takes_from : Option From → Option From → Bool
takes_from None a = true
takes_from (Some m) None = false
takes_from (Some m) (Some a) = (m.register == a.register) && (m.field == a.field)

-- the kind of a map, and the one on arrival
abbrev pub fits : Kind → Kind → Bool
fits Gone a = is_free a
fits (Scalar t) a = is_scalar_of t a
fits (Credit k) a = is_credit_of k a
fits (Owned t s) Gone = false
fits (Owned t s) (Scalar u) = false
fits (Owned t s) (Owned u a) = (u == t) && is_subset a s
fits (Owned t s) (Lent u a o f) = false
fits (Owned t s) (Credit n) = false
fits (Lent t s root from) Gone = false
fits (Lent t s root from) (Scalar u) = false
fits (Lent t s root from) (Owned u a) = false
fits (Lent t s root from) (Lent u a o f) = (u == t) && (is_subset a s && (same_root o root && takes_from from f))
fits (Lent t s root from) (Credit n) = false

abbrev pub fit_all : List Kind → List Kind → Bool
fit_all [] [] = true
fit_all [] (k ∷ ks) = false
fit_all (m ∷ ms) [] = false
fit_all (m ∷ ms) (k ∷ ks) = fits m k && fit_all ms ks
