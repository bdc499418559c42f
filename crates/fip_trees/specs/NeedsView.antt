-- What is held of the expressions of each instance, as lists.
use Rattle.std.specs.Prelude.{ℕ, zero, suc, List, [], ◌∷◌}
use Rattle.std.specs.declared.vec.Vec.{Vec}
use Rattle.std.specs.declared.alloc.Global.{Global}
use Rattle.fip_trees.specs.declared.needs.Need.{Need}

abbrev pub needs_row : Vec Need Global → List Need
needs_row v = v.items

-- those of an instance; nothing where there are fewer instances
abbrev pub needs_of : List (List Need) → ℕ → List Need
needs_of [] i = []
needs_of (ns ∷ nss) zero = ns
needs_of (ns ∷ nss) (suc i) = needs_of nss i
