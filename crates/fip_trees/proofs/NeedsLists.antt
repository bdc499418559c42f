-- What is held of the instances, as lists.
use Rattle.std.proofs.Common.{◌≡◌, ℕ, zero, suc, ◌<◌, ◌≤◌, List, [], ◌∷◌, map, length, get_or, refl, ap, Vec, Global, arith}
use Rattle.fip_trees.specs.NeedsView.{needs_row, needs_of}
use Rattle.fip_trees.specs.declared.needs.Need.{Need}

pub held_some : (nss : List (Vec Need Global)) (i : ℕ) (v : Vec Need Global) → i < length nss → v ≡ get_or nss i v → v.items ≡ needs_of (map needs_row nss) i
held_some [] i v l h = absurd (omega arith)
held_some (n ∷ nss) zero v l h = ap (λ (w : Vec Need Global). w.items) h
held_some (n ∷ nss) (suc i) v l h = held_some nss i v (omega arith) h

pub held_none : (nss : List (Vec Need Global)) (i : ℕ) → length nss ≤ i → [] ≡ needs_of (map needs_row nss) i
held_none [] i h = refl
held_none (n ∷ nss) zero h = absurd (omega arith)
held_none (n ∷ nss) (suc i) h = held_none nss i (omega arith)
