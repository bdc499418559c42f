-- What the theorem on cells says of an instance: what it gives has, of each size, the cells of its owned arguments and
-- the credits of its header together. The cells of a borrowed argument stay with the caller.
-- For example `fip +2 fun push(x: int, xs: ints): ints { Cons(x, xs) }` is given a credit of size 2 and a list of three
-- cells of this size, and gives a list of four.
use Rattle.std.specs.Prelude.{◌≡◌, ℕ, ◌+◌, List, [], ◌∷◌, if◌then◌else◌}
use Rattle.tail_groups.specs.fip_language.declared.FunKind.TheVariants.{Fip}
use Rattle.tail_groups.specs.fip_language.Values.{Values, End, More, cells, cells_of_all}
use Rattle.tail_groups.specs.fip_language.Meaning.{Answer, Gives, Trap, Out, Deep, Stuck}
use Rattle.tail_groups.specs.fip_base.declared.plain.Param.{Param}
use Rattle.tail_groups.specs.fip_trees.Tree.{Instance, Program}
use Rattle.ownership_agreement.specs.ownership_calculus.Terms.{given}
use Rattle.ownership_agreement.specs.Agreement.{IsDerived}

-- the cells of size k of the arguments that aren't borrowed
abbrev pub owned_cells : ℕ → List Param → Values → ℕ
owned_cells k [] vs = 0
owned_cells k (p ∷ ps) End = 0
owned_cells k (p ∷ ps) (More v vs) = (if p.lent then 0 else cells k v) + owned_cells k ps vs

-- `given k ks` reports how often the size k is in a header
abbrev pub cells_given : ℕ → Instance → Values → ℕ
cells_given k f vs = owned_cells k f.params vs + given k f.credits

abbrev pub KeepsCells : Instance → Values → Answer → Type 0
KeepsCells f vs (Gives results left) = (k : ℕ) → cells_of_all k results ≡ cells_given k f vs
KeepsCells f vs (Trap kind line col) = Unit {0}
KeepsCells f vs Out = Unit {0}
KeepsCells f vs Deep = Unit {0}
KeepsCells f vs Stuck = Unit {0}

-- each fip instance of some is derived in the calculus of ownership
abbrev pub AreFipDerived : Program → List Instance → Type 0
AreFipDerived p [] = Unit {0}
AreFipDerived p (d ∷ ds) = (d.kind ≡ Fip → IsDerived p d) × AreFipDerived p ds
