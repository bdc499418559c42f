-- Only what this crate keeps: which kinds its own form of them stands for. It takes no memory for sets.
use Rattle.std.specs.Prelude.{ℕ, List, [], ◌∷◌, map}
use Rattle.std.specs.declared.vec.Vec.{Vec}
use Rattle.std.specs.declared.alloc.Global.{Global}
use Rattle.cell_code.specs.declared.kind.Kind.{Kind}
use Rattle.cell_code.specs.declared.kind.Kind.TheVariants as K
use Rattle.code_rules.specs.Types.{numbers}
use Rattle.kind_domain.specs.declared.set.Set.{Set}
use Rattle.kind_domain.specs.declared.set.Set.TheVariants.{All, One, Listed}
use Rattle.kind_domain.specs.declared.known.Known.{Known}
use Rattle.kind_domain.specs.declared.known.Known.TheVariants.{Gone, Scalar, Owned, Lent, Credit}

-- the constructors of a set
abbrev pub constructors_in : Set → List ℕ
constructors_in (All n) = numbers 0 n
constructors_in (One c) = c ∷ []
constructors_in (Listed s) = s.now

abbrev pub kind_of : Known → Kind
kind_of Gone = K.Gone
kind_of (Scalar t) = K.Scalar t
kind_of (Owned t s) = K.Owned t (constructors_in s)
kind_of (Lent t s root from) = K.Lent t (constructors_in s) root from
kind_of (Credit k) = K.Credit k

abbrev pub kinds_of : List Known → List Kind
kinds_of = map kind_of

-- the numbers of a vector
abbrev pub row_of : Vec ℕ Global → List ℕ
row_of v = v.items
