-- Only what this crate's steps say: one change of the kinds of some registers, one after another; and what they do to
-- all kinds.
use Rattle.std.specs.Prelude.{ℕ, List, [], ◌∷◌, set, if◌then◌else◌, ◌==◌}
use Rattle.kind_domain.specs.cell_code.declared.kind.Kind.{Kind}
use Rattle.kind_domain.specs.cell_code.declared.kind.Kind.TheVariants.{Gone}
use Rattle.kind_domain.specs.code_rules.Kinds.{at, is_lent_of}
use Rattle.kind_domain.specs.code_rules.Changes.{forget}

abbrev pub each : (Kind → Kind) → List Kind → List ℕ → List Kind
each f ks [] = ks
each f ks (q ∷ qs) = each f (set ks q (f (at ks q))) qs

-- Register d is named no more.
abbrev pub forgets : ℕ → Kind → Kind
forgets d k = forget (λ q. q == d) k

-- What is lent of register r is Gone.
abbrev pub lose : ℕ → Kind → Kind
lose r k = if is_lent_of r k then Gone else k
