-- It serves the proof that lowered code is sound: what lowering knows of the registers, and the kinds that are reported of
-- them. A register that holds nothing that is used any more is Gone.
-- Where register 0 holds Owned 2 None and register 1 nothing, the kinds Owned 2 (0 ∷ 1 ∷ []) and Gone are reported.
use Rattle.std.specs.Prelude.{ℕ, zero, suc, Bool, true, false, List, [], ◌∷◌, Option, Some, None}
use Rattle.std.specs.Prelude.{if◌then◌else◌, ◌==◌}
use Rattle.tree_semantics.specs.fip_language.Table.{Table}
use Rattle.code_rules.specs.cell_code.declared.kind.Kind.{Kind}
use Rattle.code_rules.specs.cell_code.declared.kind.Kind.TheVariants as K
use Rattle.code_rules.specs.Types.{all}
use Rattle.lowering_relation.specs.declared.held.Held.{Held}
use Rattle.lowering_relation.specs.declared.held.Held.TheVariants as H

-- what each register holds
abbrev pub Holding : Type 0
Holding = ℕ → Held

-- as the list of what is known says; a register past its end holds nothing
abbrev pub held_at : List Held → Holding
held_at [] r = H.Nothing
held_at (h ∷ hs) zero = h
held_at (h ∷ hs) (suc r) = held_at hs r

-- which constructors an owned tree may have, of which this is known
abbrev pub set_of : Table → ℕ → Option ℕ → List ℕ
set_of w t None = all w t
set_of w t (Some c) = c ∷ []

-- the narrowest kind of a register that holds this, without a from
abbrev pub kind_of : Table → Held → Kind
kind_of w H.Nothing = K.Gone
kind_of w (H.Scalar t) = K.Scalar t
kind_of w (H.Owned t b) = K.Owned t (set_of w t b)
kind_of w (H.Lent t root) = K.Lent t (all w t) root None
kind_of w (H.Credit n) = K.Credit n
kind_of w (H.Bare t c) = K.Owned t (c ∷ [])

abbrev pub kinds_of : Table → Holding → ℕ → Kind
kinds_of w g r = kind_of w (g r)

-- register d holds this from now on
abbrev pub setting : Holding → ℕ → Held → Holding
setting g d h q = if q == d then h else g q

abbrev pub is_tree : Held → Bool
is_tree H.Nothing = false
is_tree (H.Scalar t) = false
is_tree (H.Owned t b) = true
is_tree (H.Lent t root) = false
is_tree (H.Credit n) = false
is_tree (H.Bare t c) = false

-- It may be overwritten.
abbrev pub is_spare : Held → Bool
is_spare H.Nothing = true
is_spare (H.Scalar t) = true
is_spare (H.Owned t b) = false
is_spare (H.Lent t root) = true
is_spare (H.Credit n) = false
is_spare (H.Bare t c) = false
