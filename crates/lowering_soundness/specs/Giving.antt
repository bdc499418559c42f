-- It serves the proof that lowered code is sound: what lowering has to know of registers that are given as fields or
-- results, or handed over to a call.
-- Where register 0 holds Owned 2 None, it may be given once as a value of type 2, and not twice.
use Rattle.std.specs.Prelude.{◌≡◌, ℕ, ◌+◌, Bool, true, false, ◌&&◌, ◌||◌, not, is_some, List, [], ◌∷◌, Some, None}
use Rattle.std.specs.Prelude.{◌==◌, if◌then◌else◌, length, drop}
use Rattle.separation.specs.fip_language.Table.{Table}
use Rattle.separation.specs.fip_base.declared.plain.Param.{Param}
use Rattle.separation.specs.cell_code.Plain.{PlainCode}
use Rattle.separation.specs.code_rules.Codes.{params, credits}
use Rattle.separation.specs.code_rules.Types.{is_scalar_type}
use Rattle.separation.specs.code_rules.Kinds.{has}
use Rattle.lowering_relation.specs.declared.held.Held.{Held}
use Rattle.lowering_relation.specs.declared.held.Held.TheVariants as H
use Rattle.lowering_relation.specs.Known.{without}
use Rattle.lowering_relation.specs.Describing.{Holding, setting, is_spare}
use Rattle.lowering_soundness.specs.Covering.{using}

-- a scalar of type u
abbrev pub is_scalar_of : ℕ → Held → Bool
is_scalar_of u H.Nothing = false
is_scalar_of u (H.Scalar t) = t == u
is_scalar_of u (H.Owned t b) = false
is_scalar_of u (H.Lent t root) = false
is_scalar_of u (H.Credit n) = false
is_scalar_of u (H.Bare t c) = false

-- an owned tree of type u
abbrev pub is_owned_of : ℕ → Held → Bool
is_owned_of u H.Nothing = false
is_owned_of u (H.Scalar t) = false
is_owned_of u (H.Owned t b) = t == u
is_owned_of u (H.Lent t root) = false
is_owned_of u (H.Credit n) = false
is_owned_of u (H.Bare t c) = false

abbrev pub is_credit_of : ℕ → Held → Bool
is_credit_of u H.Nothing = false
is_credit_of u (H.Scalar t) = false
is_credit_of u (H.Owned t b) = false
is_credit_of u (H.Lent t root) = false
is_credit_of u (H.Credit n) = n == u
is_credit_of u (H.Bare t c) = false

-- Registers may be given as values of these types, one after another.
abbrev pub can_give : Holding → List ℕ → List ℕ → Bool
can_give g [] [] = true
can_give g [] (t ∷ ts) = false
can_give g (r ∷ rs) [] = false
can_give g (r ∷ rs) (t ∷ ts) =
    (is_scalar_of t (g r) || is_owned_of t (g r)) && can_give (using g r) rs ts

-- Register r may be handed over for a parameter; whether it may be borrowed is checked after all of these.
abbrev pub can_pass_one : Table → Held → Param → Bool
can_pass_one w h p =
    if is_scalar_type w p.ty then is_scalar_of p.ty h else (if p.lent then true else is_owned_of p.ty h)

-- what isn't borrowed is used up
abbrev pub passing : Holding → Param → ℕ → Holding
passing g p r = if p.lent then g else using g r

abbrev pub can_pass : Table → Holding → List Param → List ℕ → Bool
can_pass w g [] rs = true
can_pass w g (p ∷ ps) [] = false
can_pass w g (p ∷ ps) (r ∷ rs) = can_pass_one w (g r) p && can_pass w (passing g p r) ps rs

abbrev pub passing_all : Holding → List Param → List ℕ → Holding
passing_all g [] rs = g
passing_all g (p ∷ ps) [] = g
passing_all g (p ∷ ps) (r ∷ rs) = passing_all (passing g p r) ps rs

-- Registers may be handed over as credits of these sizes.
abbrev pub can_hand : Holding → List ℕ → List ℕ → Bool
can_hand g [] rs = true
can_hand g (n ∷ ns) [] = false
can_hand g (n ∷ ns) (r ∷ rs) = is_credit_of n (g r) && can_hand (setting g r H.Nothing) ns rs

abbrev pub handing_all : Holding → List ℕ → List ℕ → Holding
handing_all g [] rs = g
handing_all g (n ∷ ns) [] = g
handing_all g (n ∷ ns) (r ∷ rs) = handing_all (setting g r H.Nothing) ns rs

-- It may be borrowed as a tree of type u; where the frame goes, only what lies in a frame below.
abbrev pub can_lend_one : Bool → ℕ → Held → Bool
can_lend_one tail u H.Nothing = false
can_lend_one tail u (H.Scalar t) = false
can_lend_one tail u (H.Owned t b) = (t == u) && not tail
can_lend_one tail u (H.Lent t root) = (t == u) && not (tail && is_some root)
can_lend_one tail u (H.Credit n) = false
can_lend_one tail u (H.Bare t c) = (t == u) && not tail

abbrev pub can_lend : Table → Bool → Holding → List Param → List ℕ → Bool
can_lend w tail g [] rs = true
can_lend w tail g (p ∷ ps) [] = true
can_lend w tail g (p ∷ ps) (r ∷ rs) =
    (is_scalar_type w p.ty || (not p.lent || can_lend_one tail p.ty (g r))) && can_lend w tail g ps rs

-- Registers may get the results of a call: they are distinct, and may be overwritten.
abbrev pub can_receive : Holding → List ℕ → Bool
can_receive g [] = true
can_receive g (d ∷ ds) = is_spare (g d) && (not (has ds d) && can_receive g ds)

-- what a register holds that was given a value of a type
abbrev pub received : Table → ℕ → Held
received w t = if is_scalar_type w t then H.Scalar t else H.Owned t None

abbrev pub receiving_all : Table → Holding → List ℕ → List ℕ → Holding
receiving_all w g [] ts = g
receiving_all w g (d ∷ ds) [] = g
receiving_all w g (d ∷ ds) (t ∷ ts) = receiving_all w (setting g d (received w t)) ds ts

-- what a register holds that has just got a constructor without fields
abbrev pub atom_held : Table → ℕ → ℕ → Held
atom_held w t k = if is_scalar_type w t then H.Scalar t else H.Owned t (Some k)

-- what has a word that another register may get; a constructor that was matched stays where it is
abbrev pub is_value : Held → Bool
is_value H.Nothing = false
is_value (H.Scalar t) = true
is_value (H.Owned t b) = true
is_value (H.Lent t root) = true
is_value (H.Credit n) = false
is_value (H.Bare t c) = false

-- what registers hold after the arguments of a call of function f
abbrev pub after_call : PlainCode → Holding → ℕ → List ℕ → Holding
after_call c g f rs = handing_all (passing_all g (params c f) rs) (credits c f) (drop (length (params c f)) rs)

-- the arguments of a call of function f fit
pub record CanCall (c : PlainCode) (tail : Bool) (g : Holding) (f : ℕ) (rs : List ℕ) : Type 0 where
  pub many : length rs ≡ length (params c f) + length (credits c f)
  pub passes : can_pass c.types g (params c f) rs ≡ true
  pub hands : can_hand (passing_all g (params c f) rs) (credits c f) (drop (length (params c f)) rs) ≡ true
  pub lends : can_lend c.types tail (after_call c g f rs) (params c f) rs ≡ true

-- nothing that is owned and no credit is left
abbrev pub NothingLeft : Holding → Type 0
NothingLeft g = (r : ℕ) → is_spare (g r) ≡ true

-- nothing is borrowed from register r
abbrev pub LendsNothing : Holding → ℕ → Type 0
LendsNothing g r = (q : ℕ) → without r (g q) ≡ g q
