-- It serves the proofs on lowered code: what is known at a place of a function's code, that is what each register
-- holds, the credits, the register of each variable, and the first register that isn't used yet.
use Rattle.std.specs.Prelude.{◌≡◌, ℕ, suc, Bool, true, false, ◌==◌, List, [], ◌∷◌, ◌++◌, Option, Some, None, map}
use Rattle.std.specs.Prelude.{slice_get, slice_set, option_and_then, if◌then◌else◌}
use Rattle.lowering_relation.specs.declared.held.Held.{Held}
use Rattle.lowering_relation.specs.declared.held.Held.TheVariants as H
use Rattle.lowering_relation.specs.declared.held.Credit.{Credit}

pub record Known : Type 0 where
  pub held : List Held
  pub credits : List Credit
  pub names : List (Option ℕ)
  pub next : ℕ

abbrev pub joined : Option (Option ℕ) → Option ℕ
joined None = None
joined (Some o) = o

-- the register of the variable of a binder
abbrev pub register_of : List (Option ℕ) → Option ℕ → Option ℕ
register_of names x = option_and_then (λ n. joined (slice_get names n)) x

-- the variable of a binder has this register
abbrev pub named : List (Option ℕ) → ℕ → ℕ → List (Option ℕ)
named names x r = slice_set names x (Some r)

abbrev pub naming : Known → ℕ → ℕ → Known
naming k x r = record k { names = named k.names x r }

-- one register more is used
abbrev pub with_used : Known → Known
with_used k = record k { next = suc k.next }

-- the registers hold this
abbrev pub using : Known → List Held → Known
using k hs = record k { held = hs }

-- a register holds this
abbrev pub holding : Known → ℕ → Held → Known
holding k r h = record k { held = slice_set k.held r h }

-- the next register holds this
abbrev pub with_next : Known → Held → Known
with_next k h = record k { held = slice_set k.held k.next h; next = suc k.next }

-- trees that are used up

abbrev pub is_owned : Option Held → Bool
is_owned None = false
is_owned (Some H.Nothing) = false
is_owned (Some (H.Scalar t)) = false
is_owned (Some (H.Owned t b)) = true
is_owned (Some (H.Lent t root)) = false
is_owned (Some (H.Credit n)) = false
is_owned (Some (H.Bare t c)) = false

abbrev pub lent_by : ℕ → Option ℕ → Held → Held
lent_by r None h = h
lent_by r (Some q) h = if q == r then H.Nothing else h

-- what was borrowed from register r isn't read any more
abbrev pub without : ℕ → Held → Held
without r H.Nothing = H.Nothing
without r (H.Scalar t) = H.Scalar t
without r (H.Owned t b) = H.Owned t b
without r (H.Lent t root) = lent_by r root (H.Lent t root)
without r (H.Credit n) = H.Credit n
without r (H.Bare t c) = H.Bare t c

abbrev pub used_if : Bool → List Held → ℕ → List Held
used_if false hs r = hs
used_if true hs r = map (without r) (slice_set hs r H.Nothing)

-- where a register holds an owned tree, this is used up
abbrev pub used : List Held → ℕ → List Held
used hs r = used_if (is_owned (slice_get hs r)) hs r

abbrev pub used_all : List Held → List ℕ → List Held
used_all hs [] = hs
used_all hs (r ∷ rs) = used_all (used hs r) rs

-- one of the credits, of size n and in register r, is taken
pub record IsTaken (cs : List Credit) (n r : ℕ) (rest : List Credit) : Type 0 where
  pub before : List Credit
  pub following : List Credit
  pub was : cs ≡ before ++ (record { size = n; register = r } ∷ following)
  pub left : rest ≡ before ++ following
