-- Closed types and functions: those that are left of no parameter. Int, or a data type or a function with what is given
-- for its parameters; a data type by its number, a function by its place in the core form.
-- With `data list[a] { Nil; Cons(a, list[a]) }`, which is data type 2, list[int] is data type 2 at int.
use Rattle.std.specs.Prelude.{ℕ, zero, suc, Bool, true, false, ◌&&◌, ◌==◌, List, [], ◌∷◌, Option, Some, None}
use Rattle.closed_types.specs.declared.closed.Head.{Head}
use Rattle.closed_types.specs.declared.closed.Head.TheVariants as H

mutual
  pub data Closed : Type 0 where
    Int : Closed
    Applied : (head : Head) (arguments : Closeds) → Closed

  pub data Closeds : Type 0 where
    NoClosed : Closeds
    MoreClosed : (c : Closed) (cs : Closeds) → Closeds

abbrev pub same_head : Head → Head → Bool
same_head (H.«Type» m) (H.«Type» n) = m == n
same_head (H.«Type» m) (H.Function n) = false
same_head (H.Function m) (H.«Type» n) = false
same_head (H.Function m) (H.Function n) = m == n

abbrev mutual
  pub same_closed : Closed → Closed → Bool
  same_closed Int Int = true
  same_closed Int (Applied h ds) = false
  same_closed (Applied h cs) Int = false
  same_closed (Applied g cs) (Applied h ds) = same_head g h && same_closeds cs ds

  pub same_closeds : Closeds → Closeds → Bool
  same_closeds NoClosed NoClosed = true
  same_closeds NoClosed (MoreClosed d ds) = false
  same_closeds (MoreClosed c cs) NoClosed = false
  same_closeds (MoreClosed c cs) (MoreClosed d ds) = same_closed c d && same_closeds cs ds

-- the one at a place
abbrev pub closed_at : Closeds → ℕ → Option Closed
closed_at NoClosed k = None
closed_at (MoreClosed c cs) zero = Some c
closed_at (MoreClosed c cs) (suc k) = closed_at cs k

-- a list of them as arguments
abbrev pub row : List Closed → Closeds
row [] = NoClosed
row (c ∷ cs) = MoreClosed c (row cs)

abbrev pub head_of : Closed → Option Head
head_of Int = None
head_of (Applied h cs) = Some h

abbrev pub arguments_of : Closed → Closeds
arguments_of Int = NoClosed
arguments_of (Applied h cs) = cs
